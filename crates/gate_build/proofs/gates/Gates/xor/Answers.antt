use Rattle.std.proofs.Common.{◌≡◌}
use Rattle.std.proofs.lemmas.Result.{IfOk-weaker}
use Rattle.gate_build.specs.Meaning.{Computes, differ}
use Rattle.gate_build.specs.Numbering.{or_of}
use Rattle.gate_build.proofs.RunLemmas.{xor_of-run}
use Rattle.gate_build.proofs.MeaningLemmas.{Computes-xor_of}
use Rattle.gate_build.proofs.OrderLemmas.{Extends_through}
use Rattle.gate_build.proofs.gates.Gates.xor.Goals as goal

pub returns-clause-difference : goal.returns-clause-difference
returns-clause-difference c =
    IfOk-weaker c.or.result (λ l. (l, c.or.new.self) ≡ or_of c.in_ok-first_alone.first_alone c.in_ok-second_alone.second_alone c.and-2.new.self) (λ l. Computes c.or.new.self l (differ c.args.a c.args.b))
    (λ l ran. Computes-xor_of c.args.a c.args.b l c.args.self.now c.or.new.self
    (xor_of-run c.args.a c.args.b c.negate-2.result c.negate.result c.in_ok-first_alone.first_alone c.in_ok-second_alone.second_alone l c.args.self.now c.and.new.self c.and-2.new.self c.or.new.self
    c.negate.ensures.negation c.in_ok-first_alone.ensures.numbered c.negate-2.ensures.negation c.in_ok-second_alone.ensures.numbered ran))
    c.or.ensures.numbered

pub returns-clause-extends : goal.returns-clause-extends
returns-clause-extends c = Extends_through _ _ _ c.in_ok-first_alone.ensures.extends (Extends_through _ _ _ c.in_ok-second_alone.ensures.extends c.or.ensures.extends)
