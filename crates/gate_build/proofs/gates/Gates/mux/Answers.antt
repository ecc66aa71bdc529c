use Rattle.std.proofs.Common.{◌≡◌}
use Rattle.std.proofs.lemmas.Result.{IfOk-weaker}
use Rattle.gate_build.specs.Meaning.{Computes, chosen}
use Rattle.gate_build.specs.Numbering.{or_of}
use Rattle.gate_build.proofs.RunLemmas.{mux_of-run}
use Rattle.gate_build.proofs.MeaningLemmas.{Computes-mux_of}
use Rattle.gate_build.proofs.OrderLemmas.{Extends_through}
use Rattle.gate_build.proofs.gates.Gates.mux.Goals as goal

pub returns-clause-choice : goal.returns-clause-choice
returns-clause-choice c =
    IfOk-weaker c.or.result (λ l. (l, c.or.new.self) ≡ or_of c.in_ok-chosen_a.chosen_a c.in_ok-chosen_b.chosen_b c.and-2.new.self) (λ l. Computes c.or.new.self l (chosen c.args.c c.args.a c.args.b))
    (λ l ran. Computes-mux_of c.args.c c.args.a c.args.b l c.args.self.now c.or.new.self
    (mux_of-run c.args.c c.args.a c.args.b c.negate.result c.in_ok-chosen_a.chosen_a c.in_ok-chosen_b.chosen_b l c.args.self.now c.and.new.self c.and-2.new.self c.or.new.self
    c.in_ok-chosen_a.ensures.numbered c.negate.ensures.negation c.in_ok-chosen_b.ensures.numbered ran))
    c.or.ensures.numbered

pub returns-clause-extends : goal.returns-clause-extends
returns-clause-extends c = Extends_through _ _ _ c.in_ok-chosen_a.ensures.extends (Extends_through _ _ _ c.in_ok-chosen_b.ensures.extends c.or.ensures.extends)
