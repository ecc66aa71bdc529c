use Rattle.gate_build.proofs.RunLemmas.{or_of-run}
use Rattle.gate_build.proofs.MeaningLemmas.{Computes-or_of}
use Rattle.gate_build.proofs.gates.Gates.or.Goals as goal

pub returns-clause-disjunction : goal.returns-clause-disjunction
returns-clause-disjunction c =
    Computes-or_of c.args.a c.args.b c.negate-3.result c.args.self.now c.and.new.self
    (or_of-run c.args.a c.args.b c.negate.result c.negate-2.result c.in_ok-neither.neither c.negate-3.result c.args.self.now c.and.new.self
    c.negate.ensures.negation c.negate-2.ensures.negation c.in_ok-neither.ensures.numbered c.negate-3.ensures.negation)
