use Rattle.sat_search.proofs.RunLemmas.{IsRefused-loop_ended}
use Rattle.sat_search.proofs.solver.Solver.search_round.Goals as goal

pub refuse-requires-clause-refused : goal.refuse-requires-clause-refused
refuse-requires-clause-refused c =
    IsRefused-loop_ended c.args.literal_set.now c.args.assumptions.now c.decide_all.new.self.propagator.entries c.decide_all.new.self.propagator.vars c.in-Refused.lit c.decide_all.ensures.solver.ready.orderly c.requires.literal_set c.requires.no_clash c.decide_all.ensures.assumes
    (rw c.in-Refused.is at c.in_ok-decide_all.ensures.ended)
