use Rattle.std.proofs.Common.{ℕ, ◌<◌, List, Option, length, arith, subst, sym}
use Rattle.std.specs.Prelude.{All, IfSome}
use Rattle.std.proofs.lemmas.List.{length-map}
use Rattle.sat_lits.specs.Steps.{IsFalsified}
use Rattle.sat_arena.specs.Trails.{marked, up_to}
use Rattle.sat_arena.specs.ArenaState.{clauses_of}
use Rattle.sat_arena.specs.Deduced.{IsConflict}
use Rattle.sat_arena.specs.PropagatorState.{PropagatorState}
use Rattle.sat_arena.proofs.SearchLemmas.{if_none_weaker, none_falsified}
use Rattle.sat_arena.proofs.propagator.Propagator.find_falsified.Goals as goal

pub find_from-requires : goal.find_from-requires
find_from-requires c =
    let p = c.self.inside in
    let conflict = subst (λ (o : Option ℕ). IfSome o (IsConflict (clauses_of p.arena.stored) (up_to 0 p.trail.entries))) c.in-Some.is c.self.invariant.refuted_at in
    omega (arith, conflict.0, length-map p.arena.stored (λ s. s.clause))

pub returns-in-None-clause-none : goal.returns-in-None-clause-none
returns-in-None-clause-none c =
    let p = c.self.inside in
    if_none_weaker c.find_watching_any.result _ _ (λ none.
    subst (λ (x : PropagatorState). All (λ clause. IsFalsified (marked c.args.literal_set.now) clause → ⊥) (clauses_of x.stored)) c.self.view_is
    (none_falsified p.trail.entries p.head (clauses_of p.arena.stored) p.arena.watched c.args.lits.now (marked c.args.literal_set.now) (c.self.invariant.keeps c.in-None.is) (c.self.invariant.short c.in-None.is) c.requires none)) c.find_watching_any.ensures.none
