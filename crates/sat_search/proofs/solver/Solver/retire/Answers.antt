use Rattle.std.proofs.Common.{◌≡◌, ◌≤◌, ℕ, List, sym, ap, ◌∙◌, subst, arith}
use Rattle.std.specs.Prelude.{All}
use Rattle.sat_arena.specs.declared.trail.Assigned.{Assigned}
use Rattle.sat_arena.specs.Trails.{up_to, marked, IsGrown}
use Rattle.sat_arena.specs.ArenaState.{among}
use Rattle.sat_arena.specs.Justified.{current_level}
use Rattle.sat_arena.proofs.LevelLaws.{current_level-up_to}
use Rattle.sat_search.specs.declared.solver.Solver.{Solver}
use Rattle.sat_search.specs.Retirements.{IsUnitLine}
use Rattle.sat_search.proofs.RetireLemmas.{RetiresSome-none, units_grown}
use Rattle.sat_search.proofs.solver.Solver.retire.Goals as goal

pub returns-then-is_empty-clause-ok : goal.returns-then-is_empty-clause-ok
returns-then-is_empty-clause-ok c = RetiresSome-none c.args.self.now.log

pub fill-requires-clause-grown : goal.fill-requires-clause-grown
fill-requires-clause-grown c =
    let old = c.args.self.now in
    subst (λ (n : ℕ). All (IsGrown n) c.deref.result.now) (sym c.requires.vars)
    (subst (λ (us : List ℕ). All (IsGrown old.propagator.vars) us) (sym c.deref.ensures.value) (units_grown old c.in_ok-found.found.items c.requires.solver c.derived-lines.ensures.sound c.in_ok-found.ensures))

no_level : (entries : List Assigned) → current_level (up_to 0 entries) ≡ 0
no_level entries = let low : current_level (up_to 0 entries) ≤ 0 = current_level-up_to 0 entries in omega arith

pub take_out-requires-clause-level : goal.take_out-requires-clause-level
take_out-requires-clause-level c = ap (λ (s : Solver). current_level s.propagator.entries) c.back.ensures.others ∙ no_level c.args.self.now.propagator.entries

pub take_out-requires-clause-units : goal.take_out-requires-clause-units
take_out-requires-clause-units c =
    subst (λ (s : Solver). All (IsUnitLine s.log.lines) c.deref-2.result.now) (sym c.back.ensures.others)
    (subst (λ (us : List ℕ). All (IsUnitLine c.args.self.now.log.lines) us) (sym c.deref-2.ensures.value) c.in_ok-found.ensures)

pub take_out-requires-clause-flags : goal.take_out-requires-clause-flags
take_out-requires-clause-flags c l =
    c.flags.ensures l ∙ ap (λ (us : List ℕ). among us l) (c.in_ok-fill.ensures ∙ c.deref.ensures.value ∙ sym c.deref-2.ensures.value)
