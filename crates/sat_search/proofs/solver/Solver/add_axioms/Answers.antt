use Rattle.std.proofs.Common.{◌≡◌, ◌≤◌, ◌+◌, ◌++◌, ◌∙◌, ℕ, List, ap, sym, subst, length, arith}
use Rattle.proof_log.specs.Logged.{Logged}
use Rattle.sat_arena.specs.declared.trail.Assigned.{Assigned}
use Rattle.sat_arena.specs.Trails.{up_to}
use Rattle.sat_arena.specs.ArenaState.{AreGrown}
use Rattle.sat_arena.specs.Justified.{current_level}
use Rattle.sat_search.specs.declared.solver.Solver.{Solver}
use Rattle.sat_search.specs.Axioms.{axioms_from}
use Rattle.sat_arena.proofs.LevelLaws.{current_level-up_to}
use Rattle.sat_search.proofs.GrowthLemmas.{IsSolver-axioms}
use Rattle.sat_search.proofs.solver.Solver.add_axioms.Goals as goal

no_level : (entries : List Assigned) → current_level (up_to 0 entries) ≡ 0
no_level entries = let low : current_level (up_to 0 entries) ≤ 0 = current_level-up_to 0 entries in omega arith

pub store_axioms-requires-clause-root : goal.store_axioms-requires-clause-root
store_axioms-requires-clause-root c = ap (λ (s : Solver). current_level s.propagator.entries) c.back.ensures.others ∙ no_level c.args.self.now.propagator.entries

pub returns-clause-solver : goal.returns-clause-solver
returns-clause-solver c =
    let old = c.args.self.now in
    let mid = c.back.new.self in
    let more = c.args.clauses.now in
    let log_is : mid.log ≡ old.log = ap (λ (s : Solver). s.log) c.back.ensures.others in
    let count_is : c.args.count ≡ length mid.log.axioms = c.requires.count ∙ sym (ap (λ (log : Logged). length log.axioms) log_is) in
    let root : current_level mid.propagator.entries ≡ 0 = ap (λ (s : Solver). current_level s.propagator.entries) c.back.ensures.others ∙ no_level old.propagator.entries in
    IsSolver-axioms mid c.axioms.new.self c.store_axioms.new.propagator more c.back.ensures.solver root
    (subst (λ (s : Solver). AreGrown s.propagator.vars more) (sym c.back.ensures.others) c.requires.grown)
    c.in_ok-axioms.ensures.ok
    (c.in_ok-store_axioms.ensures.stored ∙ ap (λ (n : ℕ). mid.propagator.stored ++ axioms_from (n + 1) more) count_is)
    c.store_axioms.ensures.vars c.in_ok-store_axioms.ensures.deduced c.entries-entries.ensures.orderly
