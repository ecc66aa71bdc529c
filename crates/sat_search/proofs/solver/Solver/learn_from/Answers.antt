use Rattle.std.proofs.Common.{◌≡◌, ◌<◌, ◌∙◌, ap, sym, subst, List, ℕ, inr}
use Rattle.std.specs.Prelude.{All}
use Rattle.sat_lits.specs.Literals.{variable_of}
use Rattle.sat_analyze.specs.Derived.{HasVariable}
use Rattle.fsmv_base.specs.declared.citation.Id.{Id}
use Rattle.sat_lits.specs.Steps.{IsFalsified, IsRupStep, HoldsUnit, IsLive}
use Rattle.proof_log.specs.Logged.{Logged, live_lines}
use Rattle.proof_log.specs.IsSound.{IsSound}
use Rattle.sat_arena.specs.Settled.{HasTwo, IsSettled}
use Rattle.sat_arena.specs.Trails.{true_in, up_to, IsGrown}
use Rattle.sat_arena.specs.ArenaState.{clauses_of}
use Rattle.sat_arena.specs.Justified.{current_level}
use Rattle.sat_search.specs.declared.solver.Solver.{Solver}
use Rattle.sat_search.specs.Assumed.{AssumesFirst}
use Rattle.sat_search.proofs.KeepsLemmas.{with_line}
use Rattle.sat_search.proofs.ReadyLemmas.{AssumesFirst-back, AssumesFirst-deduced}
use Rattle.sat_search.proofs.EndLemmas.{learnt_right, learnt_plain, learnt_fresh, learnt_grown, learnt_two, learnt_open, learnt_adds, IsSolver-record}
use Rattle.sat_search.proofs.solver.Solver.learn_from.Goals as goal

pub record-requires-clause-right : goal.record-requires-clause-right
record-requires-clause-right c =
    let old = c.args.self.now in
    let learnt = c.in_ok-learnt.learnt in
    subst (λ (s : Solver). IsRupStep s.log.axioms (live_lines s.log.lines) learnt.clause c.as_slice.result.now) (sym c.back.ensures.others)
    (subst (λ (hints : List Id). IsRupStep old.log.axioms (live_lines old.log.lines) learnt.clause hints) (sym c.as_slice.ensures) (learnt_right old learnt c.requires.solver c.requires.above c.in_ok-learnt.ensures))

pub record-requires-clause-plain : goal.record-requires-clause-plain
record-requires-clause-plain c =
    let learnt = c.in_ok-learnt.learnt in
    subst (λ (s : Solver). HoldsUnit (live_lines s.log.lines) learnt.clause → ⊥) (sym c.back.ensures.others) (learnt_plain c.args.self.now learnt c.requires.solver c.requires.above c.in_ok-learnt.ensures)

pub record-requires-clause-fresh : goal.record-requires-clause-fresh
record-requires-clause-fresh c =
    let learnt = c.in_ok-learnt.learnt in
    subst (λ (s : Solver). IsLive (live_lines s.log.lines) learnt.clause → ⊥) (sym c.back.ensures.others) (learnt_fresh c.args.self.now learnt c.requires.solver c.requires.above c.in_ok-learnt.ensures)

pub record-requires-clause-settled : goal.record-requires-clause-settled
record-requires-clause-settled c =
    let old = c.args.self.now in
    let learnt = c.in_ok-learnt.learnt in
    subst (λ (s : Solver). (k : ℕ) → k < current_level s.propagator.entries → IsSettled (true_in (up_to k s.propagator.entries)) learnt.clause) (sym c.back.ensures.others)
    (λ k below. inr (learnt_two old learnt c.requires.solver c.requires.above c.in_ok-learnt.ensures c.back_level.result k c.back_level.ensures below))

pub record-requires-clause-not_false : goal.record-requires-clause-not_false
record-requires-clause-not_false c =
    let old = c.args.self.now in
    let learnt = c.in_ok-learnt.learnt in
    subst (λ (s : Solver). 0 < current_level s.propagator.entries → IsFalsified (true_in s.propagator.entries) learnt.clause → ⊥) (sym c.back.ensures.others)
    (λ _. learnt_open old learnt c.requires.solver c.requires.above c.in_ok-learnt.ensures c.back_level.result c.back_level.ensures)

pub returns-clause-solver : goal.returns-clause-solver
returns-clause-solver c =
    let old = c.args.self.now in
    let learnt = c.in_ok-learnt.learnt in
    IsSolver-record c.back.new.self c.record.new.self learnt.clause c.as_slice.result.now c.in_ok-record.field-0 c.back.ensures.solver c.record.ensures.others c.in_ok-record.ensures.ok
    (subst (λ (s : Solver). All (IsGrown s.propagator.vars) learnt.clause) (sym c.back.ensures.others) (learnt_grown old learnt c.requires.solver c.requires.above c.in_ok-learnt.ensures))
    (subst (λ (s : Solver). All (λ l. HasVariable (clauses_of s.propagator.stored) (variable_of l)) learnt.clause) (sym c.back.ensures.others) c.in_ok-learnt.ensures.variables)
    (subst (λ (s : Solver). (k : ℕ) → k < current_level s.propagator.entries → HasTwo (true_in (up_to k s.propagator.entries)) learnt.clause) (sym c.back.ensures.others)
    (λ k below. learnt_two old learnt c.requires.solver c.requires.above c.in_ok-learnt.ensures c.back_level.result k c.back_level.ensures below))

pub returns-clause-assumes : goal.returns-clause-assumes
returns-clause-assumes c assumptions before =
    let old = c.args.self.now in
    let mid = c.back.new.self.propagator in
    let after = c.record.new.self.propagator in
    AssumesFirst-deduced assumptions (clauses_of after.stored) (current_level mid.entries) mid.entries after.entries c.in_ok-record.ensures.ok.deduced
    (subst (AssumesFirst assumptions) (sym (ap (λ (s : Solver). s.propagator.entries) c.back.ensures.others))
    (AssumesFirst-back assumptions (clauses_of old.propagator.stored) old.propagator.entries old.propagator.vars c.back_level.result c.requires.solver.ready before))

pub returns-clause-ok : goal.returns-clause-ok
returns-clause-ok c =
    let old = c.args.self.now in
    let learnt = c.in_ok-learnt.learnt in
    let log_is : c.back.new.self.log ≡ old.log = ap (λ (s : Solver). s.log) c.back.ensures.others in
    learnt_adds old learnt c.requires.solver c.requires.above c.in_ok-learnt.ensures c.record.new.self.log c.as_slice.result.now c.args.most
    (subst IsSound log_is c.record.ensures.sound)
    (c.in_ok-record.ensures.ok.log_is ∙ ap (λ (log : Logged). with_line log learnt.clause c.as_slice.result.now) log_is)
    c.requires.room
