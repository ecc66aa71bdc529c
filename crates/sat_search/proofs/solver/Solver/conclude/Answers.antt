use Rattle.std.proofs.Common.{◌≡◌, ◌<◌, ◌≤◌, ap, sym, subst, List, length, min, inr, ℕ, Bool, arith}
use Rattle.fsmv_base.specs.declared.citation.Id.{Id}
use Rattle.proof_log.specs.Logged.{Logged}
use Rattle.sat_arena.specs.Settled.{HasTwo, IsSettled}
use Rattle.sat_lits.specs.Steps.{IsFalsified}
use Rattle.sat_arena.proofs.LevelLaws.{current_level-up_to}
use Rattle.sat_arena.specs.Trails.{true_in, up_to, marked}
use Rattle.sat_arena.specs.Justified.{current_level}
use Rattle.sat_search.specs.declared.solver.Solver.{Solver}
use Rattle.sat_search.specs.declared.answer.Answer.TheVariants.{Core}
use Rattle.sat_search.specs.Endings.{Refutes, EndsBy}
use Rattle.sat_search.proofs.EndLemmas.{Refutes-back, IsSolver-record, EndsBy-record, falsified_has_no_unit, falsified_is_fresh, none_below_level_zero}
use Rattle.sat_search.proofs.solver.Solver.conclude.Goals as goal

-- what refutes still does so at level 0
refutes_there : (negated : ℕ → Bool) (old mid : Solver) (clause : List ℕ) (hints hints' : List Id) → mid ≡ record old { propagator = record old.propagator { entries = up_to 0 old.propagator.entries; head = min old.propagator.head (length (up_to 0 old.propagator.entries)) } } → hints' ≡ hints → Refutes negated old clause hints → Refutes negated mid clause hints'
refutes_there negated old mid clause hints hints' mid_is hints_are refutes = Refutes-back negated old mid (up_to 0 old.propagator.entries) (min old.propagator.head (length (up_to 0 old.propagator.entries))) clause hints hints' mid_is hints_are refutes

pub record-requires-clause-right : goal.record-requires-clause-right
record-requires-clause-right c =
    (refutes_there (marked c.args.literal_set.now) c.args.self.now c.back.new.self c.args.learnt.now.clause c.args.learnt.now.hints c.as_slice.result.now c.back.ensures.others c.as_slice.ensures c.requires.refutes).right

pub record-requires-clause-plain : goal.record-requires-clause-plain
record-requires-clause-plain c =
    let there = refutes_there (marked c.args.literal_set.now) c.args.self.now c.back.new.self c.args.learnt.now.clause c.args.learnt.now.hints c.as_slice.result.now c.back.ensures.others c.as_slice.ensures c.requires.refutes in
    falsified_has_no_unit (marked c.args.literal_set.now) c.back.new.self.log c.args.learnt.now.clause there.alone there.negated

pub record-requires-clause-fresh : goal.record-requires-clause-fresh
record-requires-clause-fresh c =
    let there = refutes_there (marked c.args.literal_set.now) c.args.self.now c.back.new.self c.args.learnt.now.clause c.args.learnt.now.hints c.as_slice.result.now c.back.ensures.others c.as_slice.ensures c.requires.refutes in
    falsified_is_fresh (marked c.args.literal_set.now) c.back.new.self.log c.args.learnt.now.clause there.alone there.negated

pub record-requires-clause-settled : goal.record-requires-clause-settled
record-requires-clause-settled c =
    subst (λ (s : Solver). (k : ℕ) → k < current_level s.propagator.entries → IsSettled (true_in (up_to k s.propagator.entries)) c.args.learnt.now.clause) (sym c.back.ensures.others)
    (λ k below. inr (none_below_level_zero c.args.learnt.now.clause c.args.self.now.propagator.entries k below))

pub record-requires-clause-not_false : goal.record-requires-clause-not_false
record-requires-clause-not_false c =
    subst (λ (s : Solver). 0 < current_level s.propagator.entries → IsFalsified (true_in s.propagator.entries) c.args.learnt.now.clause → ⊥) (sym c.back.ensures.others)
    (λ above. absurd (let low : current_level (up_to 0 c.args.self.now.propagator.entries) ≤ 0 = current_level-up_to 0 c.args.self.now.propagator.entries in omega arith))

pub returns-clause-solver : goal.returns-clause-solver
returns-clause-solver c =
    let clause = c.args.learnt.now.clause in
    let there = refutes_there (marked c.args.literal_set.now) c.args.self.now c.back.new.self clause c.args.learnt.now.hints c.as_slice.result.now c.back.ensures.others c.as_slice.ensures c.requires.refutes in
    IsSolver-record c.back.new.self c.record.new.self clause c.as_slice.result.now c.in_ok-id.id c.back.ensures.solver c.record.ensures.others c.in_ok-id.ensures.ok there.grown there.variables
    (subst (λ (s : Solver). (k : ℕ) → k < current_level s.propagator.entries → HasTwo (true_in (up_to k s.propagator.entries)) clause) (sym c.back.ensures.others) (none_below_level_zero clause c.args.self.now.propagator.entries))

pub returns-clause-ok : goal.returns-clause-ok
returns-clause-ok c =
    let clause = c.args.learnt.now.clause in
    let negated = marked c.args.literal_set.now in
    let there = refutes_there negated c.args.self.now c.back.new.self clause c.args.learnt.now.hints c.as_slice.result.now c.back.ensures.others c.as_slice.ensures c.requires.refutes in
    let log_is : c.back.new.self.log ≡ c.args.self.now.log = ap (λ (s : Solver). s.log) c.back.ensures.others in
    subst (λ (log : Logged). EndsBy negated log c.record.new.self.log c.args.most (Core c.in_ok-id.id)) log_is
    (EndsBy-record negated c.back.new.self c.record.new.self clause c.as_slice.result.now c.in_ok-id.id c.args.most c.back.ensures.solver (returns-clause-solver c) c.in_ok-id.ensures.ok c.record.ensures.sound there
    (subst (λ (log : Logged). length log.lines < c.args.most) (sym log_is) c.requires.room))
