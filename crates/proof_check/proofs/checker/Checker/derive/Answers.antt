use Rattle.std.proofs.Common.{◌+◌, ◌<◌, List, Option, ℕ, arith, length, refl, subst, sym, ap}
use Rattle.std.specs.Prelude.{All}
use Rattle.std.proofs.lemmas.Bool.{both_ways}
use Rattle.sat_lits.specs.Steps.{IsRupStep, IsRedundant}
use Rattle.sat_lits.proofs.Sound.{Follows-from_rup_step}
use Rattle.proof_check.specs.Judged.{Judged}
use Rattle.proof_check.proofs.RoomLemmas.{HasRoom-grown, KeepsTogether-grown, KeepsTogether-push}
use Rattle.proof_check.proofs.RuleLemmas.{IsRupStep-same}
use Rattle.proof_check.proofs.checker.Checker.derive.Goals as goal

pub invariant_of-self : goal.invariant_of-self
invariant_of-self c = KeepsTogether-grown _ _ _ _ c.widen.ensures.grown c.self.invariant

pub is_rup_step-requires-clause-room : goal.is_rup_step-requires-clause-room
is_rup_step-requires-clause-room c =
    rw (c.deref.ensures.value, c.as_slice.ensures) (HasRoom-grown _ _ _ _ c.widen.ensures.grown c.self.invariant.room)

pub invariant_of-self-then-not-is_rup_step : goal.invariant_of-self-then-not-is_rup_step
invariant_of-self-then-not-is_rup_step c = KeepsTogether-grown _ _ (length c.self.inside.marks) _ (omega arith) c.self.invariant

pub returns-then-not-is_rup_step-clause-found : goal.returns-then-not-is_rup_step-clause-found
returns-then-not-is_rup_step-clause-found c =
    rw (← c.self.view_is) (
      (
        omega arith,
        λ redundant. both_ways c.is_redundant.result c.if-is_redundant.false (c.is_redundant.ensures.1 (subst (λ (clause : List ℕ). IsRedundant c.self.inside.lines clause) (sym c.lits-lits.ensures.same) redundant)),
        λ right. both_ways c.is_rup_step.result c.if-not-is_rup_step.true (c.is_rup_step.ensures.right.1 (IsRupStep-same (sym c.deref.ensures.value) (sym c.as_slice.ensures) (sym c.lits-lits.ensures.same) (sym c.as_slice-2.ensures) right)),
      ),
      refl,
    )

pub invariant_of-self-in_err-push : goal.invariant_of-self-in_err-push
invariant_of-self-in_err-push c = rw c.in_err-push.ensures.err (KeepsTogether-grown _ _ (length c.self.inside.marks) _ (omega arith) c.self.invariant)

-- the step of the line that is added is right
right : (c : goal.In_ok-push) → IsRupStep c.self.inside.axioms.items c.self.inside.lines c.args.line.now.clause c.args.line.now.hints
right c = IsRupStep-same c.deref.ensures.value c.as_slice.ensures c.lits-lits.ensures.same c.as_slice-2.ensures (c.is_rup_step.ensures.right.0 c.if-not-is_rup_step.false)

pub invariant_of-self-2 : goal.invariant_of-self-2
invariant_of-self-2 c =
    let room : All (λ l. l + 1 < length c.is_rup_step.new.marks) c.args.line.now.clause
    = subst (λ (n : ℕ). All (λ l. l + 1 < n) c.args.line.now.clause) (sym c.is_rup_step.ensures.length)
    (subst (λ (clause : List ℕ). All (λ l. l + 1 < length c.widen.new.self) clause) c.lits-lits.ensures.same c.in_ok-widen.ensures.room) in
    rw c.in_ok-push.ensures.ok
    (KeepsTogether-push c.self.inside.axioms.items c.self.inside.lines c.args.line.now.clause (length c.is_rup_step.new.marks)
    (Follows-from_rup_step c.self.inside.axioms.items c.self.inside.lines c.args.line.now.clause c.args.line.now.hints c.self.invariant.follow (right c)) room
    (KeepsTogether-grown _ _ (length c.self.inside.marks) _ (omega arith) c.self.invariant))

pub returns-clause-found : goal.returns-clause-found
returns-clause-found c =
    let with_lines : List (Option (List ℕ)) → Judged = λ lines. record { axioms = c.self.inside.axioms.items; lines = lines; line = c.self.inside.line; broken = c.self.inside.broken } in
    rw (← c.self.view_is) (
      (
        omega arith,
        λ redundant. both_ways c.is_redundant.result c.if-is_redundant.false (c.is_redundant.ensures.1 (subst (λ (clause : List ℕ). IsRedundant c.self.inside.lines clause) (sym c.lits-lits.ensures.same) redundant)),
        right c,
      ),
      ap with_lines c.in_ok-push.ensures.ok,
    )
