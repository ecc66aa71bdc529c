use Rattle.std.proofs.Common.{◌≡◌, ◌<◌, ◌+◌, ℕ, List, Option, Some, true, get_or, length, subst, sym, ap, ◌∙◌}
use Rattle.std.specs.Prelude.{All}
use Rattle.std.proofs.lemmas.Bool.{false≢true}
use Rattle.std.proofs.lemmas.List.{length-set}
use Rattle.fsmv_base.specs.declared.citation.Id.{Id}
use Rattle.fsmv_base.specs.declared.citation.Id.TheVariants.{Axiom}
use Rattle.sat_lits.specs.Steps.{named}
use Rattle.proof_check.specs.Marks.{marked, HasRoom}
use Rattle.proof_check.proofs.RefuteLemmas.{Refutes-step, Refutes-stops, forced_within}
use Rattle.proof_check.proofs.steps.refutes.Goals as goal

room : (axioms : List (List ℕ)) (lines : List (Option (List ℕ))) (n m : ℕ) (hint : Id) (clause : List ℕ) → HasRoom axioms lines n → m ≡ n → Some clause ≡ named axioms lines hint → All (λ l. l + 1 < m) clause
room axioms lines n m hint clause has same is = subst (λ (k : ℕ). All (λ l. l + 1 < k) clause) (sym same) (has hint clause (sym is))

pub status_of-requires-clause-room : goal.status_of-requires-clause-room
status_of-requires-clause-room c = room _ _ (length c.args.marks.now) (length c.loop-i.marks) (get_or c.args.hints.now c.loop-i.i (Axiom 0)) c.lits.result.now c.requires.room c.loop-i.invariant.length (ap Some c.lits.ensures.same ∙ c.in-Some.ensures)

pub insert-requires : goal.insert-requires
insert-requires c =
    forced_within (marked c.loop-i.marks) c.lits.result.now c.in-Forcing.lit (length c.loop-i.marks)
    (room _ _ (length c.args.marks.now) (length c.loop-i.marks) (get_or c.args.hints.now c.loop-i.i (Axiom 0)) c.lits.result.now c.requires.room c.loop-i.invariant.length (ap Some c.lits.ensures.same ∙ c.in-Some.ensures))
    c.in-Forcing.ensures

pub returns-in-Idle-clause-right : goal.returns-in-Idle-clause-right
returns-in-Idle-clause-right c = (
  λ impossible. absurd (false≢true impossible),
  λ whole. absurd (Refutes-stops (named c.args.axioms.now c.args.lines.now) c.loop-i.marks c.args.marks.now c.args.hints.now c.loop-i.i (Axiom 0) c.loop-i-test.true c.lits.result.now (ap Some c.lits.ensures.same ∙ c.in-Some.ensures) c.loop-i.invariant.suffix c.in-Idle.ensures whole),
)

pub loop-i-preserved : goal.loop-i-preserved
loop-i-preserved c = record {
  suffix = rw c.insert.ensures
      (Refutes-step (named c.args.axioms.now c.args.lines.now) c.loop-i.marks c.args.marks.now c.args.hints.now c.loop-i.i (Axiom 0) c.loop-i-test.true c.lits.result.now (ap Some c.lits.ensures.same ∙ c.in-Some.ensures) c.loop-i.invariant.suffix c.in-Forcing.lit (insert-requires c.before) c.in-Forcing.ensures);
  length = ap length c.insert.ensures ∙ length-set c.loop-i.marks c.in-Forcing.lit true ∙ c.loop-i.invariant.length;
}
