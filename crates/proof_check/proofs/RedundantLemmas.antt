-- What was redundant stays so.
use Rattle.std.proofs.Common.{◌≡◌, [], ◌∷◌, Option, Some, None, sym, subst}
use Rattle.sat_lits.proofs.Redundant.{IsRedundant-append, IsRedundant-retire}
use Rattle.proof_check.specs.declared.lines.LogLine.{LogLine}
use Rattle.proof_check.specs.declared.lines.LogLine.TheVariants.{Derived, Retired}
use Rattle.proof_check.specs.declared.lines.StepRule.{StepRule}
use Rattle.proof_check.specs.Judged.{Judged, KeepsRules, lines_after, Finds, StaysRedundant}

-- by a line that keeps its rules
StaysRedundant-line : (state : Judged) (line : LogLine) → KeepsRules state line → StaysRedundant state.lines (lines_after state.lines line)
StaysRedundant-line state (Derived line) keeps clause redundant = IsRedundant-append state.lines (Some line.clause ∷ []) clause redundant
StaysRedundant-line state (Retired number) keeps clause redundant = IsRedundant-retire state.lines number clause keeps redundant

-- by any line
pub StaysRedundant-finds : (old : Judged) (line : LogLine) (new after : Judged) (broken : Option StepRule) → Finds old line new broken → after ≡ new → StaysRedundant old.lines after.lines
StaysRedundant-finds old line new after None (keeps, is) same = subst (λ (state : Judged). StaysRedundant old.lines state.lines) (sym same) (subst (λ (state : Judged). StaysRedundant old.lines state.lines) (sym is) (StaysRedundant-line old line keeps))
StaysRedundant-finds old line new after (Some rule) (breaks, is) same = subst (λ (state : Judged). StaysRedundant old.lines state.lines) (sym same) (subst (λ (state : Judged). StaysRedundant old.lines state.lines) (sym is) (λ clause redundant. redundant))
