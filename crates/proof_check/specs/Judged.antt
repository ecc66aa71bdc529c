-- The rules of a log's lines, and what a checker answers by them.
use Rattle.std.specs.Prelude.{◌≡◌, ℕ, ◌+◌, ◌-◌, ◌^◌, min, List, [], ◌∷◌, ◌++◌, Option, Some, None, length, MatchOption}
use Rattle.sat_lits.specs.Steps.{IsRupStep, IsRedundant, IsRetirable, replaced}
use Rattle.proof_check.specs.declared.lines.DerivedLine.{DerivedLine}
use Rattle.proof_check.specs.declared.lines.LogLine.{LogLine}
use Rattle.proof_check.specs.declared.lines.LogLine.TheVariants.{Derived, Retired}
use Rattle.proof_check.specs.declared.lines.StepRule.{StepRule}
use Rattle.proof_check.specs.declared.lines.StepRule.TheVariants.{Number, Repeat, Step, Retire}
use Rattle.proof_check.specs.declared.lines.StepAnswer.{StepAnswer}
use Rattle.proof_check.specs.declared.lines.StepAnswer.TheVariants.{Ok, Bad}

-- what is known of a log
pub record Judged : Type 0 where
  pub axioms : List (List ℕ)
  -- the derived lines, None where one was retired
  pub lines : List (Option (List ℕ))
  -- the number of the log line to come, or of the one that broke a rule
  pub line : ℕ
  -- the rule that it broke
  pub broken : Option StepRule

-- the line has the next number among the derived ones
abbrev pub HasNextNumber : Judged → DerivedLine → Type 0
HasNextNumber state line = line.number ≡ length state.lines + 1

-- the line keeps all its rules
abbrev pub KeepsRules : Judged → LogLine → Type 0
KeepsRules state (Derived line) =
    HasNextNumber state line
    × (IsRedundant state.lines line.clause → ⊥)
    × IsRupStep state.axioms state.lines line.clause line.hints
KeepsRules state (Retired number) = IsRetirable state.lines number

-- the first rule that the line breaks is this one
abbrev pub Breaks : Judged → LogLine → StepRule → Type 0
Breaks state (Derived line) Number = HasNextNumber state line → ⊥
Breaks state (Derived line) Repeat = HasNextNumber state line × IsRedundant state.lines line.clause
Breaks state (Derived line) Step =
    HasNextNumber state line
    × (IsRedundant state.lines line.clause → ⊥)
    × (IsRupStep state.axioms state.lines line.clause line.hints → ⊥)
Breaks state (Derived line) Retire = ⊥
Breaks state (Retired number) Retire = IsRetirable state.lines number → ⊥
Breaks state (Retired number) Number = ⊥
Breaks state (Retired number) Repeat = ⊥
Breaks state (Retired number) Step = ⊥

-- the derived lines after a line that keeps its rules
abbrev pub lines_after : List (Option (List ℕ)) → LogLine → List (Option (List ℕ))
lines_after lines (Derived line) = lines ++ Some line.clause ∷ []
lines_after lines (Retired number) = replaced lines number None

-- the log goes on by the line
abbrev pub with_line : Judged → LogLine → Judged
with_line state line = record state { lines = lines_after state.lines line }

-- the number after that of a log line, which stays at the last one of a u64
abbrev pub next_line : ℕ → ℕ
next_line line = min (line + 1) (2 ^ 64 - 1)

-- the first rule that the line breaks was found, or the log has gone on by it
abbrev pub Finds : Judged → LogLine → Judged → Option StepRule → Type 0
Finds old line new None = KeepsRules old line × (new ≡ with_line old line)
Finds old line new (Some rule) = Breaks old line rule × (new ≡ old)

-- the answer to a line: Ok where it and all before it keep their rules, and else the first rule that was broken, now or earlier
abbrev pub Answers : Judged → LogLine → Judged → StepAnswer → Type 0
Answers old line new Ok =
    (old.broken ≡ None) × KeepsRules old line
    × (new ≡ record old { lines = lines_after old.lines line; line = next_line old.line })
Answers old line new (Bad number rule) =
    (number ≡ old.line)
    × (new ≡ record old { broken = Some rule })
    × MatchOption old.broken (Breaks old line rule) (λ earlier. rule ≡ earlier)

-- what the old lines make redundant the new ones do too
abbrev pub StaysRedundant : List (Option (List ℕ)) → List (Option (List ℕ)) → Type 0
StaysRedundant old new = (clause : List ℕ) → IsRedundant old clause → IsRedundant new clause
