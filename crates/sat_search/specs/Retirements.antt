-- Lines that are retired as a search begins.
use Rattle.std.specs.Prelude.{◌≡◌, ℕ, Bool, List, [], ◌∷◌, Some, length}
use Rattle.std.specs.Option.{option_map}
use Rattle.sat_lits.specs.Steps.{numbered, replaced}
use Rattle.proof_log.specs.declared.log.Line.{Line}
use Rattle.proof_log.specs.Logged.{Logged}
use Rattle.sat_search.specs.Additions.{retire_if, retire_all}

-- one of the lines is the unit clause of the literal
abbrev pub IsUnitLine : List Line → ℕ → Type 0
IsUnitLine lines l = (n : ℕ)
    × (option_map (λ line. line.clause) (numbered lines n) ≡ Some (l ∷ []))

-- the line of the number was retired where its clause passes the test, and nothing else changed
abbrev pub RetiresLine : (List ℕ → Bool) → ℕ → Logged → Logged → Type 0
RetiresLine gone number old new = (line : Line) → numbered old.lines number ≡ Some line
    → new ≡ record old { lines = replaced old.lines number (retire_if gone (length old.lines) line) }

-- the live lines whose clauses pass some test were retired
pub record RetiresSome (old new : Logged) : Type 0 where
  pub gone : List ℕ → Bool
  pub is : new ≡ record old { lines = retire_all gone old.lines }
