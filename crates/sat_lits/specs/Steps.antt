-- What a log of clauses means: axioms and derived lines, both named by numbers that begin at 1, and
-- the steps by which a line may be derived.
use Rattle.std.specs.Prelude.{◌≡◌, ℕ, suc, zero, ◌<◌, ◌==◌, ◌||◌, Bool, true, false, List, [], ◌∷◌, length, Option, Some, None, slice_get, slice_set, option_and_then, All, Contains, ◌⊎◌}
use Rattle.std.specs.List.{list_any}
use Rattle.sat_lits.specs.Literals.{negation}
use Rattle.sat_lits.specs.Clauses.{Follows}
use Rattle.fsmv_base.specs.declared.citation.Id.{Id}
use Rattle.fsmv_base.specs.declared.citation.Id.TheVariants.{Axiom, Derived}

-- ---- Clauses by their names. A derived line is None where it was retired.

-- the item of this number, where the first has number 1
abbrev pub numbered : {X : Type 0} → List X → ℕ → Option X
numbered xs zero = None
numbered xs (suc i) = slice_get xs i

-- the list with this item at the number
abbrev pub replaced : {X : Type 0} → List X → ℕ → X → List X
replaced xs zero x = xs
replaced xs (suc i) x = slice_set xs i x

-- the clause that an id names: an axiom, or a derived line that stands
abbrev pub named : List (List ℕ) → List (Option (List ℕ)) → Id → Option (List ℕ)
named axioms lines (Axiom n) = numbered axioms n
named axioms lines (Derived n) = option_and_then (λ line. line) (numbered lines n)

-- ---- Unit propagation. A test `known` tells which literals were made true; a literal is false where its negation is.

-- each literal of the clause is false
abbrev pub IsFalsified : (ℕ → Bool) → List ℕ → Type 0
IsFalsified known clause = All (λ l. known (negation l) ≡ true) clause

-- the literal is the one of the clause that is unassigned, and all others are false
pub record Forces (known : ℕ → Bool) (clause : List ℕ) (literal : ℕ) : Type 0 where
  pub holds : Contains clause literal
  pub not_true : known literal ≡ false
  pub not_false : known (negation literal) ≡ false
  pub others : All (λ l. (l ≡ literal → ⊥) → known (negation l) ≡ true) clause

-- what is known once the literal was made true
abbrev pub with : (ℕ → Bool) → ℕ → (ℕ → Bool)
with known literal = λ l. (l == literal) || known l

-- what is known where the clause is assumed to be false
abbrev pub negated : List ℕ → (ℕ → Bool)
negated clause = λ l. list_any (λ m. negation m == l) clause

-- the hinted clauses in their order each force a literal, which is then made true, and the last is falsified
abbrev pub Refutes : (Id → Option (List ℕ)) → (ℕ → Bool) → List Id → Type 0
Refutes names known [] = ⊥
Refutes names known (hint ∷ hints) =
    (clause : List ℕ) × (names hint ≡ Some clause)
    × ((IsFalsified known clause × (hints ≡ []))
    ⊎ ((literal : ℕ) × Forces known clause literal × Refutes names (with known literal) hints))

-- the step that derives the clause is right: with the clause assumed to be false, its hints refute
abbrev pub IsRupStep : List (List ℕ) → List (Option (List ℕ)) → List ℕ → List Id → Type 0
IsRupStep axioms lines clause hints = Refutes (named axioms lines) (negated clause) hints

-- each line that stands follows from the axioms
abbrev pub LinesFollow : List (List ℕ) → List (Option (List ℕ)) → Type 0
LinesFollow axioms lines = (n : ℕ) (clause : List ℕ) → numbered lines n ≡ Some (Some clause)
    → Follows axioms clause

-- ---- Which lines a log may keep

-- the clause is a line that stands
abbrev pub IsLive : List (Option (List ℕ)) → List ℕ → Type 0
IsLive lines clause = (n : ℕ) × (numbered lines n ≡ Some (Some clause))

-- beside other literals, the clause holds one that stands as a unit clause
pub record HoldsUnit (lines : List (Option (List ℕ))) (clause : List ℕ) : Type 0 where
  pub longer : 1 < length clause
  pub literal : ℕ
  pub holds : Contains clause literal
  pub stands : IsLive lines (literal ∷ [])

-- a log has no use for the clause: it stands already, or it holds the literal of a unit clause that does, beside others
abbrev pub IsRedundant : List (Option (List ℕ)) → List ℕ → Type 0
IsRedundant lines clause = HoldsUnit lines clause ⊎ IsLive lines clause

-- the line of this number stands, and holds the literal of a live unit clause beside others
pub record IsRetirable (lines : List (Option (List ℕ))) (number : ℕ) : Type 0 where
  pub clause : List ℕ
  pub stands : numbered lines number ≡ Some (Some clause)
  pub subsumed : HoldsUnit lines clause
