-- What the first entries of a trail make true.
use Rattle.std.proofs.Common.{◌≡◌, ◌⊎◌, ℕ, ◌==◌, ◌+◌, ◌<◌, ◌≤◌, true, false, List, length, get_or, take, min, arith, inl, inr, sym, ◌∙◌, ap, refl}
use Rattle.std.specs.Prelude.{Contains}
use Rattle.std.specs.List.{Any}
use Rattle.std.proofs.lemmas.Bool.{cases_eq, eqb-true, eq-eqb, both_ways, false_from_ne_true}
use Rattle.std.proofs.lemmas.List.{get_or-take, length-take}
use Rattle.std.proofs.lemmas.List.Folds.{Any-from_list_any, list_any-from_Any}
use Rattle.std.proofs.lemmas.List.Elements.{All-contains}
use Rattle.sat_lits.specs.Literals.{negation, variable_of}
use Rattle.sat_arena.specs.declared.trail.Assigned.{Assigned}
use Rattle.sat_arena.specs.Trails.{true_in}
use Rattle.sat_arena.specs.Justified.{IsEntryAt, IsReason, HasPositions}
use Rattle.sat_arena.proofs.JustifiedLemmas.{in_prefix}
use Rattle.sat_analyze.proofs.PositionLemmas.{one_at}

-- an entry before the position makes the literal true
pub record StandsBefore (entries : List Assigned) (position literal : ℕ) : Type 0 where
  pub at : ℕ
  pub entry : Assigned
  pub stands : IsEntryAt entries at entry
  pub before : at < position
  pub of_literal : entry.lit ≡ literal

pub before_from_true_in : (entries : List Assigned) (position literal : ℕ) → true_in (take position entries) literal ≡ true → StandsBefore entries position literal
before_from_true_in entries position literal is =
    let found : Any (λ (e : Assigned). (e.lit == literal) ≡ true) (take position entries) = Any-from_list_any (λ (e : Assigned). e.lit == literal) (take position entries) is in
    let prefix = in_prefix entries position found.0 found.1 (found.2, found.3) in
    let short : length (take position entries) ≡ min position (length entries) = length-take position entries in
    record { at = found.0; entry = found.1; stands = prefix.0; before = omega (arith, found.2); of_literal = eqb-true found.1.lit literal found.4 }

pub true_in_from_before : (entries : List Assigned) (position literal : ℕ) → StandsBefore entries position literal → true_in (take position entries) literal ≡ true
true_in_from_before entries position literal before =
    let short : length (take position entries) ≡ min position (length entries) = length-take position entries in
    let low = before.before in
    let inside = before.stands.0 in
    list_any-from_Any (λ (e : Assigned). e.lit == literal) (take position entries)
    (before.at, before.entry, (omega arith), get_or-take position entries before.at before.entry low ∙ before.stands.1, eq-eqb before.entry.lit literal before.of_literal)

-- what stands before a position stands before a later one
pub later_before : (entries : List Assigned) (position later literal : ℕ) → position ≤ later → StandsBefore entries position literal → StandsBefore entries later literal
later_before entries position later literal order before =
    record { at = before.at; entry = before.entry; stands = before.stands; before = (let low = before.before in omega arith); of_literal = before.of_literal }

pub true_in_later : (entries : List Assigned) (position later m : ℕ) → position ≤ later → true_in (take position entries) m ≡ true → true_in (take later entries) m ≡ true
true_in_later entries position later m order is = true_in_from_before entries later m (later_before entries position later m order (before_from_true_in entries position m is))

pub not_true_in_earlier : (entries : List Assigned) (position later m : ℕ) → position ≤ later → true_in (take later entries) m ≡ false → true_in (take position entries) m ≡ false
not_true_in_earlier entries position later m order none = false_from_ne_true (true_in (take position entries) m) (λ is. both_ways (true_in (take later entries) m) none (true_in_later entries position later m order is))

-- a literal that stands before the next position stands before this one, or is that of the entry here
pub true_in_cases : (entries : List Assigned) (position : ℕ) (here : Assigned) (m : ℕ) → IsEntryAt entries position here → true_in (take (position + 1) entries) m ≡ true → (true_in (take position entries) m ≡ true) ⊎ (m ≡ here.lit)
true_in_cases entries position here m at is =
    let before = before_from_true_in entries (position + 1) m is in
    let low = before.before in
    elim (cases_eq before.at position) [
      | inl same ↦ inr (sym before.of_literal ∙ ap (λ (e : Assigned). e.lit) (one_at entries before.at position before.entry here before.stands at same))
      | inr differ ↦ inl (true_in_from_before entries position m (record { at = before.at; entry = before.entry; stands = before.stands; before = omega arith; of_literal = before.of_literal }))
    ]

pub true_in_here : (entries : List Assigned) (position : ℕ) (here : Assigned) → IsEntryAt entries position here → true_in (take (position + 1) entries) here.lit ≡ true
true_in_here entries position here at = true_in_from_before entries (position + 1) here.lit (record { at = position; entry = here; stands = at; before = omega arith; of_literal = refl })

-- no literal of an entry's variable stands before it
pub none_before : (entries : List Assigned) (positions : List ℕ) (position : ℕ) (here : Assigned) (m : ℕ) → HasPositions entries positions → IsEntryAt entries position here → variable_of m ≡ variable_of here.lit → true_in (take position entries) m ≡ false
none_before entries positions position here m has at same = false_from_ne_true (true_in (take position entries) m) (λ is.
    let before = before_from_true_in entries position m is in
    let low = before.before in
    let variable : variable_of before.entry.lit ≡ variable_of here.lit = ap variable_of before.of_literal ∙ same in
    let first : get_or positions (variable_of before.entry.lit) 0 ≡ before.at = (has before.at before.entry before.stands).1 in
    let second : get_or positions (variable_of here.lit) 0 ≡ position = (has position here at).1 in
    let one : before.at ≡ position = sym first ∙ ap (λ v. get_or positions v 0) variable ∙ second in
    omega arith)

-- ---- Clauses of assigned variables

-- an entry before the position is of the literal's variable
pub record IsAssigned (entries : List Assigned) (position literal : ℕ) : Type 0 where
  pub at : ℕ
  pub entry : Assigned
  pub stands : IsEntryAt entries at entry
  pub before : at < position
  pub of_variable : variable_of entry.lit ≡ variable_of literal

pub variable_of-negation : (l : ℕ) → variable_of (negation l) ≡ variable_of l
variable_of-negation l = omega arith

pub assigned_from_true_in : (entries : List Assigned) (position literal : ℕ) → true_in (take position entries) (negation literal) ≡ true → IsAssigned entries position literal
assigned_from_true_in entries position literal is =
    let before = before_from_true_in entries position (negation literal) is in
    record { at = before.at; entry = before.entry; stands = before.stands; before = before.before; of_variable = ap variable_of before.of_literal ∙ variable_of-negation literal }

-- each literal of a reason is assigned by the time of its entry
pub assigned_reason : (entries : List Assigned) (position : ℕ) (here : Assigned) (clause : List ℕ) → IsEntryAt entries position here → IsReason (true_in (take position entries)) clause here.lit → (l : ℕ) → Contains clause l → IsAssigned entries (position + 1) l
assigned_reason entries position here clause at why l holds = elim (cases_eq l here.lit) [
  | inl same ↦ record { at = position; entry = here; stands = at; before = omega arith; of_variable = ap variable_of (sym same) }
  | inr differ ↦
      let early = assigned_from_true_in entries position l (All-contains (λ m. (m ≡ here.lit → ⊥) → true_in (take position entries) (negation m) ≡ true) clause l why.others holds differ) in
      record { at = early.at; entry = early.entry; stands = early.stands; before = (let low = early.before in omega arith); of_variable = early.of_variable }
]
