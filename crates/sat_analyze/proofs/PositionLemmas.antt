-- Where the entries of a trail stand.
use Rattle.std.proofs.Common.{◌≡◌, ◌≢◌, ℕ, ◌+◌, ◌-◌, ◌<◌, ◌≤◌, List, length, set, get_or, arith, inl, inr, sym, ◌∙◌, ap}
use Rattle.std.specs.List.{AllPairs}
use Rattle.std.proofs.lemmas.Bool.{cases_eq, cases_lt}
use Rattle.std.proofs.lemmas.List.{get_or_default, get_or-map, get_or-set_same, get_or-set_other, length-set}
use Rattle.sat_lits.specs.Literals.{variable_of}
use Rattle.sat_arena.specs.declared.trail.Assigned.{Assigned}
use Rattle.sat_arena.specs.Justified.{current_level, IsEntryAt}

-- two entries at one position are one
pub one_at : (entries : List Assigned) (i j : ℕ) (e f : Assigned) → IsEntryAt entries i e → IsEntryAt entries j f → i ≡ j → e ≡ f
one_at entries i j e f at there same =
    sym at.1 ∙ ap (λ k. get_or entries k e) same ∙ get_or_default entries j e f there.0 ∙ there.1

-- ---- The current_level level

pub current_level-is : (entries : List Assigned) (d : Assigned) → 0 < length entries → current_level entries ≡ (get_or entries (length entries - 1) d).level
current_level-is entries d some = get_or-map (λ (e : Assigned). e.level) entries (length entries - 1) d 0 (omega arith)

-- no entry's level is above the current_level, and an earlier one's is not above a later one's
pub level_order : (entries : List Assigned) (i j : ℕ) (e f : Assigned) → AllPairs (λ e f. e.level ≤ f.level) entries → IsEntryAt entries i e → IsEntryAt entries j f → i ≤ j → e.level ≤ f.level
level_order entries i j e f rising at there order = elim (cases_eq i j) [
  | inl same ↦ (let one : e.level ≡ f.level = ap (λ (g : Assigned). g.level) (one_at entries i j e f at there same) in omega arith)
  | inr differ ↦
      let later : (get_or entries i e).level ≤ (get_or entries j e).level = rising i j e (omega arith) there.0 in
      let first : (get_or entries i e).level ≡ e.level = ap (λ (g : Assigned). g.level) at.1 in
      let second : (get_or entries j e).level ≡ f.level = ap (λ (g : Assigned). g.level) (get_or_default entries j e f there.0 ∙ there.1) in
      omega arith
]

pub current_level_most : (entries : List Assigned) (i : ℕ) (e : Assigned) → AllPairs (λ e f. e.level ≤ f.level) entries → IsEntryAt entries i e → e.level ≤ current_level entries
current_level_most entries i e rising at =
    let some : 0 < length entries = omega (arith, at.0) in
    let last = get_or entries (length entries - 1) e in
    let there : IsEntryAt entries (length entries - 1) last = (omega arith, get_or_default entries (length entries - 1) last e (omega arith)) in
    let order : e.level ≤ last.level = level_order entries i (length entries - 1) e last rising at there (omega (arith, at.0)) in
    let is : current_level entries ≡ last.level = current_level-is entries e some in
    omega arith

-- before an entry of a lower level none is of the current_level
pub current_level_after : (entries : List Assigned) (start : ℕ) (d : Assigned) → AllPairs (λ e f. e.level ≤ f.level) entries → 0 < start → start ≤ length entries → ((get_or entries (start - 1) d).level ≡ current_level entries → ⊥) → (i : ℕ) (e : Assigned) → IsEntryAt entries i e → e.level ≡ current_level entries → start ≤ i
current_level_after entries start d rising some within lower i e at is = elim (cases_lt i start) [
  | inr after ↦ after
  | inl before ↦
      let here = get_or entries (start - 1) d in
      let there : IsEntryAt entries (start - 1) here = (omega arith, get_or_default entries (start - 1) here d (omega arith)) in
      let order : e.level ≤ here.level = level_order entries i (start - 1) e here rising at there (omega arith) in
      let most : here.level ≤ current_level entries = current_level_most entries (start - 1) here rising there in
      absurd (lower (omega arith))
]
