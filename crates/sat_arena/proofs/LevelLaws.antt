-- The current level, and what was settled below it, as a trail grows and shrinks.
use Rattle.std.proofs.Common.{◌≡◌, ◌<◌, ◌≤◌, ◌+◌, ◌-◌, ℕ, List, [], ◌∷◌, ◌++◌, cond, get_or, length, map, arith, subst, sym, ap, ◌∙◌, refl, inl, inr, append-nil, suc, zero}
use Rattle.std.specs.Prelude.{All, nat_le}
use Rattle.std.specs.List.{AllPairs}
use Rattle.std.proofs.lemmas.Bool.{le-leb, lt-leb, cases_lt, cases_eq}
use Rattle.std.proofs.lemmas.List.{length_push, get_or_default, get_or_push}
use Rattle.std.proofs.lemmas.List.Elements.{filter-append, All-push, All-cons, All-nil}
use Rattle.sat_arena.specs.declared.trail.Assigned.{Assigned}
use Rattle.sat_arena.specs.Settled.{IsSettled, HasTwo}
use Rattle.sat_arena.specs.Trails.{true_in, up_to}
use Rattle.sat_arena.specs.Deduced.{Deduces, nothing, one_more}
use Rattle.sat_arena.specs.Justified.{current_level}
use Rattle.sat_arena.proofs.LevelLemmas.{up_to-all}
use Rattle.sat_arena.proofs.JustifiedLemmas.{HasBegun}
use Rattle.sat_arena.specs.Levels.{IsSettledBelow}

-- ---- The current level

pub level_at-entry : (entries : List Assigned) (i : ℕ) (d : Assigned) → i < length entries → get_or (map (λ e. e.level) entries) i 0 ≡ (get_or entries i d).level
level_at-entry [] i d within = absurd (omega arith)
level_at-entry (e ∷ es) zero d within = refl
level_at-entry (e ∷ es) (suc i) d within = level_at-entry es i d (omega arith)

pub current_level-push : (entries : List Assigned) (entry : Assigned) → current_level (entries ++ entry ∷ []) ≡ entry.level
current_level-push entries entry =
    let long : length (entries ++ entry ∷ []) ≡ length entries + 1 = length_push entries entry in
    let position : length (entries ++ entry ∷ []) - 1 ≡ length entries = omega arith in
    level_at-entry (entries ++ entry ∷ []) (length (entries ++ entry ∷ []) - 1) entry (omega arith)
    ∙ ap (λ i. (get_or (entries ++ entry ∷ []) i entry).level) position
    ∙ ap (λ e. e.level) (get_or_push entries entry entry (length entries) refl)

-- no entry stands above it
pub current_level_is_greatest : (entries : List Assigned) → AllPairs (λ e f. e.level ≤ f.level) entries → All (λ e. e.level ≤ current_level entries) entries
current_level_is_greatest entries rising i d within =
    let last : current_level entries ≡ (get_or entries (length entries - 1) d).level = level_at-entry entries (length entries - 1) d (omega arith) in
    elim (cases_eq i (length entries - 1)) [
      | inl e ↦ subst (λ (n : ℕ). (get_or entries n d).level ≤ current_level entries) (sym e) (omega arith)
      | inr ne ↦ (let order : (get_or entries i d).level ≤ (get_or entries (length entries - 1) d).level = rising i (length entries - 1) d (omega arith) (omega arith) in omega arith)
    ]

-- and where it is above 0 some entry has it
pub current_level_has_begun : (entries : List Assigned) → HasBegun entries (current_level entries)
current_level_has_begun [] above = absurd (let none : current_level [] ≡ 0 = refl in omega arith)
current_level_has_begun (e ∷ es) above =
    let entry = get_or (e ∷ es) (length (e ∷ es) - 1) e in
    let within : length (e ∷ es) - 1 < length (e ∷ es) = omega arith in (
      entry,
      (length (e ∷ es) - 1, within, get_or_default (e ∷ es) (length (e ∷ es) - 1) entry e within),
      sym (level_at-entry (e ∷ es) (length (e ∷ es) - 1) e within),
    )

pub current_level-deduced : (clauses : List (List ℕ)) (level : ℕ) (before after : List Assigned) → Deduces clauses level before after → current_level before ≡ level → current_level after ≡ level
current_level-deduced clauses level before after nothing same = same
current_level-deduced clauses level before after (one_more entries entry position deduced at reason within forces) same = current_level-push entries entry ∙ at

pub up_to_is_low : (level : ℕ) (entries : List Assigned) → All (λ e. e.level ≤ level) (up_to level entries)
up_to_is_low level [] = All-nil (λ (f : Assigned). f.level ≤ level)
up_to_is_low level (e ∷ es) = elim (cases_lt level e.level) [
  | inl above ↦ subst (λ b. All (λ (f : Assigned). f.level ≤ level) (cond b (e ∷ up_to level es) (up_to level es))) (sym (lt-leb e.level level above)) (up_to_is_low level es)
  | inr low ↦ subst (λ b. All (λ (f : Assigned). f.level ≤ level) (cond b (e ∷ up_to level es) (up_to level es))) (sym (le-leb e.level level low))
      (All-cons (λ (f : Assigned). f.level ≤ level) e (up_to level es) low (up_to_is_low level es))
]

current_level_of_low : (level : ℕ) (entries : List Assigned) → All (λ e. e.level ≤ level) entries → current_level entries ≤ level
current_level_of_low level [] low = (let none : current_level [] ≡ 0 = refl in omega arith)
current_level_of_low level (e ∷ es) low =
    let last : current_level (e ∷ es) ≡ (get_or (e ∷ es) (length (e ∷ es) - 1) e).level = level_at-entry (e ∷ es) (length (e ∷ es) - 1) e (omega arith) in
    let within : (get_or (e ∷ es) (length (e ∷ es) - 1) e).level ≤ level = low (length (e ∷ es) - 1) e (omega arith) in
    omega arith

pub current_level-up_to : (level : ℕ) (entries : List Assigned) → current_level (up_to level entries) ≤ level
current_level-up_to level entries = current_level_of_low level (up_to level entries) (up_to_is_low level entries)

-- ---- What was settled below a level

-- an entry above a level does not stand up to it
pub up_to-push : (k : ℕ) (entries : List Assigned) (e : Assigned) → k < e.level → up_to k (entries ++ e ∷ []) ≡ up_to k entries
up_to-push k entries e h =
    filter-append (λ x. nat_le x.level k) entries (e ∷ []) ∙ ap (λ b. up_to k entries ++ cond b (e ∷ []) []) (lt-leb e.level k h) ∙ append-nil (up_to k entries)

-- going back leaves what stands up to each lower level
pub up_to-up_to : (k level : ℕ) → k ≤ level → (entries : List Assigned) → up_to k (up_to level entries) ≡ up_to k entries
up_to-up_to k level h [] = refl
up_to-up_to k level h (e ∷ es) = elim (cases_lt level e.level) [
  | inl above ↦
      ap (λ b. up_to k (cond b (e ∷ up_to level es) (up_to level es))) (lt-leb e.level level above) ∙ up_to-up_to k level h es
      ∙ sym (ap (λ b. cond b (e ∷ up_to k es) (up_to k es)) (lt-leb e.level k (omega arith)))
  | inr within ↦
      ap (λ b. up_to k (cond b (e ∷ up_to level es) (up_to level es))) (le-leb e.level level within)
      ∙ ap (λ xs. cond (nat_le e.level k) (e ∷ xs) xs) (up_to-up_to k level h es)
]

pub IsSettledBelow-push : (level : ℕ) (entries : List Assigned) (clauses : List (List ℕ)) (e : Assigned) → level ≤ e.level → IsSettledBelow level entries clauses → IsSettledBelow level (entries ++ e ∷ []) clauses
IsSettledBelow-push level entries clauses e h below k l = subst (λ (x : List Assigned). All (IsSettled (true_in x)) clauses) (sym (up_to-push k entries e (omega arith))) (below k l)

pub IsSettledBelow-deduced : (level : ℕ) (clauses : List (List ℕ)) (before after : List Assigned) → Deduces clauses level before after → IsSettledBelow level before clauses → IsSettledBelow level after clauses
IsSettledBelow-deduced level clauses before after nothing below = below
IsSettledBelow-deduced level clauses before after (one_more entries entry position deduced at reason within forces) below =
    IsSettledBelow-push level entries clauses entry (omega arith) (IsSettledBelow-deduced level clauses before entries deduced below)

-- a level at whose end every clause was settled
pub IsSettledBelow-next : (level : ℕ) (entries : List Assigned) (clauses : List (List ℕ)) → up_to level entries ≡ entries → IsSettledBelow level entries clauses → All (IsSettled (true_in entries)) clauses → IsSettledBelow (level + 1) entries clauses
IsSettledBelow-next level entries clauses all below now k l = elim (cases_lt k level) [
  | inl lower ↦ below k lower
  | inr same ↦ (let e : k ≡ level = omega arith in subst (λ (x : List Assigned). All (IsSettled (true_in x)) clauses) (sym (ap (λ n. up_to n entries) e ∙ all)) now)
]

-- going back to any level
pub IsSettledBelow-back : (lower : ℕ) (entries : List Assigned) (clauses : List (List ℕ)) → AllPairs (λ e f. e.level ≤ f.level) entries → IsSettledBelow (current_level entries) entries clauses → IsSettledBelow (current_level (up_to lower entries)) (up_to lower entries) clauses
IsSettledBelow-back lower entries clauses rising below k l =
    let low : current_level (up_to lower entries) ≤ lower = current_level-up_to lower entries in
    let same : up_to k (up_to lower entries) ≡ up_to k entries = up_to-up_to k lower (omega arith) entries in
    elim (cases_lt k (current_level entries)) [
      | inl inside ↦ subst (λ (x : List Assigned). All (IsSettled (true_in x)) clauses) (sym same) (below k inside)
      | inr beyond ↦ absurd (
          let top : current_level entries ≤ lower = omega arith in
          let whole : up_to lower entries ≡ entries = up_to-all lower entries (λ i d h. (let e : (get_or entries i d).level ≤ current_level entries = current_level_is_greatest entries rising i d h in omega arith)) in
          let level : current_level (up_to lower entries) ≡ current_level entries = ap current_level whole in
          omega arith)
    ]

-- a clause two of whose literals are not false at each lower level
pub IsSettledBelow-add : (level : ℕ) (entries : List Assigned) (clauses : List (List ℕ)) (clause : List ℕ) → ((k : ℕ) → k < level → HasTwo (true_in (up_to k entries)) clause) → IsSettledBelow level entries clauses → IsSettledBelow level entries (clauses ++ clause ∷ [])
IsSettledBelow-add level entries clauses clause two below k l = All-push (IsSettled (true_in (up_to k entries))) clauses clause (below k l) (inr (two k l))
