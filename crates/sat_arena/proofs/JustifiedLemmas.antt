-- The reasons of a trail as it grows and shrinks, and as clauses are added.
use Rattle.std.proofs.Common.{◌≡◌, ◌↔◌, ◌⊎◌, ℕ, ◌≤◌, ◌<◌, ◌+◌, Bool, List, [], ◌∷◌, ◌++◌, Some, None, length, get_or, take, min, arith, inl, inr, sym, ◌∙◌, ap, subst, refl, cond, suc}
use Rattle.std.specs.Prelude.{All, Contains}
use Rattle.std.specs.List.{AllPairs}
use Rattle.std.proofs.lemmas.Bool.{cases_eq, cases_lt, le-leb, lt-leb}
use Rattle.std.proofs.lemmas.List.{length_push, length-append, get_or_append_left, get_or_push, get_or-take, take-append-le, take_at, take-take, length-take}
use Rattle.std.proofs.lemmas.List.Elements.{All-contains, All-head, All-tail, All-cons, All-weaker, Contains-append_left}
use Rattle.sat_lits.specs.Steps.{Forces}
use Rattle.sat_arena.specs.declared.trail.Assigned.{Assigned}
use Rattle.sat_arena.specs.Trails.{true_in, up_to}
use Rattle.sat_arena.specs.Deduced.{Deduces, nothing, one_more}
use Rattle.sat_arena.specs.Justified.{IsEntryAt, IsReason, BeginsLevel, IsJustified}
use Rattle.sat_arena.proofs.TrailLemmas.{tail_pairs, head_pairs}

-- ---- IgnoringSpans on a longer trail

-- an entry of a longer trail is one of before, or the new one
pub in_push : (entries : List Assigned) (new : Assigned) (i : ℕ) (entry : Assigned) → IsEntryAt (entries ++ new ∷ []) i entry → (IsEntryAt entries i entry × (take i (entries ++ new ∷ []) ≡ take i entries)) ⊎ ((entry ≡ new) × (take i (entries ++ new ∷ []) ≡ entries))
in_push entries new i entry at =
    let long : length (entries ++ new ∷ []) ≡ length entries + 1 = length_push entries new in
    elim (cases_eq i (length entries)) [
      | inl last ↦ inr (sym at.1 ∙ get_or_push entries new entry i (sym last), take_at entries (new ∷ []) i (sym last))
      | inr before ↦ (let inside : i < length entries = omega (arith, at.0) in
          inl ((inside, sym (get_or_append_left entries (new ∷ []) entry i inside) ∙ at.1), take-append-le i entries (new ∷ []) (omega arith)))
    ]

-- an entry of the first ones
pub in_prefix : (entries : List Assigned) (n i : ℕ) (entry : Assigned) → IsEntryAt (take n entries) i entry → IsEntryAt entries i entry × (take i (take n entries) ≡ take i entries)
in_prefix entries n i entry at =
    let short : length (take n entries) ≡ min n (length entries) = length-take n entries in
    ((omega (arith, at.0), sym (get_or-take n entries i entry (omega (arith, at.0))) ∙ at.1), take-take i n entries (omega (arith, at.0)))

-- ---- One more entry

pub IsReason-from_forces : (known : ℕ → Bool) (clause : List ℕ) (literal : ℕ) → Forces known clause literal → IsReason known clause literal
IsReason-from_forces known clause literal forces = record { holds = forces.holds; others = forces.others }

pub IsJustified-push : (clauses : List (List ℕ)) (entries : List Assigned) (new : Assigned) → IsJustified clauses entries
    → ((position : ℕ) → new.reason ≡ Some position → (position < length clauses) × IsReason (true_in entries) (get_or clauses position []) new.lit)
    → ((new.reason ≡ None) ↔ BeginsLevel entries new) → IsJustified clauses (entries ++ new ∷ [])
IsJustified-push clauses entries new justified why begins = record {
  reasons = λ i position entry at is. elim (in_push entries new i entry at) [
    | inl old ↦ subst (λ (es : List Assigned). (position < length clauses) × IsReason (true_in es) (get_or clauses position []) entry.lit) (sym old.1) (justified.reasons i position entry old.0 is)
    | inr last ↦ subst (λ (es : List Assigned). (position < length clauses) × IsReason (true_in es) (get_or clauses position []) entry.lit) (sym last.1)
        (subst (λ (e : Assigned). (position < length clauses) × IsReason (true_in entries) (get_or clauses position []) e.lit) (sym last.0) (why position (sym (ap (λ e. e.reason) last.0) ∙ is)))
  ];
  decisions = λ i entry at. elim (in_push entries new i entry at) [
    | inl old ↦ subst (λ (es : List Assigned). (entry.reason ≡ None) ↔ BeginsLevel es entry) (sym old.1) (justified.decisions i entry old.0)
    | inr last ↦ subst (λ (es : List Assigned). (entry.reason ≡ None) ↔ BeginsLevel es entry) (sym last.1)
        (subst (λ (e : Assigned). (e.reason ≡ None) ↔ BeginsLevel entries e) (sym last.0) begins)
  ];
}

pub IsJustified-nil : (clauses : List (List ℕ)) → IsJustified clauses []
IsJustified-nil clauses = record {
  reasons = λ i position entry at is. absurd (omega (arith, at.0));
  decisions = λ i entry at. absurd (omega (arith, at.0));
}

-- a decision, at a level above all before
pub IsJustified-decided : (clauses : List (List ℕ)) (entries : List Assigned) (new : Assigned) → IsJustified clauses entries → new.reason ≡ None → 0 < new.level → All (λ e. e.level < new.level) entries → IsJustified clauses (entries ++ new ∷ [])
IsJustified-decided clauses entries new justified none above later =
    IsJustified-push clauses entries new justified
    (λ position is. absurd (let e : None ≡ Some position = sym none ∙ is in cc))
    (λ _. (above, later), λ _. none)

-- a literal that a clause forces, at level 0 or at a level that was begun
pub IsJustified-forced : (clauses : List (List ℕ)) (entries : List Assigned) (new : Assigned) (position : ℕ) → IsJustified clauses entries → new.reason ≡ Some position → position < length clauses → IsReason (true_in entries) (get_or clauses position []) new.lit → (BeginsLevel entries new → ⊥) → IsJustified clauses (entries ++ new ∷ [])
IsJustified-forced clauses entries new position justified some within why continues =
    IsJustified-push clauses entries new justified
    (λ other is. subst (λ (n : ℕ). (n < length clauses) × IsReason (true_in entries) (get_or clauses n []) new.lit) (let e : Some position ≡ Some other = sym some ∙ is in cc) (within, why))
    (λ none. absurd (let e : None ≡ Some position = sym none ∙ some in cc), λ begins. absurd (continues begins))

-- an entry of the level, which stands there already where it is above 0
abbrev pub HasBegun : List Assigned → ℕ → Type 0
HasBegun entries level = 0 < level → (e : Assigned) × Contains entries e × (e.level ≡ level)

pub HasBegun-push : (entries : List Assigned) (new : Assigned) (level : ℕ) → HasBegun entries level → HasBegun (entries ++ new ∷ []) level
HasBegun-push entries new level begun above = let old = begun above in (old.0, Contains-append_left entries (new ∷ []) old.0 old.1, old.2)

not_first : (entries : List Assigned) (new : Assigned) (level : ℕ) → new.level ≡ level → HasBegun entries level → BeginsLevel entries new → ⊥
not_first entries new level at begun begins =
    let above : 0 < level = omega (arith, begins.0) in
    let old = begun above in
    let lower : old.0.level < new.level = All-contains (λ (e : Assigned). e.level < new.level) entries old.0 begins.1 old.1 in
    let same : old.0.level ≡ level = old.2 in
    omega arith

-- what propagation leads to
pub IsJustified-deduced : (clauses : List (List ℕ)) (level : ℕ) (before after : List Assigned) → Deduces clauses level before after → HasBegun before level → IsJustified clauses before → IsJustified clauses after × HasBegun after level
IsJustified-deduced clauses level before after nothing begun justified = (justified, begun)
IsJustified-deduced clauses level before after (one_more entries new position deduced at reason within forces) begun justified =
    let old = IsJustified-deduced clauses level before entries deduced begun justified in (
      IsJustified-forced clauses entries new position old.0 reason within (IsReason-from_forces (true_in entries) (get_or clauses position []) new.lit forces) (not_first entries new level at old.1),
      HasBegun-push entries new level old.1,
    )

-- ---- Fewer entries, more clauses

pub IsJustified-prefix : (clauses : List (List ℕ)) (entries : List Assigned) (n : ℕ) → IsJustified clauses entries → IsJustified clauses (take n entries)
IsJustified-prefix clauses entries n justified = record {
  reasons = λ i position entry at is. let prefix = in_prefix entries n i entry at in
      subst (λ (es : List Assigned). (position < length clauses) × IsReason (true_in es) (get_or clauses position []) entry.lit) (sym prefix.1) (justified.reasons i position entry prefix.0 is);
  decisions = λ i entry at. let prefix = in_prefix entries n i entry at in
      subst (λ (es : List Assigned). (entry.reason ≡ None) ↔ BeginsLevel es entry) (sym prefix.1) (justified.decisions i entry prefix.0);
}

up_to-none : (level : ℕ) (entries : List Assigned) → All (λ e. level < e.level) entries → up_to level entries ≡ []
up_to-none level [] above = refl
up_to-none level (e ∷ es) above =
    ap (λ b. cond b (e ∷ up_to level es) (up_to level es)) (lt-leb e.level level (All-head (λ (f : Assigned). level < f.level) e es above))
    ∙ up_to-none level es (All-tail (λ (f : Assigned). level < f.level) e es above)

-- the entries up to a level stand at the prefix
pub up_to-is_prefix : (level : ℕ) (entries : List Assigned) → AllPairs (λ e f. e.level ≤ f.level) entries → (n : ℕ) × (up_to level entries ≡ take n entries)
up_to-is_prefix level [] rising = (0, refl)
up_to-is_prefix level (e ∷ es) rising = elim (cases_lt level e.level) [
  | inr low ↦ (let suffix = up_to-is_prefix level es (tail_pairs (λ e f. e.level ≤ f.level) e es rising) in
      (suc suffix.0, ap (λ b. cond b (e ∷ up_to level es) (up_to level es)) (le-leb e.level level low) ∙ ap (λ xs. e ∷ xs) suffix.1))
  | inl high ↦ (
    0,
    up_to-none level (e ∷ es) (All-cons (λ (f : Assigned). level < f.level) e es high
        (All-weaker (λ (f : Assigned). e.level ≤ f.level) (λ f. level < f.level) (λ f h. omega arith) es (head_pairs (λ e f. e.level ≤ f.level) e es rising))),
  )
]

pub IsJustified-back : (clauses : List (List ℕ)) (entries : List Assigned) (level : ℕ) → AllPairs (λ e f. e.level ≤ f.level) entries → IsJustified clauses entries → IsJustified clauses (up_to level entries)
IsJustified-back clauses entries level rising justified =
    let prefix = up_to-is_prefix level entries rising in
    subst (IsJustified clauses) (sym prefix.1) (IsJustified-prefix clauses entries prefix.0 justified)

pub IsJustified-add : (clauses more : List (List ℕ)) (entries : List Assigned) → IsJustified clauses entries → IsJustified (clauses ++ more) entries
IsJustified-add clauses more entries justified = record {
  reasons = λ i position entry at is.
      let why = justified.reasons i position entry at is in
      let long : length (clauses ++ more) ≡ length clauses + length more = length-append clauses more in
      (omega (arith, why.0), subst (λ (clause : List ℕ). IsReason (true_in (take i entries)) clause entry.lit) (sym (get_or_append_left clauses more [] position why.0)) why.1);
  decisions = justified.decisions;
}
