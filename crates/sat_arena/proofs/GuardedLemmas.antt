-- Watched literals, as the trail grows and shrinks and the queue is gone through.
use Rattle.std.proofs.Common.{◌≡◌, ℕ, ◌==◌, ◌||◌, ◌≤◌, ◌<◌, ◌+◌, Bool, true, false, not, cond, List, [], ◌∷◌, ◌++◌, length, get_or, take, arith, inl, inr, sym, ◌∙◌, ap, subst, refl, zero, suc}
use Rattle.std.specs.Prelude.{All, Contains, nat_le}
use Rattle.std.specs.List.{AllPairs, Any}
use Rattle.std.proofs.lemmas.Bool.{le-leb, lt-leb, eqb-true, eq-eqb, both_ways, false≢true, or_cases, or_right, cases_lt, cases_Bool, leb-true}
use Rattle.std.proofs.lemmas.List.{take_all, take-append-le, take-take}
use Rattle.std.proofs.lemmas.List.Folds.{list_any-append, Any-from_list_any, list_any_at}
use Rattle.std.proofs.lemmas.List.Elements.{All-head, All-tail, All-nil, All-cons, All-contains, All-take, All-more, All-weaker, filter_passes, filter-append}
use Rattle.sat_lits.specs.Literals.{negation}
use Rattle.sat_arena.specs.declared.trail.Assigned.{Assigned}
use Rattle.sat_arena.specs.Trails.{true_in, up_to}
use Rattle.sat_arena.specs.Settled.{HasTrue, HasTwo, IsSettled}
use Rattle.sat_arena.specs.Guarded.{IsGuarded, IsWatched}
use Rattle.sat_arena.proofs.LevelLemmas.{up_to-all}
use Rattle.sat_arena.proofs.TrailLemmas.{head_pairs, tail_pairs}

-- what one entry owes to a clause that watches a literal
abbrev pub Owes : List Assigned → List ℕ → ℕ → (Assigned → Type 0)
Owes entries clause watch = λ e. e.lit ≡ negation watch → HasTrue (true_in (up_to e.level entries)) clause

-- ---- What is true_in

pub HasTrue-more : (known known' : ℕ → Bool) (clause : List ℕ) → ((l : ℕ) → known l ≡ true → known' l ≡ true) → HasTrue known clause → HasTrue known' clause
HasTrue-more known known' clause more has = record { literal = has.literal; holds = has.holds; is_true = more has.literal has.is_true }

pub true_in-append_left : (xs ys : List Assigned) (l : ℕ) → true_in xs l ≡ true → true_in (xs ++ ys) l ≡ true
true_in-append_left xs ys l p = list_any-append (λ e. e.lit == l) xs ys ∙ ap (λ b. b || true_in ys l) p

true_in_either : (b : Bool) (e : Assigned) (xs ys : List Assigned) (l : ℕ) → (true_in xs l ≡ true → true_in ys l ≡ true) → true_in (cond b (e ∷ xs) xs) l ≡ true → true_in (e ∷ ys) l ≡ true
true_in_either true e xs ys l more p = elim (or_cases (e.lit == l) (true_in xs l) p) [
  | inl here ↦ ap (λ b. b || true_in ys l) here
  | inr later ↦ or_right (e.lit == l) (true_in ys l) (more later)
]
true_in_either false e xs ys l more p = or_right (e.lit == l) (true_in ys l) (more p)

true_in-up_to : (level : ℕ) (entries : List Assigned) (l : ℕ) → true_in (up_to level entries) l ≡ true → true_in entries l ≡ true
true_in-up_to level [] l p = p
true_in-up_to level (e ∷ es) l p = true_in_either (nat_le e.level level) e (up_to level es) es l (true_in-up_to level es l) p

-- ---- (a) Where the queue is empty, a watched clause is settled

guarded_true : (entries : List Assigned) (head : ℕ) (clause : List ℕ) (watch : ℕ) → IsGuarded entries head clause watch → length entries ≤ head → true_in entries (negation watch) ≡ true → HasTrue (true_in entries) clause
guarded_true entries head clause watch guarded done p =
    let some : Any (λ (e : Assigned). (e.lit == negation watch) ≡ true) entries = Any-from_list_any (λ (e : Assigned). e.lit == negation watch) entries p in
    let all : All (Owes entries clause watch) entries = subst (λ (es : List Assigned). All (Owes entries clause watch) es) (take_all head entries done) guarded in
    HasTrue-more (true_in (up_to some.1.level entries)) (true_in entries) clause (true_in-up_to some.1.level entries)
    (All-contains (Owes entries clause watch) entries some.1 all (some.0, some.2, some.3) (eqb-true some.1.lit (negation watch) some.4))

pub IsSettled-from_IsWatched : (entries : List Assigned) (head : ℕ) (clause : List ℕ) (one two : ℕ) → IsWatched entries head clause one two → length entries ≤ head → IsSettled (true_in entries) clause
IsSettled-from_IsWatched entries head clause one two w done = elim (cases_Bool (true_in entries (negation one))) [
  | inl p ↦ inl (guarded_true entries head clause one w.guards_one done p)
  | inr p ↦ elim (cases_Bool (true_in entries (negation two))) [
    | inl q ↦ inl (guarded_true entries head clause two w.guards_two done q)
    | inr q ↦ inr (record { first = one; second = two; holds_first = w.holds_one; holds_second = w.holds_two; differ = w.differ; first_open = p; second_open = q })
  ]
]

-- ---- (b) Going back

up_to_kept : (level : ℕ) (e : Assigned) (es : List Assigned) → e.level ≤ level → up_to level (e ∷ es) ≡ e ∷ up_to level es
up_to_kept level e es below = ap (λ b. cond b (e ∷ up_to level es) (up_to level es)) (le-leb e.level level below)

up_to_left : (level : ℕ) (e : Assigned) (es : List Assigned) → level < e.level → up_to level (e ∷ es) ≡ up_to level es
up_to_left level e es above = ap (λ b. cond b (e ∷ up_to level es) (up_to level es)) (lt-leb e.level level above)

up_to-lower : (low level : ℕ) (entries : List Assigned) → low ≤ level → up_to low (up_to level entries) ≡ up_to low entries
up_to-lower low level [] h = refl
up_to-lower low level (e ∷ es) h = elim (cases_lt level e.level) [
  | inl above ↦ ap (λ xs. up_to low xs) (up_to_left level e es above) ∙ up_to-lower low level es h ∙ sym (up_to_left low e es (omega arith))
  | inr below ↦ ap (λ xs. up_to low xs) (up_to_kept level e es below) ∙ ap (λ xs. cond (nat_le e.level low) (e ∷ xs) xs) (up_to-lower low level es h)
]

up_to-none : (level : ℕ) (entries : List Assigned) → All (λ e. level < e.level) entries → up_to level entries ≡ []
up_to-none level [] above = refl
up_to-none level (e ∷ es) above =
    up_to_left level e es (All-head (λ (f : Assigned). level < f.level) e es above)
    ∙ up_to-none level es (All-tail (λ (f : Assigned). level < f.level) e es above)

-- what holds of the first entries holds of the first ones that stay
prefix_kept : (P : Assigned → Type 0) (level head : ℕ) (entries : List Assigned) → AllPairs (λ e f. e.level ≤ f.level) entries → All P (take head entries) → All P (take head (up_to level entries))
prefix_kept P level zero entries rising all = All-nil P
prefix_kept P level (suc head) [] rising all = All-nil P
prefix_kept P level (suc head) (e ∷ es) rising all = elim (cases_lt level e.level) [
  | inl above ↦
      let none : up_to level es ≡ [] = up_to-none level es (λ k d within. (let up : e.level ≤ (get_or es k d).level = head_pairs (λ e f. e.level ≤ f.level) e es rising k d within in omega arith)) in
      subst (λ (es : List Assigned). All P (take (suc head) es)) (sym (up_to_left level e es above ∙ none)) (All-nil P)
  | inr below ↦
      subst (λ (es : List Assigned). All P (take (suc head) es)) (sym (up_to_kept level e es below))
      (All-cons P e (take head (up_to level es)) (All-head P e (take head es) all)
      (prefix_kept P level head es (tail_pairs (λ e f. e.level ≤ f.level) e es rising) (All-tail P e (take head es) all)))
]

pub IsGuarded-back : (level head : ℕ) (entries : List Assigned) (clause : List ℕ) (watch : ℕ) → AllPairs (λ e f. e.level ≤ f.level) entries → IsGuarded entries head clause watch → IsGuarded (up_to level entries) head clause watch
IsGuarded-back level head entries clause watch rising guarded = λ k d within same.
    let low : (get_or (take head (up_to level entries)) k d).level ≤ level
    = All-take (λ (e : Assigned). e.level ≤ level) head (up_to level entries) (up_to-low level entries) k d within in
    subst (λ (es : List Assigned). HasTrue (true_in es) clause) (sym (up_to-lower (get_or (take head (up_to level entries)) k d).level level entries low))
    (prefix_kept (Owes entries clause watch) level head entries rising guarded k d within same)
  where
    up_to-low : (level : ℕ) (entries : List Assigned) → All (λ e. e.level ≤ level) (up_to level entries)
    up_to-low level entries = All-weaker (λ (e : Assigned). nat_le e.level level ≡ true) (λ (e : Assigned). e.level ≤ level) (λ e p. leb-true e.level level p) (up_to level entries) (filter_passes (λ e. nat_le e.level level) entries)

pub IsWatched-back : (level head : ℕ) (entries : List Assigned) (clause : List ℕ) (one two : ℕ) → AllPairs (λ e f. e.level ≤ f.level) entries → IsWatched entries head clause one two → IsWatched (up_to level entries) head clause one two
IsWatched-back level head entries clause one two rising w = record {
  holds_one = w.holds_one;
  holds_two = w.holds_two;
  differ = w.differ;
  guards_one = IsGuarded-back level head entries clause one rising w.guards_one;
  guards_two = IsGuarded-back level head entries clause two rising w.guards_two;
}

-- fewer entries gone through
pub IsGuarded-fewer : (head head' : ℕ) (entries : List Assigned) (clause : List ℕ) (watch : ℕ) → head' ≤ head → IsGuarded entries head clause watch → IsGuarded entries head' clause watch
IsGuarded-fewer head head' entries clause watch fewer guarded =
    subst (λ (es : List Assigned). All (Owes entries clause watch) es) (take-take head' head entries fewer)
    (All-take (Owes entries clause watch) head' (take head entries) guarded)

-- ---- (c) One more entry

pub IsGuarded-push : (head : ℕ) (entries : List Assigned) (entry : Assigned) (clause : List ℕ) (watch : ℕ) → head ≤ length entries → IsGuarded entries head clause watch → IsGuarded (entries ++ entry ∷ []) head clause watch
IsGuarded-push head entries entry clause watch within guarded =
    subst (λ (es : List Assigned). All (Owes (entries ++ entry ∷ []) clause watch) es) (sym (take-append-le head entries (entry ∷ []) within))
    (λ k d short same. more (get_or (take head entries) k d).level (guarded k d short same))
  where
    more : (level : ℕ) → HasTrue (true_in (up_to level entries)) clause → HasTrue (true_in (up_to level (entries ++ entry ∷ []))) clause
    more level has =
        subst (λ (es : List Assigned). HasTrue (true_in es) clause) (sym (filter-append (λ e. nat_le e.level level) entries (entry ∷ [])))
        (HasTrue-more (true_in (up_to level entries)) (true_in (up_to level entries ++ up_to level (entry ∷ []))) clause (true_in-append_left (up_to level entries) (up_to level (entry ∷ []))) has)

pub IsWatched-push : (head : ℕ) (entries : List Assigned) (entry : Assigned) (clause : List ℕ) (one two : ℕ) → head ≤ length entries → IsWatched entries head clause one two → IsWatched (entries ++ entry ∷ []) head clause one two
IsWatched-push head entries entry clause one two within w = record {
  holds_one = w.holds_one;
  holds_two = w.holds_two;
  differ = w.differ;
  guards_one = IsGuarded-push head entries entry clause one within w.guards_one;
  guards_two = IsGuarded-push head entries entry clause two within w.guards_two;
}

-- ---- (d) The entry at the head of the queue

-- a literal that is not false owes nothing
pub IsGuarded-open : (head : ℕ) (entries : List Assigned) (clause : List ℕ) (watch : ℕ) → true_in entries (negation watch) ≡ false → IsGuarded entries head clause watch
IsGuarded-open head entries clause watch is_open =
    All-take (Owes entries clause watch) head entries
    (λ k d within same. absurd (both_ways (true_in entries (negation watch)) is_open
    (list_any_at (λ e. e.lit == negation watch) entries k d within (eq-eqb (get_or entries k d).lit (negation watch) same))))

-- an entry that does not make the watched literal false asks for nothing
pub IsGuarded-other : (head : ℕ) (entries : List Assigned) (d : Assigned) (clause : List ℕ) (watch : ℕ) → head < length entries → ((get_or entries head d).lit ≡ negation watch → ⊥) → IsGuarded entries head clause watch → IsGuarded entries (head + 1) clause watch
IsGuarded-other head entries d clause watch within ne guarded = All-more (Owes entries clause watch) entries head d within guarded (λ same. absurd (ne same))

-- an entry of the current_level level, where some literal is true
pub IsGuarded-satisfied : (head : ℕ) (entries : List Assigned) (d : Assigned) (clause : List ℕ) (watch : ℕ) → head < length entries → All (λ e. e.level ≤ (get_or entries head d).level) entries → HasTrue (true_in entries) clause → IsGuarded entries head clause watch → IsGuarded entries (head + 1) clause watch
IsGuarded-satisfied head entries d clause watch within current_level has guarded =
    All-more (Owes entries clause watch) entries head d within guarded
    (λ same. subst (λ (es : List Assigned). HasTrue (true_in es) clause) (sym (up_to-all (get_or entries head d).level entries current_level)) has)
