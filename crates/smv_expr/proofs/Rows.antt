-- Rows that an item may end: a first value and any number of items after it, of which only the last may be one
-- that ends the row.
use Rattle.std.proofs.Common.{◌≡◌, ℕ, zero, suc, ◌+◌, ◌≤◌, Bool, true, false, ◌||◌, List, [], ◌∷◌, ◌++◌, length, fold, refl, sym, ◌∙◌, ap, subst, arith, length-append, inl, inr, cond}
use Rattle.smv_expr.specs.declared.kind.Kind.{Kind}
use Rattle.smv_expr.specs.Language.{Tokens, dep, by_test, until, row, either, mapped, nothing, begins}
use Rattle.smv_expr.specs.Reading.{Outcome, Reader, read_unless, read_until_to, read_until, read_row}
use Rattle.smv_expr.specs.Reading.Outcome.{Read}
use Rattle.smv_expr.proofs.Rules as rules
use Rattle.smv_expr.proofs.Rules.{Good, IsLang, Rule, Starts, Leaves, GoesWithin, begins-append}
use Rattle.smv_expr.proofs.Sets.{within, disjoint, begins_apart, begins_not_within}
use Rattle.smv_expr.proofs.Inside.{until_inside}

-- With which kinds a value would go on: those of `full` where it ended its row, else those of `follow_open`.
abbrev pub follow_by : Bool → List Kind → List Kind → List Kind
follow_by ended full follow_open = cond ended full follow_open

-- whether an item of the list ends the row
abbrev pub ends_in : {A : Type 0} → (A → Bool) → List A → Bool
ends_in ends [] = false
ends_in ends (a ∷ more) = ends a || ends_in ends more

module _ {A : Type 0} (limit : ℕ) (L : ℕ → A → Tokens → Type 0) (l : IsLang L) (ends : A → Bool) (set full follow_open : List Kind) (starts : Starts set L) (set_in : within set follow_open ≡ true) where
  -- what follows a value or an item
  abbrev MoreItems : Bool → ℕ → List A → Tokens → Type 0
  MoreItems ended m b ts = by_test ended (nothing [] b ts) (until ends (L m) b ts)

  abbrev follow_more : Bool → List A → List Kind
  follow_more ended b = follow_by (ended || ends_in ends b) full follow_open

  until_lang : IsLang (λ m. until ends (L m))
  until_lang = record { up = λ m n b ts h. (until_inside {L = L m} {L' = L (m + n)} ends (record { at = l.up m n })).at b ts h; depth = 0; shallow = omega arith; value = []; text = []; reads = refl }

  more_lang : (ended : Bool) → IsLang (MoreItems ended)
  more_lang true = rules.nothing_lang []
  more_lang false = until_lang

  module _ (inner : List Kind) (inner_in : within inner follow_open ≡ true) (apart : disjoint set inner ≡ true) where
    more_leaves : (m : ℕ) (b : List A) (f r : Tokens) → until ends (L m) b f → begins (follow_more false b) r ≡ false → begins inner (f ++ r) ≡ false
    more_leaves m [] f r h z = subst (λ (x : Tokens). begins inner (x ++ r) ≡ false) (sym h) (begins_not_within inner follow_open inner_in r z)
    more_leaves m (x ∷ more) f r h z = begins_apart set inner apart (f ++ r) (begins-append set f r (subst (λ (y : Tokens). begins set y ≡ true) (sym h.2) (begins-append set h.0 h.1 (starts.at m x h.0 h.3))))

    more_leave : (ended : Bool) → Leaves (follow_by ended full inner) (follow_more ended) (MoreItems ended)
    more_leave true = record { at = λ m b f r h z. subst (λ (x : Tokens). begins full (x ++ r) ≡ false) (sym h.1) z }
    more_leave false = record { at = more_leaves }

  -- the items after the first value, from the rule of the row at the remaining tokens
  more_good : (ended : Bool) (q : Reader (List A)) (ts : Tokens) → Good limit (λ m. until ends (L m)) (follow_more false) ts (q ts) → Good limit (MoreItems ended) (follow_more ended) ts (read_unless ended q ts)
  more_good true q ts w = rules.nothing_good limit (follow_more true) [] ts
  more_good false q ts w = w

  module _ (inner : List Kind) (inner_in : within inner follow_open ≡ true) (apart : disjoint set inner ≡ true) (p : Reader A) (good : (ts : Tokens) → Good limit L (λ a. follow_by (ends a) full inner) ts (p ts)) where
    abbrev Item : ℕ → List A → Tokens → Type 0
    Item m = mapped (λ v. v.0 ∷ v.1) (dep (L m) (λ a. MoreItems (ends a) m))

    abbrev OneRound : ℕ → List A → Tokens → Type 0
    OneRound m = either (Item m) (nothing [])

    to_round : (m : ℕ) (b : List A) (ts : Tokens) → until ends (L m) b ts → OneRound m b ts
    to_round m [] ts h = inr (refl, h)
    to_round m (a ∷ more) ts h = inl ((a, more), record { prefix = h.0; suffix = h.1; split = h.2; first = h.3; second = h.4 }, refl)

    from_round : (m : ℕ) (b : List A) (ts : Tokens) → OneRound m b ts → until ends (L m) b ts
    from_round m b ts (inl h) = subst (λ (x : List A). until ends (L m) x ts) h.2 (h.1.prefix, h.1.suffix, h.1.split, h.1.first, h.1.second)
    from_round m b ts (inr h) = subst (λ (x : List A). until ends (L m) x ts) (sym h.0) h.1

    fewer : (n : ℕ) (ts prefix remaining : Tokens) → ts ≡ prefix ++ remaining → begins set prefix ≡ true → length ts ≤ suc n → length remaining ≤ n
    fewer n ts [] remaining s b h = cc
    fewer n ts (t ∷ prefix) remaining s b h = omega (arith, length-append prefix remaining, ap length s, h)

    unchanged : GoesWithin {A = List A} {B = List A} (λ b. b) (follow_more false) (follow_more false)
    unchanged = record { at = λ b r z. z }

    starts_item : Starts set Item
    starts_item = record { at = λ m b f h. subst (λ (x : Tokens). begins set x ≡ true) (sym h.1.split) (begins-append set h.1.prefix h.1.suffix (starts.at m h.0.0 h.1.prefix h.1.first)) }

    none_leaves : (m : ℕ) (b : List A) (f r : Tokens) → nothing [] b f → begins (follow_more false b) r ≡ false → begins set (f ++ r) ≡ false
    none_leaves m b f r h z = subst (λ (x : Tokens). begins set (x ++ r) ≡ false) (sym h.1) (begins_not_within set follow_open set_in r (subst (λ (x : List A). begins (follow_more false x) r ≡ false) h.0 z))

    -- the two cases of a round
    by_first_round : (ts : Tokens) (o : Outcome (List A)) → (begins set ts ≡ true → Good limit Item (follow_more false) ts o) → Good limit (λ m. until ends (L m)) (follow_more false) ts (cond (begins set ts) o (Read [] ts))
    by_first_round ts o f = rules.same_good limit OneRound (λ m. until ends (L m)) from_round to_round (follow_more false) ts _
        (rules.choose limit Item (λ m. nothing []) set (follow_more false) (follow_more false) (follow_more false) unchanged unchanged starts_item (record { at = none_leaves })
        ts (begins set ts) o (Read [] ts) refl f (λ e. rules.nothing_good limit (follow_more false) [] ts))

    until_to_good : (n : ℕ) (ts : Tokens) → length ts ≤ n → Good limit (λ m. until ends (L m)) (follow_more false) ts (read_until_to n set ends p ts)
    until_to_good zero [] h = rules.same_good limit OneRound (λ m. until ends (L m)) from_round to_round (follow_more false) [] (Read [] [])
        (rules.choose limit Item (λ m. nothing []) set (follow_more false) (follow_more false) (follow_more false) unchanged unchanged starts_item (record { at = none_leaves })
        [] false (Read [] []) (Read [] []) refl (λ e. cc) (λ e. rules.nothing_good limit (follow_more false) [] []))
    until_to_good zero (t ∷ ts) h = absurd (omega (arith, h))
    until_to_good (suc n) ts h = by_first_round ts _ (λ e. rules.mapped_good limit (λ v. v.0 ∷ v.1) (λ m. dep (L m) (λ a. MoreItems (ends a) m)) (λ v. follow_more (ends v.0) v.1) (follow_more false) (record { at = λ v r z. z }) ts _
        (rules.first limit L (λ a. MoreItems (ends a)) (λ a. follow_by (ends a) full inner) (λ a. follow_more (ends a)) (λ a. read_unless (ends a) (read_until_to n set ends p)) l (λ a. more_lang (ends a)) (λ a. more_leave inner inner_in apart (ends a)) ts (p ts) (good ts)
        (λ a remaining w. more_good (ends a) (read_until_to n set ends p) remaining (until_to_good n remaining (fewer n ts w.prefix remaining w.split (starts.at limit a w.prefix w.reads) h)))))

    pub until_good : (ts : Tokens) → Good limit (λ m. until ends (L m)) (follow_more false) ts (read_until set ends p ts)
    until_good ts = until_to_good (length ts) ts (omega arith)

-- ---- a first value, and then the items

or_or : (a b c : Bool) → (a || b) || c ≡ a || (b || c)
or_or true b c = refl
or_or false b c = refl

or_none : (a : Bool) → a ≡ a || false
or_none true = refl
or_none false = refl

module _ {A B : Type 0} (ended : B → Bool) (ends : A → Bool) (step : B → A → B) (step_ends : (b : B) (a : A) → ended (step b a) ≡ ended b || ends a) where
  -- a row is ended where its first value or one of its items ends it
  row_ends : (b : B) (more : List A) → ended (fold step b more) ≡ ended b || ends_in ends more
  row_ends b [] = or_none (ended b)
  row_ends b (a ∷ more) = row_ends (step b a) more ∙ ap (λ v. v || ends_in ends more) (step_ends b a) ∙ or_or (ended b) (ends a) (ends_in ends more)

  -- `set` are the kinds with which an item begins, `inner` those with which the first value goes on, and `inner'`
  -- those with which an item goes on, where they do not end the row
  pub row_rule : {limit : ℕ} {L : ℕ → B → Tokens → Type 0} {M : ℕ → A → Tokens → Type 0} {p : Reader B} {q : Reader A} (set full inner inner' follow_open : List Kind)
      → Rule limit L (λ b. follow_by (ended b) full inner) p → Rule limit M (λ a. follow_by (ends a) full inner') q → Starts set M
      → within set follow_open ≡ true → within inner follow_open ≡ true → within inner' follow_open ≡ true → disjoint set inner ≡ true → disjoint set inner' ≡ true
      → Rule limit (λ m. row ended ends step (L m) (M m)) (λ b. follow_by (ended b) full follow_open) (read_row set ended ends step p q)
  row_rule {limit = limit} {L = L} {M = M} {p = p} {q = q} set full inner inner' follow_open one other starts sw iw iw' d d' = record {
    lang = rules.mapped_lang limit _ (rules.Dep limit L (λ b. MoreItems limit M other.lang ends set full follow_open starts sw (ended b))) (rules.dep_lang limit L (λ b. MoreItems limit M other.lang ends set full follow_open starts sw (ended b)) one.lang (λ b. more_lang limit M other.lang ends set full follow_open starts sw (ended b)));
    good = λ ts. rules.mapped_good limit (λ v. fold step v.0 v.1) (λ m. dep (L m) (λ b more remaining. by_test (ended b) (nothing [] more remaining) (until ends (M m) more remaining))) (λ v. follow_by (ended v.0 || ends_in ends v.1) full follow_open) (λ b. follow_by (ended b) full follow_open)
        (record { at = λ v r z. subst (λ (x : Bool). begins (follow_by x full follow_open) r ≡ false) (row_ends v.0 v.1) z }) ts _
        (rules.dep_good limit L (λ b. MoreItems limit M other.lang ends set full follow_open starts sw (ended b)) (λ b. follow_by (ended b) full inner) (λ b more. follow_by (ended b || ends_in ends more) full follow_open) (λ b. read_unless (ended b) (read_until set ends q))
        one.lang (λ b. more_lang limit M other.lang ends set full follow_open starts sw (ended b)) (λ b. more_leave limit M other.lang ends set full follow_open starts sw inner iw d (ended b)) p
        (λ b remaining. more_good limit M other.lang ends set full follow_open starts sw (ended b) (read_until set ends q) remaining (until_good limit M other.lang ends set full follow_open starts sw inner' iw' d' q other.good remaining)) one.good ts);
  }
