-- Rows round by round, as a loop reads them.
use Rattle.std.proofs.Common.{◌≡◌, ℕ, zero, suc, ◌≤◌, Bool, true, false, ◌||◌, ◌&&◌, not, List, [], ◌∷◌, length, fold, refl, sym, ◌∙◌, ap, arith, cond}
use Rattle.smv_expr.specs.declared.kind.Kind.{Kind}
use Rattle.smv_expr.specs.Language.{Tokens, begins}
use Rattle.smv_expr.specs.Reading.{Outcome, Reader, and_then, read_unless, read_until_to, read_until, read_row, read_more_to, read_more, read_rounds, read_fold}
use Rattle.smv_expr.specs.ExprGrammar.{never_ends}
use Rattle.smv_expr.specs.Reading.Outcome.{Read, Stop}
use Rattle.smv_expr.proofs.Rounds.{Consumes, then_same, cond_same, regathered, then_then, cond_then}

module _ {A B : Type 0} (set : List Kind) (ended : B → Bool) (p : B → Reader A) (step : B → A → B) where
  -- nothing is added to a value that ends its row, nor where none of `set` comes
  row_ended : (n : ℕ) (b : B) (ts : Tokens) → ended b ≡ true → read_more_to n set ended p step b ts ≡ Read b ts
  row_ended zero b ts e = refl
  row_ended (suc n) b ts e = ap (λ v. cond v (Read b ts) (cond (begins set ts) (and_then (p b ts) (λ a remaining. read_more_to n set ended p step (step b a) remaining)) (Read b ts))) e

  to_round : (n : ℕ) (b : B) (ts : Tokens) → ended b ≡ false → read_more_to (suc n) set ended p step b ts ≡ cond (begins set ts) (and_then (p b ts) (λ a remaining. read_more_to n set ended p step (step b a) remaining)) (Read b ts)
  to_round n b ts e = ap (λ v. cond v (Read b ts) (cond (begins set ts) (and_then (p b ts) (λ a remaining. read_more_to n set ended p step (step b a) remaining)) (Read b ts))) e

  none_comes : (n : ℕ) (b : B) (ts : Tokens) → ended b ≡ false → begins set ts ≡ false → read_more_to n set ended p step b ts ≡ Read b ts
  none_comes zero b ts e h = refl
  none_comes (suc n) b ts e h = to_round n b ts e ∙ ap (λ v. cond v (and_then (p b ts) (λ a remaining. read_more_to n set ended p step (step b a) remaining)) (Read b ts)) h

  pub more_ended : (b : B) (ts : Tokens) → ended b ≡ true → read_more set ended p step b ts ≡ Read b ts
  unfolding read_more
  more_ended b ts e = row_ended (length ts) b ts e

  pub more_end : (b : B) (ts : Tokens) → ended b ≡ false → begins set ts ≡ false → read_more set ended p step b ts ≡ Read b ts
  unfolding read_more
  more_end b ts e h = none_comes (length ts) b ts e h

  module _ (c : (b : B) → Consumes (p b)) where
    -- with a round for each token there are enough
    enough : (n n' : ℕ) (b : B) (ts : Tokens) → length ts ≤ n → length ts ≤ n' → read_more_to n set ended p step b ts ≡ read_more_to n' set ended p step b ts
    enough zero zero b ts h h' = refl
    enough zero (suc n') b [] h h' = sym (either_end (ended b) b)
      where
        either_end : (v : Bool) (b : B) → cond v (Read b []) (Read b []) ≡ Read b []
        either_end true b = refl
        either_end false b = refl
    enough zero (suc n') b (t ∷ ts) h h' = absurd (omega (arith, h))
    enough (suc n) zero b [] h h' = either_end (ended b) b
      where
        either_end : (v : Bool) (b : B) → cond v (Read b []) (Read b []) ≡ Read b []
        either_end true b = refl
        either_end false b = refl
    enough (suc n) zero b (t ∷ ts) h h' = absurd (omega (arith, h'))
    enough (suc n) (suc n') b ts h h' = ap (λ (o : Outcome B). cond (ended b) (Read b ts) o) (cond_same (begins set ts) _ _ (Read b ts)
        (then_same (p b ts) _ _ (λ a remaining e. let less = (c b).less ts a remaining e in enough n n' (step b a) remaining (omega (arith, less, h)) (omega (arith, less, h')))))

    unrolled : (n : ℕ) (b : B) (ts : Tokens) → n ≡ length ts → ended b ≡ false → begins set ts ≡ true → read_more_to n set ended p step b ts ≡ and_then (p b ts) (λ a remaining. read_more_to (length remaining) set ended p step (step b a) remaining)
    unrolled zero b [] e v h = cc
    unrolled zero b (t ∷ ts) e v h = absurd (omega (arith, e))
    unrolled (suc n) b ts e v h = to_round n b ts v ∙ ap (λ x. cond x (and_then (p b ts) (λ a remaining. read_more_to n set ended p step (step b a) remaining)) (Read b ts)) h
        ∙ then_same (p b ts) _ _ (λ a remaining r. let less = (c b).less ts a remaining r in enough n (length remaining) (step b a) remaining (omega (arith, less, e)) (omega arith))

    -- a round, and then the others
    pub next_round : (b : B) (ts : Tokens) → ended b ≡ false → begins set ts ≡ true → read_more set ended p step b ts ≡ and_then (p b ts) (λ a remaining. read_more set ended p step (step b a) remaining)
    unfolding read_more
    next_round b ts v h = unrolled (length ts) b ts refl v h

-- ---- what a loop tests: that no value ends the row, and that one of `set` comes

both_parts : (v w : Bool) → not v && w ≡ true → (v ≡ false) × (w ≡ true)
both_parts true w e = cc
both_parts false w e = (refl, e)

module _ {A B : Type 0} (set : List Kind) (ended : B → Bool) (p : B → Reader A) (step : B → A → B) where
  pub follow_items : ((b : B) → Consumes (p b)) → (b : B) (ts : Tokens) → not (ended b) && begins set ts ≡ true → read_more set ended p step b ts ≡ and_then (p b ts) (λ a remaining. read_more set ended p step (step b a) remaining)
  follow_items c b ts e = let both = both_parts (ended b) (begins set ts) e in next_round set ended p step c b ts both.0 both.1

  pub more_stops : (b : B) (ts : Tokens) → not (ended b) && begins set ts ≡ false → read_more set ended p step b ts ≡ Read b ts
  more_stops b ts e = by_end (ended b) refl e where
    by_end : (v : Bool) → ended b ≡ v → not v && begins set ts ≡ false → read_more set ended p step b ts ≡ Read b ts
    by_end true h e = more_ended set ended p step b ts h
    by_end false h e = more_end set ended p step b ts h e

-- ---- a row that no value ends goes on as long as one of `set` comes

never_ended_to : {A B : Type 0} (n : ℕ) (set : List Kind) (q : Reader A) (step : B → A → B) (b : B) (ts : Tokens) → read_more_to n set never_ends (λ x. q) step b ts ≡ read_rounds n set q step b ts
never_ended_to zero set q step b ts = refl
never_ended_to (suc n) set q step b ts = cond_same (begins set ts) _ _ (Read b ts) (then_same (q ts) _ _ (λ a remaining e. never_ended_to n set q step (step b a) remaining))

pub never_ended : {A B : Type 0} (set : List Kind) (q : Reader A) (step : B → A → B) (b : B) (ts : Tokens) → read_more set never_ends (λ x. q) step b ts ≡ read_fold set q step b ts
unfolding read_more read_fold
never_ended set q step b ts = never_ended_to (length ts) set q step b ts

-- ---- a row by its rounds

module _ {A B : Type 0} (set : List Kind) (ended : B → Bool) (ends : A → Bool) (step : B → A → B) (q : Reader A) (step_ends : (b : B) (a : A) → ended (step b a) ≡ ended b || ends a) where
  by_all_rounds : (n : ℕ) (v : Bool) (b : B) (ts : Tokens) → ended b ≡ v → read_more_to n set ended (λ x. q) step b ts ≡ and_then (read_unless v (read_until_to n set ends q) ts) (λ found remaining. Read (fold step b found) remaining)
  by_all_rounds zero true b ts e = refl
  by_all_rounds zero false b ts e = refl
  by_all_rounds (suc n) true b ts e = row_ended set ended (λ x. q) step (suc n) b ts e
  by_all_rounds (suc n) false b ts e = to_round set ended (λ x. q) step n b ts e
      ∙ cond_same (begins set ts) _ _ (Read b ts)
      (then_same (q ts) _ (λ a remaining. and_then {A = List A} (and_then {A = A × List A} (and_then {B = A × List A} (read_unless (ends a) (read_until_to n set ends q) remaining) (λ found remaining. Read (a, found) remaining)) (λ v remaining. Read (v.0 ∷ v.1) remaining)) (λ found remaining. Read (fold step b found) remaining))
      (λ a remaining r. by_all_rounds n (ends a) (step b a) remaining (step_ends b a ∙ ap (λ v. v || ends a) e) ∙ regathered step b a (read_unless (ends a) (read_until_to n set ends q) remaining))
      ∙ sym (then_then (q ts) _ _) ∙ ap (λ o. and_then o (λ found remaining. Read (fold step b found) remaining)) (sym (then_then (q ts) _ _)))
      ∙ sym (cond_then (begins set ts) _ (Read [] ts) (λ found remaining. Read (fold step b found) remaining))

  joined_by : (b : B) (o : Outcome (List A))
      → and_then {A = B × List A} (and_then {B = B × List A} o (λ found remaining. Read (b, found) remaining)) (λ v remaining. Read (fold step v.0 v.1) remaining) ≡ and_then o (λ found remaining. Read (fold step b found) remaining)
  joined_by b (Read found remaining) = refl
  joined_by b (Stop cause remaining) = refl

  from_first : (o : Outcome B)
      → and_then {A = B × List A} (and_then {B = B × List A} o (λ b remaining. and_then {B = B × List A} (read_unless (ended b) (read_until set ends q) remaining) (λ found remaining'. Read (b, found) remaining'))) (λ v remaining. Read (fold step v.0 v.1) remaining)
      ≡ and_then o (λ b remaining. read_more set ended (λ x. q) step b remaining)
  unfolding read_more
  from_first (Read b remaining) = joined_by b (read_unless (ended b) (read_until set ends q) remaining) ∙ sym (by_all_rounds (length remaining) (ended b) b remaining refl)
  from_first (Stop cause remaining) = refl

  pub row_rounds : (p : Reader B) (ts : Tokens) → read_row set ended ends step p q ts ≡ and_then (p ts) (λ b remaining. read_more set ended (λ x. q) step b remaining)
  row_rounds p ts = from_first (p ts)
