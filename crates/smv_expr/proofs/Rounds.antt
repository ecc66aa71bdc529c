-- Loops: their rounds one by one, and gathered into a list.
use Rattle.std.proofs.Common.{◌≡◌, ℕ, zero, suc, ◌-◌, ◌≤◌, ◌<◌, Bool, true, false, List, [], ◌∷◌, ◌++◌, length, fold, refl, sym, ◌∙◌, ap, subst, arith, append_assoc, append-nil, length-append, cond}
use Rattle.smv_expr.specs.declared.kind.Kind.{Kind}
use Rattle.smv_expr.specs.Language.{Tokens, begins}
use Rattle.smv_expr.specs.Reading.{Outcome, Reader, and_then, read_rounds, read_fold, pushed}
use Rattle.smv_expr.specs.Reading.Outcome.{Read, Stop}
use Rattle.smv_expr.proofs.Rules.{Good, Took, Rule, Starts, read_list_to, read_list}

-- ---- a round takes a token at least

pub record Consumes {A : Type 0} (p : Reader A) : Type 0 where
  pub less : (ts : Tokens) (a : A) (remaining : Tokens) → p ts ≡ Read a remaining → length remaining < length ts

not_empty : (set : List Kind) (ts prefix remaining : Tokens) → ts ≡ prefix ++ remaining → begins set prefix ≡ true → length remaining < length ts
not_empty set ts [] remaining s h = cc
not_empty set ts (t ∷ prefix) remaining s h = omega (arith, length-append prefix remaining, ap length s)

pub consumes : {A : Type 0} {limit : ℕ} {L : ℕ → A → Tokens → Type 0} {follow : A → List Kind} {p : Reader A} {set : List Kind} → Rule limit L follow p → Starts set L → Consumes p
consumes {A = A} {limit = limit} {L = L} {follow = follow} {p = p} {set = set} rule starts = record { less = less } where
  took : (ts : Tokens) (a : A) (remaining : Tokens) → Took limit L follow ts a remaining → length remaining < length ts
  took ts a remaining w = not_empty set ts w.prefix remaining w.split (starts.at limit a w.prefix w.reads)

  less : (ts : Tokens) (a : A) (remaining : Tokens) → p ts ≡ Read a remaining → length remaining < length ts
  less ts a remaining e = took ts a remaining (subst (λ (o : Outcome A). Good limit L follow ts o) e (rule.good ts))

-- ---- rounds one by one

pub then_same : {A B : Type 0} (o : Outcome A) (f f' : A → Tokens → Outcome B) → ((a : A) (remaining : Tokens) → o ≡ Read a remaining → f a remaining ≡ f' a remaining) → and_then o f ≡ and_then o f'
then_same (Read a remaining) f f' e = e a remaining refl
then_same (Stop cause remaining) f f' e = refl

pub cond_same : {A : Type 0} (v : Bool) (x x' y : A) → x ≡ x' → cond v x y ≡ cond v x' y
cond_same v x x' y e = ap (λ z. cond v z y) e

module _ {A B : Type 0} (set : List Kind) (p : Reader A) (step : B → A → B) (c : Consumes p) where
  -- with a round for each token there are enough
  enough : (n n' : ℕ) (b : B) (ts : Tokens) → length ts ≤ n → length ts ≤ n' → read_rounds n set p step b ts ≡ read_rounds n' set p step b ts
  enough zero zero b ts h h' = refl
  enough zero (suc n') b [] h h' = refl
  enough zero (suc n') b (t ∷ ts) h h' = absurd (omega arith)
  enough (suc n) zero b [] h h' = refl
  enough (suc n) zero b (t ∷ ts) h h' = absurd (omega arith)
  enough (suc n) (suc n') b ts h h' = cond_same (begins set ts) _ _ (Read b ts)
      (then_same (p ts) _ _ (λ a remaining e. let less = c.less ts a remaining e in enough n n' (step b a) remaining (omega (arith, less)) (omega (arith, less))))

  unrolled : (n : ℕ) (b : B) (ts : Tokens) → n ≡ length ts → begins set ts ≡ true → read_rounds n set p step b ts ≡ and_then (p ts) (λ a remaining. read_rounds (length remaining) set p step (step b a) remaining)
  unrolled zero b [] e h = cc
  unrolled zero b (t ∷ ts) e h = absurd (omega arith)
  unrolled (suc n) b ts e h = ap (λ v. cond v (and_then (p ts) (λ a remaining. read_rounds n set p step (step b a) remaining)) (Read b ts)) h
      ∙ then_same (p ts) _ _ (λ a remaining r. let less = c.less ts a remaining r in enough n (length remaining) (step b a) remaining (omega (arith, less)) (omega arith))

  -- a round, and then the others
  pub one_round : (b : B) (ts : Tokens) → begins set ts ≡ true → read_fold set p step b ts ≡ and_then (p ts) (λ a remaining. read_fold set p step (step b a) remaining)
  unfolding read_fold
  one_round b ts h = unrolled (length ts) b ts refl h

ends_at : {A B : Type 0} (n : ℕ) (set : List Kind) (p : Reader A) (step : B → A → B) (b : B) (ts : Tokens) → begins set ts ≡ false → read_rounds n set p step b ts ≡ Read b ts
ends_at zero set p step b ts h = refl
ends_at (suc n) set p step b ts h = ap (λ v. cond v (and_then (p ts) (λ a remaining. read_rounds n set p step (step b a) remaining)) (Read b ts)) h

-- no round is left
pub rounds_end : {A B : Type 0} (set : List Kind) (p : Reader A) (step : B → A → B) (b : B) (ts : Tokens) → begins set ts ≡ false → read_fold set p step b ts ≡ Read b ts
unfolding read_fold
rounds_end set p step b ts h = ends_at (length ts) set p step b ts h

-- ---- rounds as a list

-- the list of the rounds, folded
gathered : {A B : Type 0} (step : B → A → B) (b : B) → Outcome (List A) → Outcome B
gathered step b o = and_then o (λ found remaining. Read (fold step b found) remaining)

pub regathered : {A B : Type 0} (step : B → A → B) (b : B) (a : A) (o : Outcome (List A))
    → and_then o (λ found remaining. Read (fold step (step b a) found) remaining)
    ≡ and_then {A = List A} (and_then {A = A × List A} (and_then {B = A × List A} o (λ found remaining. Read (a, found) remaining)) (λ v remaining. Read (v.0 ∷ v.1) remaining)) (λ found remaining. Read (fold step b found) remaining)
regathered step b a (Read found remaining) = refl
regathered step b a (Stop cause remaining) = refl

pub then_then : {A B C : Type 0} (o : Outcome A) (f : A → Tokens → Outcome B) (f' : B → Tokens → Outcome C) → and_then (and_then o f) f' ≡ and_then o (λ a remaining. and_then (f a remaining) f')
then_then (Read a remaining) f f' = refl
then_then (Stop cause remaining) f f' = refl

pub cond_then : {A B : Type 0} (v : Bool) (x y : Outcome A) (f : A → Tokens → Outcome B) → and_then (cond v x y) f ≡ cond v (and_then x f) (and_then y f)
cond_then true x y f = refl
cond_then false x y f = refl

rounds_gather : {A B : Type 0} (n : ℕ) (set : List Kind) (p : Reader A) (step : B → A → B) (b : B) (ts : Tokens)
    → read_rounds n set p step b ts ≡ and_then (read_list_to n set p ts) (λ found remaining. Read (fold step b found) remaining)
rounds_gather zero set p step b ts = refl
rounds_gather {A = A} (suc n) set p step b ts =
    cond_same (begins set ts) _ _ (Read b ts)
    (then_same (p ts) _ (λ a remaining. and_then {A = List A} (and_then {A = A × List A} (and_then {B = A × List A} (read_list_to n set p remaining) (λ found remaining. Read (a, found) remaining)) (λ v remaining. Read (v.0 ∷ v.1) remaining)) (λ found remaining. Read (fold step b found) remaining))
    (λ a remaining e. rounds_gather n set p step (step b a) remaining ∙ regathered step b a (read_list_to n set p remaining))
    ∙ sym (then_then (p ts) _ _) ∙ ap (λ o. and_then o (λ found remaining. Read (fold step b found) remaining)) (sym (then_then (p ts) _ _)))
    ∙ sym (cond_then (begins set ts) _ (Read [] ts) (λ found remaining. Read (fold step b found) remaining))

pub fold_gathers : {A B : Type 0} (set : List Kind) (p : Reader A) (step : B → A → B) (b : B) (ts : Tokens)
    → read_fold set p step b ts ≡ and_then (read_list set p ts) (λ found remaining. Read (fold step b found) remaining)
unfolding read_fold
fold_gathers set p step b ts = rounds_gather (length ts) set p step b ts

fold_pushed : {A : Type 0} (b found : List A) → fold pushed b found ≡ b ++ found
fold_pushed b [] = sym (append-nil b)
fold_pushed b (a ∷ found) = fold_pushed (b ++ a ∷ []) found ∙ append_assoc b (a ∷ []) found

same_list : {A : Type 0} (o : Outcome (List A)) → and_then o (λ found remaining. Read (fold pushed [] found) remaining) ≡ o
same_list (Read found remaining) = ap (λ x. Read x remaining) (fold_pushed [] found)
same_list (Stop cause remaining) = refl

-- a loop that keeps what it reads
pub many_gathers : {A : Type 0} (set : List Kind) (p : Reader A) (ts : Tokens) → read_fold set p pushed [] ts ≡ read_list set p ts
many_gathers set p ts = fold_gathers set p pushed [] ts ∙ same_list (read_list set p ts)

chained_in : {A B : Type 0} (step : B → A → B) (b : B) (o : Outcome (List A))
    → and_then {A = B × List A} (and_then {B = B × List A} o (λ found remaining. Read (b, found) remaining)) (λ v remaining. Read (fold step v.0 v.1) remaining) ≡ and_then o (λ found remaining. Read (fold step b found) remaining)
chained_in step b (Read found remaining) = refl
chained_in step b (Stop cause remaining) = refl

-- a first value, and then what the rounds add to it
pub chained : {A B : Type 0} (o : Outcome B) (set : List Kind) (q : Reader A) (step : B → A → B)
    → and_then {A = B × List A} (and_then {B = B × List A} o (λ b remaining. and_then {B = B × List A} (read_list set q remaining) (λ found remaining'. Read (b, found) remaining'))) (λ v remaining. Read (fold step v.0 v.1) remaining)
    ≡ and_then o (λ b remaining. read_fold set q step b remaining)
chained (Read b remaining) set q step = chained_in step b (read_list set q remaining) ∙ sym (fold_gathers set q step b remaining)
chained (Stop cause remaining) set q step = refl

-- ---- recursion on a number of the code

pub deeper : {A : Type 0} (P : ℕ → A) (depth : ℕ) → 0 < depth → P depth ≡ P (suc (depth - 1))
deeper P depth h = let same : depth ≡ suc (depth - 1) = omega arith in ap P same
