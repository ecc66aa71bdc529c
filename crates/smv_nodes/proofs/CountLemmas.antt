-- The count of nodes, one expression at a time, from the items to all shared nodes that they reach.
use Rattle.std.proofs.Common.{◌≡◌, ℕ, zero, suc, ◌+◌, Bool, true, false, ◌||◌, if◌then◌else◌, nat_eq, List, [], ◌∷◌, ◌++◌, take, fold, Some, None, refl, sym, ap, ◌∙◌, subst, arith, append_assoc, inl, inr, Decides}
use Rattle.std.specs.Prelude.{slice_get}
use Rattle.std.specs.List.{flat_map, list_any, Contains, IsDistinct}
use Rattle.std.specs.Option.{option_to_list}
use Rattle.std.proofs.lemmas.Map.Made.{AllPairs-from_IsDistinct}
use Rattle.std.proofs.lemmas.List.{append-nil}
use Rattle.std.proofs.lemmas.Bool.{eqb-true, eq-eqb, and_parts, and_from, or_cases, or_left, or_right}
use Rattle.std.proofs.lemmas.List.Folds.{list_any-append}
use Rattle.std.proofs.Math.Bool.{or_assoc, or-false, or-true}
use Rattle.std.specs.Cmp.{booleans_Decides}
use Rattle.indexmap.proofs.CallerLemmas.{Contains-list_any}
use mathlib.Core.Bool.{beq}
use Rattle.indexmap.specs.IndexSet.{insert_key}
use Rattle.smv_nodes.specs.Own.{saturating_add}
use Rattle.smv_nodes.specs.Mentions.{reads_of}
use Rattle.smv_nodes.proofs.OwnLemmas.{saturating_add_assoc, saturating_add_more, saturating_add_less}
use Rattle.smv_nodes.specs.Count.{Lookup, ReadExpr, Shared, shared_expr, shared_in, content_reads, names_nodes, own_nodes, expr_nodes, exprs_nodes, ReachedIn, IsReached, exprs_of_shared, IsCount}
use Rattle.smv_nodes.specs.CountBySlot.{same}

-- ---- sums

module _ {P S : Type 0} (lookup : Lookup P S) where
  -- a sum is saturated already
  pub exprs_whole : (read_exprs : List (ReadExpr P)) → saturating_add 0 (exprs_nodes lookup read_exprs) ≡ exprs_nodes lookup read_exprs
  exprs_whole [] = refl
  exprs_whole (p ∷ more) = saturating_add_less (expr_nodes lookup p) (exprs_nodes lookup more)

  pub one_read_expr : (p : ReadExpr P) → exprs_nodes lookup (p ∷ []) ≡ expr_nodes lookup p
  one_read_expr p = saturating_add_more (own_nodes p) (names_nodes lookup p.instance (reads_of p.right p.after_step))

  pub one_shared : (p : ReadExpr P) → flat_map (shared_in lookup) (p ∷ []) ≡ shared_in lookup p
  one_shared p = append-nil (shared_in lookup p)

  pub exprs_append : (xs ys : List (ReadExpr P)) → exprs_nodes lookup (xs ++ ys) ≡ saturating_add (exprs_nodes lookup xs) (exprs_nodes lookup ys)
  exprs_append [] ys = sym (exprs_whole ys)
  exprs_append (p ∷ xs) ys = ap (saturating_add (expr_nodes lookup p)) (exprs_append xs ys) ∙ sym (saturating_add_assoc (expr_nodes lookup p) (exprs_nodes lookup xs) (exprs_nodes lookup ys))

-- ---- growing sets

-- whether a shared node is one of these
abbrev pub is_in : List (Shared ℕ) → Shared ℕ → Bool
is_in shared s = list_any (same s) shared

same_is : (a b : Shared ℕ) → same a b ≡ true → a ≡ b
same_is a b h = let (i, j) = and_parts (nat_eq a.0 b.0) (beq a.1 b.1) h in both_are a b (eqb-true a.0 b.0 i) ((booleans_Decides a.1 b.1).0 j)
  where
    both_are : (a b : Shared ℕ) → a.0 ≡ b.0 → a.1 ≡ b.1 → a ≡ b
    both_are (x, y) (z, w) e f = ap (λ n. (n, y)) e ∙ ap (λ b. (z, b)) f

in_append : (xs ys : List (Shared ℕ)) (s : Shared ℕ) → is_in (xs ++ ys) s ≡ (is_in xs s || is_in ys s)
in_append xs ys s = list_any-append (same s) xs ys

-- an insertion of a member adds nothing
absorbed : (xs : List (Shared ℕ)) (k s : Shared ℕ) → is_in xs k ≡ true → is_in xs s ≡ (is_in xs s || same s k)
absorbed xs k s h = at (same s k) refl
  where
    at : (b : Bool) → same s k ≡ b → is_in xs s ≡ (is_in xs s || b)
    at true e = ap (is_in xs) (same_is s k e) ∙ h ∙ sym (or-true (is_in xs s))
    at false e = sym (or-false (is_in xs s))

in_insert : (xs : List (Shared ℕ)) (k s : Shared ℕ) → is_in (insert_key same xs k) s ≡ (is_in xs s || same s k)
in_insert xs k s = at (is_in xs k) refl
  where
    at : (b : Bool) → is_in xs k ≡ b → is_in (if b then xs else xs ++ k ∷ []) s ≡ (is_in xs s || same s k)
    at true e = absorbed xs k s e
    at false e = in_append xs (k ∷ []) s ∙ ap (λ b. is_in xs s || b) (or-false (same s k))

in_fold : (xs more : List (Shared ℕ)) (s : Shared ℕ) → is_in (fold (insert_key same) xs more) s ≡ (is_in xs s || is_in more s)
in_fold xs [] s = sym (or-false (is_in xs s))
in_fold xs (k ∷ more) s = in_fold (insert_key same xs k) more s ∙ ap (λ b. b || is_in more s) (in_insert xs k s) ∙ or_assoc (is_in xs s) (same s k) (is_in more s)

-- the members of a set keep their indices
fold_extends : (xs more : List (Shared ℕ)) → (new : List (Shared ℕ)) × (fold (insert_key same) xs more ≡ xs ++ new)
fold_extends xs [] = ([], sym (append-nil xs))
fold_extends xs (k ∷ more) =
    let (a, e) = inserted (is_in xs k) in
    let (b, f) = fold_extends (insert_key same xs k) more in
    (a ++ b, f ∙ ap (λ ys. ys ++ b) e ∙ append_assoc xs a b)
  where
    inserted : (b : Bool) → (new : List (Shared ℕ)) × ((if b then xs else xs ++ k ∷ []) ≡ xs ++ new)
    inserted true = ([], sym (append-nil xs))
    inserted false = (k ∷ [], refl)

same_self : (a : Shared ℕ) → same a a ≡ true
same_self a = and_from (nat_eq a.0 a.0) (beq a.1 a.1) (eq-eqb a.0 a.0 refl) ((booleans_Decides a.1 a.1).1 refl)

same_decides : (a b : Shared ℕ) → Decides (same a b) (a ≡ b)
same_decides a b = (same_is a b, λ e. subst (λ x. same a x ≡ true) e (same_self a))

-- a shared node is a member exactly where the test finds it
contained : (xs : List (Shared ℕ)) (s : Shared ℕ) → is_in xs s ≡ true → Contains xs s
contained xs s h = Contains-list_any same same_is xs s h

is_found : (xs : List (Shared ℕ)) (s : Shared ℕ) → Contains xs s → is_in xs s ≡ true
is_found [] s (k, h, e) = absurd (omega arith)
is_found (x ∷ xs) s (zero, h, e) = or_left (same s x) (is_in xs s) ((same_decides s x).1 (sym e))
is_found (x ∷ xs) s (suc k, h, e) = or_right (same s x) (is_in xs s) (is_found xs s (k, omega arith, e))

-- ---- reachable shared nodes, round by round

take_next : (xs more : List (Shared ℕ)) (k : ℕ) (s : Shared ℕ) → slice_get xs k ≡ Some s → take (k + 1) (xs ++ more) ≡ take k xs ++ s ∷ []
take_next [] more k s e = cc
take_next (x ∷ xs) more zero s e = ap (λ y. y ∷ []) (inside x s e)
  where
    inside : (x s : Shared ℕ) → Some x ≡ Some s → x ≡ s
    inside x s e = cc
take_next (x ∷ xs) more (suc k) s e = let n : suc k + 1 ≡ suc (k + 1) = omega arith in rw n (ap (λ ys. x ∷ ys) (take_next xs more k s e))

take_whole : (xs : List (Shared ℕ)) (k : ℕ) → slice_get xs k ≡ None → take k xs ≡ xs
take_whole [] zero e = refl
take_whole [] (suc k) e = refl
take_whole (x ∷ xs) zero e = cc
take_whole (x ∷ xs) (suc k) e = ap (λ ys. x ∷ ys) (take_whole xs k e)

found_in : (xs : List (Shared ℕ)) (k : ℕ) (s : Shared ℕ) → slice_get xs k ≡ Some s → is_in xs s ≡ true
found_in [] k s e = cc
found_in (x ∷ xs) zero s e = or_left (same s x) (is_in xs s) (itself x s e)
  where
    itself : (x s : Shared ℕ) → Some x ≡ Some s → same s x ≡ true
    itself x s e = let h : x ≡ s = cc in (same_decides s x).1 (sym h)
found_in (x ∷ xs) (suc k) s e = or_right (same s x) (is_in xs s) (found_in xs k s e)

-- the shared nodes found so far are reachable, and contain those of the items and those that the
-- first so many of them read
pub record Progress (lookup : Lookup ℕ ℕ) (items : List (ReadExpr ℕ)) (found : List (Shared ℕ)) (k count : ℕ) : Type 0 where
  pub sum : count ≡ exprs_nodes lookup (items ++ exprs_of_shared lookup (take k found))
  pub reached : (s : Shared ℕ) → is_in found s ≡ true → IsReached lookup items s
  pub begun : (s : Shared ℕ) → is_in (flat_map (shared_in lookup) items) s ≡ true → is_in found s ≡ true
  pub closed : (t s : Shared ℕ) → is_in (take k found) t ≡ true → is_in (content_reads lookup t) s ≡ true → is_in found s ≡ true

pub progress_start : (lookup : Lookup ℕ ℕ) (items : List (ReadExpr ℕ)) (found : List (Shared ℕ)) (count : ℕ) → found ≡ fold (insert_key same) [] (flat_map (shared_in lookup) items) → count ≡ exprs_nodes lookup items → Progress lookup items found 0 count
progress_start lookup items found count e c = record {
  sum = c ∙ ap (exprs_nodes lookup) (sym (append-nil items));
  reached = λ s h. (0, contained (flat_map (shared_in lookup) items) s (sym (is s) ∙ h));
  begun = λ s h. is s ∙ h;
  closed = λ t s h g. cc;
}
  where
    is : (s : Shared ℕ) → is_in found s ≡ is_in (flat_map (shared_in lookup) items) s
    is s = ap (λ xs. is_in xs s) e ∙ in_fold [] (flat_map (shared_in lookup) items) s

pub progress_step : (lookup : Lookup ℕ ℕ) (items : List (ReadExpr ℕ)) (found found' : List (Shared ℕ)) (k count count' : ℕ) (t : Shared ℕ) → slice_get found k ≡ Some t → found' ≡ fold (insert_key same) found (content_reads lookup t) →
    count' ≡ saturating_add count (exprs_nodes lookup (option_to_list (shared_expr lookup t))) → Progress lookup items found k count → Progress lookup items found' (k + 1) count'
progress_step lookup items found found' k count count' t at e c p = record {
  sum = c ∙ ap (λ n. saturating_add n (exprs_nodes lookup one)) p.sum ∙ sym (exprs_append lookup (items ++ done) one)
      ∙ ap (exprs_nodes lookup) (append_assoc items done one ∙ ap (λ xs. items ++ xs) (sym (behind_more (take k found)) ∙ ap (exprs_of_shared lookup) (sym taken)));
  reached = λ s h. elim (or_cases (is_in found s) (is_in reads s) (sym (is s) ∙ h)) [ inl g ↦ p.reached s g | inr g ↦ further s g (p.reached t (found_in found k t at)) ];
  begun = λ s h. is s ∙ or_left (is_in found s) (is_in reads s) (p.begun s h);
  closed = λ u s h g. is s ∙ elim (or_cases (is_in (take k found) u) (is_in (t ∷ []) u) (sym (in_append (take k found) (t ∷ []) u) ∙ (ap (λ xs. is_in xs u) (sym taken) ∙ h))) [
    | inl b ↦ or_left (is_in found s) (is_in reads s) (p.closed u s b g)
    | inr b ↦ or_right (is_in found s) (is_in reads s) (ap (λ x. is_in (content_reads lookup x) s) (sym (last u b)) ∙ g)
  ];
}
  where
    one : List (ReadExpr ℕ)
    one = option_to_list (shared_expr lookup t)

    done : List (ReadExpr ℕ)
    done = exprs_of_shared lookup (take k found)

    reads : List (Shared ℕ)
    reads = content_reads lookup t

    more : (new : List (Shared ℕ)) × (fold (insert_key same) found reads ≡ found ++ new)
    more = fold_extends found reads

    taken : take (k + 1) found' ≡ take k found ++ t ∷ []
    taken = ap (take (k + 1)) (e ∙ more.1) ∙ take_next found more.0 k t at

    is : (s : Shared ℕ) → is_in found' s ≡ (is_in found s || is_in reads s)
    is s = ap (λ xs. is_in xs s) e ∙ in_fold found reads s

    behind_more : (xs : List (Shared ℕ)) → exprs_of_shared lookup (xs ++ t ∷ []) ≡ exprs_of_shared lookup xs ++ one
    behind_more [] = append-nil one
    behind_more (x ∷ xs) = ap (λ ys. option_to_list (shared_expr lookup x) ++ ys) (behind_more xs) ∙ sym (append_assoc (option_to_list (shared_expr lookup x)) (exprs_of_shared lookup xs) one)

    further : (s : Shared ℕ) → is_in reads s ≡ true → IsReached lookup items t → IsReached lookup items s
    further s g (rounds, r) = (suc rounds, (t, r, contained reads s g))

    last : (u : Shared ℕ) → is_in (t ∷ []) u ≡ true → u ≡ t
    last u b = elim (or_cases (same u t) false b) [ inl h ↦ same_is u t h | inr h ↦ cc ]

pub progress_end : (lookup : Lookup ℕ ℕ) (items : List (ReadExpr ℕ)) (found : List (Shared ℕ)) (k count : ℕ) → slice_get found k ≡ None → IsDistinct same found → Progress lookup items found k count → IsCount lookup items count
progress_end lookup items found k count at once p = (found, record { once = AllPairs-from_IsDistinct same_decides found once; reached = λ s h. p.reached s (is_found found s h); all = λ s r. contained found s (all r.0 s r.1) }, p.sum ∙ ap (λ xs. exprs_nodes lookup (items ++ exprs_of_shared lookup xs)) whole)
  where
    whole : take k found ≡ found
    whole = take_whole found k at

    all : (rounds : ℕ) (s : Shared ℕ) → ReachedIn lookup items rounds s → is_in found s ≡ true
    all zero s r = p.begun s (is_found (flat_map (shared_in lookup) items) s r)
    all (suc rounds) s (t, r, g) = p.closed t s (ap (λ xs. is_in xs t) whole ∙ all rounds t r) (is_found (content_reads lookup t) s g)
