-- The number of nodes is independent of the order in which shared nodes are counted.
use Rattle.std.proofs.Common.{◌≡◌, ℕ, List, [], ◌∷◌, ◌++◌, ◌⊎◌, inl, inr, refl, sym, ap, ◌∙◌, subst, arith}
use Rattle.std.specs.Option.{option_to_list}
use Rattle.smv_meaning.proofs.MemberLemmas.{In, in_of}
use Rattle.smv_nodes.specs.Own.{saturating_add}
use Rattle.smv_nodes.specs.Count.{Lookup, ReadExpr, Shared, shared_expr, exprs_nodes, exprs_of_shared, IsCount}
use Rattle.smv_nodes.proofs.CountLemmas.{exprs_append}
use Rattle.smv_types.proofs.ApartLemmas.{Apart, apart_of, contains_in}

-- ---- lists

in_moved : {A : Type 0} (xs ys : List A) (x y : A) → In y (xs ++ x ∷ ys) → (x ≡ y) ⊎ In y (xs ++ ys)
in_moved [] ys x y i = i
in_moved (z ∷ xs) ys x y (inl e) = inr (inl e)
in_moved (z ∷ xs) ys x y (inr i) = elim (in_moved xs ys x y i) [ inl e ↦ inl e | inr j ↦ inr (inr j) ]

in_among : {A : Type 0} (xs ys : List A) (x y : A) → In y (xs ++ ys) → In y (xs ++ x ∷ ys)
in_among [] ys x y i = inr i
in_among (z ∷ xs) ys x y (inl e) = inl e
in_among (z ∷ xs) ys x y (inr i) = inr (in_among xs ys x y i)

in_middle : {A : Type 0} (xs ys : List A) (x : A) → In x (xs ++ x ∷ ys)
in_middle [] ys x = inl refl
in_middle (z ∷ xs) ys x = inr (in_middle xs ys x)

apart_without : {A : Type 0} (xs ys : List A) (x : A) → Apart (xs ++ x ∷ ys) → Apart (xs ++ ys)
apart_without [] ys x a = a.1
apart_without (z ∷ xs) ys x a = (λ i. a.0 (in_among xs ys x z i), apart_without xs ys x a.1)

not_again : {A : Type 0} (xs ys : List A) (x : A) → Apart (xs ++ x ∷ ys) → In x (xs ++ ys) → ⊥
not_again [] ys x a i = a.0 i
not_again {A} (z ∷ xs) ys x a (inl e) = a.0 (subst (λ (y : A). In y (xs ++ x ∷ ys)) (sym e) (in_middle xs ys x))
not_again (z ∷ xs) ys x a (inr i) = not_again xs ys x a.1 i

-- the position of an element
record Split {A : Type 0} (ys : List A) (x : A) : Type 0 where
  before : List A
  after : List A
  is : ys ≡ before ++ x ∷ after

split : {A : Type 0} (ys : List A) (x : A) → In x ys → Split ys x
split [] x i = absurd i
split (y ∷ ys) x (inl e) = record { before = []; after = ys; is = ap (λ z. z ∷ ys) e }
split (y ∷ ys) x (inr i) = let s = split ys x i in record { before = y ∷ s.before; after = s.after; is = ap (λ zs. y ∷ zs) s.is }

-- ---- sums

saturating_add_exchanged : (a b c : ℕ) → saturating_add a (saturating_add b c) ≡ saturating_add b (saturating_add a c)
saturating_add_exchanged a b c = omega arith

module _ {P S : Type 0} (lookup : Lookup P S) where
  -- the nodes of the expression of one shared node, and of all of these
  abbrev one : Shared S → ℕ
  one s = exprs_nodes lookup (option_to_list (shared_expr lookup s))

  abbrev sum : List (Shared S) → ℕ
  sum xs = exprs_nodes lookup (exprs_of_shared lookup xs)

  sum_next : (s : Shared S) (xs : List (Shared S)) → sum (s ∷ xs) ≡ saturating_add (one s) (sum xs)
  sum_next s xs = exprs_append lookup (option_to_list (shared_expr lookup s)) (exprs_of_shared lookup xs)

  sum_moved : (xs ys : List (Shared S)) (s : Shared S) → sum (xs ++ s ∷ ys) ≡ saturating_add (one s) (sum (xs ++ ys))
  sum_moved [] ys s = sum_next s ys
  sum_moved (x ∷ xs) ys s =
      sum_next x (xs ++ s ∷ ys) ∙ (ap (saturating_add (one x)) (sum_moved xs ys s) ∙ (saturating_add_exchanged (one x) (one s) (sum (xs ++ ys)) ∙ ap (saturating_add (one s)) (sym (sum_next x (xs ++ ys)))))

  same_sum : (xs ys : List (Shared S)) → Apart xs → Apart ys → ((s : Shared S) → In s xs → In s ys) → ((s : Shared S) → In s ys → In s xs) → sum xs ≡ sum ys
  same_sum [] [] a b f g = refl
  same_sum [] (y ∷ ys) a b f g = absurd (g y (inl refl))
  same_sum (x ∷ xs) ys a b f g =
      sum_next x xs ∙ (ap (saturating_add (one x)) (same_sum xs (at.before ++ at.after) a.1 (apart_without at.before at.after x apart_there) forth back) ∙ (sym (sum_moved at.before at.after x) ∙ ap sum (sym at.is)))
    where
      at : Split ys x
      at = split ys x (f x (inl refl))

      apart_there : Apart (at.before ++ x ∷ at.after)
      apart_there = subst Apart at.is b

      forth : (s : Shared S) → In s xs → In s (at.before ++ at.after)
      forth s i = elim (in_moved at.before at.after x s (subst (In s) at.is (f s (inr i)))) [ inl e ↦ absurd (a.0 (subst (λ (y : Shared S). In y xs) (sym e) i)) | inr j ↦ j ]

      back : (s : Shared S) → In s (at.before ++ at.after) → In s xs
      back s i = elim (g s (subst (In s) (sym at.is) (in_among at.before at.after x s i))) [
        | inl e ↦ absurd (not_again at.before at.after x apart_there (subst (λ (y : Shared S). In y (at.before ++ at.after)) (sym e) i))
        | inr j ↦ j
      ]

  -- two counts of the same items are equal
  pub one_count : (items : List (ReadExpr P)) (n m : ℕ) → IsCount lookup items n → IsCount lookup items m → n ≡ m
  one_count items n m (xs, r, e) (ys, q, f) =
      e ∙ (exprs_append lookup items (exprs_of_shared lookup xs)
      ∙ (ap (saturating_add (exprs_nodes lookup items)) (same_sum xs ys (apart_of xs r.once) (apart_of ys q.once) (λ s i. in_of ys s (q.all s (r.reached s (contains_in xs s i)))) (λ s i. in_of xs s (r.all s (q.reached s (contains_in ys s i)))))
      ∙ (sym (exprs_append lookup items (exprs_of_shared lookup ys)) ∙ sym f)))
