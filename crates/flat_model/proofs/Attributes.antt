-- Attributes of a list of nodes: those of a longer list begin with those of a shorter one, and each follows from those before it.
use Rattle.std.proofs.Common.{◌≡◌, ℕ, ◌+◌, ◌<◌, List, [], ◌∷◌, ◌++◌, length, take, drop, set, get_or, refl, sym, ◌∙◌, ap, inl, inr, append_assoc, append-nil, arith}
use Rattle.std.specs.List.{fold}
use Rattle.std.proofs.lemmas.List.{take_more, take_all, take_at, take-append-drop, get_or_append_left, get_or_push, length_push, length-take-le}
use Rattle.std.proofs.lemmas.List.Sums.{fold-append, fold_push}
use Rattle.std.proofs.lemmas.Bool.{cases_lt}
use Rattle.flat_model.specs.Nodes.{attributes}

module _ {X A : Type 0} (rule : List A → X → A) where
  abbrev step : List A → X → List A
  step before x = before ++ rule before x ∷ []

  -- from some attributes on, as many more
  continued : (before : List A) (xs : List X) → (more : List A) × (fold step before xs ≡ before ++ more) × (length more ≡ length xs)
  continued before [] = ([], sym (append-nil before), refl)
  continued before (x ∷ xs) =
      let tail : (more : List A) × (fold step (step before x) xs ≡ step before x ++ more) × (length more ≡ length xs) = continued (step before x) xs in
      (rule before x ∷ tail.0, tail.1 ∙ append_assoc before (rule before x ∷ []) tail.0, omega (arith, tail.2))

  -- one more node
  pub attributes-push : (xs : List X) (x : X) → attributes rule (xs ++ x ∷ []) ≡ attributes rule xs ++ rule (attributes rule xs) x ∷ []
  attributes-push xs x = fold_push step [] xs x

  -- more nodes at the end add attributes at the end
  pub attributes-append : (xs more : List X) → (new : List A) × (attributes rule (xs ++ more) ≡ attributes rule xs ++ new) × (length new ≡ length more)
  attributes-append xs more =
      let tail : (new : List A) × (fold step (attributes rule xs) more ≡ attributes rule xs ++ new) × (length new ≡ length more) = continued (attributes rule xs) more in
      (tail.0, fold-append step [] xs more ∙ tail.1, tail.2)

  pub length-attributes : (xs : List X) → length (attributes rule xs) ≡ length xs
  length-attributes xs =
      let all : (new : List A) × (attributes rule xs ≡ new) × (length new ≡ length xs) = continued [] xs in
      ap length all.1 ∙ all.2

  -- and keep the earlier ones
  pub attributes-kept : (xs more : List X) (k : ℕ) (d : A) → k < length xs → get_or (attributes rule (xs ++ more)) k d ≡ get_or (attributes rule xs) k d
  attributes-kept xs more k d h =
      let longer : (new : List A) × (attributes rule (xs ++ more) ≡ attributes rule xs ++ new) × (length new ≡ length more) = attributes-append xs more in
      ap (λ (all : List A). get_or all k d) longer.1 ∙ get_or_append_left (attributes rule xs) longer.0 d k (omega (arith, length-attributes xs))

  -- the first attributes are those of the first nodes
  pub take-attributes : (xs : List X) (k : ℕ) → take k (attributes rule xs) ≡ attributes rule (take k xs)
  take-attributes xs k = elim (cases_lt (length xs) k) [
    | inl past ↦
        take_all k (attributes rule xs) (omega (arith, length-attributes xs)) ∙ ap (attributes rule) (sym (take_all k xs (omega arith)))
    | inr within ↦
        let longer : (new : List A) × (attributes rule (take k xs ++ drop k xs) ≡ attributes rule (take k xs) ++ new) × (length new ≡ length (drop k xs)) = attributes-append (take k xs) (drop k xs) in
        ap (λ (ys : List X). take k (attributes rule ys)) (sym (take-append-drop k xs))
        ∙ ap (take k) longer.1
        ∙ take_at (attributes rule (take k xs)) longer.0 k (length-attributes (take k xs) ∙ length-take-le k xs within)
  ]

  -- the attribute of node k by the rule, from those before it
  pub attributes-at : (xs : List X) (k : ℕ) (d : A) (e : X) → k < length xs → get_or (attributes rule xs) k d ≡ rule (take k (attributes rule xs)) (get_or xs k e)
  attributes-at xs k d e h =
      let prefix : List X = take k xs in
      let x : X = get_or xs k e in
      let len : length prefix ≡ k = length-take-le k xs (omega arith) in
      let split : xs ≡ (prefix ++ x ∷ []) ++ drop (k + 1) xs = sym (ap (λ (ys : List X). ys ++ drop (k + 1) xs) (sym (take_more xs k e h)) ∙ take-append-drop (k + 1) xs) in
      ap (λ (ys : List X). get_or (attributes rule ys) k d) split
      ∙ attributes-kept (prefix ++ x ∷ []) (drop (k + 1) xs) k d (omega (arith, length_push prefix x, len))
      ∙ ap (λ (all : List A). get_or all k d) (attributes-push prefix x)
      ∙ get_or_push (attributes rule prefix) (rule (attributes rule prefix) x) d k (length-attributes prefix ∙ len)
      ∙ ap (λ (all : List A). rule all x) (sym (take-attributes xs k))

  -- one more cell that holds its attribute
  pub attributes-written : (xs : List X) (k : ℕ) (before tail : List A) (a : A) (e : X) → k < length xs → before ≡ attributes rule (take k xs) → length before ≡ k → 0 < length tail → a ≡ rule before (get_or xs k e) → take (k + 1) (before ++ set tail 0 a) ≡ attributes rule (take (k + 1) xs)
  attributes-written xs k before [] a e h is len room value = absurd (omega arith)
  attributes-written xs k before (y ∷ tail) a e h is len room value =
      ap (take (k + 1)) (sym (append_assoc before (a ∷ []) tail))
      ∙ take_at (before ++ a ∷ []) tail (k + 1) (omega (arith, length_push before a, len))
      ∙ ap (λ (z : A). before ++ z ∷ []) value
      ∙ ap (λ (all : List A). all ++ rule all (get_or xs k e) ∷ []) is
      ∙ sym (ap (attributes rule) (take_more xs k e h) ∙ attributes-push (take k xs) (get_or xs k e))
