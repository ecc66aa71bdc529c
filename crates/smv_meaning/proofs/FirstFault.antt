-- The first fault of lists that are joined, and of lists without one.
use Rattle.std.proofs.Common.{◌≡◌, Bool, true, false, cond, List, [], ◌∷◌, ◌++◌, Option, Some, None, inl, inr, refl, sym, ap, ◌∙◌}
use Rattle.smv_ast.specs.declared.fault.Fault.{Fault}
use Rattle.smv_meaning.specs.Runs.{first_fault, or_else}
use Rattle.smv_meaning.proofs.MemberLemmas.{In}

-- where neither is a fault, none is
pub neither_found : {B : Type 0} (o q : Option B) → or_else o q ≡ None → (o ≡ None) × (q ≡ None)
neither_found None q e = (refl, e)
neither_found (Some b) q e = cc

-- where a test gives no fault, it is false
pub not_broken : (broken : Bool) (f : Fault) → cond broken (Some f) None ≡ None → broken ≡ false
not_broken true f e = cc
not_broken false f e = refl

-- where a rule finds no fault in a list, it finds none of an element
pub first_none : {A B : Type 0} (f : A → Option B) (xs : List A) (x : A) → first_fault f xs ≡ None → In x xs → f x ≡ None
first_none f [] x e i = absurd i
first_none f (y ∷ ys) x e (inl j) = ap f (sym j) ∙ (neither_found (f y) (first_fault f ys) e).0
first_none f (y ∷ ys) x e (inr j) = first_none f ys x (neither_found (f y) (first_fault f ys) e).1 j

pub first_append : {A B : Type 0} (f : A → Option B) (xs ys : List A) → first_fault f (xs ++ ys) ≡ or_else (first_fault f xs) (first_fault f ys)
first_append f [] ys = refl
first_append {B = B} f (x ∷ xs) ys = at (first_append f xs ys) (f x)
  where
    at : first_fault f (xs ++ ys) ≡ or_else (first_fault f xs) (first_fault f ys) → (o : Option B) → or_else o (first_fault f (xs ++ ys)) ≡ or_else (or_else o (first_fault f xs)) (first_fault f ys)
    at h None = h
    at h (Some b) = refl
