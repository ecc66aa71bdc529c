-- Sets of kinds, compared by computing.
use Rattle.std.proofs.Common.{◌≡◌, Bool, true, false, ◌&&◌, List, [], ◌∷◌, refl, sym, subst}
use Rattle.std.specs.Prelude.{not}
use denote.Enum.Bare.{same_true, true_same}
use Rattle.smv_expr.specs.contracts.kind.Kind.{the_type}
use Rattle.smv_expr.specs.declared.kind.Kind.{Kind}
use Rattle.smv_expr.specs.Lexicon.{same_kind}
use Rattle.smv_expr.proofs.Booleans.{both_left, both_right, not_true, one_or_other}
use Rattle.smv_expr.specs.Language.{Tokens, begins, has}

-- each kind of the first is in the second
abbrev pub within : List Kind → List Kind → Bool
within [] ys = true
within (x ∷ xs) ys = has ys x && within xs ys

-- no kind of the first is in the second
abbrev pub disjoint : List Kind → List Kind → Bool
disjoint [] ys = true
disjoint (x ∷ xs) ys = not (has ys x) && disjoint xs ys

pub same_kind_true : (a b : Kind) → same_kind a b ≡ true → a ≡ b
unfolding same_kind
same_kind_true a b e = same_true the_type tt a b e

pub true_same_kind : (a b : Kind) → a ≡ b → same_kind a b ≡ true
unfolding same_kind
true_same_kind a b e = true_same the_type a b e

pub has_within : (xs ys : List Kind) (kind : Kind) → within xs ys ≡ true → has xs kind ≡ true → has ys kind ≡ true
has_within [] ys kind w h = cc
has_within (x ∷ xs) ys kind w h = one_or_other (same_kind kind x) (has xs kind) (has ys kind ≡ true)
    (λ e. subst (λ (z : Kind). has ys z ≡ true) (sym (same_kind_true kind x e)) (both_left _ _ w))
    (λ e. has_within xs ys kind (both_right _ _ w) e) h

has_disjoint : (xs ys : List Kind) (kind : Kind) → disjoint xs ys ≡ true → has xs kind ≡ true → has ys kind ≡ false
has_disjoint [] ys kind w h = cc
has_disjoint (x ∷ xs) ys kind w h = one_or_other (same_kind kind x) (has xs kind) (has ys kind ≡ false)
    (λ e. subst (λ (z : Kind). has ys z ≡ false) (sym (same_kind_true kind x e)) (not_true _ (both_left _ _ w)))
    (λ e. has_disjoint xs ys kind (both_right _ _ w) e) h

pub begins_within : (xs ys : List Kind) → within xs ys ≡ true → (ts : Tokens) → begins xs ts ≡ true → begins ys ts ≡ true
begins_within xs ys w [] h = cc
begins_within xs ys w (t ∷ ts) h = has_within xs ys t.kind w h

pub begins_apart : (xs ys : List Kind) → disjoint xs ys ≡ true → (ts : Tokens) → begins xs ts ≡ true → begins ys ts ≡ false
begins_apart xs ys w [] h = refl
begins_apart xs ys w (t ∷ ts) h = has_disjoint xs ys t.kind w h

contrary : (v w : Bool) → (v ≡ true → w ≡ true) → w ≡ false → v ≡ false
contrary false w f h = refl
contrary true w f h = let e = f refl in cc

pub begins_not_within : (xs ys : List Kind) → within xs ys ≡ true → (ts : Tokens) → begins ys ts ≡ false → begins xs ts ≡ false
begins_not_within xs ys w ts h = contrary (begins xs ts) (begins ys ts) (begins_within xs ys w ts) h

pub begins_none : (ts : Tokens) → begins [] ts ≡ false
begins_none [] = refl
begins_none (t ∷ ts) = refl
