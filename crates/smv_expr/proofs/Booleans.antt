-- Tests, and what holds in both cases of one.
use Rattle.std.proofs.Common.{◌≡◌, Bool, true, false, ◌||◌, ◌&&◌, refl, ap, cond}
use Rattle.std.specs.Prelude.{not}

pub by_test : {A : Type 0} (P : A → Type 0) (test : Bool) (x y : A) → (test ≡ true → P x) → (test ≡ false → P y) → P (cond test x y)
by_test P true x y f g = f refl
by_test P false x y f g = g refl

pub cond_true : {A : Type 0} (test : Bool) (x y : A) → test ≡ true → cond test x y ≡ x
cond_true test x y e = ap (λ v. cond v x y) e

pub cond_false : {A : Type 0} (test : Bool) (x y : A) → test ≡ false → cond test x y ≡ y
cond_false test x y e = ap (λ v. cond v x y) e

pub both_left : (a b : Bool) → a && b ≡ true → a ≡ true
both_left true b e = refl
both_left false b e = e

pub both_right : (a b : Bool) → a && b ≡ true → b ≡ true
both_right true b e = e
both_right false b e = cc

pub one_or_other : (v w : Bool) (P : Type 0) → (v ≡ true → P) → (w ≡ true → P) → v || w ≡ true → P
one_or_other true w P f g e = f refl
one_or_other false w P f g e = g e

pub not_true : (a : Bool) → not a ≡ true → a ≡ false
not_true true e = cc
not_true false e = refl

pub clash : (test : Bool) → test ≡ true → test ≡ false → ⊥
clash test holds fails = cc
