-- A language inside another, part by part.
use Rattle.std.proofs.Common.{Bool, true, false, List, [], ◌∷◌, inl, inr}
use Rattle.smv_expr.specs.declared.kind.Kind.{Kind}
use Rattle.smv_expr.specs.Language.{Tokens, word, dep, both, many, by_test, until, row, either, mapped, opt, nothing}

-- whatever the one reads, the other reads for the same value
pub record Inside {A : Type 0} (L M : A → Tokens → Type 0) : Type 0 where
  pub at : (a : A) (ts : Tokens) → L a ts → M a ts

pub itself : {A : Type 0} {L : A → Tokens → Type 0} → Inside L L
itself = record { at = λ a ts h. h }

pub through : {A : Type 0} {L M N : A → Tokens → Type 0} → Inside L M → Inside M N → Inside L N
through f g = record { at = λ a ts h. g.at a ts (f.at a ts h) }

pub dep_inside : {A B : Type 0} {L L' : A → Tokens → Type 0} {M M' : A → B → Tokens → Type 0} → Inside L L' → ((a : A) → Inside (M a) (M' a)) → Inside (dep L M) (dep L' M')
dep_inside f g = record { at = λ v ts h. record { prefix = h.prefix; suffix = h.suffix; split = h.split; first = f.at v.0 h.prefix h.first; second = (g v.0).at v.1 h.suffix h.second } }

pub both_inside : {A B : Type 0} {L L' : A → Tokens → Type 0} {M M' : B → Tokens → Type 0} → Inside L L' → Inside M M' → Inside (both L M) (both L' M')
both_inside f g = dep_inside f (λ a. g)

-- a word, and then the other
pub after_inside : {B : Type 0} {M M' : B → Tokens → Type 0} (kind : Kind) → Inside M M' → Inside (both (word kind) M) (both (word kind) M')
after_inside kind g = both_inside itself g

pub mapped_inside : {A B : Type 0} {L L' : A → Tokens → Type 0} (fun : A → B) → Inside L L' → Inside (mapped fun L) (mapped fun L')
mapped_inside fun f = record { at = λ b ts h. (h.0, f.at h.0 ts h.1, h.2) }

pub either_inside : {A : Type 0} {L L' M M' : A → Tokens → Type 0} → Inside L L' → Inside M M' → Inside (either L M) (either L' M')
either_inside {A = A} {L = L} {L' = L'} {M = M} {M' = M'} f g = record { at = go } where
  go : (a : A) (ts : Tokens) → either L M a ts → either L' M' a ts
  go a ts (inl h) = inl (f.at a ts h)
  go a ts (inr h) = inr (g.at a ts h)

pub opt_inside : {A : Type 0} {L L' : A → Tokens → Type 0} → Inside L L' → Inside (opt L) (opt L')
opt_inside f = either_inside (mapped_inside _ f) itself

pub many_inside : {A : Type 0} {L L' : A → Tokens → Type 0} → Inside L L' → Inside (many L) (many L')
many_inside {A = A} {L = L} {L' = L'} f = record { at = go } where
  go : (a : List A) (ts : Tokens) → many L a ts → many L' a ts
  go [] ts h = h
  go (a ∷ more) ts h = (h.0, h.1, h.2, f.at a h.0 h.3, go more h.1 h.4)

by_test_inside : (v : Bool) (X Y Z : Type 0) → (Y → Z) → by_test v X Y → by_test v X Z
by_test_inside true X Y Z f x = x
by_test_inside false X Y Z f x = f x

pub until_inside : {A : Type 0} {L L' : A → Tokens → Type 0} (ends : A → Bool) → Inside L L' → Inside (until ends L) (until ends L')
until_inside {A = A} {L = L} {L' = L'} ends f = record { at = go } where
  go : (a : List A) (ts : Tokens) → until ends L a ts → until ends L' a ts
  go [] ts h = h
  go (a ∷ more) ts h = (h.0, h.1, h.2, f.at a h.0 h.3, by_test_inside (ends a) (nothing [] more h.1) (until ends L more h.1) (until ends L' more h.1) (go more h.1) h.4)

pub row_inside : {A B : Type 0} {L L' : B → Tokens → Type 0} {M M' : A → Tokens → Type 0} (ended : B → Bool) (ends : A → Bool) (step : B → A → B)
    → Inside L L' → Inside M M' → Inside (row ended ends step L M) (row ended ends step L' M')
row_inside {M = M} {M' = M'} ended ends step f g = mapped_inside _ (dep_inside f (λ b. record { at = λ more ts h. by_test_inside (ended b) (nothing [] more ts) (until ends M more ts) (until ends M' more ts) ((until_inside ends g).at more ts) h }))
