-- The order of optional values: nothing is below everything, and a value is below itself alone.
use Rattle.std.specs.Prelude.{◌≡◌, Option, Some, None}
use Rattle.std.proofs.Common.{refl}
use Rattle.std.specs.Option.{option_and_then, option_or}

-- if the first is a value, the second is the same value
abbrev pub Le : {A : Type 0} → Option A → Option A → Type 0
Le {A} o q = (a : A) → o ≡ Some a → q ≡ Some a

-- chaining is monotone
pub and_then_le : {A B : Type 0} (o q : Option A) (f g : A → Option B) → Le o q
    → ((a : A) → Le (f a) (g a)) → Le (option_and_then f o) (option_and_then g q)
and_then_le None q f g h k b e = cc
and_then_le (Some a) q f g h k b e = rw (h a refl) (k a b e)

-- the first of two values is monotone, where the first of them stays nothing or a value
pub or_le : {A : Type 0} (o q p r : Option A) → Le o q → (o ≡ None → q ≡ None) → Le p r
    → Le (option_or o p) (option_or q r)
or_le None q p r h n k a e = rw (n refl) (k a e)
or_le (Some b) q p r h n k a e = rw (h b refl) e
