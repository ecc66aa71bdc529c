-- Functions of values that may be absent are monotone.
use Rattle.std.proofs.Common.{Option, Some, None, refl}
use Rattle.fixpoint.specs.OptionOrder.{Le}
use Rattle.smv_meaning.specs.Value.{and_then, of_both}

pub le_refl : {A : Type 0} (o : Option A) → Le o o
le_refl o a e = e

pub then_le : {A B : Type 0} (o q : Option A) (f g : A → Option B) → Le o q
    → ((a : A) → Le (f a) (g a)) → Le (and_then o f) (and_then q g)
then_le None q f g h k b e = cc
then_le (Some a) q f g h k b e = rw (h a refl) (k a b e)

pub map_le : {A B : Type 0} (f : A → Option B) (o q : Option A) → Le o q
    → Le (and_then o f) (and_then q f)
map_le f o q h = then_le o q f f h (λ a b e. e)

pub both_le : {A B C : Type 0} (f : A → B → Option C) (o o' : Option A) (q q' : Option B) → Le o o'
    → Le q q' → Le (of_both f o q) (of_both f o' q')
both_le f o o' q q' h k = then_le o o' (λ a. and_then q (f a)) (λ a. and_then q' (f a)) h
    (λ a. map_le (f a) q q' k)
