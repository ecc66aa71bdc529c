-- Sets of numbers, after an insertion.
use Rattle.std.proofs.Common.{◌≡◌, List, true, sym, ◌∙◌, ap, ℤ}
use Rattle.std.specs.Ordering.{int_eq}
use Rattle.std.specs.HashSet.{Updates, IsEmpty}
use Rattle.std.specs.List.{list_any}
use Rattle.std.proofs.lemmas.Bool.Decides.{same_from_decides}
use Rattle.std.specs.Cmp.{signed_Decides}
use mathlib.Core.Path.{fun_ext}
use Rattle.smv_names.specs.NumberSets.{NumberSet, has_number, no_number, and_number}
use Rattle.smv_meaning.proofs.NameSetLemmas.{either_way}

int_eq-swapped : (a b : ℤ) → int_eq a b ≡ int_eq b a
int_eq-swapped a b = same_from_decides (int_eq a b) (int_eq b a) (signed_Decides a b) ((λ e. sym ((signed_Decides b a).0 e)), (λ e. (signed_Decides b a).1 (sym e)))

-- a set with one more number
pub has_number_inserted : (s n : NumberSet) (k : ℤ) → Updates int_eq s n k true → has_number n ≡ and_number (has_number s) k
has_number_inserted s n k h = fun_ext (λ m. h.0 m ∙ either_way _ _ _ (int_eq-swapped k m))

-- an empty set has no number
pub has_number_empty : (s : NumberSet) → IsEmpty s → has_number s ≡ no_number
has_number_empty s h = fun_ext (λ m. ap (λ (ks : List ℤ). list_any (int_eq m) ks) h)
