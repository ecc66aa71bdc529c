-- Sets of names, after an insertion.
use Rattle.std.proofs.Common.{◌≡◌, List, [], ◌∷◌, Bool, true, false, ◌||◌, cond, refl, sym, ap, ◌∙◌, ◌++◌}
use Rattle.std.specs.Str.{bytes_eq}
use Rattle.std.specs.HashSet.{Updates, IsEmpty}
use Rattle.std.specs.List.{list_any}
use Rattle.std.proofs.lemmas.Slice.Eq.{bytes_eq-Decides}
use Rattle.std.proofs.lemmas.Bool.Decides.{same_from_decides}
use Rattle.std.proofs.Math.Bool.{or_assoc, or-false}
use mathlib.Core.Path.{fun_ext}
use denote.Ref.{Bor}
use Rattle.smv_meaning.specs.Value.{Name}
use Rattle.std.proofs.lemmas.List.Sums.{fold-append}
use Rattle.smv_meaning.specs.NameSets.{NameSet, in_set, no_name, and_name, and_names}

pub bytes_eq-swapped : (a b : Name) → bytes_eq a b ≡ bytes_eq b a
bytes_eq-swapped a b = same_from_decides (bytes_eq a b) (bytes_eq b a) (bytes_eq-Decides a b) ((λ e. sym ((bytes_eq-Decides b a).0 e)), (λ e. (bytes_eq-Decides b a).1 (sym e)))

pub either_way : (b c x : Bool) → b ≡ c → cond b true x ≡ (x || c)
either_way true c true e = refl
either_way true c false e = e
either_way false c true e = refl
either_way false c false e = e

-- a set with one more name
pub in_set_inserted : (s n : NameSet) (k : Bor Name) → Updates (λ x y. bytes_eq x.now y.now) s n k true → in_set n ≡ and_name (in_set s) k.now
in_set_inserted s n k h = fun_ext (λ name. h.0 (record { ref_ptr = (0, 0); now = name }) ∙ either_way _ _ _ (bytes_eq-swapped k.now name))

-- an empty set has no name
pub in_set_empty : (s : NameSet) → IsEmpty s → in_set s ≡ no_name
in_set_empty s h = fun_ext (λ name. ap (λ (ks : List (Bor Name)). list_any (λ n. bytes_eq name n.now) ks) h)

-- a set with the names of two lists
pub and_names_append : (seen : Name → Bool) (xs ys : List Name) → and_names seen (xs ++ ys) ≡ and_names (and_names seen xs) ys
and_names_append seen xs ys = fold-append and_name seen xs ys

-- the names of a list are in the set exactly where one of them is the name
pub among : (names : List Name) (seen : Name → Bool) (name : Name) → and_names seen names name ≡ (seen name || list_any (λ n. bytes_eq n name) names)
among [] seen name = sym (or-false (seen name))
among (n ∷ names) seen name =
    among names (and_name seen n) name ∙ (or_assoc (seen name) (bytes_eq name n) (list_any (λ n. bytes_eq n name) names)
    ∙ ap (λ b. seen name || (b || list_any (λ n. bytes_eq n name) names)) (bytes_eq-swapped name n))
