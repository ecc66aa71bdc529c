-- A set of names, after an insertion or a removal.
use Rattle.std.proofs.Common.{◌≡◌, ℕ, List, Bool, cond}
use Rattle.std.specs.Str.{bytes_eq}
use Rattle.std.specs.HashSet.{UpdatesBy}
use Rattle.smv_meaning.specs.NameSets.{NameSet, in_set}

pub after_update : (s n : NameSet) (name : List ℕ) (within : Bool) → UpdatesBy (λ x y. bytes_eq x.now y.now) (λ y. bytes_eq name y.now) s n within
    → (other : List ℕ) → in_set n other ≡ cond (bytes_eq name other) within (in_set s other)
after_update s n name within h other = h.0 (record { ref_ptr = (0, 0); now = other })
