-- Values by the texts of their paths, after an insertion.
use Rattle.std.proofs.Common.{◌≡◌, ℕ, List, Bool, true, false, cond, Option, Some, ap, ◌∙◌, refl}
use Rattle.std.specs.Prelude.{slice_get}
use Rattle.std.specs.Str.{bytes_eq}
use Rattle.std.specs.HashMap.{Updates}
use denote.Ref.{Bor}
use Rattle.smv_meaning.specs.declared.run.Named.{Named}
use Rattle.smv_meaning.specs.Indices.{Numbers}
use Rattle.smv_meaning.specs.Value.{Name, and_then}
use Rattle.smv_meaning.specs.Written.{value_numbered, value_by}

chosen : (values : List Named) (n : Named) (k : ℕ) → slice_get values k ≡ Some n → (b : Bool) (o : Option ℕ) → value_numbered values (cond b (Some k) o) ≡ cond b (Some n.value) (value_numbered values o)
chosen values n k at true o = ap (λ (x : Option Named). and_then x (λ n. Some n.value)) at
chosen values n k at false o = refl

pub after_insert : (values : List Named) (m n : Numbers) (path : Bor Name) (v : Named) (k : ℕ) → slice_get values k ≡ Some v → Updates (λ x y. bytes_eq x.now y.now) m n path (Some k)
    → (text : Name) → value_by values n text ≡ cond (bytes_eq path.now text) (Some v.value) (value_by values m text)
after_insert values m n path v k at h text = ap (value_numbered values) (h.0 (record { ref_ptr = (0, 0); now = text })) ∙ chosen values v k at (bytes_eq path.now text) _
