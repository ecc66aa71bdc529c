-- Types by module and name, after an insertion.
use Rattle.std.proofs.Common.{◌≡◌, Bool, true, false, ◌&&◌, cond, Option, Some, refl, ap, ◌∙◌}
use Rattle.std.specs.Str.{bytes_eq}
use Rattle.std.specs.HashMap.{Updates}
use denote.Ref.{Bor}
use Rattle.smv_ast.specs.declared.syntax.SmvType.{SmvType}
use Rattle.smv_meaning.specs.Value.{Name}
use Rattle.smv_meaning.proofs.NameSetLemmas.{bytes_eq-swapped}
use Rattle.fsmv_lift.specs.IntroducedTypes.{TypeMap, type_in, value_of}

chosen : (b c : Bool) (t : Bor SmvType) (o : Option (Bor SmvType)) → b ≡ c → value_of (cond b (Some t) o) ≡ cond c (Some t.now) (value_of o)
chosen true true t o e = refl
chosen true false t o e = cc
chosen false true t o e = cc
chosen false false t o e = refl

both_swapped : (n : Bor Name × Bor Name) (called name : Name) → (bytes_eq n.0.now called && bytes_eq n.1.now name) ≡ (bytes_eq called n.0.now && bytes_eq name n.1.now)
both_swapped n called name = ap (λ b. b && bytes_eq n.1.now name) (bytes_eq-swapped n.0.now called) ∙ ap (λ b. bytes_eq called n.0.now && b) (bytes_eq-swapped n.1.now name)

-- types with that of one more name in a module
pub after_insert : (m n : TypeMap) (k : Bor Name × Bor Name) (t : Bor SmvType) (held named : Name) → Updates (λ x y. bytes_eq x.0.now y.0.now && bytes_eq x.1.now y.1.now) m n k (Some t)
    → k.0.now ≡ held → k.1.now ≡ named
    → (called name : Name) → type_in n called name ≡ cond (bytes_eq called held && bytes_eq name named) (Some t.now) (type_in m called name)
after_insert m n k t held named h e f called name = ap value_of (h.0 (record { ref_ptr = (0, 0); now = called }, record { ref_ptr = (0, 0); now = name })) ∙ chosen _ _ t _ (both_swapped k called name)
    ∙ ap (λ x. cond (bytes_eq called x && bytes_eq name k.1.now) (Some t.now) (type_in m called name)) e
    ∙ ap (λ y. cond (bytes_eq called held && bytes_eq name y) (Some t.now) (type_in m called name)) f
