-- The first fault of the items of a list of sections.
use Rattle.std.proofs.Common.{◌≡◌, ℕ, ◌<◌, ◌+◌, drop, get_or, List, length, Option, None, ap, sym, ◌∙◌, subst, Result, Ok}
use Rattle.std.specs.List.{flat_map}
use Rattle.smv_ast.specs.declared.fault.Fault.{Fault}
use Rattle.smv_meaning.specs.Faults.{ReportsFirst}
use Rattle.smv_meaning.specs.Runs.{first_fault, or_else}
use Rattle.smv_meaning.proofs.FirstFault.{first_append}
use Rattle.smv_meaning.proofs.ValuationLemmas.{get_item}
use Rattle.smv_meaning.proofs.OrderLemmas.{flat_next}

module _ {A X : Type 0} (f : A → Option Fault) (g : X → List A) (xs : List X) (k : ℕ) (x : X) where
  -- the first fault from an index on: that of the item there, else that of those after it
  pub first_next : k < length xs → x ≡ get_or xs k x → first_fault f (flat_map g (drop k xs)) ≡ or_else (first_fault f (g x)) (first_fault f (flat_map g (drop (k + 1) xs)))
  first_next h e = ap (first_fault f) (flat_next g xs k x (get_item xs k x h e)) ∙ first_append f (g x) (flat_map g (drop (k + 1) xs))

  -- where the item there has none, it is that of those after it
  pub first_later : {B : Type 0} (whole : Option Fault) (r : Result B Fault) (b : B) → k < length xs → x ≡ get_or xs k x → first_fault f (flat_map g (drop k xs)) ≡ whole → ReportsFirst (first_fault f (g x)) r → r ≡ Ok b
      → first_fault f (flat_map g (drop (k + 1) xs)) ≡ whole
  first_later whole r b h e w reported is =
      let none : first_fault f (g x) ≡ None = subst (λ r. ReportsFirst (first_fault f (g x)) r) is reported in
      ap (λ (o : Option Fault). or_else o (first_fault f (flat_map g (drop (k + 1) xs)))) (sym none) ∙ (sym (first_next h e) ∙ w)
