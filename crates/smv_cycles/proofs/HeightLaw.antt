-- A model without a fault of cycles or nesting has a height for each expression.
use Rattle.std.proofs.Common.{◌≡◌, ℕ, Bool, false, ◌&&◌, List, [], ◌∷◌, Option, Some, None, arith}
use Rattle.smv_meaning.proofs.FirstFault.{neither_found, not_broken}
use Rattle.std.proofs.lemmas.Bool.{or_parts}
use Rattle.std.specs.Prelude.{All}
use Rattle.std.specs.List.{list_any, slice_index_or}
use Rattle.std.proofs.lemmas.List.Elements.{All-cons}
use Rattle.smv_ast.specs.declared.fault.Fault.TheVariants as fault
use Rattle.smv_ast.specs.declared.program.Program.{Program}
use Rattle.smv_meaning.specs.Value.{and_then}
use Rattle.smv_meaning.specs.Instances.{Instance, instances}
use Rattle.smv_meaning.specs.Items.{Item, exprs_of, at_of}
use Rattle.smv_meaning.specs.ItemIndex.{items_at}
use Rattle.smv_meaning.specs.Runs.{first_fault}
use Rattle.smv_cycles.specs.Cycles.{declares_instance, is_nested, nested_item, nested_within, nesting_fault, first_cycle, cycle_fault, is_high, height_in, high_in, deep_in, cycles_fault}
use Rattle.smv_cycles.specs.Heights.{IsLow, HaveHeights}

-- where a rule finds no fault in a list, it finds none of an element
none_each : {A B : Type 0} (f : A → Option B) (xs : List A) → first_fault f xs ≡ None → All (λ x. f x ≡ None) xs
none_each f [] e = λ k d h. absurd (omega (arith, h))
none_each f (x ∷ xs) e = let r = neither_found (f x) (first_fault f xs) e in All-cons (λ x. f x ≡ None) x xs r.0 (none_each f xs r.1)

false_each : {A : Type 0} (p : A → Bool) (xs : List A) → list_any p xs ≡ false → All (λ x. p x ≡ false) xs
false_each p [] e = λ k d h. absurd (omega (arith, h))
false_each p (x ∷ xs) e = let r = or_parts (p x) (list_any p xs) e in All-cons (λ x. p x ≡ false) x xs r.0 (false_each p xs r.1)

low : (o : Option ℕ) → is_high o ≡ false → IsLow o
low None e = cc
low (Some h) e = grind (arith, e)

module _ (program : Program) (instance : Instance) where
  item_low : (item : Item) → nested_item (high_in program instance) (deep_in instance) item ≡ None → All (λ e. IsLow (height_in program instance e)) (exprs_of item)
  item_low item e =
      let b = not_broken (is_nested (high_in program instance) (deep_in instance) item) (fault.TooNested (Some (at_of item))) e in
      let r = or_parts (deep_in instance && declares_instance item) (list_any (high_in program instance) (exprs_of item)) b in
      let each = false_each (high_in program instance) (exprs_of item) r.1 in
      λ k d h. low _ (each k d h)

  items_low : nested_within program instance ≡ None → All (λ item. All (λ e. IsLow (height_in program instance e)) (exprs_of item)) (items_at program instance)
  items_low e =
      let each = none_each (nested_item (high_in program instance) (deep_in instance)) (items_at program instance) e in
      λ k d h. item_low _ (each k d h)

-- a model without a fault of cycles or nesting has a height of at most 1,000 for each expression of an item
pub have_heights : (program : Program) → cycles_fault program ≡ None → HaveHeights program
have_heights program e =
    let r = neither_found (and_then (first_cycle program) (λ qualified. Some (cycle_fault program qualified))) (nesting_fault program) e in
    let each = none_each (nested_within program) (instances program) r.1 in
    λ k d h. items_low program (slice_index_or (instances program) k d) (each k d h)
