-- A program whose text keeps the rules has its choices where the rules of kinds need them.
use Rattle.std.proofs.Common.{◌≡◌, Bool, true, false, cond, List, [], ◌∷◌, ◌++◌, Some, None, refl, sym, ap, ◌∙◌}
use Rattle.std.proofs.lemmas.Bool.{or_parts}
use Rattle.std.specs.Prelude.{find}
use Rattle.std.specs.List.{list_all, list_any, flat_map}
use Rattle.std.specs.Str.{bytes_eq}
use Rattle.smv_ast.specs.declared.syntax.Expr.{Expr}
use Rattle.smv_ast.specs.declared.program.Module.{Module}
use Rattle.smv_ast.specs.declared.program.Program.{Program}
use Rattle.smv_meaning.specs.Value.{Name}
use Rattle.smv_meaning.specs.Instances.{Instance, or_empty, module_at, called_at, instances}
use Rattle.smv_meaning.specs.Runs.{or_else, first_fault}
use Rattle.smv_meaning.specs.Items.{Item, Declares, Assigns, Defines, Constrains, at_of, declared_exprs, items, program_items}
use Rattle.smv_meaning.proofs.FirstFault.{first_append, neither_found, not_broken}
use Rattle.smv_shape.specs.declared.rule.Rule.TheVariants as rule
use Rattle.smv_shape.specs.Rules as rules
use Rattle.smv_shape.specs.Ranges.{has_empty}
use Rattle.smv_shape.specs.Choices.{has_stray_choice}
use Rattle.smv_shape.specs.Assigned.{parameter_fault, double_fault}
use Rattle.smv_shape.specs.Shape.{shape_fault}
use Rattle.smv_kinds.specs.Soundness.{shape_of, is_shaped, AreShaped}
use Rattle.smv_types.proofs.Shaped.{together, plain_of, free_of}

-- ---- without faults

-- ---- items

-- the rules of intervals and of choices are kept
record Keeps (items : List Item) : Type 0 where
  ranges : first_fault (rules.rule_fault rule.Ranges) items ≡ None
  choices : first_fault (rules.rule_fault rule.Choices) items ≡ None

-- an item keeps both rules
record KeepsItem (item : Item) : Type 0 where
  ranges : rules.breaks rule.Ranges item ≡ false
  choices : rules.breaks rule.Choices item ≡ false

-- the first item and the others keep them
first_keeps : (x : Item) (xs : List Item) → Keeps (x ∷ xs) → KeepsItem x × Keeps xs
first_keeps x xs k =
    let a = neither_found (rules.rule_fault rule.Ranges x) (first_fault (rules.rule_fault rule.Ranges) xs) k.ranges in
    let b = neither_found (rules.rule_fault rule.Choices x) (first_fault (rules.rule_fault rule.Choices) xs) k.choices in
    (record { ranges = not_broken _ (rules.fault_of rule.Ranges (at_of x)) a.0; choices = not_broken _ (rules.fault_of rule.Choices (at_of x)) b.0 }, record { ranges = a.1; choices = b.1 })

-- both lists keep them
both_keep : (xs ys : List Item) → Keeps (xs ++ ys) → Keeps xs × Keeps ys
both_keep xs ys k =
    let a = neither_found (first_fault (rules.rule_fault rule.Ranges) xs) (first_fault (rules.rule_fault rule.Ranges) ys) (sym (first_append (rules.rule_fault rule.Ranges) xs ys) ∙ k.ranges) in
    let b = neither_found (first_fault (rules.rule_fault rule.Choices) xs) (first_fault (rules.rule_fault rule.Choices) ys) (sym (first_append (rules.rule_fault rule.Choices) xs ys) ∙ k.choices) in
    (record { ranges = a.0; choices = b.0 }, record { ranges = a.1; choices = b.1 })

exprs_plain : (item : Item) → rules.may_choose item ≡ false → (actuals : List Expr) → list_any (rules.expr_breaks rule.Ranges item) actuals ≡ false → list_any (rules.expr_breaks rule.Choices item) actuals ≡ false → list_all (λ e. (shape_of e).plain) actuals ≡ true
exprs_plain item none [] r c = refl
exprs_plain item none (e ∷ actuals) r c =
    let a = or_parts (rules.expr_breaks rule.Ranges item e) (list_any (rules.expr_breaks rule.Ranges item) actuals) r in
    let b = or_parts (rules.expr_breaks rule.Choices item e) (list_any (rules.expr_breaks rule.Choices item) actuals) c in
    together _ _ (plain_of e a.0 (ap (has_stray_choice e) (sym none) ∙ b.0)) (exprs_plain item none actuals a.1 b.1)

-- the choices of an item without a broken rule are where they may be
item_shaped : (item : Item) → KeepsItem item → is_shaped item ≡ true
item_shaped (Declares name what at) k =
    let item = Declares name what at in
    let a = or_parts (rules.type_breaks rule.Ranges item) (list_any (rules.expr_breaks rule.Ranges item) (declared_exprs what)) k.ranges in
    let b = or_parts (rules.type_breaks rule.Choices item) (list_any (rules.expr_breaks rule.Choices item) (declared_exprs what)) k.choices in
    exprs_plain item refl (declared_exprs what) a.1 b.1
item_shaped (Assigns left name right at) k = free_of right (or_parts (has_empty right) false k.ranges).0 (or_parts (has_stray_choice right true) false k.choices).0
item_shaped (Defines name right at) k = exprs_plain (Defines name right at) refl (right ∷ []) k.ranges k.choices
item_shaped (Constrains r e at) k = exprs_plain (Constrains r e at) refl (e ∷ []) k.ranges k.choices

items_shaped : (xs : List Item) → Keeps xs → list_all is_shaped xs ≡ true
items_shaped [] k = refl
items_shaped (x ∷ xs) k = let s = first_keeps x xs k in together _ _ (item_shaped x s.0) (items_shaped xs s.1)

-- ---- modules

-- the module that was found, or the empty one
found_shaped : (name : Name) (ms : List Module) → Keeps (flat_map items ms) → list_all is_shaped (items (or_empty name (find (λ m. bytes_eq m.name name) ms))) ≡ true
found_shaped name [] k = refl
found_shaped name (m ∷ ms) k =
    let b = both_keep (items m) (flat_map items ms) k in
    by_name (bytes_eq m.name name) (items_shaped (items m) b.0) (found_shaped name ms b.1) where
      by_name : (v : Bool) → list_all is_shaped (items m) ≡ true → list_all is_shaped (items (or_empty name (find (λ m. bytes_eq m.name name) ms))) ≡ true
          → list_all is_shaped (items (or_empty name (cond v (Some m) (find (λ m. bytes_eq m.name name) ms)))) ≡ true
      by_name true h k = h
      by_name false h k = k

instances_shaped : (program : Program) (row_instances : List Instance) → Keeps (program_items program) → list_all (λ instance. list_all is_shaped (items (module_at program instance))) row_instances ≡ true
instances_shaped program [] k = refl
instances_shaped program (p ∷ row_instances) k = together _ _ (found_shaped (called_at p) program.modules k) (instances_shaped program row_instances k)

pub are_shaped : (program : Program) → shape_fault program ≡ None → AreShaped program
are_shaped program e =
    let a = neither_found (rules.first_broken rule.Ranges program) (or_else (parameter_fault program) (or_else (double_fault program) (or_else (rules.first_broken rule.Choices program) (rules.first_broken rule.Nexts program)))) e in
    let b = neither_found (parameter_fault program) (or_else (double_fault program) (or_else (rules.first_broken rule.Choices program) (rules.first_broken rule.Nexts program))) a.1 in
    let c = neither_found (double_fault program) (or_else (rules.first_broken rule.Choices program) (rules.first_broken rule.Nexts program)) b.1 in
    let d = neither_found (rules.first_broken rule.Choices program) (rules.first_broken rule.Nexts program) c.1 in
    instances_shaped program (instances program) (record { ranges = a.0; choices = d.0 })
