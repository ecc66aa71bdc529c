-- The items that a lift has beside those of the text hold by themselves in settled states of the product; and the pins
-- fix the variables that the text does not have.
use Rattle.std.proofs.Common.{◌≡◌, ◌||◌, not, Bool, true, false, List, [], ◌∷◌, ◌++◌, Option, Some, None, refl, sym, ap, ◌∙◌, subst}
use Rattle.std.specs.Prelude.{IsSome}
use Rattle.std.specs.List.{Contains}
use Rattle.std.specs.Str.{bytes_eq}
use Rattle.std.proofs.lemmas.Slice.Eq.{bytes_eq-Decides}
use Rattle.smv_ast.specs.declared.syntax.Op.{Op}
use Rattle.smv_ast.specs.declared.syntax.Op.TheVariants as op
use Rattle.smv_ast.specs.declared.syntax.Path.{Path}
use Rattle.smv_ast.specs.declared.syntax.Span.{Span}
use Rattle.smv_ast.specs.declared.syntax.SmvType.{SmvType}
use Rattle.smv_ast.specs.declared.syntax.Expr.{Expr}
use Rattle.smv_ast.specs.declared.syntax.Expr.TheVariants as expr
use Rattle.smv_ast.specs.declared.program.Left.{Left}
use Rattle.smv_ast.specs.declared.program.Left.TheVariants as left
use Rattle.smv_meaning.specs.declared.value.Value.{Value}
use Rattle.smv_meaning.specs.declared.value.Value.TheVariants.{Boolean, Number, Symbol}
use Rattle.smv_meaning.specs.declared.items.Role.{Role}
use Rattle.smv_meaning.specs.declared.items.Role.TheVariants as role
use Rattle.fixpoint.specs.OptionOrder.{Le}
use Rattle.smv_meaning.specs.Value.{Name, and_then, of_both, operate, all_values, same, bool_eq, int_eq, truth, is_true}
use Rattle.smv_meaning.specs.Paths.{QualifiedName, Binding, IsVariable, resolve}
use Rattle.smv_meaning.specs.Denotations.{Environment, Denotation, denotation_of}
use Rattle.smv_meaning.specs.Instances.{Instance, path_of, instances, binding_at}
use Rattle.smv_meaning.specs.Items.{Item, Assigns, Constrains}
use Rattle.smv_meaning.specs.ItemIndex.{items_at}
use Rattle.smv_meaning.specs.Values.{State, symbol_of, value_at_path, variable_in, values_in, environment_in, value_in, allows_in}
use Rattle.smv_meaning.specs.Runs.{VariableAt, variables, is_variable, surely, is_assigned, is_true_in, begins, stays, steps, IsState, IsExactState, IsInside}
use Rattle.smv_meaning.proofs.MemberLemmas.{In, in_of}
use Rattle.lift_relation.specs.RelatedExpr.{guarded_constraint, IsVariableOf, RelatedExpr}
use Rattle.lift_relation.specs.Environments.{ShowsProduct}
use Rattle.lift_relation.specs.Weaving.{Weaving, IsOfText, home_instance, feature_variable}
use Rattle.lift_relation.specs.RelatedNames.{AreRelatedNames}
use Rattle.lift_relation.specs.RelatedItems.{HasValue, AreDefined, HoldsAtProduct}
use Rattle.lift_relation.specs.Correspondence.{projected, feature_path, IsAtProduct, IsSettled, IsFixed, AreRelatedVariables}
use Rattle.lift_relation.specs.OwnItems.{IsConstant, AllowsAll}
use Rattle.lift_relation.proofs.FormLemmas.{name_is, binary_is}
use Rattle.lift_relation.proofs.ExprLaw.{related_le, not_introduced_le}
use Rattle.lift_relation.proofs.ValueLaw.{shows_product}
use Rattle.lift_relation.proofs.ConstraintLemmas.{whole_restores, whole_always, whole_leaves, left_out_implies, chosen_or, left_out_or}
use Rattle.lift_relation.proofs.VariableLemmas.{variable_value}
use Rattle.lift_relation.proofs.ItemLemmas.{item_passes}
use Rattle.lift_relation.proofs.BackLemmas.{exact, has_value}
use Rattle.lift_relation.proofs.StateLemmas.{projected_related}

-- ---- values that are the same

bool_itself : (b : Bool) → bool_eq b b ≡ true
bool_itself true = refl
bool_itself false = refl

bool_same : (b c : Bool) → bool_eq b c ≡ true → b ≡ c
bool_same true c e = sym e
bool_same false true e = cc
bool_same false false e = refl

-- ---- the path of a variable

module _ (w : Weaving) (instance : Instance) (name : Name) (b : binding_at w.lift (record { instance = instance; name = name }) ≡ Some IsVariable) where
  abbrev q : QualifiedName Instance
  q = record { instance = instance; name = name }

  -- its value is the one that the state gives it
  pub path_value : (s : State) → environment_in w.lift s instance (name ∷ []) ≡ s (path_of instance ++ name ∷ [])
  path_value s =
      ap (λ (o : Option (Binding Instance)). value_at_path (symbol_of w.lift) (values_in w.lift s) (name ∷ []) (and_then o (λ m. Some q))) b
      ∙ variable_value w.lift s q b
