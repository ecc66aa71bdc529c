-- The value of a variable of an instance is the one that the state gives it.
use Rattle.std.proofs.Common.{◌≡◌, ℕ, zero, suc, ◌≤◌, Option, Some, None, refl, sym, ap, ◌∙◌, subst, arith}
use Rattle.smv_ast.specs.declared.program.Program.{Program}
use Rattle.smv_meaning.specs.declared.value.Value.{Value}
use Rattle.fixpoint.specs.OptionOrder.{Le}
use Rattle.fixpoint.specs.Fixpoints.{most}
use Rattle.fixpoint.proofs.Laws.{agree, known_fixpoint, fixpoint_unfolds}
use Rattle.smv_meaning.specs.Value.{and_then}
use Rattle.smv_meaning.specs.Paths.{QualifiedName, Binding, IsVariable}
use Rattle.smv_meaning.specs.StepMonotone.{valuation_step_monotone}
use Rattle.smv_meaning.specs.Instances.{Instance, binding_at}
use Rattle.smv_meaning.specs.Values.{State, Valuation, symbol_of, value_of_binding, valuation_step, variable_in, values_in}

one_most : 1 ≤ most
unfolding most
one_most = omega arith

module _ (program : Program) (s : State) (q : QualifiedName Instance) (b : binding_at program q ≡ Some IsVariable) where
  stepped : (v : Valuation Instance) → valuation_step (binding_at program) (symbol_of program) (variable_in s) v q ≡ variable_in s q
  stepped v = ap (λ (o : Option (Binding Instance)). and_then o (value_of_binding (binding_at program) (symbol_of program) (variable_in s) v q)) b

  there : Le (values_in program s q) (variable_in s q)
  there v e = sym (stepped (values_in program s)) ∙ fixpoint_unfolds (valuation_step (binding_at program) (symbol_of program) (variable_in s)) (valuation_step_monotone (binding_at program) (symbol_of program) (variable_in s)) q v e

  back : Le (variable_in s q) (values_in program s q)
  back v e = known_fixpoint (valuation_step (binding_at program) (symbol_of program) (variable_in s)) (valuation_step_monotone (binding_at program) (symbol_of program) (variable_in s)) 1 one_most q v (stepped (λ k. None) ∙ e)

  pub variable_value : values_in program s q ≡ variable_in s q
  variable_value = agree (values_in program s q) (variable_in s q) there back
