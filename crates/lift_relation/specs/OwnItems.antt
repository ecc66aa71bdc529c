-- What the lift's own items are made of: first values, and sets of all values.
use Rattle.std.specs.Prelude.{◌≡◌, true, Some}
use Rattle.std.specs.List.{Contains}
use Rattle.smv_ast.specs.declared.syntax.SmvType.{SmvType}
use Rattle.smv_ast.specs.declared.syntax.Expr.{Expr}
use Rattle.smv_ast.specs.declared.program.Program.{Program}
use Rattle.smv_meaning.specs.declared.value.Value.{Value}
use Rattle.smv_meaning.specs.Value.{all_values, same}
use Rattle.smv_meaning.specs.Instances.{Instance}
use Rattle.smv_meaning.specs.Values.{State, value_in, allows_in}

-- an expression of an instance has this value in all states
pub record IsConstant (program : Program) (instance : Instance) (e : Expr) (c : Value) : Type 0 where
  pub value : (s t : State) → value_in program s t instance e ≡ Some c
  pub allows : (s t : State) (v : Value) → allows_in program s t instance e v ≡ Some (same v c)

-- an expression of an instance allows in all states each value of a type
abbrev pub AllowsAll : Program → Instance → Expr → SmvType → Type 0
AllowsAll program instance e type = (s t : State) (v : Value) → Contains (all_values type) v
    → allows_in program s t instance e v ≡ Some true
