-- Equal types: those that are the same list of values. `0..3` equals `{0, 1, 2, 3}`, and `boolean`
-- equals only itself.
use Rattle.std.specs.Prelude.{Bool, true, false, ◌&&◌, List, [], ◌∷◌}
use Rattle.std.specs.Bool.{beq}
use Rattle.std.specs.Ordering.{int_eq}
use Rattle.std.specs.Str.{bytes_eq}
use Rattle.smv_ast.specs.declared.syntax.SmvType.{SmvType}
use Rattle.smv_meaning.specs.declared.value.Value.{Value}
use Rattle.smv_meaning.specs.declared.value.Value.TheVariants.{Boolean, Number, Symbol}
use Rattle.smv_meaning.specs.Value.{all_values}

-- whether two values are equal; a truth value equals no number
abbrev pub equal_values : Value → Value → Bool
equal_values (Boolean b) (Boolean c) = beq b c
equal_values (Number m) (Number n) = int_eq m n
equal_values (Symbol a) (Symbol b) = bytes_eq a b
equal_values v w = false

-- whether two lists of values are equal
abbrev pub equal_lists : List Value → List Value → Bool
equal_lists [] [] = true
equal_lists (v ∷ vs) (w ∷ ws) = equal_values v w && equal_lists vs ws
equal_lists vs ws = false

-- the values of `boolean`
abbrev pub truth_values : List Value
truth_values = Boolean false ∷ Boolean true ∷ []

-- whether two types are equal
abbrev pub equal_types : SmvType → SmvType → Bool
equal_types t u = equal_lists (all_values t) (all_values u)
