-- The definitions, evaluated on small examples.
use Rattle.std.proofs.Common.{◌≡◌, ℕ, [], ◌∷◌, refl, codes, true, false, pos, Some, None}
use Rattle.smv_ast.specs.declared.syntax.Expr.{Expr-F}
use Rattle.smv_ast.specs.declared.syntax.Choice.{Choice-F}
use Rattle.smv_ast.specs.declared.syntax.SmvType.TheVariants as type
use Rattle.smv_ast.specs.declared.syntax.Op.TheVariants as op
use Rattle.smv_ast.specs.declared.program.Declared.TheVariants.{Plain}
use Rattle.smv_ast.specs.declared.program.Section.TheVariants as section
use Rattle.smv_ast.specs.declared.program.Program.{Program}
use Rattle.smv_ast.specs.IgnoringSpans.{no_span}
use Rattle.smv_meaning.specs.declared.value.Value.{Value}
use Rattle.smv_meaning.specs.declared.value.Value.TheVariants.{Boolean, Number}
use Rattle.smv_meaning.specs.Value.{Name, first_value, all_values}
use Rattle.smv_meaning.specs.declared.run.RunState.{RunState}
use Rattle.smv_meaning.specs.Runs.{is_variable, state_of}
use Rattle.smv_meaning.specs.Denotations.{Environment, Denotation, BranchDenotation, expr_denotation, choice_denotation}

abbrev numeral : ℕ → Denotation
numeral n = expr_denotation (Expr-F.Number n)

abbrev name : Name → Denotation
name n = expr_denotation (Expr-F.Name (record { names = n ∷ []; at = no_span }))

abbrev branch : Denotation → Denotation → BranchDenotation
branch cond value = record { cond = cond; value = value }

abbrev number : ℕ → Value
number n = Number (pos n)

-- an environment in which each name has the value of one number
abbrev each : ℕ → Environment
each n path = Some (number n)

-- the values of `2..4`
range : all_values (type.Range (pos 2) (pos 4)) ≡ number 2 ∷ number 3 ∷ number 4 ∷ []
range = refl

-- the first value of `3..7`
first_of_range : first_value (type.Range (pos 3) (pos 7)) ≡ Some (number 3)
first_of_range = refl

-- the first value of an enumeration is the first in text order
first_of_numbers : first_value (type.Numbers (pos 5 ∷ pos 2 ∷ [])) ≡ Some (number 5)
first_of_numbers = refl

-- `case 0 : 5; 1 : 6; 1 : 7; esac`: the first branch whose condition is true, not the second
first_true : (expr_denotation (Expr-F.Cases (branch (numeral 0) (numeral 5) ∷ branch (numeral 1) (numeral 6) ∷ branch (numeral 1) (numeral 7) ∷ []))).value (each 0) (each 0) ≡ Some (number 6)
first_true = refl

-- `case 0 : 5; 0 : 6; esac`: the last branch where no condition is true
last_branch : (expr_denotation (Expr-F.Cases (branch (numeral 0) (numeral 5) ∷ branch (numeral 0) (numeral 6) ∷ []))).value (each 0) (each 0) ≡ Some (number 6)
last_branch = refl

-- `x + next(x)`, where x has the value 1 now and 2 after the step
next_after : (expr_denotation (Expr-F.Binary op.Add (name (codes "x")) (expr_denotation (Expr-F.Next (name (codes "x")))))).value (each 1) (each 2) ≡ Some (number 3)
next_after = refl

-- `{5, 7}` allows 7, and not 6; `2..4` allows 4, and not 5
allows_part : choice_denotation (Choice-F.Each (numeral 5 ∷ numeral 7 ∷ [])) (each 0) (each 0) (number 7) ≡ Some true
allows_part = refl

allows_no_other : choice_denotation (Choice-F.Each (numeral 5 ∷ numeral 7 ∷ [])) (each 0) (each 0) (number 6) ≡ Some false
allows_no_other = refl

allows_high : choice_denotation (Choice-F.Between (pos 2) (pos 4)) (each 0) (each 0) (number 4) ≡ Some true
allows_high = refl

allows_nothing_above : choice_denotation (Choice-F.Between (pos 2) (pos 4)) (each 0) (each 0) (number 5) ≡ Some false
allows_nothing_above = refl

-- `1 = TRUE` and `!(0)` are true, `a = b` for two symbols is false
one_is_true : (expr_denotation (Expr-F.Binary op.Eq (numeral 1) (expr_denotation Expr-F.True))).value (each 0) (each 0) ≡ Some (Boolean true)
one_is_true = refl

not_zero : (expr_denotation (Expr-F.Not (numeral 0))).value (each 0) (each 0) ≡ Some (Boolean true)
not_zero = refl

-- `MODULE main VAR x : boolean;` has the variable `x` alone: a written state describes the first value for `x`, and none for `y`
abbrev one_variable : Program
one_variable = record { modules = record { name = codes "main"; formals = []; sections = section.Vars (record { name = codes "x"; what = Plain type.Boolean; at = no_span } ∷ []) ∷ []; at = no_span } ∷ [] }

abbrev written : RunState
written = record { values = record { path = codes "y"; value = Boolean true } ∷ record { path = codes "x"; value = Boolean true } ∷ record { path = codes "x"; value = Boolean false } ∷ [] }

x_is_variable : is_variable one_variable (codes "x" ∷ []) ≡ true
x_is_variable = refl

path_is_none : is_variable one_variable (codes "x" ∷ codes "x" ∷ []) ≡ false
path_is_none = refl

first_written : state_of one_variable written (codes "x" ∷ []) ≡ Some (Boolean true)
first_written = refl

others_ignored : state_of one_variable written (codes "y" ∷ []) ≡ None
others_ignored = refl
