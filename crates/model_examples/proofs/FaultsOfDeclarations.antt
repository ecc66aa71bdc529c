-- The first fault of small models of declarations alone: with its span and the name that it keeps.
use Rattle.std.proofs.Common.{◌≡◌, List, ◌∷◌, [], Some, None, refl}
use Rattle.std.specs.Prelude.{pos, codes}
use Rattle.smv_ast.specs.declared.syntax.SmvType.TheVariants as type
use Rattle.smv_ast.specs.declared.syntax.Expr.TheVariants as expr
use Rattle.smv_ast.specs.declared.program.Section.{Section}
use Rattle.smv_ast.specs.declared.program.Program.{Program}
use Rattle.smv_ast.specs.declared.fault.Fault.TheVariants as fault
use Rattle.smv_names.specs.NamesFault.{names_fault}
use Rattle.smv_shape.specs.Shape.{shape_fault}
use Rattle.model_examples.specs.Building.{span, var, instance, module_of, main_of, model}

-- a model of `main` and one more module, at span 9
abbrev two : List Section → List Section → Program
two main other = record { modules = main_of main ∷ module_of 9 (codes "m") [] other ∷ [] }

-- `VAR x : boolean; VAR x : boolean;`
variable_twice : names_fault (model (var 1 (codes "x") type.Boolean ∷ var 2 (codes "x") type.Boolean ∷ [])) ≡ Some (fault.DuplicateName (Some (span 2)) (codes "x"))
variable_twice = refl

-- `VAR x : {a, b, a};`
symbol_twice : names_fault (model (var 1 (codes "x") (type.Symbols (codes "a" ∷ codes "b" ∷ codes "a" ∷ [])) ∷ [])) ≡ Some (fault.DuplicateName (Some (span 1)) (codes "a"))
symbol_twice = refl

-- `VAR x : {x};`: a symbol that the module declares
declared_symbol : names_fault (model (var 1 (codes "x") (type.Symbols (codes "x" ∷ [])) ∷ [])) ≡ Some (fault.DuplicateName (Some (span 1)) (codes "x"))
declared_symbol = refl

-- two modules `main`
module_twice : names_fault (record { modules = main_of [] ∷ module_of 9 (codes "main") [] [] ∷ [] }) ≡ Some (fault.DuplicateName (Some (span 9)) (codes "main"))
module_twice = refl

-- `MODULE m(a, a)`: a formal has the span of its module
formal_twice : names_fault (record { modules = main_of [] ∷ module_of 9 (codes "m") (codes "a" ∷ codes "a" ∷ []) [] ∷ [] }) ≡ Some (fault.DuplicateName (Some (span 9)) (codes "a"))
formal_twice = refl

-- `VAR c : n;` without a module `n`
unknown_module : names_fault (model (instance 1 (codes "c") (codes "n") [] ∷ [])) ≡ Some (fault.UnknownModule (Some (span 1)) (codes "n"))
unknown_module = refl

-- no module `main`
no_main : names_fault (record { modules = module_of 9 (codes "m") [] [] ∷ [] }) ≡ Some (fault.UnknownModule None (codes "main"))
no_main = refl

-- `VAR c : m(TRUE);` of a module without formals
too_many_actuals : names_fault (two (instance 1 (codes "c") (codes "m") (expr.True ∷ []) ∷ []) []) ≡ Some (fault.ArgumentCount (Some (span 1)) (codes "m"))
too_many_actuals = refl

-- `MODULE main(a)`
main_with_formal : names_fault (record { modules = module_of 0 (codes "main") (codes "a" ∷ []) [] ∷ [] }) ≡ Some (fault.ArgumentCount (Some (span 0)) (codes "main"))
main_with_formal = refl

-- `VAR x : 3..2;`, and `VAR x : 2..2;`
empty_range : shape_fault (model (var 1 (codes "x") (type.Range (pos 3) (pos 2)) ∷ [])) ≡ Some (fault.EmptyRange (Some (span 1)))
empty_range = refl

one_value : shape_fault (model (var 1 (codes "x") (type.Range (pos 2) (pos 2)) ∷ [])) ≡ None
one_value = refl
