-- Resolution of paths: name by name, through instances and formals that are aliases of instances.
-- The instances may be those of a program, or their numbers in a table.
use Rattle.std.specs.Prelude.{List, [], ◌∷◌, Option, Some, None}
use Rattle.smv_ast.specs.declared.syntax.Expr.{Expr}
use Rattle.smv_ast.specs.declared.syntax.Expr.TheVariants as expr
use Rattle.smv_meaning.specs.Value.{Name, and_then}
use Rattle.fixpoint.specs.Fixpoints.{fixpoint}

-- a qualified name: an instance and a name in it
pub record QualifiedName (P : Type 0) : Type 0 where
  pub instance : P
  pub name : Name

-- the binding of a name in an instance: a variable, an instance, a definition with its right side,
-- a formal with its actual and the instance in which that is read, or a formal without an actual
pub data Binding (P : Type 0) : Type 0 where
  IsVariable : Binding P
  IsInstance : P → Binding P
  IsDefine : Expr → Binding P
  IsFormal : P → Expr → Binding P
  IsNothing : Binding P

-- the instance that a qualified name is an alias of
abbrev pub Aliases : Type 0 → Type 0
Aliases P = QualifiedName P → Option P

-- the instance that a path of an instance resolves to
abbrev pub walked : {P : Type 0} → Aliases P → P → List Name → Option P
walked alias instance [] = Some instance
walked alias instance (name ∷ more) = and_then (alias (record { instance = instance; name = name }))
    (λ p. walked alias p more)

-- the instance that an actual denotes: the one that its path resolves to
abbrev pub aliased : {P : Type 0} → Aliases P → P → Expr → Option P
aliased alias instance (expr.Name path) = walked alias instance path.names
aliased alias instance e = None

-- the instance that a binding is an alias of
abbrev pub alias_of_binding : {P : Type 0} → Aliases P → Binding P → Option P
alias_of_binding alias (IsInstance instance) = Some instance
alias_of_binding alias (IsFormal instance actual) = aliased alias instance actual
alias_of_binding alias m = None

-- over the bindings of the instances
module _ {P : Type 0} (binding : QualifiedName P → Option (Binding P)) where
  -- the transfer function of aliases
  abbrev pub alias_step : Aliases P → Aliases P
  alias_step alias qualified = and_then (binding qualified) (alias_of_binding alias)

  -- the instance that each name is an alias of; formals on a cycle of aliases have none
  abbrev pub aliases : Aliases P
  aliases = fixpoint alias_step

  -- the declaration that a path resolves to: its names but the last resolve to an instance that
  -- declares the last
  abbrev pub resolve_by : Aliases P → P → List Name → Option (QualifiedName P)
  resolve_by alias instance [] = None
  resolve_by alias instance (name ∷ []) = and_then
      (binding (record { instance = instance; name = name }))
      (λ m. Some (record { instance = instance; name = name }))
  resolve_by alias instance (name ∷ next ∷ more) = and_then
      (alias (record { instance = instance; name = name })) (λ p. resolve_by alias p (next ∷ more))

  -- the declaration that a path of an instance resolves to
  abbrev pub resolve : P → List Name → Option (QualifiedName P)
  resolve = resolve_by aliases
