-- The sorts of the names of instances: a variable has the sort of its type, a definition or a
-- formal that of its expression in its own instance, where a definition of an instance is an alias; a path that resolves to no declaration may be
-- a symbol.
use Rattle.std.specs.Prelude.{◌≡◌, ℕ, Bool, true, false, List, [], ◌∷◌, Option, Some, None}
use Rattle.std.specs.Option.{is_some}
use Rattle.smv_ast.specs.declared.syntax.Expr.{Expr}
use Rattle.smv_ast.specs.declared.program.Program.{Program}
use Rattle.smv_meaning.specs.declared.table.InstanceTable.{InstanceTable}
use Rattle.smv_meaning.specs.Value.{Name, and_then}
use Rattle.fixpoint.specs.Fixpoints.{fixpoint, entry}
use Rattle.smv_meaning.specs.Paths.{QualifiedName, Binding, IsVariable, IsInstance, IsDefine, IsFormal, IsNothing, aliases, aliased, resolve}
use Rattle.smv_meaning.specs.Instances.{Entity, Variable, Instance, entity_at, binding_at}
use Rattle.smv_meaning.specs.Entries.{entity_among}
use Rattle.smv_meaning.specs.Values.{is_symbol}
use Rattle.smv_meaning.specs.InstanceTable.{entries_at}
use Rattle.smv_meaning.specs.Slots.{binding_in, by_slot, slot_step}
use Rattle.smv_kinds.specs.declared.sorts.Sort.{Sort}
use Rattle.smv_kinds.specs.declared.sorts.Sort.TheVariants.{Symbol, Nothing}
use Rattle.smv_kinds.specs.declared.facts.Facts.{Facts}
use Rattle.smv_kinds.specs.declared.context.RowSorting.{RowSorting}
use Rattle.smv_kinds.specs.Sorts.{defined_sort, type_sort}
use Rattle.smv_kinds.specs.Facts.{SortEnvironment, facts_of}

-- the known sorts of qualified names
abbrev pub Sorts : Type 0 → Type 0
Sorts P = QualifiedName P → Option Sort

-- the sort of a variable, by the entity of its name
abbrev pub variable_sort : Option Entity → Sort
variable_sort (Some (Variable type)) = type_sort type
variable_sort m = Nothing

-- the sort of a single name, which may be a symbol
abbrev pub word_sort : Bool → Sort
word_sort true = Symbol
word_sort false = Nothing

-- the sort of a path that resolves to no declaration: a symbol, or no kind
abbrev pub symbol_sort : Program → List Name → Option Sort
symbol_sort program (name ∷ []) = Some (word_sort (is_symbol program name))
symbol_sort program path = Some Nothing

-- the sort of a path: that of the declaration that it resolves to
abbrev pub sort_at : {P : Type 0} → SortEnvironment → Sorts P → List Name → Option (QualifiedName P)
    → Option Sort
sort_at symbols known_of path None = symbols path
sort_at symbols known_of path (Some qualified) = known_of qualified

-- over the bindings of the instances, the sorts of variables, and the symbols
module _ {P : Type 0} (binding : QualifiedName P → Option (Binding P)) (variable : QualifiedName P → Sort) (symbols : SortEnvironment) where
  -- the environment of sorts of an instance
  abbrev pub sorting_by : Sorts P → P → SortEnvironment
  sorting_by known_of instance path = sort_at symbols known_of path (resolve binding instance path)

  -- the sort of an expression in an instance
  abbrev pub sort_by : Sorts P → P → Expr → Option Sort
  sort_by known_of instance e = (facts_of (sorting_by known_of instance) e).sort

  -- the sort of a name by its binding; an instance has no kind, nor has a formal without an actual
  abbrev pub sort_of : Sorts P → QualifiedName P → Binding P → Option Sort
  sort_of known_of qualified IsVariable = Some (variable qualified)
  sort_of known_of qualified (IsInstance instance) = Some Nothing
  sort_of known_of qualified (IsDefine right) = defined_sort
      (sort_by known_of qualified.instance right)
  sort_of known_of qualified (IsFormal instance actual) = sort_by known_of instance actual
  sort_of known_of qualified IsNothing = Some Nothing

  -- the transfer function of sorts
  abbrev pub sort_step : Sorts P → Sorts P
  sort_step known_of qualified = and_then (binding qualified) (sort_of known_of qualified)

  -- the sort of each name; a name on a cycle has none
  abbrev pub sorts_in : Sorts P
  sorts_in = fixpoint sort_step

-- ---- instances of a program

-- the sort of a variable of an instance
abbrev pub variable_at : Program → QualifiedName Instance → Sort
variable_at program qualified = variable_sort (entity_at program qualified.instance qualified.name)

-- the environment of sorts of an instance of a program
abbrev pub sorting_in : Program → Instance → SortEnvironment
sorting_in program = sorting_by (binding_at program) (variable_at program) (symbol_sort program)
    (sorts_in (binding_at program) (variable_at program) (symbol_sort program))

-- the facts of an expression in an instance of a program
abbrev pub facts_in : Program → Instance → Expr → Facts
facts_in program instance e = facts_of (sorting_in program instance) e

-- whether an expression is a path to an instance, or to a formal that is an alias of one
abbrev pub is_instance : Program → Instance → Expr → Bool
is_instance program instance e = is_some (aliased (aliases (binding_at program)) instance e)

-- the sort of a variable, if the entity is one
abbrev pub target_sort : Option Entity → Option Sort
target_sort (Some (Variable type)) = Some (type_sort type)
target_sort m = None

-- the sort of a variable of an instance, if the name is one there
abbrev pub target_in : Program → Instance → Name → Option Sort
target_in program instance name = target_sort (entity_at program instance name)

-- ---- instances by number

-- the sort of a variable of the row with this number
abbrev pub row_variable : InstanceTable → QualifiedName ℕ → Sort
row_variable table qualified = variable_sort
    (entity_among (entries_at table.rows qualified.instance) qualified.name)

-- the transfer function of sorts, on slots
abbrev pub sort_slots : Program → InstanceTable → (ℕ → Option Sort) → ℕ → Option Sort
sort_slots program table = slot_step table
    (sort_of (binding_in table) (row_variable table) (symbol_sort program))

-- the environment of sorts of an instance, given by number, by a table
abbrev pub row_sorting : Program → InstanceTable → List (Option Sort) → ℕ → SortEnvironment
row_sorting program table solution row = sorting_by (binding_in table) (row_variable table)
    (symbol_sort program) (by_slot table (entry solution)) row

-- the facts of an expression in an instance, given by number, by a table
abbrev pub row_facts : Program → InstanceTable → List (Option Sort) → ℕ → Expr → Facts
row_facts program table solution row e = facts_of (row_sorting program table solution row) e

-- the table has the sort of each name
abbrev pub AreSorts : Program → InstanceTable → List (Option Sort) → Type 0
AreSorts program table solution = (qualified : QualifiedName ℕ)
    → by_slot table (entry solution) qualified
    ≡ sorts_in (binding_in table) (row_variable table) (symbol_sort program) qualified

-- the environment of sorts of a row
abbrev pub sorting_of : RowSorting → SortEnvironment
sorting_of sorting = row_sorting sorting.context.now.program.now sorting.context.now.table.now
    sorting.solution.now sorting.row
