-- The faults of cyclic definitions and of nesting: CyclicDefine, then TooNested.
use Rattle.std.specs.Prelude.{ℕ, ◌+◌, Bool, true, false, not, ◌&&◌, ◌||◌, nat_lt, if◌then◌else◌, List, [], ◌∷◌, ◌++◌, length, map, Option, Some, None, is_some, codes}
use Rattle.std.specs.List.{list_any}
use Rattle.std.specs.Str.{bytes_eq}
use Rattle.smv_ast.specs.PrintedExpr.{joined}
use Rattle.smv_ast.specs.declared.syntax.Expr.{Expr}
use Rattle.smv_ast.specs.declared.syntax.Span.{Span}
use Rattle.smv_ast.specs.declared.fault.Fault.{Fault}
use Rattle.smv_ast.specs.declared.fault.Fault.TheVariants as fault
use Rattle.smv_ast.specs.declared.program.Declared.TheVariants.{Instance as Submodule}
use Rattle.smv_ast.specs.declared.program.Module.{Module}
use Rattle.smv_ast.specs.declared.program.Program.{Program}
use Rattle.smv_meaning.specs.Value.{Name, and_then}
use Rattle.smv_meaning.specs.Paths.{QualifiedName, Binding, IsDefine, IsFormal, aliases, resolve}
use Rattle.smv_meaning.specs.Instances.{Instance, Main, Within, path_of, entries, module_at, instances, binding_at}
use Rattle.smv_meaning.specs.Items.{Item, Declares, Defines, exprs_of, at_of, items}
use Rattle.smv_meaning.specs.ItemIndex.{items_at}
use Rattle.smv_meaning.specs.Runs.{or_else, first_fault, path_text}
use Rattle.smv_cycles.specs.Nodes.{Node, nodes_of}
use Rattle.graph.specs.Graphs.{cycle_of}
use Rattle.smv_cycles.specs.Reads.{Edge, tallest, heights, read_by, own_cycle}

-- ---- the dependencies of names

-- over the bindings of the instances
module _ {P : Type 0} (binding : QualifiedName P → Option (Binding P)) where
  -- whether a name is bound to an expression: a definition is, and a formal that is no alias of an
  -- instance
  abbrev pub is_read : QualifiedName P → Binding P → Bool
  is_read qualified (IsDefine right) = true
  is_read qualified (IsFormal instance actual) = not (is_some (aliases binding qualified))
  is_read qualified m = false

  -- the name, if it is bound to an expression
  abbrev pub read_name : QualifiedName P → Option (QualifiedName P)
  read_name qualified = and_then (binding qualified)
      (λ m. if is_read qualified m then Some qualified else None)

  -- the name that a path of an instance reads: the one that it resolves to, if that is bound to an
  -- expression
  abbrev pub name_read : P → Option (List Name) → Option (QualifiedName P)
  name_read instance path = and_then path
      (λ names. and_then (resolve binding instance names) read_name)

  -- the edge of a node of an expression in an instance
  abbrev pub edge_in : P → Node → Edge (QualifiedName P)
  edge_in instance n = record { above = n.above; target = name_read instance n.path }

  -- the edges of an expression in an instance
  abbrev pub edges_in : P → Expr → List (Edge (QualifiedName P))
  edges_in instance e = map (edge_in instance) (nodes_of e)

  -- the edges of a name by its binding: a definition's right side is read in its own instance, a
  -- formal's actual in the outer one; an alias of an instance has no edges
  abbrev pub edges_by : QualifiedName P → Binding P → Option (List (Edge (QualifiedName P)))
  edges_by qualified (IsDefine right) = Some (edges_in qualified.instance right)
  edges_by qualified (IsFormal instance actual) = Some (edges_in instance actual)
  edges_by qualified m = None

  -- the edges of a name, if it has a binding
  abbrev pub name_edges : QualifiedName P → Option (List (Edge (QualifiedName P)))
  name_edges qualified = and_then (binding qualified) (edges_by qualified)

-- ---- the names of a program

-- whether two instances are equal
abbrev pub same_instance : Instance → Instance → Bool
same_instance Main Main = true
same_instance (Within p name called) (Within q name' called') =
    (bytes_eq name name' && bytes_eq called called') && same_instance p q
same_instance p q = false

-- whether two qualified names are equal
abbrev pub same_name : QualifiedName Instance → QualifiedName Instance → Bool
same_name a b = bytes_eq a.name b.name && same_instance a.instance b.instance

-- the dependencies of the names of a program
abbrev pub program_edges : Program → QualifiedName Instance
    → Option (List (Edge (QualifiedName Instance)))
program_edges program = name_edges (binding_at program)

-- the height of each name
abbrev pub program_heights : Program → QualifiedName Instance → Option ℕ
program_heights program = heights (program_edges program)

-- ---- CyclicDefine

-- the first name that depends on itself: by instance, formals first, then in text order
abbrev pub first_cycle : Program → Option (QualifiedName Instance)
first_cycle program =
    first_fault (λ instance. first_fault
    (λ e. own_cycle (program_edges program) same_name
    (record { instance = instance; name = e.name })) (entries (module_at program instance)))
    (instances program)

-- the printed path of a name from `main`
abbrev pub qualified_text : QualifiedName Instance → List ℕ
qualified_text qualified = path_text (path_of qualified.instance ++ qualified.name ∷ [])

-- the printed cycle of a name
abbrev pub cycle_text : Program → QualifiedName Instance → List ℕ
cycle_text program qualified = joined (codes ",") (map qualified_text (cycle_of (read_by (program_edges program)) same_name qualified))

-- whether a name is one of these formals
abbrev pub is_formal : List Name → Name → Bool
is_formal formals name = list_any (λ f. bytes_eq f name) formals

-- the span of an item, if it declares or defines the name
abbrev pub span_if_named : Name → Item → Option Span
span_if_named name (Declares other what at) = if bytes_eq other name then Some at else None
span_if_named name (Defines other right at) = if bytes_eq other name then Some at else None
span_if_named name item = None

-- the span that was found, else a default
abbrev pub or_at : Span → Option Span → Span
or_at at None = at
or_at at (Some found) = found

-- the span of a name's declaration in a module; a formal has the module's span
abbrev pub declared_at : Module → Name → Span
declared_at m name = if is_formal m.formals name then m.at else or_at m.at
    (first_fault (span_if_named name) (items m))

-- the fault of a name that depends on itself
abbrev pub cycle_fault : Program → QualifiedName Instance → Fault
cycle_fault program qualified = fault.CyclicDefine
    (Some (declared_at (module_at program qualified.instance) qualified.name))
    (cycle_text program qualified)

-- ---- TooNested

-- whether an item declares an instance
abbrev pub declares_instance : Item → Bool
declares_instance (Declares name (Submodule called actuals) at) = true
declares_instance item = false

-- whether an item is nested too deep, given which expressions are too high and whether instances
-- declared here are too deep
abbrev pub is_nested : (Expr → Bool) → Bool → Item → Bool
is_nested high deep item = (deep && declares_instance item) || list_any high (exprs_of item)

-- the fault of an item that is nested too deep
abbrev pub nested_item : (Expr → Bool) → Bool → Item → Option Fault
nested_item high deep item = if is_nested high deep item then Some
    (fault.TooNested (Some (at_of item))) else None

-- whether a height passes 1,000; what depends on itself has none, and passes it
abbrev pub is_high : Option ℕ → Bool
is_high None = true
is_high (Some h) = nat_lt 1000 h

-- the height of an expression of an instance, through all that it reads
abbrev pub height_in : Program → Instance → Expr → Option ℕ
height_in program instance e = tallest (program_heights program) 0
    (edges_in (binding_at program) instance e)

-- whether the height of an expression of an instance passes 1,000
abbrev pub high_in : Program → Instance → Expr → Bool
high_in program instance e = is_high (height_in program instance e)

-- whether an instance declared by an instance has a path of more than 1,000 names
abbrev pub deep_in : Instance → Bool
deep_in instance = nat_lt 1000 (length (path_of instance) + 1)

-- the first item of an instance that is nested too deep
abbrev pub nested_within : Program → Instance → Option Fault
nested_within program instance = first_fault
    (nested_item (high_in program instance) (deep_in instance)) (items_at program instance)

-- the first item that is nested too deep, in the order of the instances and of the text
abbrev pub nesting_fault : Program → Option Fault
nesting_fault program = first_fault (nested_within program) (instances program)

-- ---- both checks

-- the first fault
abbrev pub cycles_fault : Program → Option Fault
cycles_fault program = or_else
    (and_then (first_cycle program) (λ qualified. Some (cycle_fault program qualified)))
    (nesting_fault program)
