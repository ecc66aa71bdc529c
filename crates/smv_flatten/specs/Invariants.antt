-- The specs of a model in the order of its instances and of the text, and their nodes.
use Rattle.std.specs.Prelude.{◌≡◌, ℕ, suc, ◌==◌, ◌&&◌, false, List, [], ◌∷◌, ◌++◌, Option, Some, None, fold, slice_get, if◌then◌else◌}
use Rattle.std.specs.List.{flat_map}
use Rattle.std.specs.Str.{bytes_eq}
use Rattle.smv_ast.specs.declared.syntax.Op.TheVariants as op
use Rattle.smv_ast.specs.declared.syntax.Expr.{Expr, Expr-F, out-Expr}
use Rattle.smv_ast.specs.declared.syntax.Choice.{Choice}
use Rattle.smv_ast.specs.declared.syntax.Branch.{Branch}
use Rattle.smv_ast.specs.declared.feature.OwnedSpec.{OwnedSpec}
use Rattle.smv_ast.specs.declared.program.Section.{Section}
use Rattle.smv_ast.specs.declared.program.Section.TheVariants as section
use Rattle.smv_ast.specs.declared.program.Module.{Module}
use Rattle.smv_ast.specs.declared.program.Program.{Program}
use Rattle.smv_meaning.specs.declared.table.InstanceTable.{InstanceTable}
use Rattle.smv_meaning.specs.Value.{Name, and_then}
use Rattle.smv_meaning.specs.InstanceTable.{called_of}
use Rattle.smv_meaning.specs.ModuleNumbers.{the_module}
use Rattle.flat_model.specs.declared.nodes.FlatNode.{FlatNode}
use Rattle.flat_model.specs.declared.nodes.FlatNode.TheVariants as node
use Rattle.smv_flatten.specs.declared.invariants.SpecAt.{SpecAt as HeldSpec}
use Rattle.smv_flatten.specs.declared.names.NameTables.{NameTables}
use Rattle.smv_flatten.specs.declared.store.Store.{Store}
use Rattle.smv_flatten.specs.Making.{Made, Run, value_made}
use Rattle.smv_flatten.specs.Groups.{MadeGroup, height_limit}

-- an INVARSPEC of an instance, and the feature that introduces it
pub record SpecAt : Type 0 where
  pub row : ℕ
  pub owner : Option ℕ
  pub expression : Expr

-- the spec that a Rust value represents
abbrev pub spec_view : HeldSpec → SpecAt
spec_view s = record { row = s.row; owner = s.owner; expression = s.expression.now }

-- the feature that introduces the section of this number of a module
abbrev pub owner_of : List OwnedSpec → Name → ℕ → Option ℕ
owner_of [] called number = None
owner_of (one ∷ more) called number = if bytes_eq one.«module» called && (one.section == number)
    then Some one.feature else owner_of more called number

-- the spec that a section is
abbrev pub section_specs : List OwnedSpec → ℕ → Name → ℕ → Section → List SpecAt
section_specs owned row called number (section.InvarSpec e at) = record
    { row = row; owner = owner_of owned called number; expression = e } ∷ []
section_specs owned row called number s = []

-- the specs among sections that are numbered from this number up
abbrev pub specs_from : List OwnedSpec → ℕ → Name → ℕ → List Section → List SpecAt
specs_from owned row called number [] = []
specs_from owned row called number (s ∷ more) = section_specs owned row called number s
    ++ specs_from owned row called (suc number) more

-- the specs of a module, in the instance of a row
abbrev pub module_specs : List OwnedSpec → ℕ → Module → List SpecAt
module_specs owned row m = specs_from owned row m.name 0 m.sections

-- the specs of a module that was found
abbrev pub found_specs : List OwnedSpec → ℕ → Option Module → List SpecAt
found_specs owned row None = []
found_specs owned row (Some m) = module_specs owned row m

-- the specs of the instance of a row
abbrev pub row_specs : Program → List OwnedSpec → InstanceTable → ℕ → List SpecAt
row_specs program owned table row = found_specs owned row
    (and_then (slice_get table.rows row) (λ r. the_module program (called_of r.link)))

-- the specs of these instances
abbrev pub specs_at : Program → List OwnedSpec → InstanceTable → List ℕ → List SpecAt
specs_at program owned table order = flat_map (row_specs program owned table) order

-- the second operand of an Or; any other node itself
abbrev pub right_operand : Option FlatNode → ℕ → ℕ
right_operand (Some (node.Or left right)) n = right
right_operand o n = n

-- the node of a spec, given that of the whole expression: that of the right side of an implication,
-- where a feature introduces the spec
abbrev pub spec_node : Option ℕ → Made → Made
spec_node None m = m
spec_node (Some feature) m = (m.0, right_operand (slice_get m.0.nodes m.1) m.1)

-- the nodes of a spec
abbrev pub spec_made : NameTables → SpecAt → Run
spec_made names one st = spec_node one.owner
    (value_made names height_limit one.row false one.expression st)

-- the nodes with that of one more spec
abbrev pub spec_added : NameTables → MadeGroup → SpecAt → MadeGroup
spec_added names group one = let m = spec_made names one group.0 in (m.0, group.1 ++ m.1 ∷ [])

-- the nodes of these specs
abbrev pub specs_made : NameTables → List SpecAt → Store → MadeGroup
specs_made names specs st = fold (spec_added names) (st, []) specs

-- ---- the guard of a feature

-- the right side of an implication; any other expression itself
abbrev pub consequence : Expr → Expr-F Choice Expr Branch → Expr
consequence e (Expr-F.Binary op.Implies guard right) = right
consequence e layer = e

-- an expression that a feature introduces is an implication
abbrev pub IsGuarded : Option ℕ → Expr → Type 0
IsGuarded None e = Unit {0}
IsGuarded (Some feature) e = (guard right : Expr)
    × (out-Expr e ≡ Expr-F.Binary op.Implies guard right)

-- the expression of a spec without the guard of its feature
abbrev pub guardless : Option ℕ → Expr → Expr
guardless None e = e
guardless (Some feature) e = consequence e (out-Expr e)

-- the same of a spec of an instance
abbrev pub unguarded : SpecAt → Expr
unguarded one = guardless one.owner one.expression
