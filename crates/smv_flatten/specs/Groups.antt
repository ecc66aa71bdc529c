-- The nodes of the constraints of one role, instance by instance in text order.
use Rattle.std.specs.Prelude.{ℕ, Bool, true, false, List, [], ◌∷◌, ◌++◌, Option, Some, None, fold, if◌then◌else◌}
use Rattle.smv_ast.specs.declared.syntax.Expr.{Expr}
use Rattle.smv_ast.specs.declared.program.Left.{Left}
use Rattle.smv_ast.specs.declared.program.Left.TheVariants as left
use Rattle.smv_ast.specs.declared.program.Program.{Program}
use Rattle.fixpoint.specs.Fixpoints.{entry}
use Rattle.smv_meaning.specs.declared.items.Role.{Role}
use Rattle.smv_meaning.specs.declared.items.Role.TheVariants as role
use Rattle.smv_meaning.specs.Value.{Name, and_then}
use Rattle.smv_meaning.specs.Items.{Item, Assigns, Constrains}
use Rattle.smv_meaning.specs.Checking.{instance_at}
use Rattle.smv_meaning.specs.ItemIndex.{items_at}
use Rattle.smv_meaning.specs.Slots.{slot_of}
use Rattle.smv_flatten.specs.declared.groups.Demand.{Demand as HeldDemand}
use Rattle.smv_flatten.specs.declared.groups.Demand.TheVariants as held
use Rattle.smv_flatten.specs.declared.names.NameTables.{NameTables}
use Rattle.smv_flatten.specs.declared.store.Store.{Store}
use Rattle.smv_flatten.specs.Making.{Run, variable_made, value_made, right_made}

-- how high an expression may be, through all that it reads; the checks refuse higher ones
unfoldable pub height_limit : ℕ
height_limit = 1000

-- what a constraint asks: that an expression is true, or that a variable, read after the step or
-- now, has a value that its right side allows
pub data Demand : Type 0 where
  Truth : Expr → Demand
  Assigned : Bool → Name → Expr → Demand

-- the demand that a Rust value represents
abbrev pub demand_view : HeldDemand → Demand
demand_view (held.Truth e) = Truth e.now
demand_view (held.Assigned after_step name right) = Assigned after_step name.now right.now

-- the role of an assignment
abbrev pub role_of : Left → Role
role_of left.Init = role.Init
role_of left.Now = role.Invariant
role_of left.Next = role.Transition

-- whether an assignment is of the variable after the step
abbrev pub is_next : Left → Bool
is_next left.Next = true
is_next l = false

-- whether two roles are equal
abbrev pub same_role : Role → Role → Bool
same_role role.Init role.Init = true
same_role role.Invariant role.Invariant = true
same_role role.Transition role.Transition = true
same_role role.Spec role.Spec = true
same_role r s = false

-- what an item asks in a role, if it is a constraint of that role
abbrev pub demand_of : Role → Item → Option Demand
demand_of r (Assigns l name right at) = if same_role (role_of l) r then Some
    (Assigned (is_next l) name right) else None
demand_of r (Constrains own e at) = if same_role own r then Some (Truth e) else None
demand_of r item = None

-- the number of the variable of a name in an instance
abbrev pub variable_number : NameTables → ℕ → Name → Option ℕ
variable_number names row name = and_then
    (slot_of names.table.now (record { instance = row; name = name })) (entry names.variables.now)

-- the node of a demand: that of the expression, or the node of the variable and then the test of
-- its right side
abbrev pub demand_made : NameTables → ℕ → Demand → Run
demand_made names row (Truth e) st = value_made names height_limit row false e st
demand_made names row (Assigned after_step name right) st =
    let x = variable_made after_step (variable_number names row name) st in
    right_made names height_limit x.1 row false right x.0

-- the store, and the nodes of a group
abbrev pub MadeGroup : Type 0
MadeGroup = Store × List ℕ

-- the nodes with that of a demand, if there is one
abbrev pub demand_added : NameTables → ℕ → MadeGroup → Option Demand → MadeGroup
demand_added names row group None = group
demand_added names row group (Some demand) =
    let m = demand_made names row demand group.0 in (m.0, group.1 ++ m.1 ∷ [])

-- the nodes with that of an item, if it is a constraint of the role
abbrev pub item_made : NameTables → Role → ℕ → MadeGroup → Item → MadeGroup
item_made names r row group item = demand_added names row group (demand_of r item)

-- the nodes with those of an instance
abbrev pub row_made : NameTables → Program → Role → MadeGroup → ℕ → MadeGroup
row_made names program r group row = fold (item_made names r row) group
    (items_at program (instance_at names.table.now row))

-- the nodes with those of the constraints of a role, in the instances of these rows
abbrev pub group_made : NameTables → Program → Role → List ℕ → MadeGroup → MadeGroup
group_made names program r order group = fold (row_made names program r) group order
