-- Faulty left sides: those that name no variable, and those that clash with another of the same
-- name.
use Rattle.std.specs.Prelude.{Bool, true, false, ◌&&◌, ◌||◌, if◌then◌else◌, List, [], ◌∷◌, Option, Some, None}
use Rattle.std.specs.List.{list_any}
use Rattle.std.specs.Str.{bytes_eq}
use Rattle.smv_ast.specs.declared.fault.Fault.{Fault}
use Rattle.smv_ast.specs.declared.fault.Fault.TheVariants as fault
use Rattle.smv_ast.specs.declared.program.Left.{Left}
use Rattle.smv_ast.specs.declared.program.Left.TheVariants as left
use Rattle.smv_ast.specs.declared.program.Module.{Module}
use Rattle.smv_ast.specs.declared.program.Program.{Program}
use Rattle.smv_meaning.specs.Value.{Name}
use Rattle.smv_meaning.specs.Instances.{Entity, Variable, lookup}
use Rattle.smv_meaning.specs.Items.{Item, Assigns, items}
use Rattle.smv_meaning.specs.Runs.{or_else, first_fault}
use Rattle.smv_shape.specs.declared.assigned.Lefts.{Lefts}
use Rattle.smv_meaning.specs.NameSets.{NameSet, in_set}

-- ---- names other than variables

-- whether a name with this entity is no variable
abbrev pub is_fixed : Entity → Bool
is_fixed (Variable type) = false
is_fixed m = true

-- whether a name is declared as a formal, a definition or an instance
abbrev pub is_fixed_name : Option Entity → Bool
is_fixed_name None = false
is_fixed_name (Some m) = is_fixed m

-- the fault of an assignment to one of these names
abbrev pub target_fault : (Name → Bool) → Item → Option Fault
target_fault fixed (Assigns left name right at) = if fixed name then Some
    (fault.ParameterAssign (Some at) name) else None
target_fault fixed item = None

-- whether a module declares a name as something else than a variable
unfoldable pub declares_fixed : Module → Name → Bool
declares_fixed m name = is_fixed_name (lookup m name)

-- the first assignment of a module whose left side is a formal, a definition or an instance
abbrev pub target_within : Module → Option Fault
target_within m = first_fault (target_fault (declares_fixed m)) (items m)

-- the first such assignment of a program
abbrev pub parameter_fault : Program → Option Fault
parameter_fault program = first_fault target_within program.modules

-- ---- left sides that clash

-- whether two left sides of one variable clash: all pairs do but `init(x)` with `next(x)`
abbrev pub clash : Left → Left → Bool
clash left.Init left.Next = false
clash left.Next left.Init = false
clash l m = true

-- whether an item is an assignment that clashes with this left side
abbrev pub clashes : Left → Name → Item → Bool
clashes l name (Assigns other word right at) = clash other l && bytes_eq word name
clashes l name item = false

-- the fault of an assignment, given the left sides that clash
abbrev pub clash_fault : (Left → Name → Bool) → Item → Option Fault
clash_fault clashing (Assigns l name right at) = if clashing l name then Some
    (fault.DoubleAssign (Some at) name) else None
clash_fault clashing item = None

-- the first assignment that clashes with an earlier one; the earlier ones come last first
abbrev pub double_after : List Item → List Item → Option Fault
double_after earlier [] = None
double_after earlier (item ∷ more) = or_else
    (clash_fault (λ l name. list_any (clashes l name) earlier) item)
    (double_after (item ∷ earlier) more)

-- the first assignment of a module that clashes with an earlier one
abbrev pub double_within : Module → Option Fault
double_within m = double_after [] (items m)

-- the first such assignment of a program
abbrev pub double_fault : Program → Option Fault
double_fault program = first_fault double_within program.modules

-- ---- the tables of the code

-- whether two left sides have the same form
abbrev pub same_left : Left → Left → Bool
same_left left.Init left.Init = true
same_left left.Next left.Next = true
same_left left.Now left.Now = true
same_left l m = false

-- whether an item is an assignment with this left side
abbrev pub assigns : Item → Left → Name → Bool
assigns (Assigns other word right at) l name = same_left other l && bytes_eq word name
assigns item l name = false

-- whether a left side clashes with one in the set
abbrev pub clash_by : (Left → Name → Bool) → Left → Name → Bool
clash_by held left.Init name = held left.Init name || held left.Now name
clash_by held left.Next name = held left.Next name || held left.Now name
clash_by held left.Now name = held left.Now name || (held left.Init name || held left.Next name)

-- the set of the names that have a left side of this form
abbrev pub names_of : Lefts → Left → NameSet
names_of lefts left.Init = lefts.first
names_of lefts left.Next = lefts.next
names_of lefts left.Now = lefts.each

-- whether the sets have a left side
abbrev pub holds : Lefts → Left → Name → Bool
holds lefts l name = in_set (names_of lefts l) name
