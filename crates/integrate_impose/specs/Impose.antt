-- One IMPOSE, applied to a module: `IF c THEN IMPOSE next(x) := e` makes `next(x)` the value of `e`
-- where `c` is true, and leaves it unchanged elsewhere.
use Rattle.std.specs.Prelude.{ℕ, Bool, true, false, ◌&&◌, not, if◌then◌else◌, List, [], ◌∷◌, ◌++◌, find, Option, Some, None, is_some, Result}
use Rattle.std.specs.List.{list_any}
use Rattle.std.specs.Option.{option_map}
use Rattle.std.specs.Str.{bytes_eq}
use denote.Enum.Bare.{sameb}
use Rattle.smv_ast.specs.contracts.program.Left.{the_type}
use Rattle.smv_ast.specs.declared.syntax.Span.{Span}
use Rattle.smv_ast.specs.declared.syntax.Expr.{Expr}
use Rattle.smv_ast.specs.declared.syntax.Expr.TheVariants as expr
use Rattle.smv_ast.specs.declared.syntax.Choice.{Choice}
use Rattle.smv_ast.specs.declared.program.Left.{Left}
use Rattle.smv_ast.specs.declared.program.Left.TheVariants as left
use Rattle.smv_ast.specs.declared.program.Assignment.{Assignment}
use Rattle.smv_ast.specs.declared.program.Section.{Section}
use Rattle.smv_ast.specs.declared.program.Section.TheVariants as section
use Rattle.smv_ast.specs.declared.program.Module.{Module}
use Rattle.smv_ast.specs.declared.program.Program.{Program}
use Rattle.smv_ast.specs.declared.fault.Fault.{Fault}
use Rattle.smv_ast.specs.declared.fault.Fault.TheVariants as fault
use Rattle.integrate_impose.specs.declared.assignments.Imposed.{Imposed}
use Rattle.integrate_impose.specs.Lists.{change_first}
use Rattle.integrate_impose.specs.Guard.{guarded}
use Rattle.integrate_impose.specs.TypeValues.{all_values}
use Rattle.integrate_impose.specs.VariableTypes.{type_of}
use Rattle.integrate_impose.specs.Answers.{unless_fault}

-- an IMPOSE with this condition, left side, name, right side and span
abbrev pub imposition : Expr → Left → List ℕ → Expr → Span → Imposed
imposition cond of name right at = record
    { cond = cond; left = of; name = name; right = right; at = at }

-- ---- guarding an assignment

-- left sides of the same time: the first value, the next, or that in every state
unfoldable pub same_left : Left → Left → Bool
same_left = sameb the_type

-- an assignment with this left side
abbrev pub has_left : Left → List ℕ → Assignment → Bool
has_left of name a = same_left a.left of && bytes_eq a.name name

-- the assignment with its right side guarded
abbrev pub guarded_assignment : Imposed → Assignment → Assignment
guarded_assignment i a = record a { right = guarded i.cond i.right a.right }

-- whether the section has an assignment with this left side
abbrev pub assigns : Left → List ℕ → Section → Bool
assigns of name (section.Assigns assignments) = list_any (has_left of name) assignments
assigns of name s = false

-- the section with its first assignment of the left side guarded
abbrev pub guarded_section : Imposed → Section → Section
guarded_section i (section.Assigns assignments) = section.Assigns
    (change_first (has_left i.left i.name) (guarded_assignment i) assignments)
guarded_section i s = s

-- ---- adding an assignment

-- whether the section is an ASSIGN section
abbrev pub is_assigns : Section → Bool
is_assigns (section.Assigns assignments) = true
is_assigns s = false

-- the ASSIGN section with the assignment at its end
abbrev pub one_more : Section → Assignment → Section
one_more (section.Assigns assignments) a = section.Assigns (assignments ++ a ∷ [])
one_more s a = s

-- the sections with one more assignment: at the end of the last ASSIGN section, or in a new section
-- at the end
abbrev pub with_assignment : List Section → Assignment → List Section
with_assignment [] a = section.Assigns (a ∷ []) ∷ []
with_assignment (s ∷ more) a = if is_assigns s
    && not (list_any is_assigns more) then one_more s a ∷ more else s ∷ with_assignment more a

-- an assignment that allows these values where the condition is false
abbrev pub added_assignment : Imposed → Choice → Assignment
added_assignment i values = record
    { left = i.left; name = i.name; right = guarded i.cond i.right (expr.Pick values); at = i.at }

-- ---- the module and the model with the IMPOSE applied

-- the module with the first assignment of the left side guarded
abbrev pub with_guard : Imposed → Module → Module
with_guard i m = record m
    { sections = change_first (assigns i.left i.name) (guarded_section i) m.sections }

-- all values of the variable, if the module declares one
abbrev pub values_of : Imposed → Module → Option Choice
values_of i m = option_map (all_values i.at) (type_of i.name m)

-- the module with an assignment added that allows these values where the condition is false
abbrev pub with_added : Imposed → Module → Choice → Module
with_added i m values = record m
    { sections = with_assignment m.sections (added_assignment i values) }

-- the module with an assignment of all values added; unchanged where it declares no such variable
abbrev pub with_new : Imposed → Module → Option Choice → Module
with_new i m None = m
with_new i m (Some values) = with_added i m values

-- the module with the IMPOSE applied: the first assignment of the left side is guarded; without
-- one, an assignment is added
abbrev pub imposed_in : Imposed → Module → Module
imposed_in i m = if list_any (assigns i.left i.name) m.sections then with_guard i m else
    with_new i m (values_of i m)

-- whether the module has the name
abbrev pub is_named : List ℕ → Module → Bool
is_named called m = bytes_eq m.name called

-- the model with the IMPOSE applied to its first module of a name
abbrev pub imposed_model : Imposed → List ℕ → Program → Program
imposed_model i called p = record p { modules = change_first (is_named called) (imposed_in i) p.modules }

-- ---- faults

-- an IMPOSE of `x` needs an assignment `x :=`; one of `init(x)` or `next(x)` needs that there is
-- none
abbrev pub fits_assignments : Left → List ℕ → List Section → Bool
fits_assignments left.Now name sections = list_any (assigns left.Now name) sections
fits_assignments left.Init name sections = not (list_any (assigns left.Now name) sections)
fits_assignments left.Next name sections = not (list_any (assigns left.Now name) sections)

-- the module declares no variable of that name with a type
abbrev pub target_fault : Imposed → Fault
target_fault i = fault.ImposeTarget (Some i.at) i.name

-- the form does not fit the assignments of the variable
abbrev pub kind_fault : Imposed → Fault
kind_fault i = fault.ImposeKind (Some i.at) i.name

-- the fault of an IMPOSE in a module, if it has one
abbrev pub fault_in_module : Imposed → Module → Option Fault
fault_in_module i m =
    if is_some (type_of i.name m) then
    (if fits_assignments i.left i.name m.sections then None else Some (kind_fault i))
    else Some (target_fault i)

-- the fault of an IMPOSE in a module that was looked up: without a module there is no variable
abbrev pub fault_in : Imposed → Option Module → Option Fault
fault_in i None = Some (target_fault i)
fault_in i (Some m) = fault_in_module i m

-- the fault of an IMPOSE in the first module of a name
abbrev pub impose_fault : Imposed → List ℕ → Program → Option Fault
impose_fault i called p = fault_in i (find (is_named called) p.modules)

-- the model with the IMPOSE applied, or its fault
abbrev pub imposed : Imposed → List ℕ → Program → Result Program Fault
imposed i called p = unless_fault (impose_fault i called p) (imposed_model i called p)
