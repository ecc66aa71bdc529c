-- The faults of what a feature requires and introduces, item by item in written order: its needs,
-- and then, of each joined part, the head and the declarations, assignments, definitions and
-- constraints. They are judged in the model with all its joined parts appended, so that the names
-- that it introduces count from its first item on.
use Rattle.std.specs.Prelude.{if◌then◌else◌, Bool, false, List, [], Option, Some, None}
use Rattle.std.specs.Str.{bytes_eq}
use Rattle.std.specs.Option.{option_map, option_or}
use Rattle.smv_ast.specs.declared.syntax.Span.{Span}
use Rattle.smv_ast.specs.declared.syntax.Expr.{Expr}
use Rattle.smv_ast.specs.declared.syntax.SmvType.{SmvType}
use Rattle.smv_ast.specs.declared.program.Declared.{Declared}
use Rattle.smv_ast.specs.declared.program.Declared.TheVariants.{Plain, Instance}
use Rattle.smv_ast.specs.declared.program.Program.{Program}
use Rattle.smv_ast.specs.declared.feature.Need.{Need}
use Rattle.smv_ast.specs.declared.feature.Joined.{Joined}
use Rattle.smv_ast.specs.declared.feature.Feature.{Feature}
use Rattle.smv_ast.specs.declared.model.Product.{Product}
use Rattle.smv_ast.specs.declared.fault.Fault.{Fault}
use Rattle.smv_ast.specs.declared.fault.Fault.TheVariants as fault
use Rattle.smv_meaning.specs.Value.{Name}
use Rattle.smv_meaning.specs.Instances.{Entity, Variable, module_named, lookup}
use Rattle.smv_meaning.specs.Items.{Item, Declares, Assigns, Defines, Constrains, exprs_of, all_items}
use Rattle.smv_meaning.specs.Runs.{or_else, first_fault}
use Rattle.integrate.specs.declared.names.MissingName.{MissingName}
use Rattle.integrate.specs.UsedNames.{missing_module, missing_target, missing_expr}
use Rattle.integrate.specs.Changes.{missing_fault}
use Rattle.integrate.specs.Introductions.{clashes, is_among, introduced_variables}
use Rattle.integrate.specs.EqualTypes.{equal_types}

-- ---- needs

-- the name of a need that its module does not declare; a symbol is none. An empty name requires the
-- module alone.
abbrev pub missing_needed : Program → Need → Option MissingName
missing_needed p need = if bytes_eq need.name [] then None else
    missing_target p need.«module» need.at need.name

-- the first missing name of a need, its module first
abbrev pub missing_in_need : Program → Need → Option MissingName
missing_in_need p need = option_or (missing_module p need.«module» need.at) (missing_needed p need)

-- whether a name stands for a variable of a type equal to the wanted one
abbrev pub has_type : SmvType → Option Entity → Bool
has_type wanted (Some (Variable type)) = equal_types type wanted
has_type wanted other = false

-- the fault of a need whose name is no variable of the wanted type
abbrev pub type_fault : Program → Name → Need → Option SmvType → Option Fault
type_fault p feature need None = None
type_fault p feature need (Some wanted) =
    if has_type wanted (lookup (module_named p need.«module») need.name) then None else Some
    (fault.RequireType (Some need.at) feature need.name)

-- the fault of a need: a name is missing, else the type is another one
abbrev pub need_fault : Name → Product → Program → Need → Option Fault
need_fault feature product p need = or_else
    (option_map (missing_fault feature product) (missing_in_need p need))
    (type_fault p feature need need.wanted)

-- ---- joined parts

-- the fault of a declaration that declares an instance
abbrev pub instance_fault : Name → Name → Declared → Span → Option Fault
instance_fault feature name (Plain type) at = None
instance_fault feature name (Instance called actuals) at = Some
    (fault.IntroducedInstance (Some at) feature name)

-- the fault of a declaration or a definition whose name clashes
abbrev pub clash_fault : Program → List Feature → Name → Name → Name → Span → Option Fault
clash_fault base family feature called name at = if clashes base family called name then Some
    (fault.IntroduceClash (Some at) feature name) else None

-- the fault of an assignment of a name that is no variable which the feature introduces in the
-- module
abbrev pub assign_fault : Feature → Name → Name → Span → Option Fault
assign_fault f called name at = if is_among (introduced_variables f.joins) called name then
    None else Some (fault.IntroducedAssign (Some at) f.name name)

-- the fault of what an item declares or assigns in a module
abbrev pub introduction_fault : Program → List Feature → Feature → Name → Item → Option Fault
introduction_fault base family f called (Declares name what at) = or_else
    (instance_fault f.name name what at) (clash_fault base family f.name called name at)
introduction_fault base family f called (Assigns left name right at) =
    assign_fault f called name at
introduction_fault base family f called (Defines name right at) =
    clash_fault base family f.name called name at
introduction_fault base family f called (Constrains role e at) = None

-- the fault of the first missing path of an expression in a module
abbrev pub expr_fault : Name → Product → Program → Name → Expr → Option Fault
expr_fault feature product p called e = option_map (missing_fault feature product)
    (missing_expr p called e)

-- the fault of an item in a module: of what it declares or assigns, else of the first missing path
-- of its expressions
abbrev pub item_fault : Program → List Feature → Feature → Product → Program → Name → Item
    → Option Fault
item_fault base family f product p called item = or_else
    (introduction_fault base family f called item)
    (first_fault (expr_fault f.name product p called) (exprs_of item))

-- the fault of the head of a joined part: the model has no module of its name
abbrev pub head_fault : Name → Product → Program → Joined → Option Fault
head_fault feature product p part = option_map (missing_fault feature product)
    (missing_module p part.«module» part.at)

-- the first fault of a joined part, its head first
abbrev pub part_fault : Program → List Feature → Feature → Product → Program → Joined
    → Option Fault
part_fault base family f product p part = or_else (head_fault f.name product p part)
    (first_fault (item_fault base family f product p part.«module») (all_items part.sections))

-- ---- the feature

-- the first fault of the needs and joined parts of a feature of a family with this base, for a
-- product, in the model with the joined parts appended
abbrev pub feature_fault : Program → List Feature → Feature → Product → Program → Option Fault
feature_fault base family f product p = or_else (first_fault (need_fault f.name product p) f.needs)
    (first_fault (part_fault base family f product p) f.joins)
