-- The first fault of the names of a feature model's text.
use Rattle.std.specs.Prelude.{◌≡◌, ℕ, nat_lt, Bool, if◌then◌else◌, List, [], ◌∷◌, length, map, Option, Some, None, Result, Ok, Err, codes}
use Rattle.std.specs.Bool.{nat_eq}
use Rattle.std.specs.List.{starts_with, flat_map}
use Rattle.smv_ast.specs.declared.syntax.Span.{Span}
use Rattle.smv_ast.specs.declared.syntax.Expr.{Expr, Expr-F, fold-Expr}
use Rattle.smv_ast.specs.declared.syntax.Choice.{Choice-F}
use Rattle.smv_ast.specs.declared.syntax.Branch.{Branch-F}
use Rattle.smv_ast.specs.declared.fault.Fault.{Fault}
use Rattle.smv_ast.specs.declared.fault.Fault.TheVariants as fault
use Rattle.feature_model.specs.Constraints.{Name}
use Rattle.feature_model.specs.NameSets.{no_name, and_name, and_names}
use Rattle.feature_model.specs.declared.text.FeatureName.{FeatureName}
use Rattle.feature_model.specs.declared.text.TextLine.{TextLine}
use Rattle.feature_model.specs.declared.text.TextLine.TheVariants.{Group, Constraint}
use Rattle.feature_model.specs.declared.text.ModelText.{ModelText}

-- ---- which features a text declares

-- the name without its span
abbrev pub name_of : FeatureName → Name
name_of f = f.name

-- the names without their spans
abbrev pub names_of : List FeatureName → List Name
names_of = map name_of

-- the features that a line declares, in order
abbrev pub declared_by : TextLine → List Name
declared_by (Group kind parent children) = names_of children
declared_by (Constraint e) = []

-- the features of a text in the order of their declarations, the root first
abbrev pub declared_names : ModelText → List Name
declared_names t = t.root.name ∷ flat_map declared_by t.lines

-- ---- faults of single names

-- the first of two faults
abbrev pub or_else : Option Fault → Option Fault → Option Fault
or_else None second = second
or_else (Some f) second = Some f

-- names that begin so are kept for the integrated text
abbrev pub is_reserved : Name → Bool
is_reserved name = starts_with nat_eq name (codes "fsmv_")

-- the fault of a declaration, where the test tells which names are declared before
abbrev pub declaration_fault : (Name → Bool) → FeatureName → Option Fault
declaration_fault declared f = if is_reserved f.name then Some (fault.ReservedName (Some f.at) f.name) else
    (if declared f.name then Some (fault.DuplicateFeature (Some f.at) f.name) else None)

-- the fault of a use
abbrev pub use_fault : (Name → Bool) → Name → Span → Option Fault
use_fault declared name at = if declared name then None else Some (fault.UnknownFeature (Some at) name)

-- ---- the first fault, in the order of the text

-- the fault of a path, which is a single name
abbrev pub path_fault : (Name → Bool) → List Name → Span → Option Fault
path_fault declared (name ∷ []) at = use_fault declared name at
path_fault declared path at = None

-- no choices stand in constraints
abbrev pub choice_layer : Choice-F (Option Fault) (Option Fault) (Option Fault) → Option Fault
choice_layer c = None

-- no cases stand in constraints
abbrev pub branch_layer : Branch-F (Option Fault) (Option Fault) (Option Fault) → Option Fault
branch_layer b = None

-- the first fault of the names in a propositional formula, given that of its parts
abbrev pub expr_layer : (Name → Bool) → Expr-F (Option Fault) (Option Fault) (Option Fault) → Option Fault
expr_layer declared (Expr-F.Name path) = path_fault declared path.names path.at
expr_layer declared (Expr-F.Not a) = a
expr_layer declared (Expr-F.Binary op a b) = or_else a b
expr_layer declared e = None

-- the first fault of the names in a propositional formula
abbrev pub formula_fault : (Name → Bool) → Expr → Option Fault
formula_fault declared = fold-Expr (Option Fault) (Option Fault) (Option Fault) choice_layer (expr_layer declared) branch_layer

-- the first fault of declarations
abbrev pub declarations_fault : (Name → Bool) → List FeatureName → Option Fault
declarations_fault declared [] = None
declarations_fault declared (f ∷ more) = or_else (declaration_fault declared f)
    (declarations_fault (and_name declared f.name) more)

-- the first fault of a line
abbrev pub line_fault : (Name → Bool) → TextLine → Option Fault
line_fault declared (Group kind parent children) = or_else (use_fault declared parent.name parent.at)
    (declarations_fault declared children)
line_fault declared (Constraint e) = formula_fault declared e

-- the first fault of lines, each of which knows the features that the lines before it declare
abbrev pub lines_fault : (Name → Bool) → List TextLine → Option Fault
lines_fault declared [] = None
lines_fault declared (line ∷ more) = or_else (line_fault declared line)
    (lines_fault (and_names declared (declared_by line)) more)

-- the first fault of the names of a text
abbrev pub names_fault : ModelText → Option Fault
names_fault t = or_else (declaration_fault no_name t.root)
    (lines_fault (and_name no_name t.root.name) t.lines)

-- the fault of a text that declares so many features
abbrev pub count_fault : ℕ → Option Fault
count_fault count = if nat_lt 64 count then Some (fault.TooManyFeatures None count) else None

-- the first fault of a text: of its names, else of their number
abbrev pub text_fault : ModelText → Option Fault
text_fault t = or_else (names_fault t) (count_fault (length (declared_names t)))

-- ---- how they are reported

-- Ok exactly where there is no fault, else the first fault. Memory may run out at any time.
abbrev pub ReportsFirst : Option Fault → Result (Unit {0}) Fault → Type 0
ReportsFirst first (Ok done) = first ≡ None
ReportsFirst first (Err fault.NoMemory) = Unit {0}
ReportsFirst first (Err f) = first ≡ Some f

-- The same; and where there is no fault, these names are declared then.
abbrev pub Declares : Option Fault → (Name → Bool) → (Name → Bool) → Result (Unit {0}) Fault → Type 0
Declares first all declared (Ok done) = (first ≡ None) × (declared ≡ all)
Declares first all declared (Err fault.NoMemory) = Unit {0}
Declares first all declared (Err f) = first ≡ Some f
