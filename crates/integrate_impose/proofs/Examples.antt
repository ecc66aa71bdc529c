-- The definition of one IMPOSE, evaluated on small examples.
use Rattle.std.proofs.Common.{◌≡◌, List, [], ◌∷◌, refl, codes, pos, negsuc, ℕ, Some, Ok, Err}
use Rattle.smv_ast.specs.IgnoringSpans.{no_span}
use Rattle.smv_ast.specs.declared.syntax.Expr.{Expr}
use Rattle.smv_ast.specs.declared.syntax.Expr.TheVariants as expr
use Rattle.smv_ast.specs.declared.syntax.Choice.TheVariants as choice
use Rattle.smv_ast.specs.declared.syntax.SmvType.TheVariants as type
use Rattle.smv_ast.specs.declared.program.Left.{Left}
use Rattle.smv_ast.specs.declared.program.Left.TheVariants as left
use Rattle.smv_ast.specs.declared.program.Declared.TheVariants.{Plain, Instance}
use Rattle.smv_ast.specs.declared.program.Assignment.{Assignment}
use Rattle.smv_ast.specs.declared.program.Section.{Section}
use Rattle.smv_ast.specs.declared.program.Section.TheVariants as section
use Rattle.smv_ast.specs.declared.program.Module.{Module}
use Rattle.smv_ast.specs.declared.program.Program.{Program}
use Rattle.smv_ast.specs.declared.fault.Fault.TheVariants as fault
use Rattle.integrate_impose.specs.declared.assignments.Imposed.{Imposed}
use Rattle.integrate_impose.specs.Guard.{guarded}
use Rattle.integrate_impose.specs.TypeValues.{all_values}
use Rattle.integrate_impose.specs.Impose.{imposition, imposed, same_left}

-- ---- a model: `MODULE other`, and `MODULE main(f)` with these sections

abbrev module_of : List ℕ → List (List ℕ) → List Section → Module
module_of name formals sections = record { name = name; formals = formals; sections = sections; at = no_span }

abbrev model : List Section → Program
model sections = record { modules = module_of (codes "other") [] (section.Assigns [] ∷ []) ∷ module_of (codes "main") (codes "f" ∷ []) sections ∷ [] }

-- `x : 0..3;`, `f : boolean;` hidden by the formal, `c : cell;`
abbrev variables : Section
variables = section.Vars (record { name = codes "x"; what = Plain (type.Range (pos 0) (pos 3)); at = no_span }
    ∷ record { name = codes "f"; what = Plain type.Boolean; at = no_span }
    ∷ record { name = codes "c"; what = Instance (codes "cell") []; at = no_span } ∷ [])

abbrev assignment : Left → List ℕ → ℕ → Assignment
assignment of name n = record { left = of; name = name; right = expr.Number n; at = no_span }

-- `left(name) := case TRUE : 3; TRUE : old; esac;`
abbrev guarded_by_three : Left → List ℕ → Expr → Assignment
guarded_by_three of name old = record { left = of; name = name; right = guarded expr.True (expr.Number 3) old; at = no_span }

-- `IF TRUE THEN IMPOSE left(name) := 3`
abbrev three : Left → List ℕ → Imposed
three of name = imposition expr.True of name (expr.Number 3) no_span

-- ---- assignments

-- of two equal left sides the first is guarded, and no other
first_guarded : imposed (three left.Next (codes "x")) (codes "main") (model (variables ∷ section.Assigns (assignment left.Init (codes "x") 0 ∷ assignment left.Next (codes "x") 1 ∷ assignment left.Next (codes "x") 2 ∷ []) ∷ section.Assigns (assignment left.Next (codes "x") 0 ∷ []) ∷ []))
    ≡ Ok (model (variables ∷ section.Assigns (assignment left.Init (codes "x") 0 ∷ guarded_by_three left.Next (codes "x") (expr.Number 1) ∷ assignment left.Next (codes "x") 2 ∷ []) ∷ section.Assigns (assignment left.Next (codes "x") 0 ∷ []) ∷ []))
unfolding same_left
first_guarded = refl

-- a missing assignment is added at the end of the last ASSIGN section, and allows all values
added_to_last : imposed (three left.Next (codes "x")) (codes "main") (model (section.Assigns (assignment left.Init (codes "x") 0 ∷ []) ∷ variables ∷ section.Assigns (assignment left.Next (codes "y") 0 ∷ []) ∷ section.Init expr.True no_span ∷ []))
    ≡ Ok (model (section.Assigns (assignment left.Init (codes "x") 0 ∷ []) ∷ variables ∷ section.Assigns (assignment left.Next (codes "y") 0 ∷ guarded_by_three left.Next (codes "x") (expr.Pick (choice.Between (pos 0) (pos 3))) ∷ []) ∷ section.Init expr.True no_span ∷ []))
unfolding same_left
added_to_last = refl

-- without an ASSIGN section, a new one is added at the end of the module
added_section : imposed (three left.Init (codes "x")) (codes "main") (model (variables ∷ section.Init expr.True no_span ∷ []))
    ≡ Ok (model (variables ∷ section.Init expr.True no_span ∷ section.Assigns (guarded_by_three left.Init (codes "x") (expr.Pick (choice.Between (pos 0) (pos 3))) ∷ []) ∷ []))
unfolding same_left
added_section = refl

-- the values of a type: `{FALSE, TRUE}`, `{1, -2}`, `{on}`
truths : all_values no_span type.Boolean ≡ choice.Each (expr.False ∷ expr.True ∷ [])
truths = refl

numbers : all_values no_span (type.Numbers (pos 1 ∷ negsuc 1 ∷ [])) ≡ choice.Each (expr.Number 1 ∷ expr.Neg (expr.Number 2) ∷ [])
numbers = refl

symbols : all_values no_span (type.Symbols (codes "on" ∷ [])) ≡ choice.Each (expr.Name (record { names = codes "on" ∷ []; at = no_span }) ∷ [])
symbols = refl

-- ---- faults

-- no module of that name, no such name, an instance, and a variable hidden by a formal
no_module : imposed (three left.Next (codes "x")) (codes "none") (model (variables ∷ [])) ≡ Err (fault.ImposeTarget (Some no_span) (codes "x"))
unfolding same_left
no_module = refl

no_name : imposed (three left.Next (codes "y")) (codes "main") (model (variables ∷ [])) ≡ Err (fault.ImposeTarget (Some no_span) (codes "y"))
unfolding same_left
no_name = refl

an_instance : imposed (three left.Next (codes "c")) (codes "main") (model (variables ∷ [])) ≡ Err (fault.ImposeTarget (Some no_span) (codes "c"))
unfolding same_left
an_instance = refl

a_formal : imposed (three left.Next (codes "f")) (codes "main") (model (variables ∷ [])) ≡ Err (fault.ImposeTarget (Some no_span) (codes "f"))
unfolding same_left
a_formal = refl

-- `x := ..` needs an assignment `x :=`; `init(x) := ..` needs that there is none
none_to_guard : imposed (three left.Now (codes "x")) (codes "main") (model (variables ∷ section.Assigns (assignment left.Init (codes "x") 0 ∷ []) ∷ [])) ≡ Err (fault.ImposeKind (Some no_span) (codes "x"))
unfolding same_left
none_to_guard = refl

always_assigned : imposed (three left.Init (codes "x")) (codes "main") (model (variables ∷ section.Assigns (assignment left.Now (codes "x") 0 ∷ []) ∷ [])) ≡ Err (fault.ImposeKind (Some no_span) (codes "x"))
unfolding same_left
always_assigned = refl

-- an IMPOSE of `x` where `x :=` is assigned
now_guarded : imposed (three left.Now (codes "x")) (codes "main") (model (variables ∷ section.Assigns (assignment left.Now (codes "x") 0 ∷ []) ∷ []))
    ≡ Ok (model (variables ∷ section.Assigns (guarded_by_three left.Now (codes "x") (expr.Number 0) ∷ []) ∷ []))
unfolding same_left
now_guarded = refl
