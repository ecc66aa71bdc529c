-- Rules on single items.
use Rattle.std.specs.Prelude.{Bool, true, false, ◌||◌, if◌then◌else◌, Option, Some, None}
use Rattle.std.specs.List.{list_any}
use Rattle.smv_ast.specs.declared.fault.Fault.{Fault}
use Rattle.smv_ast.specs.declared.fault.Fault.TheVariants as fault
use Rattle.smv_ast.specs.declared.syntax.Span.{Span}
use Rattle.smv_ast.specs.declared.syntax.Expr.{Expr}
use Rattle.smv_ast.specs.declared.program.Declared.{Declared}
use Rattle.smv_ast.specs.declared.program.Declared.TheVariants.{Plain}
use Rattle.smv_ast.specs.declared.program.Left.TheVariants as left
use Rattle.smv_ast.specs.declared.program.Program.{Program}
use Rattle.smv_meaning.specs.declared.items.Role.TheVariants as role
use Rattle.smv_meaning.specs.Items.{Item, Declares, Assigns, Constrains, at_of, exprs_of, program_items}
use Rattle.smv_meaning.specs.Runs.{first_fault}
use Rattle.smv_shape.specs.declared.rule.Rule.{Rule}
use Rattle.smv_shape.specs.declared.rule.Rule.TheVariants as rule
use Rattle.smv_shape.specs.Ranges.{empty_type, has_empty}
use Rattle.smv_shape.specs.Choices.{has_stray_choice}
use Rattle.smv_shape.specs.Nexts.{has_stray_next}

-- only right sides of assignments may be free choices
abbrev pub may_choose : Item → Bool
may_choose (Assigns left name right at) = true
may_choose item = false

-- only TRANS and the right side of `next(x) :=` may contain `next`
abbrev pub may_look_ahead : Item → Bool
may_look_ahead (Assigns left.Next name right at) = true
may_look_ahead (Constrains role.Transition e at) = true
may_look_ahead item = false

-- whether an expression of an item breaks a rule
abbrev pub expr_breaks : Rule → Item → Expr → Bool
expr_breaks rule.Ranges item e = has_empty e
expr_breaks rule.Choices item e = has_stray_choice e (may_choose item)
expr_breaks rule.Nexts item e = has_stray_next e (may_look_ahead item)

-- whether the type of a declaration breaks a rule: only the rule of intervals applies to types
abbrev pub declared_breaks : Rule → Declared → Bool
declared_breaks rule.Ranges (Plain type) = empty_type type
declared_breaks r what = false

-- whether the type of an item breaks a rule
abbrev pub type_breaks : Rule → Item → Bool
type_breaks r (Declares name what at) = declared_breaks r what
type_breaks r item = false

-- whether an item breaks a rule
abbrev pub breaks : Rule → Item → Bool
breaks r item = type_breaks r item || list_any (expr_breaks r item) (exprs_of item)

-- the fault of a broken rule
abbrev pub fault_of : Rule → Span → Fault
fault_of rule.Ranges at = fault.EmptyRange (Some at)
fault_of rule.Choices at = fault.ChoicePlace (Some at)
fault_of rule.Nexts at = fault.NextPlace (Some at)

-- the fault of an item, if it breaks a rule
abbrev pub rule_fault : Rule → Item → Option Fault
rule_fault r item = if breaks r item then Some (fault_of r (at_of item)) else None

-- the fault of the first item of a program that breaks a rule
abbrev pub first_broken : Rule → Program → Option Fault
first_broken r program = first_fault (rule_fault r) (program_items program)
