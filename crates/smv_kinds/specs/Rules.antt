-- The first fault of kinds, of magnitude and of `mod`.
use Rattle.std.specs.Prelude.{Bool, if◌then◌else◌, Option, Some, None}
use Rattle.smv_ast.specs.declared.syntax.Expr.{Expr}
use Rattle.smv_ast.specs.declared.program.Declared.{Declared}
use Rattle.smv_ast.specs.declared.program.Program.{Program}
use Rattle.smv_ast.specs.declared.fault.Fault.{Fault}
use Rattle.smv_meaning.specs.Value.{Name}
use Rattle.smv_meaning.specs.Instances.{Instance, instances}
use Rattle.smv_meaning.specs.Items.{Item, at_of}
use Rattle.smv_meaning.specs.ItemIndex.{items_at}
use Rattle.smv_meaning.specs.Runs.{or_else, first_fault}
use Rattle.smv_meaning.specs.Checking.{instance_at}
use Rattle.smv_kinds.specs.declared.instance_rule.InstanceRule.{InstanceRule}
use Rattle.smv_kinds.specs.declared.facts.Facts.{Facts}
use Rattle.smv_kinds.specs.declared.sorts.Sort.{Sort}
use Rattle.smv_kinds.specs.declared.pass.Pass.{Pass}
use Rattle.smv_kinds.specs.declared.pass.Pass.TheVariants as pass
use Rattle.smv_kinds.specs.SortsOfNames.{facts_in, is_instance, target_in}
use Rattle.smv_kinds.specs.ItemRules.{fault_of, actual_keeps, declared_keeps, keeps}

-- whether an item keeps the rule of a pass in an instance
abbrev pub keeps_in : Program → Pass → Instance → Item → Bool
keeps_in program pass instance = keeps (facts_in program instance) (is_instance program instance)
    (target_in program instance) pass

-- the fault of an item in an instance, if it breaks the rule of a pass
abbrev pub item_fault : Program → Pass → Instance → Item → Option Fault
item_fault program pass instance item = if keeps_in program pass instance item then None else Some
    (fault_of pass (at_of item))

-- the first fault of a pass in an instance, in text order
abbrev pub instance_fault : Program → Pass → Instance → Option Fault
instance_fault program pass instance = first_fault (item_fault program pass instance)
    (items_at program instance)

-- the first fault of a pass, in the order of the instances
abbrev pub pass_fault : Program → Pass → Option Fault
pass_fault program pass = first_fault (instance_fault program pass) (instances program)

-- the first fault of kinds; else the first number beyond the limit of magnitude; else the first
-- faulty `mod`
abbrev pub kinds_fault : Program → Option Fault
kinds_fault program = or_else (pass_fault program pass.Kinds)
    (or_else (pass_fault program pass.Magnitudes) (pass_fault program pass.Mods))

-- ---- the instance of a rule, given by its number

-- the program of the rule
abbrev pub program_of : InstanceRule → Program
program_of rule = rule.context.now.program.now

-- the instance of the rule
abbrev pub instance_of : InstanceRule → Instance
instance_of rule = instance_at rule.context.now.table.now rule.row

-- the facts of an expression there
abbrev pub facts_here : InstanceRule → Expr → Facts
facts_here rule = facts_in (program_of rule) (instance_of rule)

-- whether an expression denotes an instance there
abbrev pub is_instance_here : InstanceRule → Expr → Bool
is_instance_here rule = is_instance (program_of rule) (instance_of rule)

-- the sort of a variable there
abbrev pub target_here : InstanceRule → Name → Option Sort
target_here rule = target_in (program_of rule) (instance_of rule)

-- whether an actual keeps the rule there
abbrev pub actual_keeps_here : InstanceRule → Expr → Bool
actual_keeps_here rule e = actual_keeps rule.pass (is_instance_here rule e) (facts_here rule e)

-- whether a declared entity keeps the rule there
abbrev pub declared_keeps_here : InstanceRule → Declared → Bool
declared_keeps_here rule = declared_keeps (facts_here rule) (is_instance_here rule)
    (target_here rule) rule.pass

-- whether an item keeps the rule there
abbrev pub keeps_here : InstanceRule → Item → Bool
keeps_here rule = keeps_in (program_of rule) rule.pass (instance_of rule)

-- the fault of an item there, if it breaks the rule
abbrev pub fault_here : InstanceRule → Item → Option Fault
fault_here rule = item_fault (program_of rule) rule.pass (instance_of rule)
