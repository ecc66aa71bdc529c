use Rattle.std.proofs.Common.{◌≡◌, map, drop}
use Rattle.smv_meaning.specs.Items.{definition_item}
use Rattle.smv_meaning.specs.Runs.{first_fault}
use Rattle.integrate.specs.Applications as application
use Rattle.integrate.proofs.parts.check_definitions.Given as goal

abbrev pub invariant-loop-definition : goal.invariant-loop-definition
invariant-loop-definition l = first_fault (application.item_fault l.application l.module_scope) (map definition_item (drop l.definition-index l.definitions)) ≡ first_fault (application.item_fault l.application l.module_scope) (map definition_item l.definitions)
