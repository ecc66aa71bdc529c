use Rattle.std.proofs.Common.{◌≡◌, map, drop}
use Rattle.smv_meaning.specs.Items.{declaration_item}
use Rattle.smv_meaning.specs.Runs.{first_fault}
use Rattle.integrate.specs.Applications as application
use Rattle.integrate.proofs.parts.check_declarations.Given as goal

abbrev pub invariant-loop-declaration : goal.invariant-loop-declaration
invariant-loop-declaration l = first_fault (application.item_fault l.application l.module_scope) (map declaration_item (drop l.declaration-index l.declarations)) ≡ first_fault (application.item_fault l.application l.module_scope) (map declaration_item l.declarations)
