-- Each round of a loop takes a token at least.
use Rattle.std.proofs.Common.{true}
use Rattle.smv_expr.proofs.Rounds.{Consumes, consumes}
use Rattle.smv_expr.proofs.Limited.{consumes_too}
use Rattle.smv_parse.specs.Readers as r
use Rattle.smv_parse.specs.Readers.{the_limit}
use Rattle.smv_parse.proofs.ProgramRules as rules
use Rattle.smv_parse.proofs.ProgramLimited as limited

pub next_sign_consumes : Consumes (r.read_next_sign the_limit)
next_sign_consumes = consumes_too limited.next_sign_obeys (consumes (rules.next_sign_rule true) (rules.starts_next_sign true))

pub next_expr_consumes : Consumes (r.read_next_expr the_limit)
next_expr_consumes = consumes_too limited.next_expr_obeys (consumes (rules.next_expr_rule true) (rules.starts_next_expr true))

pub declaration_consumes : Consumes (r.read_declaration the_limit)
declaration_consumes = consumes_too limited.declaration_obeys (consumes (rules.declaration_rule true) (rules.starts_declaration true))

pub assignment_consumes : Consumes (r.read_assignment the_limit)
assignment_consumes = consumes_too limited.assignment_obeys (consumes (rules.assignment_rule true) (rules.starts_assignment true))

pub definition_consumes : Consumes (r.read_definition the_limit)
definition_consumes = consumes_too limited.definition_obeys (consumes (rules.definition_rule true) (rules.starts_definition true))

pub part_consumes : Consumes (r.read_part the_limit)
part_consumes = consumes_too limited.part_obeys (consumes (rules.part_rule true) (rules.starts_part true))

pub module_consumes : Consumes (r.read_module the_limit)
module_consumes = consumes_too limited.module_obeys (consumes (rules.module_rule true) (rules.starts_module true))
