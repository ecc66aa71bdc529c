use Rattle.std.proofs.Common.{◌≡◌, [], ◌∷◌, length}
use Rattle.smv_expr.specs.declared.kind.Kind.TheVariants as k
use Rattle.smv_expr.specs.Reading.{read_fold, pushed}
use Rattle.smv_parse.specs.Readers.{read_declaration, read_declarations, the_limit}
use Rattle.smv_parse.proofs.sections.declarations.Given as goal

abbrev pub invariant-rounds : goal.invariant-rounds
invariant-rounds l = read_declarations the_limit l.fn.tokens ≡ read_fold (k.Name ∷ []) (read_declaration the_limit) pushed l.found l.tokens

abbrev pub decreases-rounds : goal.decreases-rounds
decreases-rounds l = length l.tokens
