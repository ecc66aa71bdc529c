use Rattle.std.proofs.Common.{sym, ◌∙◌}
use Rattle.smv_names.proofs.KnownLaw.{resolved_law}
use Rattle.smv_names.proofs.known.is_known.Goals as goal

pub returns-clause-law : goal.returns-clause-law
returns-clause-law c =
    let law = resolved_law c.args.module_scope.now.known.now.program.now c.args.module_scope.now.called.now c.args.path.now in
    ((λ h. law.0 (sym c.is_resolved-known.ensures ∙ h)), (λ m. c.is_resolved-known.ensures ∙ law.1 m))
