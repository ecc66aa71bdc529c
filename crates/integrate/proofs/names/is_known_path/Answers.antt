use Rattle.std.proofs.Common.{◌∙◌, arith}
use Rattle.integrate.proofs.KnownLemmas.{one_known}
use Rattle.integrate.proofs.names.is_known_path.Goals as goal

pub returns-then-path-eq1 : goal.returns-then-path-eq1
returns-then-path-eq1 c =
    c.declares.ensures ∙ one_known c.args.module_scope.now.known.now.program.now c.args.module_scope.now.called.now c.args.path.now c.index-path-0.result (omega arith) c.index-path-0.is
