use Rattle.integrate.proofs.ModuleNameLemmas.{in_names_inserted}
use Rattle.integrate.proofs.module_names.insert.Goals as goal

pub returns : goal.returns
returns c = in_names_inserted c.args.names.now c.insert.new.self c.args.name c.in_ok-insert.ensures.updates
