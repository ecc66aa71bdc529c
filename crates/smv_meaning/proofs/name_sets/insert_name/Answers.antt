use Rattle.std.proofs.Common.{◌∙◌, ap}
use Rattle.smv_meaning.specs.NameSets.{in_set, and_name}
use Rattle.smv_meaning.proofs.NameSetLemmas.{in_set_inserted}
use Rattle.smv_meaning.proofs.name_sets.insert_name.Goals as goal

pub returns : goal.returns
returns c = in_set_inserted c.args.names.now c.insert.new.self c.as_str.result c.in_ok-insert.ensures.updates ∙ ap (and_name (in_set c.args.names.now)) c.as_str.ensures
