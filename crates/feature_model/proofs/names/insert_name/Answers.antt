use Rattle.std.proofs.Common.{◌∙◌, ap}
use Rattle.feature_model.specs.NameSets.{in_set, and_name}
use Rattle.feature_model.proofs.NameSetLemmas.{in_set_inserted}
use Rattle.feature_model.proofs.names.insert_name.Goals as goal

pub returns : goal.returns
returns c = in_set_inserted c.args.declared.now c.insert.new.self c.as_str.result c.in_ok-insert.ensures.updates ∙ ap (and_name (in_set c.args.declared.now)) c.as_str.ensures
