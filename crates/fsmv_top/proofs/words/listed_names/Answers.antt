use Rattle.std.proofs.Common.{◌≡◌, lit<}
use Rattle.std.proofs.lemmas.Iterator.Consumers.{map_from_collect}
use Rattle.std.proofs.lemmas.Iterator.Splits.{YieldsList-from_str_split}
use Rattle.std.proofs.lemmas.Result.{IfOk-at_ok}
use Rattle.feature_model.specs.NamedProducts.{names_at}
use Rattle.fsmv_top.specs.Words.{listed_names}
use Rattle.fsmv_top.proofs.words.listed_names.Goals as goal

pub returns : goal.returns
returns c =
    let names = YieldsList-from_str_split 44 c.args.list.now (lit< tt) c.split.ensures.text c.split.ensures.has_more c.split.ensures.pattern in
    IfOk-at_ok (λ found. names_at found.items ≡ listed_names c.args.list.now) c.in_ok-collect.was (map_from_collect c.collect.result c.collect.ensures.ran names)
