use Rattle.std.proofs.Common.{◌≤◌, subst}
use Rattle.feature_model.proofs.SearchLemmas.{before}
use Rattle.feature_model.proofs.search.decided_before.Goals as goal

pub returns : goal.returns
returns c = before c.args.model.now c.args.yes c.args.no c.with.result c.features_from.result c.with.ensures.there c.with.ensures.others (λ f there. subst (λ n. n ≤ f) c.len.ensures (c.features_from.ensures f there))
