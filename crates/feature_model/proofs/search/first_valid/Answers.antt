use Rattle.feature_model.proofs.SearchLemmas.{none_agrees, found}
use Rattle.feature_model.proofs.WellFormedLemmas.{model_fits}
use Rattle.feature_model.proofs.search.first_valid.Goals as goal

pub search-requires-clause-fits : goal.search-requires-clause-fits
search-requires-clause-fits c = model_fits c.args.model.now c.requires

pub returns-in-Some : goal.returns-in-Some
returns-in-Some c = let both = c.in-Some.ensures in
    none_agrees c.args.model.now c.args.yes c.args.no c.decided_before-partial.result c.in-Some.field-0 c.decided_before-partial.ensures both.1 both.2

pub returns-in-None : goal.returns-in-None
returns-in-None c = rw c.ok.ensures.value (found c.args.model.now c.args.yes c.args.no c.decided_before-partial.result c.search.result c.decided_before-partial.ensures c.search.ensures)
