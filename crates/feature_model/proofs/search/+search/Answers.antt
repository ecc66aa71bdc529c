use Rattle.std.proofs.Common.{false, sym, ◌∙◌}
use Rattle.feature_model.proofs.SearchLemmas.{first_left_out, conflict_before, first_before, conflict_of_both, excludes}
use Rattle.feature_model.proofs.search.+search.Goals as goal

pub branch-returns-in-Ok : goal.branch-returns-in-Ok
branch-returns-in-Ok t c = first_left_out c.args.model.now c.args.partial c.decide.result c.args.feature c.in-Ok.product c.decide.ensures.one c.requires.first c.in-Ok.ensures

pub branch-returns-else-has : goal.branch-returns-else-has
branch-returns-else-has t c = conflict_before c.args.partial c.decide.result c.args.feature false c.decide.ensures.one c.args.model.now c.in-Err.conflict (sym c.has.ensures ∙ c.if-has.false) c.in-Err.ensures

pub search_other-returns-in-Ok : goal.search_other-returns-in-Ok
search_other-returns-in-Ok t c = first_before c.args.partial c.decide.result c.args.feature c.args.chosen c.decide.ensures.one c.args.model.now c.args.conflict c.in-Ok.product c.requires.undecided c.requires.only c.in-Ok.ensures

pub search_other-returns-then-has : goal.search_other-returns-then-has
search_other-returns-then-has t c = conflict_of_both c.args.model.now c.args.partial c.args.feature c.args.chosen c.args.conflict c.in-Err.other c.without.result c.requires.undecided c.without.ensures.others c.requires.only
    (excludes c.args.partial c.decide.result c.args.feature c.args.chosen c.decide.ensures.one c.args.model.now c.in-Err.other c.in-Err.ensures)

pub search_other-returns-else-has : goal.search_other-returns-else-has
search_other-returns-else-has t c = conflict_before c.args.partial c.decide.result c.args.feature c.args.chosen c.decide.ensures.one c.args.model.now c.in-Err.other (sym c.has.ensures ∙ c.if-has.false) c.in-Err.ensures
