use Rattle.std.proofs.Common.{◌∙◌, sym, ap}
use Rattle.sat_lits.specs.Table.{number_of}
use Rattle.sat_lits.proofs.TableLemmas.{number_of-viewed}
use Rattle.sat_lits.proofs.table.ClauseTable.get.Goals as goal

pub returns : goal.returns
returns c =
    c.copied.ensures ∙ c.get.ensures.value
    ∙ sym (number_of-viewed (λ k. k.items) c.args.lits.now c.self.inside.numbers.entries)
    ∙ ap (λ table. number_of table c.args.lits.now) c.self.view_is
