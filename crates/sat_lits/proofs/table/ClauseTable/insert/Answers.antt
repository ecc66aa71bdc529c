use Rattle.std.proofs.Common.{Some}
use Rattle.sat_lits.proofs.TableLemmas.{Puts-viewed}
use Rattle.sat_lits.proofs.table.ClauseTable.insert.Goals as goal

pub returns-clause-ok : goal.returns-clause-ok
returns-clause-ok c =
    rw (← c.self.view_is)
    (Puts-viewed (λ k. k.items) c.self.inside.numbers.entries c.insert.new.self.entries c.args.lits.items (Some c.args.number) c.in_ok-insert.ensures.updates.1 c.in_ok-insert.ensures.updates.3)
