use Rattle.std.proofs.Common.{None}
use Rattle.sat_lits.proofs.TableLemmas.{Puts-viewed}
use Rattle.sat_lits.proofs.table.ClauseTable.remove.Goals as goal

pub returns : goal.returns
returns c =
    rw (← c.self.view_is)
    (Puts-viewed (λ k. k.items) c.self.inside.numbers.entries c.remove.new.self.entries c.args.lits.now None c.remove.ensures.updates.1 c.remove.ensures.updates.3)
