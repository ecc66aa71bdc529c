use Rattle.std.proofs.Common.{◌≡◌, sym, ap, ◌∙◌, None}
use Rattle.smv_meaning.specs.Slots.{resolve_slot, by_slot}
use Rattle.fixpoint.specs.Fixpoints.{entry}
use Rattle.smv_kinds.specs.SortsOfNames.{sort_at, symbol_sort}
use Rattle.smv_kinds.proofs.InstanceLemmas.{resolve_none}
use Rattle.smv_kinds.proofs.context.RowSorting.sort_of.Goals as goal

pub returns-in-None : goal.returns-in-None
returns-in-None c =
    let table = c.args.self.now.context.now.table.now in
    let none : resolve_slot table c.args.self.now.row c.args.path.now.names ≡ None = rw c.as_slice.ensures at (sym c.resolve.ensures ∙ c.in-None.is) in
    rw c.as_slice-in-None.ensures at c.symbol_sort.ensures
    ∙ ap (sort_at (symbol_sort c.args.self.now.context.now.program.now) (by_slot table (entry c.args.self.now.solution.now)) c.args.path.now.names) (sym (resolve_none table c.args.self.now.row c.args.path.now.names none))
