use Rattle.std.proofs.Common.{◌≡◌, map, drop}
use Rattle.smv_meaning.specs.Entries.{entries_view}
use Rattle.smv_meaning.specs.NameSets.{in_set, no_name, and_names}
use Rattle.smv_names.proofs.known.names_of.Given as goal

abbrev pub invariant-loop-entry : goal.invariant-loop-entry
invariant-loop-entry l = and_names (in_set l.names) (map (λ e. e.name) (entries_view (drop l.entry-index l.entries))) ≡ and_names no_name (map (λ e. e.name) (entries_view l.entries))
