use Rattle.std.proofs.Common.{◌≡◌, ◌+◌, length, drop}
use Rattle.smv_meaning.specs.Slots.{resolve_slot}
use Rattle.smv_meaning.proofs.aliases.resolve.Given as goal

abbrev pub invariant-loop-name : goal.invariant-loop-name
invariant-loop-name l = record {
  left : l.left + l.name-index ≡ length l.names;
  same : resolve_slot l.table l.row (drop l.name-index l.names) ≡ resolve_slot l.table l.start l.names;
}
