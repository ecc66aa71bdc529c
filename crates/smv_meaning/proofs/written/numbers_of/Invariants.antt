use Rattle.std.proofs.Common.{◌≡◌, ◌≤◌, ℕ, List, length, drop}
use Rattle.smv_meaning.specs.Runs.{written_value}
use Rattle.smv_meaning.specs.Written.{value_by}
use Rattle.smv_meaning.proofs.written.numbers_of.Given as goal

abbrev pub invariant-loop-left : goal.invariant-loop-left
invariant-loop-left l = record {
  within : l.left ≤ length l.values;
  same : (text : List ℕ) → value_by l.values l.numbers text ≡ written_value (drop l.left l.values) text;
}

abbrev pub decreases-loop-left : goal.decreases-loop-left
decreases-loop-left l = l.left
