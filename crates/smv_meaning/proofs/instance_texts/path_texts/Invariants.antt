use Rattle.std.proofs.Common.{◌≡◌, length}
use Rattle.smv_meaning.proofs.ValuationLemmas.{FirstTexts}
use Rattle.smv_meaning.proofs.instance_texts.path_texts.Given as goal

abbrev pub invariant-loop-row : goal.invariant-loop-row
invariant-loop-row l = record {
  count : length l.texts ≡ l.row-index;
  known_of : FirstTexts l.rows l.texts l.row-index;
}
