use Rattle.std.proofs.Common.{◌≡◌, length}
use Rattle.smv_parse.specs.Readers.{after_skipped}
use Rattle.smv_parse.proofs.skipped.skip_text.Given as goal

abbrev pub invariant-rounds : goal.invariant-rounds
invariant-rounds l = after_skipped l.fn.tokens ≡ after_skipped l.tokens

abbrev pub decreases-rounds : goal.decreases-rounds
decreases-rounds l = length l.tokens
