use Rattle.std.proofs.Common.{◌≡◌, ◌+◌, ◌<◌, ◌^◌, length}
use Rattle.smv_expr.specs.Lexicon as spec
use Rattle.smv_expr.proofs.cursor.cursor_at.Given as goal

abbrev pub invariant-blanks : goal.invariant-blanks
invariant-blanks l = (spec.tokens_from l.file l.at l.remaining ≡ spec.tokens_from l.file l.fn.offset l.fn.text) × (l.at + length l.remaining < 2 ^ 32)

abbrev pub decreases-blanks : goal.decreases-blanks
decreases-blanks l = length l.remaining
