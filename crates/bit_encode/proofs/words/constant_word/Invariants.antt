use Rattle.std.proofs.Common.{◌≡◌, ◌++◌, ◌-◌}
use Rattle.bit_encode.specs.Words.{constant_word}
use Rattle.bit_encode.proofs.words.constant_word.Given as goal

abbrev pub invariant-loop : goal.invariant-loop
invariant-loop l = l.word.items ++ constant_word (l.width - l.counter) l.rest ≡ constant_word l.width l.initial.rest
