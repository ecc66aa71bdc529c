use Rattle.std.proofs.Common.{◌≡◌, ◌+◌, ◌++◌, length, map, reverse}
use Rattle.feature_parse.specs.Grammar.{need_in}
use Rattle.feature_parse.proofs.needs.named_needs.Given as goal

abbrev pub invariant-loop-round : goal.invariant-loop-round
invariant-loop-round l = (map (need_in l.«module») l.fn.names ≡ l.needs ++ map (need_in l.«module») (reverse l.waiting)) × (length l.waiting + l._round ≡ l._round-end)
