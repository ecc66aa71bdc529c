use Rattle.std.proofs.Common.{◌≡◌, ◌+◌, ◌++◌, length, map, reverse}
use Rattle.feature_parse.specs.Grammar.{change_in}
use Rattle.feature_parse.proofs.changes.ModuleChanges.push_all.Given as goal

abbrev pub invariant-loop-round : goal.invariant-loop-round
invariant-loop-round l = record {
  is : l.fn.self.changes ++ map (change_in l.fn.self.«module» l.cond) l.fn.actions ≡ l.self.changes ++ map (change_in l.fn.self.«module» l.cond) (reverse l.waiting);
  same : l.self.«module» ≡ l.fn.self.«module»;
  count : length l.waiting + l._round ≡ l._round-end;
}
