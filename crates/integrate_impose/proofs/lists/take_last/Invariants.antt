use Rattle.std.proofs.Common.{◌≡◌, ◌+◌, ◌++◌, length, reverse}
use Rattle.integrate_impose.proofs.lists.take_last.Given as goal

abbrev pub invariant-taking : goal.invariant-taking
invariant-taking g l = (l.fn.list ≡ l.list ++ reverse l.reversed) × (length l.reversed ≡ l._taken)

abbrev pub invariant-restoring : goal.invariant-restoring
invariant-restoring g l = (l.fn.list ≡ l.list ++ (l.last ++ reverse l.reversed)) × (length l.reversed + l._restored ≡ l.count) × (length l.last ≡ l._restored)
