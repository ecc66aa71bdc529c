use Rattle.std.proofs.Common.{◌≡◌, ◌||◌, map, drop}
use Rattle.std.specs.List.{list_any}
use Rattle.smv_flatten.specs.Making.{is_free_branch}
use Rattle.smv_flatten.proofs.choices.+free.Given as goal

abbrev pub invariant-any_free-loop-branch : goal.invariant-any_free-loop-branch
invariant-any_free-loop-branch l = l.free || list_any (λ b. b) (map is_free_branch (drop l.branch-index l.branches)) ≡ list_any (λ b. b) (map is_free_branch l.branches)
