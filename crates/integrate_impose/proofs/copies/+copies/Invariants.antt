use Rattle.std.proofs.Common.{◌≡◌, take}
use Rattle.integrate_impose.proofs.copies.+copies.Given as goal

abbrev pub invariant-copy_parts-loop-part : goal.invariant-copy_parts-loop-part
invariant-copy_parts-loop-part l = l.copy ≡ take l.part-index l.parts

abbrev pub invariant-copy_branches-loop-branch : goal.invariant-copy_branches-loop-branch
invariant-copy_branches-loop-branch l = l.copy ≡ take l.branch-index l.branches
