use Rattle.std.proofs.Common.{◌≡◌, drop}
use Rattle.std.specs.List.{fold}
use Rattle.smv_kinds.specs.Sorts.{join_both}
use Rattle.smv_kinds.specs.Facts.{parts_sort}
use Rattle.smv_kinds.proofs.facts.parts_sort.Given as goal

abbrev pub invariant-loop-part : goal.invariant-loop-part
invariant-loop-part l = fold (λ sort a. join_both sort a.sort) l.sort (drop l.part-index l.parts) ≡ parts_sort l.parts
