use Rattle.std.proofs.Common.{◌≡◌, ◌++◌, map, drop}
use Rattle.smv_kinds.specs.Facts as spec
use Rattle.smv_kinds.specs.SortsOfNames as name_sorts
use Rattle.smv_kinds.proofs.expressions.+expressions.Given as goal

abbrev pub invariant-list_facts-loop-part : goal.invariant-list_facts-loop-part
invariant-list_facts-loop-part l = l.found ++ map (spec.facts_of (name_sorts.sorting_of l.sorting)) (drop l.part-index l.parts) ≡ map (spec.facts_of (name_sorts.sorting_of l.sorting)) l.parts

abbrev pub invariant-cases_facts-loop-branch : goal.invariant-cases_facts-loop-branch
invariant-cases_facts-loop-branch l = record {
  conditions : l.conditions ++ map (λ b. b.cond) (map (spec.branch_facts_of (name_sorts.sorting_of l.sorting)) (drop l.branch-index l.branches)) ≡ map (λ b. b.cond) (map (spec.branch_facts_of (name_sorts.sorting_of l.sorting)) l.branches);
  values : l.values ++ map (λ b. b.value) (map (spec.branch_facts_of (name_sorts.sorting_of l.sorting)) (drop l.branch-index l.branches)) ≡ map (λ b. b.value) (map (spec.branch_facts_of (name_sorts.sorting_of l.sorting)) l.branches);
}
