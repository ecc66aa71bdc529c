use Rattle.std.proofs.Common.{◌≡◌, ◌+◌, ◌||◌, map, length, drop, Some}
use Rattle.smv_meaning.specs.Value.{of_both}
use Rattle.smv_meaning.specs.Denotations as spec
use Rattle.smv_meaning.proofs.evaluation.+evaluation.Given as goal

abbrev pub invariant-case_value-loop-branch : goal.invariant-case_value-loop-branch
invariant-case_value-loop-branch g l = record {
  left : l.left + l.branch-index ≡ length l.branches;
  same : spec.case_value (g.E.Environment.reads l.now) (g.E.Environment.reads l.after) (map spec.branch_denotation_of (drop l.branch-index l.branches))
      ≡ spec.case_value (g.E.Environment.reads l.now) (g.E.Environment.reads l.after) (map spec.branch_denotation_of l.branches);
}

abbrev pub invariant-case_allows-loop-branch : goal.invariant-case_allows-loop-branch
invariant-case_allows-loop-branch g l = record {
  left : l.left + l.branch-index ≡ length l.branches;
  same : spec.case_allows (g.E.Environment.reads l.now) (g.E.Environment.reads l.after) (map spec.branch_denotation_of (drop l.branch-index l.branches)) l.v
      ≡ spec.case_allows (g.E.Environment.reads l.now) (g.E.Environment.reads l.after) (map spec.branch_denotation_of l.branches) l.v;
}

abbrev pub invariant-parts_allow-loop-part : goal.invariant-parts_allow-loop-part
invariant-parts_allow-loop-part g l =
    of_both (λ b c. Some (b || c)) (Some l.found) (spec.parts_allow (g.E.Environment.reads l.now) (g.E.Environment.reads l.after) l.v (map spec.denotation_of (drop l.part-index l.parts)))
    ≡ spec.parts_allow (g.E.Environment.reads l.now) (g.E.Environment.reads l.after) l.v (map spec.denotation_of l.parts)
