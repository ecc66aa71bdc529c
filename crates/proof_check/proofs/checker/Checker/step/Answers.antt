use Rattle.std.proofs.Common.{◌∙◌}
use Rattle.proof_check.specs.declared.lines.LogLine.TheVariants.{Derived, Retired}
use Rattle.proof_check.proofs.RedundantLemmas.{StaysRedundant-finds}
use Rattle.proof_check.proofs.checker.Checker.step.Goals as goal
use Rattle.proof_check.proofs.checker.Checker.step.Goals.{in-Derived+in_ok-broken-in-Derived, in-Retired}

pub returns-in-None-clause-once : goal.returns-in-None-clause-once
returns-in-None-clause-once c = elim c.match-line.branch [
  | in-Derived+in_ok-broken-in-Derived w ↦ StaysRedundant-finds c.args.self.now (Derived w.in-Derived.derived) w.derive.new.self _ w.in_ok-broken-in-Derived.broken w.in_ok-broken-in-Derived.ensures.found (c.self-2.view_is ∙ w.self-is)
  | in-Retired w ↦ StaysRedundant-finds c.args.self.now (Retired w.in-Retired.number) w.retire-broken.new.self _ w.retire-broken.result w.retire-broken.ensures (c.self-2.view_is ∙ w.self-is)
]
