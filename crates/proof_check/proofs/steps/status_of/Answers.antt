use Rattle.std.proofs.Common.{◌<◌, arith, length, ◌∙◌, sym}
use Rattle.proof_check.specs.Marks.{marked}
use Rattle.proof_check.proofs.StatusLemmas.{idle_by_true, idle_by_two}
use Rattle.proof_check.proofs.steps.status_of.Goals as goal
use Rattle.proof_check.proofs.steps.status_of.Goals.{then-contains-via-then-contains, then-contains-via-else-contains+then-first_open-lits}

pub returns-then-contains : goal.returns-then-contains
returns-then-contains c =
    let within : c.first_open-first.result < length c.args.lits.now = omega arith in
    elim c.then-contains.branch [
      | then-contains-via-then-contains w ↦ idle_by_true (marked c.args.marks.now) c.args.lits.now c.first_open-first.result c.index-lits-first.result within c.index-lits-first.is (c.first_open-first.ensures.open within) (sym c.contains.ensures ∙ w.if-contains.true)
      | then-contains-via-else-contains+then-first_open-lits w ↦ idle_by_two (marked c.args.marks.now) c.args.lits.now c.first_open-first.result w.first_open.result (omega arith) w.if-first_open-lits.true c.requires.rising (c.first_open-first.ensures.open within) (w.first_open.ensures.open w.if-first_open-lits.true)
    ]
