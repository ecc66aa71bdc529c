use Rattle.std.proofs.Common.{◌≡◌, false, arith, rules}
use Rattle.std.proofs.lemmas.Grind.{common_steps}
use Rattle.std.specs.List.{list_any}
use Rattle.integrate_impose.specs.Lists.{IsLastIndex}
use Rattle.integrate_impose.specs.Impose.{is_assigns}
use Rattle.integrate_impose.proofs.AssignLemmas.{with_assignment_none, with_assignment_taken}
use Rattle.integrate_impose.proofs.assignments.with_assignment.Goals as goal

pub returns-in_default : goal.returns-in_default
returns-in_default c =
    let none : list_any is_assigns c.args.sections ≡ false = search rules in
    let whole = with_assignment_none c.args.sections c.args.assignment none in
    grind (arith, common_steps)

pub returns : goal.returns
returns c =
    let last : IsLastIndex is_assigns c.args.sections c.in-Some.at = search rules in
    let whole = with_assignment_taken c.args.sections c.take_at.new.list c.in_ok-last.after_it c.in_ok-last.last c.args.assignment c.in-Some.at
    c.in_ok-last.ensures.split c.in_ok-last.ensures.index last in
    first_of (cc, grind (arith, common_steps))
