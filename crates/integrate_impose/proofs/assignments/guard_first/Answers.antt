use Rattle.std.proofs.Common.{◌≡◌, Some, rules, arith}
use Rattle.integrate_impose.specs.Lists.{first_index}
use Rattle.integrate_impose.specs.Impose.{has_left, guarded_assignment}
use Rattle.integrate_impose.proofs.ListLemmas.{change_first_taken}
use Rattle.integrate_impose.proofs.assignments.guard_first.Goals as goal

pub returns : goal.returns
returns c =
    let i = c.args.imposed in
    let first : first_index (has_left i.left i.name) c.args.assignments ≡ Some c.in-Some.at = first_of (search rules, grind arith) in
    let taken = change_first_taken (has_left i.left i.name) (guarded_assignment i) c.args.assignments c.take_at.new.list c.in_ok-old.after_it c.in_ok-old.old c.in-Some.at
    c.in_ok-old.ensures.split c.in_ok-old.ensures.index first in
    first_of (cc, grind arith)
