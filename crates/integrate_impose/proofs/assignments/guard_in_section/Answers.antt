use Rattle.std.proofs.Common.{arith}
use Rattle.integrate_impose.specs.Impose.{assigns, guarded_section}
use Rattle.integrate_impose.proofs.ListLemmas.{change_first_taken, first_index_below}
use Rattle.integrate_impose.proofs.assignments.guard_in_section.Goals as goal

pub take_at-requires : goal.take_at-requires
take_at-requires c = first_index_below (assigns c.args.imposed.left c.args.imposed.name) c.args.sections c.args.at c.requires

pub returns : goal.returns
returns c =
    let i = c.args.imposed in
    let taken = change_first_taken (assigns i.left i.name) (guarded_section i) c.args.sections c.take_at.new.list c.in_ok-section.after_it c.in_ok-section.section c.args.at
    c.in_ok-section.ensures.split c.in_ok-section.ensures.index c.requires in
    first_of (cc, grind arith)
