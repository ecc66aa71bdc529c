use Rattle.std.proofs.Common.{◌≡◌, Some, None, rules}
use Rattle.integrate_impose.specs.Lists.{first_index}
use Rattle.integrate_impose.specs.Impose.{assigns}
use Rattle.integrate_impose.proofs.ImposeLemmas.{guard_found, none_found}
use Rattle.integrate_impose.proofs.imposition.impose_in.Goals as goal

pub returns-in-Some : goal.returns-in-Some
returns-in-Some c =
    let i = c.args.imposed in
    let found : first_index (assigns i.left i.name) c.args.owner.sections ≡ Some c.in-Some.at = search rules in
    rw (← guard_found i c.args.owner c.in-Some.at found) c.guard_in.ensures

pub returns-in-None : goal.returns-in-None
returns-in-None c =
    let i = c.args.imposed in
    let none : first_index (assigns i.left i.name) c.args.owner.sections ≡ None = search rules in
    rw (← none_found i c.args.owner none) c.add_in.ensures
