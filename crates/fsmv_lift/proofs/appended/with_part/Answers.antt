use Rattle.std.proofs.Common.{◌≡◌, List, Some, ap, arith, rules}
use Rattle.smv_ast.specs.declared.program.Module.{Module}
use Rattle.integrate_impose.specs.Lists.{first_index, change_first}
use Rattle.integrate_impose.specs.Impose.{is_named}
use Rattle.integrate_impose.proofs.ListLemmas.{change_first_taken}
use Rattle.integrate.specs.Joined.{with_sections}
use Rattle.fsmv_lift.proofs.appended.with_part.Goals as goal

pub returns : goal.returns
returns c =
    let modules = c.args.program.modules in
    let called = c.args.part.«module» in
    let found : first_index (is_named called) modules ≡ Some c.in-Some.at = first_of (search rules, grind arith) in
    let taken = change_first_taken (is_named called) (with_sections c.args.part.sections) modules c.take_at.new.list c.in_ok-owner.after_it c.in_ok-owner.owner c.in-Some.at
    c.in_ok-owner.ensures.split c.in_ok-owner.ensures.index found in
    let same : c.append.new.self ≡ change_first (is_named called) (with_sections c.args.part.sections) modules = first_of (cc, grind arith) in
    ap (λ (ms : List Module). record { modules = ms }) same
