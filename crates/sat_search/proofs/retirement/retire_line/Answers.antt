use Rattle.sat_arena.specs.Trails.{marked}
use Rattle.sat_arena.specs.ArenaState.{clause_satisfied}
use Rattle.std.proofs.Common.{◌≡◌, true, false, Some, None, Option, List, ℕ, sym, ap, ◌∙◌, subst}
use Rattle.sat_search.proofs.RetireLemmas.{RetiresLine-before, RetiresLine-fine, RetiresLine-retired, retirable}
use Rattle.sat_search.proofs.retirement.retire_line.Goals as goal

pub returns-in-Some : goal.returns-in-Some
returns-in-Some c =
    RetiresLine-before (clause_satisfied (marked c.args.literal_set.now)) c.args.number c.in-Some.field-0 c.args.log.now (c.retired.ensures ∙ ap Some c.in-Some.is)

pub returns-then-not-clause_satisfied : goal.returns-then-not-clause_satisfied
returns-then-not-clause_satisfied c =
    RetiresLine-fine (clause_satisfied (marked c.args.literal_set.now)) c.args.number c.clause.result.now c.args.log.now c.clause.ensures
    (ap (clause_satisfied (marked c.args.literal_set.now)) (sym c.lits.ensures.same) ∙ sym c.clause_satisfied.ensures ∙ c.if-not-clause_satisfied.true)

pub retire-requires : goal.retire-requires
retire-requires c =
    retirable (marked c.args.literal_set.now) c.args.number c.clause.result.now c.args.log.now c.derived-lines.ensures.sound (c.retired.ensures ∙ ap Some c.in_default.is) c.clause.ensures
    (ap (clause_satisfied (marked c.args.literal_set.now)) (sym c.lits.ensures.same) ∙ sym c.clause_satisfied.ensures ∙ c.if-not-clause_satisfied.false) c.requires.units

pub returns : goal.returns
returns c =
    RetiresLine-retired (clause_satisfied (marked c.args.literal_set.now)) c.args.number c.clause.result.now c.args.log.now c.retire.new.self (c.retired.ensures ∙ ap Some c.in_default.is) c.clause.ensures
    (ap (clause_satisfied (marked c.args.literal_set.now)) (sym c.lits.ensures.same) ∙ sym c.clause_satisfied.ensures ∙ c.if-not-clause_satisfied.false) c.retire.ensures
