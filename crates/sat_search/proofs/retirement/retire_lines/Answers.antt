use Rattle.std.proofs.Common.{◌≡◌, ◌≤◌, ◌<◌, ◌+◌, ◌∙◌, List, ap, arith, refl, length, sym, subst}
use Rattle.proof_log.specs.declared.log.Line.{Line}
use Rattle.proof_log.specs.Logged.{Logged}
use Rattle.sat_arena.specs.Trails.{marked}
use Rattle.sat_arena.specs.ArenaState.{clause_satisfied}
use Rattle.sat_search.specs.Additions.{retire_all}
use Rattle.sat_search.proofs.RetireLemmas.{HasRetired-none, HasRetired-next, HasRetired-all, IsUnitLine-retired, axioms_kept, same_log}
use Rattle.sat_search.proofs.retirement.retire_lines.Goals as goal

pub loop-before-init : goal.loop-before-init
loop-before-init c = record {
  axioms = refl;
  retired = HasRetired-none (clause_satisfied (marked c.args.literal_set.now)) c.args.log.now.lines;
}

pub retire_line-requires-clause-units : goal.retire_line-requires-clause-units
retire_line-requires-clause-units c l in_set =
    IsUnitLine-retired (clause_satisfied (marked c.args.literal_set.now)) c.args.log.now.lines c.loop-before.log.lines c.loop-before.before l c.loop-before.invariant.retired (c.requires.units l in_set)

pub loop-before-preserved : goal.loop-before-preserved
loop-before-preserved c =
    let gone = clause_satisfied (marked c.args.literal_set.now) in
    let old = c.args.log.now in
    let mid = c.loop-before.log in
    let at = c.loop-before.before in
    let within : at < length old.lines = omega (arith, c.loop-before-test.true, c.derived-before-end.ensures.count) in
    let inside : at < length mid.lines = omega (arith, c.loop-before.invariant.retired.long) in
    record {
      axioms = axioms_kept gone mid c.retire_line.new.log at inside c.retire_line.ensures ∙ c.loop-before.invariant.axioms;
      retired = HasRetired-next gone old.lines mid.lines mid c.retire_line.new.log at within refl c.loop-before.invariant.retired c.retire_line.ensures;
    }

pub returns : goal.returns
returns c =
    let gone = clause_satisfied (marked c.args.literal_set.now) in
    let old = c.args.log.now in
    same_log c.loop-before.log old (retire_all gone old.lines) c.loop-before.invariant.axioms
    (HasRetired-all gone old.lines c.loop-before.log.lines c.loop-before.before (omega (arith, c.loop-before-test.false, c.derived-before-end.ensures.count)) c.loop-before.invariant.retired)
