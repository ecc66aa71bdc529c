use Rattle.std.proofs.Common.{◌≡◌, ℕ, Bool, List, Option, sym, ap, ◌∙◌, subst}
use Rattle.std.specs.Prelude.{IfSome}
use mathlib.Core.Path.{fun_ext}
use Rattle.proof_log.specs.Logged.{Logged}
use Rattle.sat_arena.specs.Trails.{marked}
use Rattle.sat_arena.specs.ArenaState.{among, clause_satisfied}
use Rattle.sat_arena.specs.Moved.{Reclaims}
use Rattle.sat_search.specs.Additions.{retire_all}
use Rattle.sat_search.specs.Retirements.{IsUnitLine}
use Rattle.sat_search.proofs.RetireLemmas.{RetiresSome-none, units_stored, from_among, IsSolver-retired}
use Rattle.sat_search.proofs.solver.Solver.take_out.Goals as goal

pub reclaim-requires-clause-units : goal.reclaim-requires-clause-units
reclaim-requires-clause-units c = units_stored c.args.self.now c.args.units.now c.requires.solver c.derived-lines.ensures.sound c.requires.units

pub retire_lines-requires : goal.retire_lines-requires
retire_lines-requires c = record {
  units = λ l in_set. from_among (IsUnitLine c.args.self.now.log.lines) c.args.units.now l c.requires.units (sym (c.requires.flags l) ∙ in_set);
}

pub returns-in-None-clause-ok : goal.returns-in-None-clause-ok
returns-in-None-clause-ok c = RetiresSome-none c.args.self.now.log

pub returns-in-Some-clause-solver : goal.returns-in-Some-clause-solver
returns-in-Some-clause-solver c =
    let old = c.args.self.now in
    let units = c.args.units.now in
    let same : marked c.args.unit_flags.now ≡ among units = fun_ext c.requires.flags in
    IsSolver-retired old c.retire_lines.new.log c.reclaim.new.self units c.in-Some.field-0 c.requires.solver c.requires.level
    (units_stored old units c.requires.solver c.derived-lines.ensures.sound c.requires.units)
    (subst (λ (o : Option ℕ). IfSome o (Reclaims units old.propagator c.reclaim.new.self)) c.in-Some.is c.in_ok-reclaim.ensures.some)
    (c.retire_lines.ensures ∙ ap (λ (known : ℕ → Bool). record old.log { lines = retire_all (clause_satisfied known) old.log.lines }) same)

pub returns-in-Some-clause-ok : goal.returns-in-Some-clause-ok
returns-in-Some-clause-ok c = record {
  gone = clause_satisfied (marked c.args.unit_flags.now);
  is = c.retire_lines.ensures;
}
