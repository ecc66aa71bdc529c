use Rattle.std.proofs.Common.{◌≡◌, map, drop}
use Rattle.std.specs.List.{list_all}
use Rattle.smv_meaning.specs.Checking.{instance_at}
use Rattle.integrate_treat.specs.Target as spec
use Rattle.integrate_treat.proofs.target.resolves_in_rows.Given as goal

abbrev pub invariant-loop-row : goal.invariant-loop-row
invariant-loop-row l = list_all (spec.resolves_if_of l.program l.called l.path) (map (instance_at l.table) l.rows) ≡ list_all (spec.resolves_if_of l.program l.called l.path) (map (instance_at l.table) (drop l.row-index l.rows))
