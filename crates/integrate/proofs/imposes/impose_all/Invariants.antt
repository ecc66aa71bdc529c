use Rattle.std.proofs.Common.{◌≡◌, true, drop}
use Rattle.std.specs.List.{list_all}
use Rattle.integrate.specs.Changes as spec
use Rattle.integrate.specs.Lookups.{program_of}
use Rattle.integrate.specs.SameNames.{HaveSameNames, is_impose}
use Rattle.integrate.proofs.imposes.impose_all.Given as goal

abbrev pub invariant-loop-change : goal.invariant-loop-change
invariant-loop-change l = record {
  same : HaveSameNames l.program (program_of l.lookups);
  imposes : list_all is_impose (drop l.change-index l.changes) ≡ true;
  rest : spec.all_changed l.feature l.product l.program (drop l.change-index l.changes) ≡ spec.all_changed l.feature l.product l.fn.program l.changes;
}
