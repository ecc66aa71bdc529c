use Rattle.std.proofs.Common.{◌≡◌, drop, find}
use Rattle.integrate_impose.specs.Impose.{is_named}
use Rattle.integrate_impose.proofs.modules.module_named.Given as goal

abbrev pub invariant-loop-owner : goal.invariant-loop-owner
invariant-loop-owner l = find (is_named l.called) l.modules ≡ find (is_named l.called) (drop l.owner-index l.modules)
