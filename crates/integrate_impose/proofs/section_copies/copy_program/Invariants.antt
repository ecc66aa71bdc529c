use Rattle.std.proofs.Common.{◌≡◌, take}
use Rattle.integrate_impose.proofs.section_copies.copy_program.Given as goal

abbrev pub invariant-loop-owner : goal.invariant-loop-owner
invariant-loop-owner l = l.modules ≡ take l.owner-index l.program.modules
