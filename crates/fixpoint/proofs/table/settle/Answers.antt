use Rattle.std.proofs.Common.{refl, rules}
use Rattle.std.specs.Prelude.{IsSome}
use Rattle.fixpoint.proofs.TableLemmas.{known_closed, set_found}
use Rattle.fixpoint.proofs.table.settle.Goals as goal

pub returns-then-is_known-clause-gained : goal.returns-then-is_known-clause-gained
returns-then-is_known-clause-gained g c =
    (refl, known_closed (g.S.Step.step c.args.steps.now) (g.S.Step.monotone c.args.steps.now) c.args.table.now c.args.k c.requires.sound (rw c.as_slice.ensures at (c.if-is_known.ensures)))

pub returns-clause-sound : goal.returns-clause-sound
returns-clause-sound g c =
    let some : IsSome c.in_ok-found.found = search rules in
    rw c.set.ensures (set_found (g.S.Step.step c.args.steps.now) (g.S.Step.monotone c.args.steps.now) c.args.table.now c.args.k c.in_ok-found.found c.requires.within c.requires.sound
    (rw c.as_slice.ensures at (c.if-is_known.ensures)) (rw c.as_slice-2.ensures at c.in_ok-found.ensures) some)
