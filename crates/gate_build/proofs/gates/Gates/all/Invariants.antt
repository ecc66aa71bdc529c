use Rattle.std.proofs.Common.{◌≡◌, drop}
use Rattle.gate_build.specs.Circuits.{IsMade, Extends}
use Rattle.gate_build.specs.Numbering.{all_from, all_of}
use Rattle.gate_build.proofs.gates.Gates.all.Given as goal

abbrev pub invariant-loop-lit : goal.invariant-loop-lit
invariant-loop-lit l =
    (all_from l.all (drop l.lit-index l.lits) l.self ≡ all_of l.lits l.initial.self)
    × IsMade l.self l.all
    × Extends l.initial.self l.self
