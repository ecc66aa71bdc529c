use Rattle.std.proofs.Common.{◌≡◌, drop}
use Rattle.gate_build.specs.Circuits.{IsMade, Extends}
use Rattle.gate_build.specs.Numbering.{any_from, any_of}
use Rattle.gate_build.proofs.gates.Gates.any.Given as goal

abbrev pub invariant-loop-lit : goal.invariant-loop-lit
invariant-loop-lit l =
    (any_from l.any (drop l.lit-index l.lits) l.self ≡ any_of l.lits l.initial.self)
    × IsMade l.self l.any
    × Extends l.initial.self l.self
