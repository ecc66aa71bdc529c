use Rattle.std.proofs.Common.{◌≡◌, None}
use Rattle.std.specs.Prelude.{replicate}
use Rattle.smv_flatten.proofs.numbering.no_shared_nodes.Given as goal

abbrev pub invariant-blank : goal.invariant-blank
invariant-blank l = l.blank ≡ replicate l.place None
