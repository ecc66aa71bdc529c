use Rattle.std.proofs.Common.{◌≡◌, ◌++◌, map, drop}
use Rattle.smv_meaning.specs.Scopes.{scope_view, scope_of, scopes_of}
use Rattle.smv_meaning.proofs.scope.scopes_of.Given as goal

abbrev pub invariant-loop-owner : goal.invariant-loop-owner
invariant-loop-owner l = map scope_view l.scopes ++ map scope_of (drop l.owner-index l.program.modules) ≡ scopes_of l.program
