use Rattle.std.proofs.Common.{◌≡◌, ℕ, ◌<◌, ◌+◌, [], get_or, take, length}
use Rattle.std.specs.Prelude.{All}
use Rattle.proof_check.proofs.checker.copies.Given as goal

abbrev pub invariant-loop-clause : goal.invariant-loop-clause
invariant-loop-clause l = record {
  copied : l.copies.items ≡ take l.clause-index l.clauses;
  room : (k : ℕ) → k < l.clause-index → All (λ m. m + 1 < length l.marks) (get_or l.clauses k []);
}
