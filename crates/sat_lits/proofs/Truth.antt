use Rattle.std.proofs.Common.{◌≡◌, ℕ, Bool, not, arith}
use Rattle.std.proofs.lemmas.Bool.Decides.{nat_tests}
use Rattle.sat_lits.specs.Literals.{negation, literal_true}

-- a literal's negation is true exactly where the literal is false
pub literal_true-negation : (values : ℕ → Bool) (l : ℕ) → literal_true values (negation l) ≡ not (literal_true values l)
literal_true-negation values l = grind (arith, nat_tests)

-- negating twice gives the literal back
pub negation-negation : (l : ℕ) → negation (negation l) ≡ l
negation-negation l = omega arith
