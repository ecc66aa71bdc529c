use Rattle.std.proofs.Common.{◌≡◌, ℕ, true, List, [], ◌∷◌, Option, ◌==◌, refl, ap, subst, sym, inl}
use Rattle.std.specs.Prelude.{Contains}
use Rattle.std.proofs.lemmas.List.Elements.{All-cons, All-nil}
use Rattle.std.proofs.lemmas.List.Folds.{list_any_at}
use Rattle.fsmv_base.specs.declared.citation.Id.TheVariants.{Axiom}
use Rattle.sat_lits.specs.Literals.{negation}
use Rattle.sat_lits.specs.Steps.{named, negated, IsRupStep}
use Rattle.proof_log.specs.Logged.{live_lines}
use Rattle.clause_tests.proofs.log.weaken.Goals as goal

-- the axiom is false where a clause with its literal is negated
by_axiom : (axioms : List (List ℕ)) (lines : List (Option (List ℕ))) (clause : List ℕ) → axioms ≡ (2 ∷ []) ∷ [] → Contains clause 2 → IsRupStep axioms lines clause (Axiom 1 ∷ [])
by_axiom axioms lines clause is holds = (
  2 ∷ [],
  ap (λ (xs : List (List ℕ)). named xs lines (Axiom 1)) is,
  inl (
    All-cons (λ l. negated clause (negation l) ≡ true) 2 []
        (list_any_at (λ m. negation m == 3) clause holds.0 2 holds.1 (subst (λ (m : ℕ). (negation m == 3) ≡ true) (sym holds.2) refl))
        (All-nil (λ l. negated clause (negation l) ≡ true)),
    refl,
  ),
)

pub derive-requires-clause-right : goal.derive-requires-clause-right
derive-requires-clause-right c = by_axiom c.args.log.now.axioms (live_lines c.args.log.now.lines) c.args.clause.now c.requires.axiom c.requires.holds
