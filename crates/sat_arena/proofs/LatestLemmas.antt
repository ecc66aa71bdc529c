-- Two literals of a clause of which no other became false later.
use Rattle.std.proofs.Common.{◌≡◌, ◌≢◌, ◌<◌, ℕ, List, true, length, get_or, arith, sym, ap, ◌∙◌, subst}
use Rattle.std.specs.Prelude.{Contains}
use Rattle.std.proofs.lemmas.List.{get_or_default}
use Rattle.std.proofs.lemmas.List.Elements.{Contains-get_or}
use Rattle.sat_lits.specs.Literals.{negation}
use Rattle.sat_lits.specs.Clauses.{HasRisingVariables}
use Rattle.sat_arena.specs.declared.trail.Assigned.{Assigned}
use Rattle.sat_arena.specs.Trails.{true_in}
use Rattle.sat_arena.specs.Watches.{IsNoLater, AreLatest}
use Rattle.sat_arena.proofs.SettledLemmas.{two_literals}

-- a literal of the clause stands at an index
index_of : (lits : List ℕ) (l : ℕ) (c : Contains lits l) → get_or lits c.0 0 ≡ l
index_of lits l c = get_or_default lits c.0 0 l c.1 ∙ c.2

pub AreLatest-at : (entries : List Assigned) (lits : List ℕ) (first second one other : ℕ) → HasRisingVariables lits → first < length lits → second < length lits → second ≢ first
    → (true_in entries (negation (get_or lits first 0)) ≡ true → (k : ℕ) → k < length lits → true_in entries (negation (get_or lits k 0)) ≡ true)
    → (true_in entries (negation (get_or lits second 0)) ≡ true → (k : ℕ) → k < length lits → k ≢ first → IsNoLater entries (get_or lits k 0) (get_or lits second 0))
    → one ≡ get_or lits first 0 → other ≡ get_or lits second 0 → AreLatest entries lits one other
AreLatest-at entries lits first second one other rising within within' apart all_false latest one_is other_is = record {
  two = record {
    holds_first = subst (λ (l : ℕ). Contains lits l) (sym one_is) (Contains-get_or lits first 0 within);
    holds_second = subst (λ (l : ℕ). Contains lits l) (sym other_is) (Contains-get_or lits second 0 within');
    differ = λ same. two_literals lits rising first second within within' (λ e. apart (sym e)) (sym one_is ∙ same ∙ other_is);
  };
  all_false = λ known l c. subst (λ (m : ℕ). true_in entries (negation m) ≡ true) (index_of lits l c) (all_false (ap (λ (m : ℕ). true_in entries (negation m)) (sym one_is) ∙ known) c.0 c.1);
  latest = λ known l c ne.
      subst (λ (m : ℕ). IsNoLater entries l m) (sym other_is) (subst (λ (m : ℕ). IsNoLater entries m (get_or lits second 0)) (index_of lits l c)
      (latest (ap (λ (m : ℕ). true_in entries (negation m)) (sym other_is) ∙ known) c.0 c.1 (λ same. ne (sym (index_of lits l c) ∙ ap (λ k. get_or lits k 0) same ∙ sym one_is))));
}
