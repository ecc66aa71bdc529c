-- Whether literals clash, by a search for the negation of each.
use Rattle.std.proofs.Common.{◌≡◌, ◌==◌, ◌<◌, ℕ, true, false, List, length, get_or, sym, ◌∙◌, subst}
use Rattle.std.specs.Prelude.{Contains}
use Rattle.std.specs.List.{list_any, Any}
use Rattle.std.proofs.lemmas.Bool.{eqb-true, eq-eqb, both_ways}
use Rattle.std.proofs.lemmas.List.{get_or_default}
use Rattle.std.proofs.lemmas.List.Folds.{Any-from_list_any, list_any_at}
use Rattle.sat_lits.specs.Literals.{negation}
use Rattle.sat_search.specs.Clashes.{HasClash}

-- the literals hold this one exactly where a search for it finds it
pub Contains-from_search : (lits : List ℕ) (l : ℕ) → list_any (λ x. x == l) lits ≡ true → Contains lits l
Contains-from_search lits l found =
    let some : Any (λ (x : ℕ). (x == l) ≡ true) lits = Any-from_list_any (λ (x : ℕ). x == l) lits found in
    let is : some.1 ≡ l = eqb-true some.1 l some.4 in
    subst (λ (n : ℕ). Contains lits n) is (some.0, some.2, some.3)

pub search_finds : (lits : List ℕ) (l : ℕ) → Contains lits l → list_any (λ x. x == l) lits ≡ true
search_finds lits l holds = list_any_at (λ (x : ℕ). x == l) lits holds.0 l holds.1 (eq-eqb (get_or lits holds.0 l) l holds.2)

-- no literal's negation was found
pub no_clash : (lits : List ℕ) → ((k : ℕ) → k < length lits → list_any (λ x. x == negation (get_or lits k 0)) lits ≡ false) → HasClash lits → ⊥
no_clash lits none clash =
    let l = clash.0 in
    let holds = clash.1 in
    let at : get_or lits holds.0 0 ≡ l = sym (get_or_default lits holds.0 l 0 holds.1) ∙ holds.2 in
    both_ways (list_any (λ x. x == negation l) lits)
    (subst (λ (n : ℕ). list_any (λ x. x == negation n) lits ≡ false) at (none holds.0 holds.1)) (search_finds lits (negation l) clash.2)
