-- How long a chain is, as a number that the links alone tell: the measure of a visit along it.
use Rattle.std.proofs.Common.{◌≡◌, ℕ, ◌==◌, ◌<◌, ◌≤◌, ◌+◌, Bool, true, false, List, [], ◌∷◌, length, get_or, arith, sym, ◌∙◌, ap, subst, refl, zero, suc}
use Rattle.std.specs.Prelude.{All, Contains}
use Rattle.std.specs.List.{list_any, IsDistinct, Any}
use Rattle.std.proofs.lemmas.Bool.{ne_eqb, eqb-true}
use Rattle.std.proofs.lemmas.List.Folds.{Any-from_list_any}
use Rattle.std.proofs.lemmas.List.Elements.{Contains-get_or, recursion_from_All}
use Rattle.std.proofs.lemmas.Map.Steps.{length-le_from_distinct_below}
use Rattle.sat_arena.specs.Links.{IsChain}
use Rattle.sat_arena.specs.Links.{chain_length}
use Rattle.sat_arena.proofs.LinkLemmas.{chain_watches, chain_once}

chain_distinct : (links watched : List ℕ) (literal start : ℕ) (nodes : List ℕ) → IsChain links watched literal start nodes → IsDistinct (λ x y. x == y) nodes
unfolding IsDistinct
chain_distinct links watched literal start [] chain = tt
chain_distinct links watched literal start (n ∷ ns) chain = (
  recursion_from_All (λ y. (n == y) ≡ false) ns
      (λ k d within. ne_eqb n (get_or ns k d) (λ same. chain_once links watched literal start n ns chain (subst (λ (m : ℕ). Contains ns m) (sym same) (Contains-get_or ns k d within)))),
  chain_distinct links watched literal (get_or links n 0) ns chain.3,
)

-- so it is no longer than the table
chain_short : (links watched : List ℕ) (literal start : ℕ) (nodes : List ℕ) → IsChain links watched literal start nodes → length nodes ≤ length links
chain_short links watched literal start nodes chain =
    length-le_from_distinct_below nodes (length links) (chain_distinct links watched literal start nodes chain)
    (λ q p. (let some : Any (λ x. (q == x) ≡ true) nodes = Any-from_list_any (λ x. q == x) nodes p in
    subst (λ (k : ℕ). k < length links) (sym (eqb-true q some.1 some.4)) (chain_watches links watched literal start nodes some.1 chain (some.0, some.2, some.3)).0))

length_enough : (links watched : List ℕ) (literal start fuel : ℕ) (nodes : List ℕ) → IsChain links watched literal start nodes → length nodes ≤ fuel → chain_length links fuel start ≡ length nodes
unfolding chain_length
length_enough links watched literal start zero [] chain enough = refl
length_enough links watched literal start zero (n ∷ ns) chain enough = absurd (omega arith)
length_enough links watched literal start (suc fuel) [] chain enough = ap (λ k. chain_length links (suc fuel) k) chain
length_enough links watched literal start (suc fuel) (n ∷ ns) chain enough =
    ap (λ k. chain_length links (suc fuel) k) (chain.0 ∙ one_more n)
    ∙ ap suc (length_enough links watched literal (get_or links n 0) fuel ns chain.3 (omega arith))
  where
    one_more : (n : ℕ) → n + 1 ≡ suc n
    one_more n = omega arith

pub chain_length-chain : (links watched : List ℕ) (literal start : ℕ) (nodes : List ℕ) → IsChain links watched literal start nodes → chain_length links (length links) start ≡ length nodes
chain_length-chain links watched literal start nodes chain = length_enough links watched literal start (length links) nodes chain (chain_short links watched literal start nodes chain)
