-- The search along the list of a literal, for a clause that holds only negations of a set's literals.
use Rattle.std.proofs.Common.{◌≡◌, ℕ, ◌<◌, ◌≤◌, ◌+◌, ◌-◌, ◌*◌, ◌/◌, ◌==◌, Bool, true, List, [], ◌∷◌, length, get_or, arith, inl, inr, sym, ◌∙◌, ap, subst, refl, zero, suc}
use Rattle.std.specs.Prelude.{All, Contains, Option, Some, None, IfNone}
use Rattle.std.specs.List.{list_any, Any}
use Rattle.std.proofs.lemmas.Bool.{cases_eq, cases_lt, eqb-true}
use Rattle.std.proofs.lemmas.List.{get_or_past, get_or_default}
use Rattle.std.proofs.lemmas.List.Elements.{All-contains, All-from_get_or}
use Rattle.std.proofs.lemmas.List.Folds.{Any-from_list_any}
use Rattle.sat_lits.specs.Literals.{negation}
use Rattle.sat_lits.specs.Steps.{IsFalsified}
use Rattle.sat_arena.specs.declared.trail.Assigned.{Assigned}
use Rattle.sat_arena.specs.Stored.{Stored}
use Rattle.sat_arena.specs.ArenaState.{clauses_of, among, IsUnitOf}
use Rattle.sat_arena.specs.PropagatorState.{AreShortTrue}
use Rattle.sat_arena.specs.Links.{IsChain, AreListed, chain_length}
use Rattle.sat_arena.specs.Watches.{clause_of, watch_of, AreWatches, KeepsWatches, IsSearching}
use Rattle.sat_arena.proofs.DeducedLemmas.{clause_at}
use Rattle.sat_arena.proofs.LinkLemmas.{contains_none, contains_cases}
use Rattle.sat_arena.proofs.LengthLemmas.{chain_length-chain}
use Rattle.sat_arena.proofs.WatchLemmas.{other_twice}

-- the literals of a clause, as they are read
pub read_clause : (stored : List Stored) (lits : List ℕ) (here : Stored) (position : ℕ) → position < length stored → lits ≡ here.clause → here ≡ get_or stored position here → lits ≡ get_or (clauses_of stored) position []
read_clause stored lits here position within read at = read ∙ ap (λ (s : Stored). s.clause) at ∙ sym (clause_at stored position here within)

-- ---- A chain and its first watch

chain_none : (links watched : List ℕ) (literal start : ℕ) (pending : List ℕ) → IsChain links watched literal start pending → start ≡ 0 → pending ≡ []
chain_none links watched literal start [] chain none = refl
chain_none links watched literal start (n ∷ ns) chain none = absurd (omega (arith, chain.0))

record HasFirst (links watched : List ℕ) (literal start : ℕ) (pending : List ℕ) : Type 0 where
  pub rest : List ℕ
  pub same : pending ≡ (start - 1) ∷ rest
  pub linked : start - 1 < length links
  pub chain : IsChain links watched literal (get_or links (start - 1) 0) rest

chain_first : (links watched : List ℕ) (literal start : ℕ) (pending : List ℕ) → IsChain links watched literal start pending → 0 < start → HasFirst links watched literal start pending
chain_first links watched literal start [] chain some = absurd (omega (arith, chain))
chain_first links watched literal start (n ∷ ns) chain some =
    let same : n ≡ start - 1 = omega (arith, chain.0) in
    record {
      rest = ns;
      same = ap (λ k. k ∷ ns) same;
      linked = subst (λ (k : ℕ). k < length links) same chain.1;
      chain = subst (λ (k : ℕ). IsChain links watched literal (get_or links k 0) ns) same chain.3;
    }

-- ---- The search begins, goes on, and ends

pub IsSearching-start : (clauses : List (List ℕ)) (links heads watched : List ℕ) (wanted : List ℕ → Type 0) (literal : ℕ) → AreListed links heads watched [] 0 0 → All (λ l. l < length heads) watched → IsSearching clauses links watched wanted literal (get_or heads literal 0)
IsSearching-start clauses links heads watched wanted literal listed within = elim (cases_lt literal (length heads)) [
  | inl inside ↦ record {
    pending = (listed.lists literal inside).watches;
    chain = (listed.lists literal inside).chain;
    passed = λ n h watches. elim ((listed.lists literal inside).all n h watches) [ inl none ↦ absurd (contains_none n none) | inr holds ↦ inl holds ];
  }
  | inr outside ↦ record {
    pending = [];
    chain = get_or_past heads literal 0 outside;
    passed = λ n h watches. absurd (let low : get_or watched n 0 < length heads = within n 0 h in omega arith);
  }
]

module _ (clauses : List (List ℕ)) (links watched : List ℕ) (wanted : List ℕ → Type 0) (literal start : ℕ) (searching : IsSearching clauses links watched wanted literal start) where
  first : 0 < start → HasFirst links watched literal start searching.pending
  first some = chain_first links watched literal start searching.pending searching.chain some

  pub searching_linked : 0 < start → start - 1 < length links
  searching_linked some = (first some).linked

  pub IsSearching-next : 0 < start → (wanted (clause_of clauses (start - 1)) → ⊥) → IsSearching clauses links watched wanted literal (get_or links (start - 1) 0)
  IsSearching-next some not_false = record {
    pending = (first some).rest;
    chain = (first some).chain;
    passed = λ n h watches. elim (searching.passed n h watches) [
      | inr fine ↦ inr fine
      | inl holds ↦ elim (contains_cases (start - 1) (first some).rest n (subst (λ (xs : List ℕ). Contains xs n) (first some).same holds)) [
        | inl same ↦ inr (subst (λ (k : ℕ). wanted (clause_of clauses k) → ⊥) same not_false)
        | inr later ↦ inl later
      ]
    ];
  }

  pub searching_shorter : 0 < start → chain_length links (length links) (get_or links (start - 1) 0) < chain_length links (length links) start
  searching_shorter some =
      let before : chain_length links (length links) start ≡ length ((start - 1) ∷ (first some).rest)
      = chain_length-chain links watched literal start searching.pending searching.chain ∙ ap length (first some).same in
      let after : chain_length links (length links) (get_or links (start - 1) 0) ≡ length (first some).rest = chain_length-chain links watched literal (get_or links (start - 1) 0) (first some).rest (first some).chain in
      omega arith

  pub IsSearching-end : start ≡ 0 → (n : ℕ) → n < length watched → watch_of watched n ≡ literal → wanted (clause_of clauses n) → ⊥
  IsSearching-end none n h watches = elim (searching.passed n h watches) [
    | inr fine ↦ fine
    | inl holds ↦ absurd (contains_none n (subst (λ (xs : List ℕ). Contains xs n) (chain_none links watched literal start searching.pending searching.chain none) holds))
  ]

-- ---- No clause, where no list has one

pub none_falsified : (entries : List Assigned) (head : ℕ) (clauses : List (List ℕ)) (watched lits : List ℕ) (set : ℕ → Bool) → KeepsWatches entries head clauses watched → AreShortTrue entries clauses → ((l : ℕ) → set l ≡ among lits l)
    → ((k : ℕ) → k < length lits → (n : ℕ) → n < length watched → watch_of watched n ≡ negation (get_or lits k 0) → IsFalsified set (clause_of clauses n) → ⊥)
    → All (λ clause. IsFalsified set clause → ⊥) clauses
none_falsified entries head clauses watched lits set keeps short same none = All-from_get_or (λ (clause : List ℕ). IsFalsified set clause → ⊥) clauses [] not_at
  where
    not_at : (i : ℕ) → i < length clauses → IsFalsified set (get_or clauses i []) → ⊥
    not_at i within falsified =
        let clause : List ℕ = get_or clauses i [] in
        let here : clause_of clauses (2 * i) ≡ clause = ap (λ k. get_or clauses k []) (omega arith) in
        elim (cases_eq (length clause) 0) [
          | inl empty ↦ (let held = (short i within (omega arith)).holds in absurd (omega (arith, held.1)))
          | inr some ↦
              let watch : ℕ = watch_of watched (2 * i) in
              let inside : 2 * i < length watched = omega (arith, keeps.two_each) in
              let holds : Contains clause watch = subst (λ (c : List ℕ). Contains c watch) here (keeps.holds (2 * i) inside (subst (λ (c : List ℕ). 0 < length c) (sym here) (omega arith))) in
              let is_among : among lits (negation watch) ≡ true = sym (same (negation watch)) ∙ All-contains (λ l. set (negation l) ≡ true) clause watch falsified holds in
              let found : Any (λ r. (r == negation watch) ≡ true) lits = Any-from_list_any (λ r. r == negation watch) lits is_among in
              let lit : get_or lits found.0 0 ≡ negation watch = get_or_default lits found.0 0 found.1 found.2 ∙ found.3 ∙ eqb-true found.1 (negation watch) found.4 in
              none found.0 found.2 (2 * i) inside (sym (other_twice watch) ∙ ap negation (sym lit)) (subst (IsFalsified set) (sym here) falsified)
        ]

-- a unit clause is found in the list of its literal
pub no_unit : (clauses : List (List ℕ)) (watched : List ℕ) (lit : ℕ) → AreWatches clauses watched → ((n : ℕ) → n < length watched → watch_of watched n ≡ lit → IsUnitOf lit (clause_of clauses n) → ⊥) → Contains clauses (lit ∷ []) → ⊥
no_unit clauses watched lit watches none unit =
    let here : clause_of clauses (2 * unit.0) ≡ lit ∷ [] = ap (λ k. get_or clauses k []) (let e : 2 * unit.0 / 2 ≡ unit.0 = omega arith in e) ∙ get_or_default clauses unit.0 [] (lit ∷ []) unit.1 ∙ unit.2 in
    let inside : 2 * unit.0 < length watched = omega (arith, watches.two_each, unit.1) in
    let holds : Contains (lit ∷ []) (watch_of watched (2 * unit.0)) = subst (λ (c : List ℕ). Contains c (watch_of watched (2 * unit.0))) here (watches.holds (2 * unit.0) inside (subst (λ (c : List ℕ). 0 < length c) (sym here) (omega arith))) in
    none (2 * unit.0) inside (only_one lit (watch_of watched (2 * unit.0)) holds) here
  where
    only_one : (l m : ℕ) → Contains (l ∷ []) m → m ≡ l
    only_one l m (zero, within, is) = sym is
    only_one l m (suc k, within, is) = absurd (omega arith)

-- ---- Answers

pub if_none_weaker : (o : Option ℕ) (P Q : Type 0) → (P → Q) → IfNone o P → IfNone o Q
if_none_weaker None P Q from p = from p
if_none_weaker (Some x) P Q from p = tt
