-- Renaming the vertices of a graph one to one renames its cycles.
use Rattle.std.proofs.Common.{◌≡◌, ℕ, zero, suc, Bool, true, false, ◌||◌, ◌&&◌, not, cond, List, [], ◌∷◌, ◌++◌, map, Option, Some, None, refl, sym, ap, ◌∙◌, subst, if◌then◌else◌}
use Rattle.std.specs.Prelude.{is_some}
use Rattle.std.specs.List.{find}
use Rattle.std.specs.Option.{option_map}
use Rattle.std.proofs.lemmas.List.{map-append}
use Rattle.fixpoint.specs.Fixpoints.{known, most}
use Rattle.graph.specs.Graphs.{if_found, among, leads, next_by, reach_step, reach, next_of, is_on_cycle, cycle_from, cycle_of}

-- each vertex of a list is in a set
abbrev pub AllIn : {K : Type 0} → (K → Type 0) → List K → Type 0
AllIn R [] = Unit {0}
AllIn R (k ∷ ks) = R k × AllIn R ks

all_push : {K : Type 0} (R : K → Type 0) (ks : List K) (k : K) → AllIn R ks → R k → AllIn R (ks ++ k ∷ [])
all_push R [] k a r = (r, tt)
all_push R (x ∷ ks) k a r = (a.0, all_push R ks k a.1 r)

-- f names the vertices in R anew. Their successors are in R, and go over; two of them are one exactly where their names are
module _ {K L : Type 0} (f : K → L) (R : K → Type 0) (sk : K → List K) (sl : L → List L)
    (covers : (k : K) → R k → sl (f k) ≡ map f (sk k)) (inside : (k : K) → R k → AllIn R (sk k))
    (ek : K → K → Bool) (el : L → L → Bool) (equal : (a b : K) → R a → R b → el (f a) (f b) ≡ ek a b) where
  among_same : (ps : List K) → AllIn R ps → (c : K) → R c → among ek ps c ≡ among el (map f ps) (f c)
  among_same [] a c r = refl
  among_same (p ∷ ps) a c r = ap (λ (b : Bool). b || among ek ps c) (sym (equal p c a.0 r)) ∙ ap (λ (b : Bool). el (f p) (f c) || b) (among_same ps a.1 c r)

  module _ (goal : K) (goal_in : R goal) (avoided : List K) (avoided_in : AllIn R avoided) where
    module _ (s : K → Option (Unit {0})) (t : L → Option (Unit {0})) (agree : (k : K) → R k → s k ≡ t (f k)) where
      leads_same : (c : K) → R c → leads ek goal avoided s c ≡ leads el (f goal) (map f avoided) t (f c)
      leads_same c r =
          ap (λ (b : Bool). b || (not (among ek avoided c) && is_some (s c))) (sym (equal goal c goal_in r))
          ∙ (ap (λ (b : Bool). el (f goal) (f c) || (not b && is_some (s c))) (among_same avoided avoided_in c r)
          ∙ ap (λ (o : Option (Unit {0})). el (f goal) (f c) || (not (among el (map f avoided) (f c)) && is_some o)) (agree c r))

      chosen : (k : K) (b : Bool) (o : Option K) (p : Option L) → option_map f o ≡ p → option_map f (cond b (Some k) o) ≡ cond b (Some (f k)) p
      chosen k true o p h = refl
      chosen k false o p h = h

      found_same : (ks : List K) → AllIn R ks → option_map f (find (leads ek goal avoided s) ks) ≡ find (leads el (f goal) (map f avoided) t) (map f ks)
      found_same [] a = refl
      found_same (k ∷ ks) a =
          chosen k (leads ek goal avoided s k) (find (leads ek goal avoided s) ks) (find (leads el (f goal) (map f avoided) t) (map f ks)) (found_same ks a.1)
          ∙ ap (λ (b : Bool). cond b (Some (f k)) (find (leads el (f goal) (map f avoided) t) (map f ks))) (leads_same k a.0)

      by_same : (k : K) → R k → option_map f (next_by sk ek goal avoided s k) ≡ next_by sl el (f goal) (map f avoided) t (f k)
      by_same k r = found_same (sk k) (inside k r) ∙ ap (find (leads el (f goal) (map f avoided) t)) (sym (covers k r))

      step_same : (k : K) → R k → reach_step sk ek goal avoided s k ≡ reach_step sl el (f goal) (map f avoided) t (f k)
      step_same k r = marked (next_by sk ek goal avoided s k) ∙ ap (if_found) (by_same k r)
        where
          marked : (o : Option K) → if_found o ≡ if_found (option_map f o)
          marked None = refl
          marked (Some c) = refl

      found_in : (ks : List K) (d : K) → AllIn R ks → find (leads ek goal avoided s) ks ≡ Some d → R d
      found_in [] d a e = cc
      found_in (k ∷ ks) d a e = at (leads ek goal avoided s k) (found_in ks d a.1) e
        where
          at : (b : Bool) → (find (leads ek goal avoided s) ks ≡ Some d → R d) → cond b (Some k) (find (leads ek goal avoided s) ks) ≡ Some d → R d
          at true more h = let i : k ≡ d = cc in subst R i a.0
          at false more h = more h

    known_same : (rounds : ℕ) (k : K) → R k → known (reach_step sk ek goal avoided) rounds k ≡ known (reach_step sl el (f goal) (map f avoided)) rounds (f k)
    known_same zero k r = refl
    known_same (suc rounds) k r = step_same (known (reach_step sk ek goal avoided) rounds) (known (reach_step sl el (f goal) (map f avoided)) rounds) (known_same rounds) k r

    pub reach_same : (k : K) → R k → reach sk ek goal avoided k ≡ reach sl el (f goal) (map f avoided) (f k)
    reach_same = known_same most

    next_same : (k : K) → R k → option_map f (next_of sk ek goal avoided k) ≡ next_of sl el (f goal) (map f avoided) (f k)
    next_same = by_same (reach sk ek goal avoided) (reach sl el (f goal) (map f avoided)) reach_same

    next_in : (k d : K) → R k → next_of sk ek goal avoided k ≡ Some d → R d
    next_in k d r = found_in (reach sk ek goal avoided) (reach sl el (f goal) (map f avoided)) reach_same (sk k) d (inside k r)

  -- a vertex is on a cycle exactly where its new name is
  pub on_cycle_same : (k : K) → R k → is_on_cycle sk ek k ≡ is_on_cycle sl el (f k)
  on_cycle_same k r = ap is_some (reach_same k r [] tt k r)

  module _ (goal : K) (goal_in : R goal) where
    from_same : (rounds : ℕ) (so_far : List K) → AllIn R so_far → (k : K) → R k → map f (cycle_from sk ek rounds goal so_far k) ≡ cycle_from sl el rounds (f goal) (map f so_far) (f k)
    from_same zero so_far a k r = refl
    from_same (suc rounds) so_far a k r =
        at (next_of sk ek goal so_far k) refl (from_same rounds) ∙ ap last (next_same goal goal_in so_far a k r)
      where
        More : Type 0
        More = (so_far : List K) → AllIn R so_far → (k : K) → R k → map f (cycle_from sk ek rounds goal so_far k) ≡ cycle_from sl el rounds (f goal) (map f so_far) (f k)

        last : Option L → List L
        last o = elim o as (λ o. List L) [ None ↦ map f so_far | Some c ↦ if el (f goal) c then map f so_far else cycle_from sl el rounds (f goal) (map f so_far ++ c ∷ []) c ]

        closed : (c : K) → R c → ((so_far : List K) → AllIn R so_far → (k : K) → R k → map f (cycle_from sk ek rounds goal so_far k) ≡ cycle_from sl el rounds (f goal) (map f so_far) (f k)) → (b : Bool) →
            map f (if b then so_far else cycle_from sk ek rounds goal (so_far ++ c ∷ []) c) ≡ (if b then map f so_far else cycle_from sl el rounds (f goal) (map f so_far ++ f c ∷ []) (f c))
        closed c i more true = refl
        closed c i more false = more (so_far ++ c ∷ []) (all_push R so_far c a i) c i ∙ ap (λ (ps : List L). cycle_from sl el rounds (f goal) ps (f c)) (map-append f so_far (c ∷ []))

        at : (o : Option K) → next_of sk ek goal so_far k ≡ o → ((so_far : List K) → AllIn R so_far → (k : K) → R k → map f (cycle_from sk ek rounds goal so_far k) ≡ cycle_from sl el rounds (f goal) (map f so_far) (f k)) →
            map f (elim o as (λ o. List K) [ None ↦ so_far | Some c ↦ if ek goal c then so_far else cycle_from sk ek rounds goal (so_far ++ c ∷ []) c ]) ≡ last (option_map f o)
        at None e more = refl
        at (Some c) e more =
            let i = next_in goal goal_in so_far a k c r e in
            closed c i more (ek goal c) ∙ ap (λ (b : Bool). if b then map f so_far else cycle_from sl el rounds (f goal) (map f so_far ++ f c ∷ []) (f c)) (sym (equal goal c goal_in i))

    -- the cycle of a vertex goes over
    pub cycle_same : map f (cycle_of sk ek goal) ≡ cycle_of sl el (f goal)
    cycle_same = from_same most (goal ∷ []) (goal_in, tt) goal goal_in

    from_in : (rounds : ℕ) (so_far : List K) → AllIn R so_far → (k : K) → R k → AllIn R (cycle_from sk ek rounds goal so_far k)
    from_in zero so_far a k r = a
    from_in (suc rounds) so_far a k r = at (next_of sk ek goal so_far k) refl (from_in rounds)
      where
        More : Type 0
        More = (so_far : List K) → AllIn R so_far → (k : K) → R k → AllIn R (cycle_from sk ek rounds goal so_far k)

        closed : (c : K) → R c → More → (b : Bool) → AllIn R (if b then so_far else cycle_from sk ek rounds goal (so_far ++ c ∷ []) c)
        closed c i more true = a
        closed c i more false = more (so_far ++ c ∷ []) (all_push R so_far c a i) c i

        at : (o : Option K) → next_of sk ek goal so_far k ≡ o → More → AllIn R (elim o as (λ o. List K) [ None ↦ so_far | Some c ↦ if ek goal c then so_far else cycle_from sk ek rounds goal (so_far ++ c ∷ []) c ])
        at None e more = a
        at (Some c) e more = closed c (next_in goal goal_in so_far a k c r e) more (ek goal c)

    -- its vertices are in the set
    pub cycle_in : AllIn R (cycle_of sk ek goal)
    cycle_in = from_in most (goal ∷ []) (goal_in, tt) goal goal_in
