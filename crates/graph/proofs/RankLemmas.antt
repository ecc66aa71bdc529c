-- A vertex whose rank is higher than those of its successors is on no cycle.
use Rattle.std.proofs.Common.{◌≡◌, ℕ, zero, suc, ◌-◌, ◌≤◌, Bool, true, false, ◌||◌, nat_eq, cond, List, [], ◌∷◌, length, Option, Some, None, refl, ap, arith}
use Rattle.std.specs.Prelude.{nat_lt, if◌then◌else◌, is_some, unwrap_or}
use Rattle.std.specs.List.{find}
use Rattle.std.proofs.lemmas.Bool.{eqb-true}
use Rattle.std.proofs.lemmas.Option.{slice_get_past}
use Rattle.fixpoint.specs.Fixpoints.{known, most}
use Rattle.graph.specs.Graphs.{if_found, leads, reach_step, successors_in, on_cycle}
use Rattle.graph.specs.Ranks.{rank_of, are_within, AreRanks, is_above}

-- beyond the graph nothing reaches anything
pub reach_step_past : (graph : List (List ℕ)) (goal : ℕ) (avoided : List ℕ) (s : ℕ → Option (Unit {0})) (k : ℕ) → length graph ≤ k → reach_step (successors_in graph) nat_eq goal avoided s k ≡ None
reach_step_past graph goal avoided s k h = ap (λ (o : Option (List ℕ)). if_found (find (leads nat_eq goal avoided s) (unwrap_or o []))) (slice_get_past graph k h)

module _ (graph : List (List ℕ)) (ranks : List ℕ) (right : AreRanks graph ranks) where
  abbrev reached : ℕ → ℕ → ℕ → Option (Unit {0})
  reached goal = known (reach_step (successors_in graph) nat_eq goal [])

  -- what reaches the goal has no lower rank
  abbrev Rises : ℕ → ℕ → Type 0
  Rises goal rounds = (k : ℕ) → reached goal rounds k ≡ Some tt → rank_of ranks goal ≤ rank_of ranks k

  -- the first of these vertices that leads to the goal
  abbrev found_in : ℕ → ℕ → List ℕ → Option ℕ
  found_in goal rounds ks = find (leads nat_eq goal [] (reached goal rounds)) ks

  abbrev Found : Option ℕ → Type 0
  Found o = if_found o ≡ Some tt

  -- where one of these vertices leads to the goal, and none has a higher rank than this, nor has the goal
  among_these : (goal rounds highest : ℕ) → Rises goal rounds → (ks : List ℕ) → are_within ranks highest ks ≡ true → Found (found_in goal rounds ks) → rank_of ranks goal ≤ highest
  among_these goal rounds highest rises [] w f = cc
  among_these goal rounds highest rises (k ∷ ks) w f = within (among_these goal rounds highest rises ks) (nat_lt highest (rank_of ranks k)) refl w
    where
      by : rank_of ranks k ≤ highest → (Found (found_in goal rounds ks) → rank_of ranks goal ≤ highest) → (o : Option (Unit {0})) → reached goal rounds k ≡ o → Found (cond (is_some o) (Some k) (found_in goal rounds ks)) → rank_of ranks goal ≤ highest
      by l more None g h = more h
      by l more (Some tt) g h = let r = rises k g in omega (arith, r, l)

      is_goal : rank_of ranks k ≤ highest → (Found (found_in goal rounds ks) → rank_of ranks goal ≤ highest) → (b : Bool) → nat_eq goal k ≡ b → Found (cond (b || is_some (reached goal rounds k)) (Some k) (found_in goal rounds ks)) → rank_of ranks goal ≤ highest
      is_goal l more true g h = let e : goal ≡ k = eqb-true goal k g in rw e l
      is_goal l more false g h = by l more (reached goal rounds k) refl h

      within : (are_within ranks highest ks ≡ true → Found (found_in goal rounds ks) → rank_of ranks goal ≤ highest) → (b : Bool) → nat_lt highest (rank_of ranks k) ≡ b → (if b then false else are_within ranks highest ks) ≡ true → rank_of ranks goal ≤ highest
      within more true g w = cc
      within more false g w = is_goal (grind (arith, g)) (more w) (nat_eq goal k) refl f

  rises : (goal rounds : ℕ) → Rises goal rounds
  rises goal zero k l = cc
  rises goal (suc rounds) k l = among_these goal rounds (rank_of ranks k) (rises goal rounds) (successors_in graph k) (right k) l

  never : (k rounds : ℕ) → is_above graph ranks k ≡ true → reached k rounds k ≡ Some tt → ⊥
  never k zero a l = cc
  never k (suc rounds) a l = at (nat_eq (rank_of ranks k) 0) refl a
    where
      at : (b : Bool) → nat_eq (rank_of ranks k) 0 ≡ b → (if b then false else are_within ranks (rank_of ranks k - 1) (successors_in graph k)) ≡ true → ⊥
      at true g w = cc
      at false g w =
          let r = among_these k rounds (rank_of ranks k - 1) (rises k rounds) (successors_in graph k) w l in
          absurd (grind (arith, r, g))

  -- no vertex whose rank is higher than those of its successors reaches itself
  pub off_cycle : (k : ℕ) → is_above graph ranks k ≡ true → on_cycle graph k ≡ false
  off_cycle k a = at (reached k most k) refl
    where
      at : (o : Option (Unit {0})) → reached k most k ≡ o → is_some o ≡ false
      at None g = refl
      at (Some tt) g = absurd (never k most a g)
