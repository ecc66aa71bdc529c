-- The cycle of a vertex, one vertex at a time.
use Rattle.std.proofs.Common.{◌≡◌, ℕ, suc, ◌+◌, ◌-◌, ◌^◌, ◌<◌, Bool, true, false, List, [], ◌∷◌, ◌++◌, Option, Some, None, refl, ap, arith, if◌then◌else◌}
use Rattle.std.specs.Prelude.{◌≢◌, nat_eq}
use Rattle.std.proofs.lemmas.Bool.{eqb-true}
use Rattle.fixpoint.specs.Fixpoints.{most}
use Rattle.graph.specs.Graphs.{next_of, cycle_from}

pub differ : (a b : ℕ) → a ≢ b → nat_eq a b ≡ false
differ a b n = at (nat_eq a b) refl
  where
    at : (t : Bool) → nat_eq a b ≡ t → t ≡ false
    at true e = absurd (n (eqb-true a b e))
    at false e = refl

pub rounds_left : (round : ℕ) → round < 2 ^ 64 - 1 → most - round ≡ suc (most - (round + 1))
unfolding most
rounds_left round h = omega arith

module _ {K : Type 0} (successors : K → List K) (same : K → K → Bool) (goal : K) (so_far : List K) (k : K) where
  abbrev next : Option K
  next = next_of successors same goal so_far k

  abbrev successor : ℕ → Option K → List K
  successor n o = elim o as (λ o. List K) [ None ↦ so_far | Some c ↦ if same goal c then so_far else cycle_from successors same n goal (so_far ++ c ∷ []) c ]

  is_successor : (round : ℕ) → round < 2 ^ 64 - 1 → cycle_from successors same (most - round) goal so_far k ≡ successor (most - (round + 1)) next
  is_successor round h = ap (λ (n : ℕ). cycle_from successors same n goal so_far k) (rounds_left round h)

  pub ends_none : (round : ℕ) → round < 2 ^ 64 - 1 → None ≡ next → so_far ≡ cycle_from successors same (most - round) goal so_far k
  ends_none round h e = sym' (is_successor round h) (ap (successor (most - (round + 1))) e)
    where
      sym' : {x y z : List K} → x ≡ y → z ≡ y → z ≡ x
      sym' p q = cc

  pub ends_goal : (round : ℕ) (c : K) → round < 2 ^ 64 - 1 → Some c ≡ next → same goal c ≡ true → so_far ≡ cycle_from successors same (most - round) goal so_far k
  ends_goal round c h e f =
      let a = is_successor round h in
      let b : successor (most - (round + 1)) (Some c) ≡ successor (most - (round + 1)) next = ap (successor (most - (round + 1))) e in
      let d : (if same goal c then so_far else cycle_from successors same (most - (round + 1)) goal (so_far ++ c ∷ []) c) ≡ so_far = ap (λ (t : Bool). if t then so_far else cycle_from successors same (most - (round + 1)) goal (so_far ++ c ∷ []) c) f in
      cc

  pub goes_on : (round : ℕ) (c : K) → round < 2 ^ 64 - 1 → Some c ≡ next → same goal c ≡ false → cycle_from successors same (most - (round + 1)) goal (so_far ++ c ∷ []) c ≡ cycle_from successors same (most - round) goal so_far k
  goes_on round c h e f =
      let a = is_successor round h in
      let b : successor (most - (round + 1)) (Some c) ≡ successor (most - (round + 1)) next = ap (successor (most - (round + 1))) e in
      let d : (if same goal c then so_far else cycle_from successors same (most - (round + 1)) goal (so_far ++ c ∷ []) c) ≡ cycle_from successors same (most - (round + 1)) goal (so_far ++ c ∷ []) c = ap (λ (t : Bool). if t then so_far else cycle_from successors same (most - (round + 1)) goal (so_far ++ c ∷ []) c) f in
      cc
