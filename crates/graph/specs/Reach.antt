-- The step of reachability is monotone.
use Rattle.std.specs.Prelude.{◌≡◌, Bool, true, false, cond, ◌||◌, ◌&&◌, not, List, [], ◌∷◌, Option, Some, None, is_some}
use Rattle.std.proofs.Common.{refl}
use Rattle.std.specs.List.{find}
use Rattle.fixpoint.specs.OptionOrder.{Le}
use Rattle.fixpoint.specs.Fixpoints.{Under}
use Rattle.graph.specs.Graphs.{if_found, among, leads, reach_step}

-- a value stays one
some_stays : (o p : Option (Unit {0})) → Le o p → is_some o ≡ true → is_some p ≡ true
some_stays None p h e = cc
some_stays (Some u) p h e = rw (h u refl) refl

leads_stays : (a b : Bool) (o p : Option (Unit {0})) → Le o p → (a || (not b && is_some o)) ≡ true
    → (a || (not b && is_some p)) ≡ true
leads_stays true b o p h e = refl
leads_stays false true o p h e = e
leads_stays false false o p h e = some_stays o p h e

-- something is found where more passes the test
module _ {K : Type 0} (p q : K → Bool) (more : (k : K) → p k ≡ true → q k ≡ true) where
  kept : (k : K) (o r : Option K) → (b d : Bool) → (b ≡ true → d ≡ true)
      → Le (if_found o) (if_found r)
      → Le (if_found (cond b (Some k) o)) (if_found (cond d (Some k) r))
  kept k o r true d h l u e = rw (h refl) e
  kept k o r false true h l u e = refl
  kept k o r false false h l u e = l u e

  found_stays : (ks : List K)
      → Le (if_found (find p ks)) (if_found (find q ks))
  found_stays [] u e = e
  found_stays (k ∷ ks) u e = kept k (find p ks) (find q ks) (p k) (q k) (more k) (found_stays ks) u e

pub reach_step_monotone : {K : Type 0} (successors : K → List K) (same : K → K → Bool) (goal : K)
    (avoided : List K) (s t : K → Option (Unit {0})) → Under s t
    → Under (reach_step successors same goal avoided s) (reach_step successors same goal avoided t)
reach_step_monotone successors same goal avoided s t u k = found_stays
    (leads same goal avoided s) (leads same goal avoided t)
    (λ c. leads_stays (same goal c) (among same avoided c) (s c) (t c) (u c)) (successors k)
