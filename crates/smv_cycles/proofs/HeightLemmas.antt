-- Small laws of options; a vertex without edges is on no cycle.
use Rattle.std.proofs.Common.{◌≡◌, ℕ, zero, suc, Bool, List, [], Option, Some, None, refl, ap, if◌then◌else◌}
use Rattle.std.specs.Prelude.{is_some}
use Rattle.std.specs.List.{find}
use Rattle.fixpoint.specs.Fixpoints.{known, most}
use Rattle.graph.specs.Graphs.{if_found, leads, reach_step}
use Rattle.smv_cycles.specs.Reads.{Edge, targets_of, read_by, own_cycle}

pub in_some : {A : Type 0} {a b : A} → Some a ≡ Some b → a ≡ b
in_some e = cc

module _ {K : Type 0} (edges : K → Option (List (Edge K))) (same : K → K → Bool) where
  -- a vertex without edges is on no cycle
  pub no_edges : (k : K) → edges k ≡ None → own_cycle edges same k ≡ None
  no_edges k e = ap (λ (o : Option (Unit {0})). if is_some o then Some k else None) (never most)
    where
      never : (rounds : ℕ) → known (reach_step (read_by edges) same k []) rounds k ≡ None
      never zero = refl
      never (suc rounds) = ap (λ (o : Option (List (Edge K))). if_found (find (leads same k [] (known (reach_step (read_by edges) same k []) rounds)) (targets_of o))) e
