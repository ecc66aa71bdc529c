-- In a sound flat the value of each node lies in its interval, for all positions within the counts.
use Rattle.std.proofs.Common.{◌≡◌, ℕ, zero, suc, ◌<◌, List, [], ◌∷◌, length, get_or, refl, ap, arith, Some, ℤ, pos}
use Rattle.std.specs.Prelude.{slice_get}
use Rattle.std.specs.List.{AllByRecursion}
use Rattle.std.proofs.lemmas.Int.{ints}
use Rattle.std.proofs.lemmas.Option.{slice_get-get_or}
use Rattle.flat_model.specs.declared.nodes.FlatNode.{FlatNode}
use Rattle.flat_model.specs.declared.nodes.FlatNode.TheVariants.{Const}
use Rattle.flat_model.specs.declared.variables.FlatVar.{FlatVar}
use Rattle.flat_model.specs.declared.model.Flat.{Flat}
use Rattle.flat_model.specs.declared.intervals.Interval.{Interval}
use Rattle.flat_model.specs.Numbers.{IsWithinLimit}
use Rattle.flat_model.specs.Variables.{number_in, ArePositions}
use Rattle.flat_model.specs.Nodes.{operands, variable_of}
use Rattle.flat_model.specs.Evaluation.{value_at, values_at}
use Rattle.flat_model.specs.Intervals.{IsIn, IsWithinLimits, of_variable, interval_at, intervals}
use Rattle.flat_model.specs.Soundness.{IsSound, IsSoundNode}
use Rattle.flat_model.proofs.Operands.{value_of_node, interval_of_node}
use Rattle.flat_model.proofs.VariableLemmas.{number_in_interval}
use Rattle.flat_model.proofs.NodeIntervals.{IsIn-node}

pub all_mapped : {X : Type 0} (P Q : X → Type 0) (xs : List X) → ((x : X) → P x → Q x) → AllByRecursion P xs → AllByRecursion Q xs
all_mapped P Q [] f h = tt
all_mapped P Q (x ∷ xs) f h = (f x h.0, all_mapped P Q xs f h.1)

module _ (flat : Flat) (sound : IsSound flat) (now after : List ℕ) (now_at : ArePositions flat.vars now) (after_at : ArePositions flat.vars after) where
  abbrev all_values : List ℤ
  all_values = values_at flat.vars flat.nodes now after

  abbrev all_intervals : List Interval
  all_intervals = intervals flat.vars flat.nodes

  variable_in : (positions : List ℕ) → ArePositions flat.vars positions → (v : ℕ) → v < length flat.vars → IsIn (of_variable (slice_get flat.vars v)) (number_in flat.vars positions v)
  variable_in positions at v h = by_length flat.vars refl
    where
      by_length : (vars : List FlatVar) → flat.vars ≡ vars → IsIn (of_variable (slice_get flat.vars v)) (number_in flat.vars positions v)
      by_length [] e = absurd (omega (arith, ap length e))
      by_length (d ∷ more) e = number_in_interval flat.vars positions v (get_or flat.vars v d) sound.variables at (slice_get-get_or flat.vars v d h)

  -- by induction over the number of the node
  up_to : (n k : ℕ) → k < n → k < length flat.nodes → IsIn (interval_at all_intervals k) (value_at all_values k)
  up_to zero k below within = absurd (omega arith)
  up_to (suc n) k below within =
      let node : FlatNode = get_or flat.nodes k (Const (pos 0)) in
      let is : slice_get flat.nodes k ≡ Some node = slice_get-get_or flat.nodes k (Const (pos 0)) within in
      let good : IsSoundNode flat k node = sound.nodes k node is in
      rw (interval_of_node flat sound k node is, value_of_node flat sound k node is (number_in flat.vars now) (number_in flat.vars after))
      (IsIn-node flat.vars (number_in flat.vars now) (number_in flat.vars after) all_intervals all_values node
      (all_mapped _ _ (variable_of node) (λ v h. (variable_in now now_at v h, variable_in after after_at v h)) good.variable_there)
      (all_mapped _ _ (operands node) (λ a h. up_to n a (omega arith) (omega arith)) good.operands_before)
      good.divides)

  pub value_in_interval : (k : ℕ) → k < length flat.nodes → IsIn (interval_at all_intervals k) (value_at all_values k)
  value_in_interval k h = up_to (suc k) k (omega arith) h

  -- so each value is within the limit
  pub value_limited : (k : ℕ) → k < length flat.nodes → IsWithinLimit (value_at all_values k)
  value_limited k h =
      let node : FlatNode = get_or flat.nodes k (Const (pos 0)) in
      let limits : IsWithinLimits (interval_at all_intervals k) = (sound.nodes k node (slice_get-get_or flat.nodes k (Const (pos 0)) h)).limited in
      let inside : IsIn (interval_at all_intervals k) (value_at all_values k) = value_in_interval k h in
      (omega (arith, ints, limits.low, limits.high), omega (arith, ints, limits.low, limits.high))
