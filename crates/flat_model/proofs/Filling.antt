-- What the values of the nodes before a node are like, where the flat is sound.
use Rattle.std.proofs.Common.{◌≡◌, ℕ, ◌<◌, List, length, get_or, take, ap, sym, ◌∙◌, subst, arith, ℤ, pos}
use Rattle.std.specs.Prelude.{All}
use Rattle.std.specs.List.{AllByRecursion}
use Rattle.std.proofs.lemmas.List.{get_or-take, get_or_default, length-take-le}
use Rattle.std.proofs.lemmas.Option.{slice_get-get_or}
use Rattle.flat_model.specs.declared.nodes.FlatNode.{FlatNode}
use Rattle.flat_model.specs.declared.nodes.FlatNode.TheVariants.{Const, Mod}
use Rattle.flat_model.specs.declared.model.Flat.{Flat}
use Rattle.flat_model.specs.declared.intervals.Interval.{Interval}
use Rattle.flat_model.specs.Numbers.{IsWithinLimit}
use Rattle.flat_model.specs.Variables.{number_in, ArePositions}
use Rattle.flat_model.specs.Nodes.{operands, variable_of}
use Rattle.flat_model.specs.Evaluation.{value_at, node_value, values_at, CanDivide}
use Rattle.flat_model.specs.Intervals.{IsIn, IsWithinLimits, alone, interval_at, node_interval, intervals}
use Rattle.flat_model.specs.Soundness.{IsSound, IsSoundNode, Divides}
use Rattle.flat_model.proofs.Attributes.{take-attributes, length-attributes}
use Rattle.flat_model.proofs.NodeIntervals.{OperandIn, dividend_above, divisor_above}
use Rattle.flat_model.proofs.InInterval.{value_in_interval, value_limited, all_mapped}

CanDivide-from_intervals : (before : List Interval) (values : List ℤ) (node : FlatNode) → AllByRecursion (OperandIn before values) (operands node) → Divides before node → CanDivide values node
CanDivide-from_intervals before values (Mod a b) h d =
    (dividend_above (interval_at before a) (value_at values a) d.0 h.0, divisor_above (interval_at before b) (value_at values b) d.1 h.1.0)
CanDivide-from_intervals before values _ h d = tt

module _ (flat : Flat) (sound : IsSound flat) (now after : List ℕ) (now_at : ArePositions flat.vars now) (after_at : ArePositions flat.vars after)
    (k : ℕ) (within : k < length flat.nodes) (values : List ℤ) (so_far : values ≡ values_at flat.vars (take k flat.nodes) now after) where
  abbrev node : FlatNode
  node = get_or flat.nodes k (Const (pos 0))

  abbrev good : IsSoundNode flat k node
  good = sound.nodes k node (slice_get-get_or flat.nodes k (Const (pos 0)) within)

  prefix_of_all : values ≡ take k (values_at flat.vars flat.nodes now after)
  prefix_of_all = so_far ∙ sym (take-attributes (node_value (number_in flat.vars now) (number_in flat.vars after)) flat.nodes k)

  same : (a : ℕ) → a < k → value_at values a ≡ value_at (values_at flat.vars flat.nodes now after) a
  same a h = ap (λ (all : List ℤ). value_at all a) prefix_of_all ∙ get_or-take k (values_at flat.vars flat.nodes now after) a (pos 0) h

  len : length values ≡ k
  len =
      ap length so_far
      ∙ length-attributes (node_value (number_in flat.vars now) (number_in flat.vars after)) (take k flat.nodes)
      ∙ length-take-le k flat.nodes (omega arith)

  pub variable_there : AllByRecursion (λ v. v < length flat.vars) (variable_of node)
  variable_there = good.variable_there

  pub operands_before : AllByRecursion (λ a. a < length values) (operands node)
  operands_before = rw len good.operands_before

  pub values_limited : All IsWithinLimit values
  values_limited a d h =
      let here : a < k = omega (arith, len) in
      subst IsWithinLimit (sym (get_or_default values a d (pos 0) h ∙ same a here)) (value_limited flat sound now after now_at after_at a (omega arith))

  pub can_divide : CanDivide values node
  can_divide =
      CanDivide-from_intervals (intervals flat.vars flat.nodes) values node
      (all_mapped _ _ (operands node) (λ a h. subst (λ (z : ℤ). IsIn (interval_at (intervals flat.vars flat.nodes) a) z) (sym (same a h)) (value_in_interval flat sound now after now_at after_at a (omega arith))) good.operands_before)
      good.divides

-- The same of the intervals of the nodes before a node.
module _ (flat : Flat) (sound : IsSound flat) (k : ℕ) (within : k < length flat.nodes) (before : List Interval) (so_far : before ≡ intervals flat.vars (take k flat.nodes)) where
  abbrev the_node : FlatNode
  the_node = get_or flat.nodes k (Const (pos 0))

  abbrev is_good : IsSoundNode flat k the_node
  is_good = sound.nodes k the_node (slice_get-get_or flat.nodes k (Const (pos 0)) within)

  pub length-intervals_before : length before ≡ k
  length-intervals_before = ap length so_far ∙ length-attributes (node_interval flat.vars) (take k flat.nodes) ∙ length-take-le k flat.nodes (omega arith)

  pub intervals_variable_there : AllByRecursion (λ v. v < length flat.vars) (variable_of the_node)
  intervals_variable_there = is_good.variable_there

  pub intervals_operands_before : AllByRecursion (λ a. a < length before) (operands the_node)
  intervals_operands_before = rw length-intervals_before is_good.operands_before

  pub intervals_limited : All IsWithinLimits before
  intervals_limited a d h =
      let here : a < k = omega (arith, length-intervals_before) in
      subst IsWithinLimits
      (sym (get_or_default before a d (alone (pos 0)) h
      ∙ ap (λ (all : List Interval). interval_at all a) (so_far ∙ sym (take-attributes (node_interval flat.vars) flat.nodes k))
      ∙ get_or-take k (intervals flat.vars flat.nodes) a (alone (pos 0)) here))
      (sound.nodes a (get_or flat.nodes a (Const (pos 0))) (slice_get-get_or flat.nodes a (Const (pos 0)) (omega arith))).limited
