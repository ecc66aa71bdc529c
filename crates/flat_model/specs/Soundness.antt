-- When a flat model is sound.
use Rattle.std.specs.Prelude.{◌≡◌, ℕ, ◌<◌, ◌≤◌, true, false, List, ℤ, pos, ◌≤ℤ◌, ◌<ℤ◌, Option, Some, None, take, length, slice_get, slice_index_or, All}
use Rattle.std.specs.List.{AllByRecursion}
use Rattle.flat_model.specs.declared.nodes.FlatNode.{FlatNode}
use Rattle.flat_model.specs.declared.nodes.FlatNode.TheVariants.{Mod}
use Rattle.flat_model.specs.declared.variables.FlatVar.{FlatVar}
use Rattle.flat_model.specs.declared.variables.Values.TheVariants.{Boolean}
use Rattle.flat_model.specs.declared.model.Flat.{Flat}
use Rattle.flat_model.specs.declared.intervals.Interval.{Interval}
use Rattle.flat_model.specs.Variables.{numbers_of, IsSoundVariable}
use Rattle.flat_model.specs.Nodes.{operands, truth_operands, variable_of, booleans, reads, is_after}
use Rattle.flat_model.specs.Intervals.{IsWithinLimits, interval_at, intervals}

-- the variable is that of a feature: Boolean, and without an owner
pub record IsFeature (var : FlatVar) : Type 0 where
  pub boolean : var.values ≡ Boolean
  pub no_owner : var.owner ≡ None

-- the owner, if there is one, is one of so many features
abbrev pub IsOwnerBelow : ℕ → Option ℕ → Type 0
IsOwnerBelow features None = Unit {0}
IsOwnerBelow features (Some owner) = owner < features

-- the number is that of one of so many symbols
abbrev pub IsSymbolBelow : ℕ → ℤ → Type 0
IsSymbolBelow symbols z = (pos 0 ≤ℤ z) × (z <ℤ pos symbols)

-- the number names a Boolean node
abbrev pub IsTruthNode : Flat → ℕ → Type 0
IsTruthNode flat n = slice_get (booleans flat.vars flat.nodes) n ≡ Some true

-- The number names a Boolean node that reads no next state, neither itself nor through its operands.
pub record IsStateNode (flat : Flat) (n : ℕ) : Type 0 where
  pub boolean : IsTruthNode flat n
  pub no_after : slice_index_or (reads is_after flat.nodes) n false ≡ false

-- In a division no dividend goes below 0, and every divisor lies above 0.
abbrev pub Divides : List Interval → FlatNode → Type 0
Divides before (Mod a b) = (pos 0 ≤ℤ (interval_at before a).low) × (pos 0 <ℤ (interval_at before b).low)
Divides before _ = Unit {0}

-- node n of the flat is this one, and it is sound
pub record IsSoundNode (flat : Flat) (n : ℕ) (node : FlatNode) : Type 0 where
  pub operands_before : AllByRecursion (λ a. a < n) (operands node)
  pub variable_there : AllByRecursion (λ v. v < length flat.vars) (variable_of node)
  pub truth_operands : AllByRecursion (IsTruthNode flat) (truth_operands node)
  pub limited : IsWithinLimits (interval_at (intervals flat.vars flat.nodes) n)
  pub divides : Divides (intervals flat.vars flat.nodes) node

-- The flat is sound.
pub record IsSound (flat : Flat) : Type 0 where
  pub few_features : flat.features ≤ 64
  pub features_there : flat.features ≤ length flat.vars
  pub features : All IsFeature (take flat.features flat.vars)
  pub variables : All IsSoundVariable flat.vars
  pub symbolic : length flat.symbolic ≡ length flat.vars
  pub symbols : (v : ℕ) (var : FlatVar) → slice_get flat.vars v ≡ Some var → slice_get flat.symbolic v ≡ Some true → All (IsSymbolBelow (length flat.symbols)) (numbers_of var)
  pub variable_owners : All (λ var. IsOwnerBelow flat.features var.owner) flat.vars
  pub spec_owners : All (λ spec. IsOwnerBelow flat.features spec.owner) flat.specs
  pub nodes : (n : ℕ) (node : FlatNode) → slice_get flat.nodes n ≡ Some node → IsSoundNode flat n node
  pub init : All (IsStateNode flat) flat.init
  pub inside : All (IsStateNode flat) flat.inside
  pub step : All (IsTruthNode flat) flat.step
  pub model : IsStateNode flat flat.model
  pub specs : All (λ spec. IsStateNode flat spec.node) flat.specs
