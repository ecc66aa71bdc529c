-- A flat model as a state machine.
use Rattle.std.specs.Prelude.{◌≡◌, ℕ, ◌&&◌, Bool, true, false, not, if◌then◌else◌, List, [], ◌∷◌, ◌++◌, ℤ, Option, Some, None, nat_lt, map, drop, slice_get, slice_index, slice_index_or, Contains}
use Rattle.std.specs.List.{list_all, range_with_len}
use Rattle.flat_model.specs.declared.nodes.FlatNode.{FlatNode}
use Rattle.flat_model.specs.declared.nodes.FlatNode.TheVariants.{Now, After}
use Rattle.flat_model.specs.declared.variables.FlatVar.{FlatVar}
use Rattle.flat_model.specs.declared.model.Flat.{Flat}
use Rattle.flat_model.specs.declared.model.FlatSpec.{FlatSpec}
use Rattle.flat_model.specs.Nodes.{reads}
use Rattle.flat_model.specs.Evaluation.{truth_at, values_at}
use Rattle.flat_model.specs.Products.{feature_bit, has_feature}
use Rattle.flat_model.specs.Machines.{Machine, violates}

-- A state is the list of the positions of the variables that are no features, in their order.

-- the variables that are no features
abbrev pub state_variables : Flat → List FlatVar
state_variables flat = drop flat.features flat.vars

-- whether each position is below the count of its variable, and there is one for each
abbrev pub are_positions : List FlatVar → List ℕ → Bool
are_positions [] [] = true
are_positions [] (position ∷ positions) = false
are_positions (var ∷ vars) [] = false
are_positions (var ∷ vars) (position ∷ positions) = nat_lt position var.count && are_positions vars positions

-- whether the list is a state of the flat
abbrev pub is_state : Flat → List ℕ → Bool
is_state flat state = are_positions (state_variables flat) state

-- the positions of all variables in a state of a product, features first
abbrev pub positions_in : Flat → ℕ → List ℕ → List ℕ
positions_in flat product state = map (feature_bit product) (range_with_len 0 flat.features) ++ state

-- the values of all nodes in a product, between two states
abbrev pub flat_values : Flat → ℕ → List ℕ → List ℕ → List ℤ
flat_values flat product now after = values_at flat.vars flat.nodes (positions_in flat product now) (positions_in flat product after)

-- whether a node is true in a product, between two states
abbrev pub is_true : Flat → ℕ → List ℕ → List ℕ → ℕ → Bool
is_true flat product now after n = truth_at (flat_values flat product now after) n

-- whether all these nodes are
abbrev pub all_true : Flat → ℕ → List ℕ → List ℕ → List ℕ → Bool
all_true flat product now after nodes = list_all (is_true flat product now after) nodes

-- whether a spec that may be missing holds in a state of a product
abbrev pub holds_in : Flat → Option FlatSpec → ℕ → List ℕ → Bool
holds_in flat None product state = true
holds_in flat (Some spec) product state = is_true flat product state state spec.node

-- The flat as a state machine for its spec j. What speaks of one state reads no next state, so that any may stand for it.
abbrev pub machine : Flat → ℕ → Machine (List ℕ)
machine flat j = record {
  init = λ product s. all_true flat product s s flat.init;
  inside = λ product s. is_state flat s && all_true flat product s s flat.inside;
  step = λ product s t. all_true flat product s t flat.step;
  invariant = λ product s. holds_in flat (slice_get flat.specs j) product s;
}

-- whether a product has the owner of a variable or spec; the base is in each product
abbrev pub has_owner : ℕ → Option ℕ → Bool
has_owner product None = true
has_owner product (Some feature) = has_feature product feature

-- the positions with 0 for each variable whose owner the product has not
abbrev pub settled_positions : ℕ → List FlatVar → List ℕ → List ℕ
settled_positions product [] positions = positions
settled_positions product (var ∷ vars) [] = []
settled_positions product (var ∷ vars) (position ∷ positions) = (if has_owner product var.owner then position else 0) ∷ settled_positions product vars positions

-- a state with each variable whose owner the product has not at position 0
abbrev pub settled : Flat → ℕ → List ℕ → List ℕ
settled flat product state = settled_positions product (state_variables flat) state

-- Whether the states, settled, are a run in the product that violates spec j.
abbrev pub flat_violates : Flat → ℕ → ℕ → List (List ℕ) → Bool
flat_violates flat j product states = list_all (is_state flat) states && violates (machine flat j) product (map (settled flat product) states)

-- whether the model node is true in a product; it reads features alone
abbrev pub is_valid : Flat → ℕ → Bool
is_valid flat product = is_true flat product [] [] flat.model

-- whether the node is a variable that is no feature, or one in the next state
abbrev pub is_beyond_features : ℕ → FlatNode → Bool
is_beyond_features features (Now v) = not (nat_lt v features)
is_beyond_features features (After v) = true
is_beyond_features features _ = false

-- The flat is that of a product line: its model node reads features alone and holds in each first state, and where
-- all inside nodes are true, each variable whose owner isn't in the product stands at position 0.
pub record IsProductLine (flat : Flat) : Type 0 where
  pub model_in_init : Contains flat.init flat.model
  pub model_of_features : slice_index_or (reads (is_beyond_features flat.features) flat.nodes) flat.model false ≡ false
  pub absent_at_first : (product : ℕ) (state : List ℕ) → is_state flat state ≡ true → all_true flat product state state flat.inside ≡ true →
      (v : ℕ) (var : FlatVar) → slice_get (state_variables flat) v ≡ Some var → has_owner product var.owner ≡ false → slice_index state v ≡ 0
