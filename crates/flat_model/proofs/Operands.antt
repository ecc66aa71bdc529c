-- What a node has depends on its operands alone.
use Rattle.std.proofs.Common.{◌≡◌, ℕ, ◌<◌, Bool, false, ◌||◌, List, [], ◌∷◌, length, take, get_or, refl, ap, ◌∙◌, Some, ℤ, pos}
use Rattle.std.specs.Prelude.{slice_get, slice_index_or}
use Rattle.std.specs.List.{AllByRecursion, list_any}
use Rattle.std.proofs.lemmas.List.{get_or-take}
use Rattle.std.proofs.lemmas.Option.{slice_get_within, get_or_from_slice_get}
use Rattle.flat_model.specs.declared.nodes.FlatNode.{FlatNode}
use Rattle.flat_model.specs.declared.nodes.FlatNode.TheVariants.{Const, Now, After, Not, And, Or, Xor, Eq, Lt, Le, Add, Sub, Mul, Mod, Choose}
use Rattle.flat_model.specs.declared.variables.FlatVar.{FlatVar}
use Rattle.flat_model.specs.declared.model.Flat.{Flat}
use Rattle.flat_model.specs.declared.intervals.Interval.{Interval}
use Rattle.flat_model.specs.Nodes.{attributes, operands, is_boolean, booleans, reads}
use Rattle.flat_model.specs.Evaluation.{value_at, node_value, eval}
use Rattle.flat_model.specs.Intervals.{interval_at, node_interval, intervals, alone}
use Rattle.flat_model.specs.Soundness.{IsSound}
use Rattle.flat_model.proofs.Attributes.{attributes-at}

-- two lists have the same at each of these positions
abbrev pub SameAt : {A : Type 0} → A → List A → List A → List ℕ → Type 0
SameAt d before others positions = AllByRecursion (λ a. get_or before a d ≡ get_or others a d) positions

pub node_value-same : (now after : ℕ → ℤ) (values others : List ℤ) (node : FlatNode) → SameAt (pos 0) values others (operands node) → node_value now after values node ≡ node_value now after others node
node_value-same now after values others (Const z) h = refl
node_value-same now after values others (Now v) h = refl
node_value-same now after values others (After v) h = refl
node_value-same now after values others (Not a) h = rw h.0 refl
node_value-same now after values others (And a b) h = rw (h.0, h.1.0) refl
node_value-same now after values others (Or a b) h = rw (h.0, h.1.0) refl
node_value-same now after values others (Xor a b) h = rw (h.0, h.1.0) refl
node_value-same now after values others (Eq a b) h = rw (h.0, h.1.0) refl
node_value-same now after values others (Lt a b) h = rw (h.0, h.1.0) refl
node_value-same now after values others (Le a b) h = rw (h.0, h.1.0) refl
node_value-same now after values others (Add a b) h = rw (h.0, h.1.0) refl
node_value-same now after values others (Sub a b) h = rw (h.0, h.1.0) refl
node_value-same now after values others (Mul a b) h = rw (h.0, h.1.0) refl
node_value-same now after values others (Mod a b) h = rw (h.0, h.1.0) refl
node_value-same now after values others (Choose c a b) h = rw (h.0, h.1.0, h.1.1.0) refl

pub node_interval-same : (vars : List FlatVar) (before others : List Interval) (node : FlatNode) → SameAt (alone (pos 0)) before others (operands node) → node_interval vars before node ≡ node_interval vars others node
node_interval-same vars before others (Add a b) h = rw (h.0, h.1.0) refl
node_interval-same vars before others (Sub a b) h = rw (h.0, h.1.0) refl
node_interval-same vars before others (Mul a b) h = rw (h.0, h.1.0) refl
node_interval-same vars before others (Mod a b) h = rw h.1.0 refl
node_interval-same vars before others (Choose c a b) h = rw (h.1.0, h.1.1.0) refl
node_interval-same vars before others _ h = refl

pub is_boolean-same : (vars : List FlatVar) (before others : List Bool) (node : FlatNode) → SameAt false before others (operands node) → is_boolean vars before node ≡ is_boolean vars others node
is_boolean-same vars before others (Choose c a b) h = rw (h.1.0, h.1.1.0) refl
is_boolean-same vars before others _ h = refl

any_same : (before others : List Bool) (positions : List ℕ) → SameAt false before others positions → list_any (λ a. slice_index_or before a false) positions ≡ list_any (λ a. slice_index_or others a false) positions
any_same before others [] h = refl
any_same before others (a ∷ positions) h = rw (h.0, any_same before others positions h.1) refl

-- the first k are those of the whole list at positions below k
pub same_below : {A : Type 0} (d : A) (all : List A) (k : ℕ) (positions : List ℕ) → AllByRecursion (λ a. a < k) positions → SameAt d (take k all) all positions
same_below d all k [] h = tt
same_below d all k (a ∷ positions) h = (get_or-take k all a d h.0, same_below d all k positions h.1)

-- In a sound flat what each node has follows from what its operands have.
module _ (flat : Flat) (sound : IsSound flat) (k : ℕ) (node : FlatNode) (is : slice_get flat.nodes k ≡ Some node) where
  inside : k < length flat.nodes
  inside = slice_get_within flat.nodes k node is

  here : get_or flat.nodes k node ≡ node
  here = get_or_from_slice_get flat.nodes k node node is

  from_operands : {A : Type 0} (rule : List A → FlatNode → A) (d : A) → ((before others : List A) → SameAt d before others (operands node) → rule before node ≡ rule others node) → get_or (attributes rule flat.nodes) k d ≡ rule (attributes rule flat.nodes) node
  from_operands rule d same =
      attributes-at rule flat.nodes k d node inside
      ∙ ap (rule (take k (attributes rule flat.nodes))) here
      ∙ same (take k (attributes rule flat.nodes)) (attributes rule flat.nodes) (same_below d (attributes rule flat.nodes) k (operands node) (sound.nodes k node is).operands_before)

  pub value_of_node : (now after : ℕ → ℤ) → value_at (eval now after flat.nodes) k ≡ node_value now after (eval now after flat.nodes) node
  value_of_node now after = from_operands (node_value now after) (pos 0) (λ before others h. node_value-same now after before others node h)

  pub interval_of_node : interval_at (intervals flat.vars flat.nodes) k ≡ node_interval flat.vars (intervals flat.vars flat.nodes) node
  interval_of_node = from_operands (node_interval flat.vars) (alone (pos 0)) (λ before others h. node_interval-same flat.vars before others node h)

  pub boolean_of_node : slice_index_or (booleans flat.vars flat.nodes) k false ≡ is_boolean flat.vars (booleans flat.vars flat.nodes) node
  boolean_of_node = from_operands (is_boolean flat.vars) false (λ before others h. is_boolean-same flat.vars before others node h)

  pub reads_of_node : (test : FlatNode → Bool) → slice_index_or (reads test flat.nodes) k false ≡ (test node || list_any (λ a. slice_index_or (reads test flat.nodes) a false) (operands node))
  reads_of_node test =
      from_operands (λ before n. test n || list_any (λ a. slice_index_or before a false) (operands n)) false
      (λ before others h. ap (λ (b : Bool). test node || b) (any_same before others (operands node) h))
