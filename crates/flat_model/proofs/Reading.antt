-- The value of a node depends on the variables that it reads alone.
use Rattle.std.proofs.Common.{◌≡◌, ℕ, zero, suc, ◌<◌, Bool, false, List, [], ◌∷◌, length, get_or, refl, sym, ◌∙◌, arith, ℤ, pos, Some}
use Rattle.std.specs.Prelude.{slice_get, slice_index_or}
use Rattle.std.specs.List.{AllByRecursion, list_any}
use Rattle.std.proofs.lemmas.Bool.{or_parts}
use Rattle.std.proofs.lemmas.Option.{slice_get-get_or}
use Rattle.flat_model.specs.declared.nodes.FlatNode.{FlatNode}
use Rattle.flat_model.specs.declared.nodes.FlatNode.TheVariants.{Const, Now, After}
use Rattle.flat_model.specs.declared.model.Flat.{Flat}
use Rattle.flat_model.specs.Nodes.{operands, reads}
use Rattle.flat_model.specs.Evaluation.{value_at, node_value, eval}
use Rattle.flat_model.specs.Soundness.{IsSound, IsSoundNode}
use Rattle.flat_model.proofs.Operands.{SameAt, node_value-same, value_of_node, reads_of_node}

module _ (now after now' after' : ℕ → ℤ) (test : FlatNode → Bool)
    (same_now : (v : ℕ) → test (Now v) ≡ false → now v ≡ now' v) (same_after : (v : ℕ) → test (After v) ≡ false → after v ≡ after' v) where
  same_leaf : (values : List ℤ) (node : FlatNode) → test node ≡ false → node_value now after values node ≡ node_value now' after' values node
  same_leaf values (Now v) h = same_now v h
  same_leaf values (After v) h = same_after v h
  same_leaf values _ h = refl

  module _ (flat : Flat) (sound : IsSound flat) where
    abbrev read : ℕ → Bool
    read k = slice_index_or (reads test flat.nodes) k false

    same_operands : (k : ℕ) (positions : List ℕ) → AllByRecursion (λ a. a < k) positions → list_any read positions ≡ false
        → ((a : ℕ) → a < k → read a ≡ false → value_at (eval now after flat.nodes) a ≡ value_at (eval now' after' flat.nodes) a)
        → SameAt (pos 0) (eval now after flat.nodes) (eval now' after' flat.nodes) positions
    same_operands k [] below none each = tt
    same_operands k (a ∷ positions) below none each =
        let parts = or_parts (read a) (list_any read positions) none in
        (each a below.0 parts.0, same_operands k positions below.1 parts.1 each)

    up_to : (n k : ℕ) → k < n → k < length flat.nodes → read k ≡ false → value_at (eval now after flat.nodes) k ≡ value_at (eval now' after' flat.nodes) k
    up_to zero k below within none = absurd (omega arith)
    up_to (suc n) k below within none =
        let node : FlatNode = get_or flat.nodes k (Const (pos 0)) in
        let is : slice_get flat.nodes k ≡ Some node = slice_get-get_or flat.nodes k (Const (pos 0)) within in
        let good : IsSoundNode flat k node = sound.nodes k node is in
        let parts = or_parts (test node) (list_any read (operands node)) (sym (reads_of_node flat sound k node is test) ∙ none) in
        let same : SameAt (pos 0) (eval now after flat.nodes) (eval now' after' flat.nodes) (operands node) =
        same_operands k (operands node) good.operands_before parts.1 (λ a h r. up_to n a (omega arith) (omega arith) r) in
        value_of_node flat sound k node is now after
        ∙ node_value-same now after (eval now after flat.nodes) (eval now' after' flat.nodes) node same
        ∙ same_leaf (eval now' after' flat.nodes) node parts.0
        ∙ sym (value_of_node flat sound k node is now' after')

    -- A node that reads no variable which passes the test has one value wherever the others agree.
    pub eval-agree : (k : ℕ) → k < length flat.nodes → read k ≡ false → value_at (eval now after flat.nodes) k ≡ value_at (eval now' after' flat.nodes) k
    eval-agree k h none = up_to (suc k) k (omega arith) h none
