-- A list of nodes that is extended at its end keeps what its earlier nodes have.
use Rattle.std.proofs.Common.{◌≡◌, ℕ, ◌<◌, Bool, false, List, ◌++◌, length, ℤ, pos}
use Rattle.std.specs.Prelude.{slice_index_or}
use Rattle.flat_model.specs.declared.nodes.FlatNode.{FlatNode}
use Rattle.flat_model.specs.declared.variables.FlatVar.{FlatVar}
use Rattle.flat_model.specs.Nodes.{is_boolean, booleans, reads}
use Rattle.flat_model.specs.Evaluation.{value_at, node_value, eval}
use Rattle.flat_model.specs.Intervals.{alone, interval_at, node_interval, intervals}
use Rattle.flat_model.proofs.Attributes.{length-attributes, attributes-kept}

pub length-eval : (now after : ℕ → ℤ) (nodes : List FlatNode) → length (eval now after nodes) ≡ length nodes
length-eval now after nodes = length-attributes (node_value now after) nodes

pub eval-append : (now after : ℕ → ℤ) (nodes more : List FlatNode) (k : ℕ) → k < length nodes → value_at (eval now after (nodes ++ more)) k ≡ value_at (eval now after nodes) k
eval-append now after nodes more k h = attributes-kept (node_value now after) nodes more k (pos 0) h

pub intervals-append : (vars : List FlatVar) (nodes more : List FlatNode) (k : ℕ) → k < length nodes → interval_at (intervals vars (nodes ++ more)) k ≡ interval_at (intervals vars nodes) k
intervals-append vars nodes more k h = attributes-kept (node_interval vars) nodes more k (alone (pos 0)) h

pub booleans-append : (vars : List FlatVar) (nodes more : List FlatNode) (k : ℕ) → k < length nodes → slice_index_or (booleans vars (nodes ++ more)) k false ≡ slice_index_or (booleans vars nodes) k false
booleans-append vars nodes more k h = attributes-kept (is_boolean vars) nodes more k false h

pub reads-append : (test : FlatNode → Bool) (nodes more : List FlatNode) (k : ℕ) → k < length nodes → slice_index_or (reads test (nodes ++ more)) k false ≡ slice_index_or (reads test nodes) k false
reads-append test nodes more k h = attributes-kept _ nodes more k false h
