-- The specs of a flat model.
use Rattle.std.specs.Prelude.{ℕ, suc, List, [], ◌∷◌, slice_get}
use Rattle.smv_ast.specs.PrintedExpr.{printed_expr}
use Rattle.smv_meaning.specs.declared.table.InstanceTable.{InstanceTable}
use Rattle.smv_meaning.specs.Instances.{instance_text}
use Rattle.smv_meaning.specs.Checking.{instance_at}
use Rattle.flat_model.specs.declared.model.FlatSpec.{FlatSpec}
use Rattle.smv_flatten.specs.Names.{number_found}
use Rattle.smv_flatten.specs.Invariants.{SpecAt, unguarded}

-- a spec with its node, the text of its instance, and the canonical text of its expression without
-- the guard of its feature
abbrev pub flat_spec : InstanceTable → SpecAt → ℕ → FlatSpec
flat_spec table one node = record {
  node = node;
  owner = one.owner;
  instance = instance_text (instance_at table one.row);
  text = printed_expr (unguarded one);
}

-- the specs, each with the node of its position, from a position on
abbrev pub flat_specs : InstanceTable → List ℕ → ℕ → List SpecAt → List FlatSpec
flat_specs table nodes n [] = []
flat_specs table nodes n (one ∷ more) = flat_spec table one (number_found (slice_get nodes n))
    ∷ flat_specs table nodes (suc n) more
