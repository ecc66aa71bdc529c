-- All nodes of a model, group by group: those of its invariants, of its first states, of its steps
-- and of its specs.
use Rattle.std.specs.Prelude.{ℕ, ◌-◌, Bool, false, List, [], ◌∷◌, None, length, replicate, slice_get}
use Rattle.smv_ast.specs.declared.program.Program.{Program}
use Rattle.smv_meaning.specs.declared.items.Role.{Role}
use Rattle.smv_meaning.specs.declared.items.Role.TheVariants as role
use Rattle.smv_flatten.specs.declared.names.NameTables.{NameTables}
use Rattle.smv_flatten.specs.declared.numbering.FlatNodes.{FlatNodes}
use Rattle.smv_flatten.specs.declared.store.Store.{Store}
use Rattle.smv_flatten.specs.Names.{number_found}
use Rattle.smv_flatten.specs.Groups.{MadeGroup, group_made}
use Rattle.smv_flatten.specs.Invariants.{SpecAt, specs_made}

-- a store without nodes, for names of so many slots
abbrev pub empty_store : ℕ → Store
empty_store slots = record {
  nodes = [];
  shared = record { current = replicate slots None; next = replicate slots None };
  is_cut = false;
}

-- the last of these nodes, 0 where there is none
abbrev pub last_node : List ℕ → ℕ
last_node made = number_found (slice_get made (length made - 1))

-- the nodes of the constraints of a role
abbrev pub role_made : NameTables → Program → Role → List ℕ → Store → MadeGroup
role_made names program r order st = group_made names program r order (st, [])

-- the nodes of the constraints on first states, and the last of those of `main`, whose row is the
-- first
abbrev pub init_made : NameTables → Program → List ℕ → Store → MadeGroup × ℕ
init_made names program [] st = ((st, []), 0)
init_made names program (main ∷ others) st =
    let first = role_made names program role.Init (main ∷ []) st in
    (group_made names program role.Init others first, last_node first.1)

-- the nodes of a model, and the store that they are in
pub record Numbered : Type 0 where
  pub inside : List ℕ
  pub init : List ℕ
  pub step : List ℕ
  pub model : ℕ
  pub specs : List ℕ
  pub store : Store

-- the nodes of the constraints and specs of a program, in the instances of these rows
abbrev pub numbered : NameTables → Program → List SpecAt → List ℕ → Numbered
numbered names program specs order =
    let inside = role_made names program role.Invariant order
    (empty_store (length names.table.now.slots)) in
    let init = init_made names program order inside.0 in
    let step = role_made names program role.Transition order init.0.0 in
    let made = specs_made names specs step.0 in
    record {
      inside = inside.1;
      init = init.0.1;
      step = step.1;
      model = init.1;
      specs = made.1;
      store = made.0;
    }

-- the same without the store
abbrev pub nodes_of : Numbered → FlatNodes
nodes_of n = record {
  nodes = n.store.nodes;
  init = n.init;
  inside = n.inside;
  step = n.step;
  model = n.model;
  specs = n.specs;
}

abbrev pub nodes_made : NameTables → Program → List SpecAt → List ℕ → FlatNodes
nodes_made names program specs order = nodes_of (numbered names program specs order)

-- whether an expression was higher than the limit
abbrev pub is_cut : NameTables → Program → List SpecAt → List ℕ → Bool
is_cut names program specs order = (numbered names program specs order).store.is_cut
