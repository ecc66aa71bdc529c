-- The values of the nodes of constraints and specs.
use Rattle.std.specs.Prelude.{◌≡◌, ℕ, Bool, true, false, List, [], ◌∷◌, ◌++◌, ℤ, Option, Some, None}
use Rattle.std.specs.List.{flat_map}
use Rattle.smv_ast.specs.declared.program.Program.{Program}
use Rattle.smv_meaning.specs.declared.items.Role.{Role}
use Rattle.smv_meaning.specs.declared.items.Role.TheVariants as role
use Rattle.smv_meaning.specs.declared.value.Value.{Value}
use Rattle.smv_meaning.specs.declared.table.InstanceTable.{InstanceTable}
use Rattle.smv_meaning.specs.Items.{Item}
use Rattle.smv_meaning.specs.Checking.{instance_at}
use Rattle.smv_meaning.specs.ItemIndex.{items_at}
use Rattle.smv_meaning.specs.Paths.{IsVariable}
use Rattle.smv_meaning.specs.Slots.{binding_in}
use Rattle.smv_meaning.specs.Denotations.{Environment, denotation_of}
use Rattle.smv_meaning.specs.Values.{Valuation}
use Rattle.smv_flatten.specs.declared.names.NameTables.{NameTables}
use Rattle.smv_flatten.specs.declared.store.Store.{Store}
use Rattle.smv_flatten.specs.Groups.{Demand, Truth, Assigned, demand_of, height_limit, MadeGroup}
use Rattle.smv_flatten.specs.Meaning.{tested, value_of_name, environment, value_on, Ready, RightReady, Has, Extends, IsGood, HaveVariables, HaveSymbols}
use Rattle.smv_flatten.specs.Invariants.{SpecAt, IsGuarded, unguarded}
use Rattle.smv_flatten.specs.Numbering.{Numbered, numbered}

-- what a constraint asks in the instance of a row
pub record DemandAt : Type 0 where
  pub row : ℕ
  pub demand : Demand

-- a demand in the instance of a row, if there is one
abbrev pub demand_listed : ℕ → Option Demand → List DemandAt
demand_listed row None = []
demand_listed row (Some demand) = record { row = row; demand = demand } ∷ []

-- what an item asks in a role
abbrev pub item_demands : Role → ℕ → Item → List DemandAt
item_demands r row item = demand_listed row (demand_of r item)

-- what the items of the instance of a row ask in a role
abbrev pub row_demands : Program → InstanceTable → Role → ℕ → List DemandAt
row_demands program table r row = flat_map (item_demands r row)
    (items_at program (instance_at table row))

-- what the constraints of a role ask in the instances of these rows
abbrev pub demands : Program → InstanceTable → Role → List ℕ → List DemandAt
demands program table r order = flat_map (row_demands program table r) order

-- over the names of the instances, the symbols, and the values of the variables now and after the
-- step
module _ (names : NameTables) (symbols : Environment) (states : Bool → Valuation ℕ) where
  -- a demand can be read: its expression is at most so high as the limit, the values that it compares
  -- agree, and the name that it assigns is a variable's
  abbrev pub DemandReady : ℕ → Demand → Type 0
  DemandReady row (Truth e) = Ready names symbols states height_limit row false e
  DemandReady row (Assigned after_step name right) = (binding_in names.table.now (record
      { instance = row; name = name }) ≡ Some IsVariable) × RightReady names symbols states
      height_limit (value_of_name names symbols states after_step (record
      { instance = row; name = name })) row false right

  -- each of these demands can be read
  abbrev pub AreReady : List DemandAt → Type 0
  AreReady [] = Unit {0}
  AreReady (d ∷ more) = DemandReady d.row d.demand × AreReady more

  -- the value of a demand: that of its expression, or whether its right side allows the value of its
  -- variable
  abbrev pub demand_value : ℕ → Demand → Option Value
  demand_value row (Truth e) = value_on names symbols states false row e
  demand_value row (Assigned after_step name right) = tested (value_of_name names symbols states
      after_step (record { instance = row; name = name })) ((denotation_of right).allows
      (environment names symbols states false row) (environment names symbols states true row))

  -- the value of a demand in the instance of a row
  abbrev pub value_of_demand : DemandAt → Option Value
  value_of_demand d = demand_value d.row d.demand

  -- a spec can be read: its expression is at most so high as the limit, the values that it compares
  -- agree, and if a feature introduces it, it is an implication
  pub record SpecReady (one : SpecAt) : Type 0 where
    pub ready : Ready names symbols states height_limit one.row false one.expression
    pub guarded : IsGuarded one.owner one.expression

  -- each of these specs can be read
  abbrev pub AreSpecsReady : List SpecAt → Type 0
  AreSpecsReady [] = Unit {0}
  AreSpecsReady (one ∷ more) = SpecReady one × AreSpecsReady more

  -- the value of a spec, without the guard of its feature
  abbrev pub value_of_spec : SpecAt → Option Value
  value_of_spec one = value_on names symbols states false one.row (unguarded one)

  -- over the numbers of the variables, now and after the step
  module _ (numbers : Bool → ℕ → ℤ) where
    -- these nodes have the values of these, one for each
    abbrev pub HaveValues : {A : Type 0} → (A → Option Value) → Store → List A → List ℕ → Type 0
    HaveValues value st [] [] = Unit {0}
    HaveValues value st (a ∷ more) (n ∷ nodes) = Has names symbols states numbers st n (value a)
        × HaveValues value st more nodes
    HaveValues value st others nodes = ⊥

    -- a group goes on from another one by nodes of these values
    pub record MakesGroup {A : Type 0} (value : A → Option Value) (before after : MadeGroup)
        (asked : List A) : Type 0 where
      pub extends : Extends names symbols states numbers before.0 after.0
      pub good : IsGood names symbols states numbers after.0
      pub made : List ℕ
      pub is : after.1 ≡ before.1 ++ made
      pub values : HaveValues value after.0 asked made

    -- The nodes of a model have the values of its constraints and specs.
    pub record HasValues (program : Program) (stated : List SpecAt) (order : List ℕ) (n : Numbered)
        : Type 0 where
      pub inside : HaveValues value_of_demand n.store (demands program names.table.now
          role.Invariant order) n.inside
      pub init : HaveValues value_of_demand n.store (demands program names.table.now role.Init
          order) n.init
      pub step : HaveValues value_of_demand n.store (demands program names.table.now
          role.Transition order) n.step
      pub specs : HaveValues value_of_spec n.store stated n.specs

-- Values are kept: in all states of the variables, where each variable and symbol has its number and
-- the constraints and specs can be read, the nodes have the values of the constraints and specs.
abbrev pub KeepsValues : NameTables → Program → List SpecAt → List ℕ → Type 0
KeepsValues names program specs order = (symbols : Environment) (states : Bool → Valuation ℕ)
    (numbers : Bool → ℕ → ℤ) → HaveVariables names symbols states numbers
    → HaveSymbols names symbols states numbers
    → AreReady names symbols states (demands program names.table.now role.Invariant order)
    → AreReady names symbols states (demands program names.table.now role.Init order)
    → AreReady names symbols states (demands program names.table.now role.Transition order)
    → AreSpecsReady names symbols states specs
    → HasValues names symbols states numbers program specs order
    (numbered names program specs order)
