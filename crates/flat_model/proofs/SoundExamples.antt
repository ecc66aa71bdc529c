-- A small flat model that is sound, and for each item of soundness one that breaks it.
use Rattle.std.proofs.Common.{◌≡◌, ℕ, zero, suc, ◌+◌, ◌<◌, Bool, true, false, ◌&&◌, List, [], ◌∷◌, refl, subst, arith, ℤ, pos, Option, Some, None}
use Rattle.std.specs.Prelude.{negsuc, All, slice_get, slice_index_or}
use Rattle.std.proofs.lemmas.Bool.{and_parts}
use Rattle.std.proofs.lemmas.Int.{ints}
use Rattle.std.proofs.lemmas.List.Elements.{All-from_recursion}
use Rattle.flat_model.specs.declared.nodes.FlatNode.{FlatNode}
use Rattle.flat_model.specs.declared.nodes.FlatNode.TheVariants.{Const, Now, After, Not, Or, Eq, Lt, Add, Sub, Mod, Choose}
use Rattle.flat_model.specs.declared.variables.Values.{Values}
use Rattle.flat_model.specs.declared.variables.Values.TheVariants.{Boolean, Range, Table}
use Rattle.flat_model.specs.declared.variables.FlatVar.{FlatVar}
use Rattle.flat_model.specs.declared.model.Flat.{Flat}
use Rattle.flat_model.specs.declared.model.FlatSpec.{FlatSpec}
use Rattle.flat_model.specs.Variables.{numbers_of, IsSoundVariable}
use Rattle.flat_model.specs.Nodes.{reads, is_after}
use Rattle.flat_model.specs.Intervals.{IsWithinLimits}
use Rattle.flat_model.specs.Soundness.{IsFeature, IsOwnerBelow, IsSymbolBelow, IsTruthNode, IsStateNode, IsSoundNode, IsSound}
use Rattle.flat_model.specs.FlatMachine.{is_state, machine, flat_violates, settled, is_valid}
use Rattle.flat_model.specs.Machines.{violates}
use Rattle.flat_model.proofs.VariableLemmas.{is_within_limit, IsWithinLimit-from_test, IsSoundVariable-boolean, IsSoundVariable-range}

abbrev variable : Values → ℕ → Option ℕ → FlatVar
variable values count owner = record { path = []; values = values; count = count; owner = owner }

abbrev spec_at : ℕ → Option ℕ → FlatSpec
spec_at node owner = record { node = node; owner = owner; instance = []; text = [] }

-- One feature F, x of `0..3`, and an enumeration e of two symbols, which F introduces. `next(x)` is `x mod 2`, e stands
-- at its first symbol where F is not chosen, only products with F are valid, and the spec is x < 2.
abbrev small_vars : List FlatVar
small_vars = variable Boolean 2 None ∷ variable (Range (pos 0)) 4 None ∷ variable (Table (pos 0 ∷ pos 1 ∷ [])) 2 (Some 0) ∷ []

abbrev small_nodes : List FlatNode
small_nodes = Now 0 ∷ Now 1 ∷ After 1 ∷ Const (pos 2) ∷ Lt 1 3 ∷ Mod 1 3 ∷ Eq 2 5 ∷ Now 2 ∷ Const (pos 0) ∷ Eq 7 8 ∷ Or 0 9 ∷ []

abbrev small : Flat
small = record {
  features = 1;
  vars = small_vars;
  symbols = [] ∷ [] ∷ [];
  symbolic = false ∷ false ∷ true ∷ [];
  nodes = small_nodes;
  init = 0 ∷ [];
  inside = 10 ∷ [];
  step = 6 ∷ [];
  model = 0;
  specs = spec_at 4 None ∷ [];
}

-- ---- It is sound

pub limits : (low high : ℤ) → is_within_limit low && is_within_limit high ≡ true → IsWithinLimits (record { low = low; high = high })
limits low high h =
    let parts = and_parts (is_within_limit low) (is_within_limit high) h in
    record { low = IsWithinLimit-from_test low parts.0; high = IsWithinLimit-from_test high parts.1 }

-- each node of a list whose first has this number is sound
abbrev pub AllSound : Flat → ℕ → List FlatNode → Type 0
AllSound flat n [] = Unit {0}
AllSound flat n (node ∷ nodes) = IsSoundNode flat n node × AllSound flat (suc n) nodes

pub all_sound : (flat : Flat) (first : ℕ) (nodes : List FlatNode) → AllSound flat first nodes → (n k : ℕ) (node : FlatNode) → slice_get nodes k ≡ Some node → first + k ≡ n → IsSoundNode flat n node
all_sound flat first [] h n k node e at = cc
all_sound flat first (other ∷ nodes) h n zero node e at = subst (λ (m : ℕ). IsSoundNode flat m node) (let i : first ≡ n = omega arith in i) (subst (IsSoundNode flat first) (let same : other ≡ node = cc in same) h.0)
all_sound flat first (other ∷ nodes) h n (suc k) node e at = all_sound flat (suc first) nodes h.1 n k node e (omega arith)

small_nodes_sound : AllSound small 0 small_nodes
small_nodes_sound = (
  record { operands_before = tt; variable_there = (omega arith, tt); truth_operands = tt; limited = limits (pos 0) (pos 1) refl; divides = tt },
  (
    record { operands_before = tt; variable_there = (omega arith, tt); truth_operands = tt; limited = limits (pos 0) (pos 3) refl; divides = tt },
    (
      record { operands_before = tt; variable_there = (omega arith, tt); truth_operands = tt; limited = limits (pos 0) (pos 3) refl; divides = tt },
      (
        record { operands_before = tt; variable_there = tt; truth_operands = tt; limited = limits (pos 2) (pos 2) refl; divides = tt },
        (
          record { operands_before = (omega arith, (omega arith, tt)); variable_there = tt; truth_operands = tt; limited = limits (pos 0) (pos 1) refl; divides = tt },
          (
            record { operands_before = (omega arith, (omega arith, tt)); variable_there = tt; truth_operands = tt; limited = limits (pos 0) (pos 1) refl; divides = (omega (arith, ints), omega (arith, ints)) },
            (
              record { operands_before = (omega arith, (omega arith, tt)); variable_there = tt; truth_operands = tt; limited = limits (pos 0) (pos 1) refl; divides = tt },
              (
                record { operands_before = tt; variable_there = (omega arith, tt); truth_operands = tt; limited = limits (pos 0) (pos 1) refl; divides = tt },
                (
                  record { operands_before = tt; variable_there = tt; truth_operands = tt; limited = limits (pos 0) (pos 0) refl; divides = tt },
                  (
                    record { operands_before = (omega arith, (omega arith, tt)); variable_there = tt; truth_operands = tt; limited = limits (pos 0) (pos 1) refl; divides = tt },
                    (
                      record { operands_before = (omega arith, (omega arith, tt)); variable_there = tt; truth_operands = (refl, (refl, tt)); limited = limits (pos 0) (pos 1) refl; divides = tt },
                      tt,
                    ),
                  ),
                ),
              ),
            ),
          ),
        ),
      ),
    ),
  ),
)

state_node : (n : ℕ) → IsTruthNode small n → slice_index_or (reads is_after small.nodes) n false ≡ false → IsStateNode small n
state_node n boolean no_after = record { boolean = boolean; no_after = no_after }

two_symbols : IsSoundVariable (variable (Table (pos 0 ∷ pos 1 ∷ [])) 2 (Some 0))
two_symbols = record {
  some = omega arith;
  counted = refl;
  distinct = (IsSoundVariable-boolean (variable Boolean 2 None) refl refl).distinct;
  limited = (IsSoundVariable-boolean (variable Boolean 2 None) refl refl).limited;
}

small_symbols : (v : ℕ) (var : FlatVar) → slice_get small_vars v ≡ Some var → slice_get small.symbolic v ≡ Some true → All (IsSymbolBelow 2) (numbers_of var)
small_symbols zero var e s = cc
small_symbols (suc zero) var e s = cc
small_symbols (suc (suc zero)) var e s =
    subst (λ (x : FlatVar). All (IsSymbolBelow 2) (numbers_of x)) (let same : variable (Table (pos 0 ∷ pos 1 ∷ [])) 2 (Some 0) ≡ var = cc in same)
    (All-from_recursion (IsSymbolBelow 2) (pos 0 ∷ pos 1 ∷ []) ((omega (arith, ints), omega (arith, ints)), ((omega (arith, ints), omega (arith, ints)), tt)))
small_symbols (suc (suc (suc v))) var e s = cc

small_sound : IsSound small
small_sound = record {
  few_features = omega arith;
  features_there = omega arith;
  features = All-from_recursion IsFeature (variable Boolean 2 None ∷ []) (record { boolean = refl; no_owner = refl }, tt);
  variables = All-from_recursion IsSoundVariable small_vars (
    IsSoundVariable-boolean (variable Boolean 2 None) refl refl,
    (
      IsSoundVariable-range (variable (Range (pos 0)) 4 None) (pos 0) refl (omega arith) (IsWithinLimit-from_test (pos 0) refl) (IsWithinLimit-from_test (pos 3) refl),
      (two_symbols, tt),
    ),
  );
  symbolic = refl;
  symbols = small_symbols;
  variable_owners = All-from_recursion (λ (var : FlatVar). IsOwnerBelow 1 var.owner) small_vars (tt, (tt, (omega arith, tt)));
  spec_owners = All-from_recursion (λ (spec : FlatSpec). IsOwnerBelow 1 spec.owner) small.specs (tt, tt);
  nodes = λ n node e. all_sound small 0 small_nodes small_nodes_sound n n node e (omega arith);
  init = All-from_recursion (IsStateNode small) (0 ∷ []) (state_node 0 refl refl, tt);
  inside = All-from_recursion (IsStateNode small) (10 ∷ []) (state_node 10 refl refl, tt);
  step = All-from_recursion (IsTruthNode small) (6 ∷ []) (refl, tt);
  model = state_node 0 refl refl;
  specs = All-from_recursion (λ (spec : FlatSpec). IsStateNode small spec.node) small.specs (state_node 4 refl refl, tt);
}

-- ---- It breaks one item each

too_many_features : IsSound (record small { features = 65 }) → ⊥
too_many_features h = absurd (omega (arith, h.few_features))

features_without_variables : IsSound (record small { features = 4 }) → ⊥
features_without_variables h = absurd (omega (arith, h.features_there))

-- x is no feature
feature_not_boolean : IsSound (record small { features = 2 }) → ⊥
feature_not_boolean h = let e : Range (pos 0) ≡ Boolean = (h.features 1 (variable Boolean 2 None) (omega arith)).boolean in cc

-- the flat with other variables
abbrev with_vars : List FlatVar → Flat
with_vars vars = record small { vars = vars }

feature_with_owner : IsSound (with_vars (variable Boolean 2 (Some 0) ∷ [])) → ⊥
feature_with_owner h = let e : ◌≡◌ {A = Option ℕ} (Some 0) None = (h.features 0 (variable Boolean 2 None) (omega arith)).no_owner in cc

-- what soundness says of the variable after that of the feature
second : (var : FlatVar) → IsSound (with_vars (variable Boolean 2 None ∷ var ∷ [])) → IsSoundVariable var
second var h = h.variables 1 var (omega arith)

no_values : IsSound (with_vars (variable Boolean 2 None ∷ variable (Table []) 0 None ∷ [])) → ⊥
no_values h = absurd (omega (arith, (second _ h).some))

more_values_than_counted : IsSound (with_vars (variable Boolean 2 None ∷ variable (Table (pos 4 ∷ pos 5 ∷ [])) 1 None ∷ [])) → ⊥
more_values_than_counted h = let e : 2 ≡ 1 = (second _ h).counted in absurd (omega arith)

boolean_of_three : IsSound (with_vars (variable Boolean 2 None ∷ variable Boolean 3 None ∷ [])) → ⊥
boolean_of_three h = let e : 2 ≡ 3 = (second _ h).counted in absurd (omega arith)

equal_values : IsSound (with_vars (variable Boolean 2 None ∷ variable (Table (pos 5 ∷ pos 5 ∷ [])) 2 None ∷ [])) → ⊥
equal_values h = (second _ h).distinct 0 1 (pos 0) (omega arith) (omega arith) refl

value_beyond_limit : IsSound (with_vars (variable Boolean 2 None ∷ variable (Table (pos 2147483648 ∷ [])) 1 None ∷ [])) → ⊥
value_beyond_limit h = absurd (omega (arith, ints, ((second _ h).limited 0 (pos 0) (omega arith)).1))

-- the range begins at -2147483648
range_beyond_limit : IsSound (with_vars (variable Boolean 2 None ∷ variable (Range (negsuc 2147483647)) 2 None ∷ [])) → ⊥
range_beyond_limit h = absurd (omega (arith, ints, ((second _ h).limited 0 (pos 0) (omega arith)).0))

one_flag_too_few : IsSound (record small { symbolic = false ∷ false ∷ [] }) → ⊥
one_flag_too_few h = let e : 2 ≡ 3 = h.symbolic in absurd (omega arith)

one_symbol_too_few : IsSound (record small { symbols = [] ∷ [] }) → ⊥
one_symbol_too_few h = absurd (omega (arith, ints, (h.symbols 2 (variable (Table (pos 0 ∷ pos 1 ∷ [])) 2 (Some 0)) refl refl 1 (pos 0) (omega arith)).1))

owner_that_is_no_feature : IsSound (with_vars (variable Boolean 2 None ∷ variable (Range (pos 0)) 4 (Some 1) ∷ [])) → ⊥
owner_that_is_no_feature h = let below : 1 < 1 = h.variable_owners 1 (variable Boolean 2 None) (omega arith) in absurd (omega arith)

spec_owner_that_is_no_feature : IsSound (record small { specs = spec_at 4 (Some 1) ∷ [] }) → ⊥
spec_owner_that_is_no_feature h = let below : 1 < 1 = h.spec_owners 0 (spec_at 4 None) (omega arith) in absurd (omega arith)

-- the flat with other nodes
abbrev with_nodes : List FlatNode → Flat
with_nodes nodes = record small { nodes = nodes }

operand_after_its_node : IsSound (with_nodes (Now 0 ∷ Not 1 ∷ [])) → ⊥
operand_after_its_node h = let below : 1 < 1 = (h.nodes 1 (Not 1) refl).operands_before.0 in absurd (omega arith)

variable_that_is_missing : IsSound (with_nodes (Now 3 ∷ [])) → ⊥
variable_that_is_missing h = let below : 3 < 3 = (h.nodes 0 (Now 3) refl).variable_there.0 in absurd (omega arith)

next_of_a_missing_variable : IsSound (with_nodes (After 3 ∷ [])) → ⊥
next_of_a_missing_variable h = let below : 3 < 3 = (h.nodes 0 (After 3) refl).variable_there.0 in absurd (omega arith)

negated_number : IsSound (with_nodes (Now 1 ∷ Not 0 ∷ [])) → ⊥
negated_number h = let e : ◌≡◌ {A = Option Bool} (Some false) (Some true) = (h.nodes 1 (Not 0) refl).truth_operands.0 in cc

choice_by_a_number : IsSound (with_nodes (Now 0 ∷ Now 1 ∷ Choose 1 0 0 ∷ [])) → ⊥
choice_by_a_number h = let e : ◌≡◌ {A = Option Bool} (Some false) (Some true) = (h.nodes 2 (Choose 1 0 0) refl).truth_operands.0 in cc

number_beyond_limit : IsSound (with_nodes (Const (pos 2147483647) ∷ Const (pos 1) ∷ Add 0 1 ∷ [])) → ⊥
number_beyond_limit h = absurd (omega (arith, ints, (h.nodes 2 (Add 0 1) refl).limited.high.1))

-- x - 1 may be -1
negative_dividend : IsSound (with_nodes (Now 1 ∷ Const (pos 1) ∷ Sub 0 1 ∷ Const (pos 2) ∷ Mod 2 3 ∷ [])) → ⊥
negative_dividend h = absurd (omega (arith, ints, (h.nodes 4 (Mod 2 3) refl).divides.0))

-- x may be 0
zero_divisor : IsSound (with_nodes (Const (pos 2) ∷ Now 1 ∷ Mod 0 1 ∷ [])) → ⊥
zero_divisor h = absurd (omega (arith, ints, (h.nodes 2 (Mod 0 1) refl).divides.1))

-- node 1 is x, a number; node 6 reads `next(x)` through an operand
number_as_init : IsSound (record small { init = 1 ∷ [] }) → ⊥
number_as_init h = let e : ◌≡◌ {A = Option Bool} (Some false) (Some true) = (h.init 0 0 (omega arith)).boolean in cc

next_in_init : IsSound (record small { init = 6 ∷ [] }) → ⊥
next_in_init h = let e : true ≡ false = (h.init 0 0 (omega arith)).no_after in cc

next_in_inside : IsSound (record small { inside = 6 ∷ [] }) → ⊥
next_in_inside h = let e : true ≡ false = (h.inside 0 0 (omega arith)).no_after in cc

number_as_step : IsSound (record small { step = 1 ∷ [] }) → ⊥
number_as_step h = let e : ◌≡◌ {A = Option Bool} (Some false) (Some true) = h.step 0 0 (omega arith) in cc

step_that_is_missing : IsSound (record small { step = 11 ∷ [] }) → ⊥
step_that_is_missing h = let e : ◌≡◌ {A = Option Bool} None (Some true) = h.step 0 0 (omega arith) in cc

next_in_model : IsSound (record small { model = 6 }) → ⊥
next_in_model h = let e : true ≡ false = h.model.no_after in cc

next_in_spec : IsSound (record small { specs = spec_at 6 None ∷ [] }) → ⊥
next_in_spec h = let e : true ≡ false = (h.specs 0 (spec_at 4 None) (omega arith)).no_after in cc

-- ---- As a state machine

states : is_state small (3 ∷ 1 ∷ []) ≡ true
states = refl

position_beyond_count : is_state small (4 ∷ 1 ∷ []) ≡ false
position_beyond_count = refl

position_too_few : is_state small (3 ∷ []) ≡ false
position_too_few = refl

position_too_many : is_state small (3 ∷ 1 ∷ 0 ∷ []) ≡ false
position_too_many = refl

-- the product with F is valid, that without it is not
valid_product : is_valid small 1 ≡ true
valid_product = refl

invalid_product : is_valid small 0 ≡ false
invalid_product = refl

-- x is 2 at first, which breaks x < 2
violates_at_first : violates (machine small 0) 1 ((2 ∷ 1 ∷ []) ∷ []) ≡ true
violates_at_first = refl

-- 3 mod 2 is 1, and 1 < 2
steps_to_one : violates (machine small 0) 1 ((3 ∷ 0 ∷ []) ∷ (1 ∷ 1 ∷ []) ∷ []) ≡ false
steps_to_one = refl

-- 3 mod 2 is not 3
no_step_to_three : violates (machine small 0) 1 ((3 ∷ 0 ∷ []) ∷ (3 ∷ 1 ∷ []) ∷ []) ≡ false
no_step_to_three = refl

-- a run needs a valid product
no_run_without_feature : violates (machine small 0) 0 ((2 ∷ 0 ∷ []) ∷ []) ≡ false
no_run_without_feature = refl

-- Where no product is refused, e stands at its first symbol in the product without F: the machine has no state with e at
-- its second, and settling puts it at its first.
abbrev any_product : Flat
any_product = record small { init = [] }

settled_to_first : settled any_product 0 (2 ∷ 1 ∷ []) ≡ 2 ∷ 0 ∷ []
settled_to_first = refl

settled_with_feature : settled any_product 1 (2 ∷ 1 ∷ []) ≡ 2 ∷ 1 ∷ []
settled_with_feature = refl

no_state_at_second : violates (machine any_product 0) 0 ((2 ∷ 1 ∷ []) ∷ []) ≡ false
no_state_at_second = refl

violates_settled : flat_violates any_product 0 0 ((2 ∷ 1 ∷ []) ∷ []) ≡ true
violates_settled = refl

-- what is settled has to be a state
violates_states_alone : flat_violates any_product 0 0 ((2 ∷ 2 ∷ []) ∷ []) ≡ false
violates_states_alone = refl
