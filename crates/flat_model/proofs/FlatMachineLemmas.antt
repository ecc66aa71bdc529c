-- A flat model as a state machine: what its tests read, and what settling changes.
use Rattle.std.proofs.Common.{◌≡◌, ℕ, zero, suc, ◌<◌, Bool, true, false, List, [], ◌∷◌, length, map, refl, sym, ◌∙◌, ap, arith}
use Rattle.std.specs.Prelude.{Contains, slice_get, slice_index}
use Rattle.std.specs.List.{list_all, range_with_len}
use Rattle.std.proofs.lemmas.Bool.{and_parts, false≢true}
use Rattle.std.proofs.lemmas.List.{get_or_append_left}
use Rattle.std.proofs.lemmas.List.FromFn.{length-map-range_with_len, get_or-map-range_with_len}
use Rattle.std.proofs.lemmas.Option.{slice_get_within}
use Rattle.flat_model.specs.declared.nodes.FlatNode.TheVariants.{Now}
use Rattle.flat_model.specs.declared.model.Flat.{Flat}
use Rattle.flat_model.specs.Numbers.{truth_of}
use Rattle.flat_model.specs.Variables.{number_or_none, number_in}
use Rattle.flat_model.specs.Nodes.{booleans, is_boolean, is_after}
use Rattle.flat_model.specs.Soundness.{IsSound, IsStateNode, IsTruthNode}
use Rattle.flat_model.specs.Products.{feature_bit}
use Rattle.flat_model.specs.Machines.{is_path, is_run}
use Rattle.flat_model.specs.FlatMachine.{positions_in, is_true, all_true, machine, is_valid, is_beyond_features, IsProductLine}
use Rattle.flat_model.proofs.Attributes.{length-attributes}
use Rattle.flat_model.proofs.Reading.{eval-agree}

-- ---- What the tests read

-- a truth node is there
pub truth_node_there : (flat : Flat) (n : ℕ) → IsTruthNode flat n → n < length flat.nodes
truth_node_there flat n h = omega (arith, slice_get_within (booleans flat.vars flat.nodes) n true h, length-attributes (is_boolean flat.vars) flat.nodes)

-- a node that reads no next state has one truth value whatever that is
pub is_true-any_next : (flat : Flat) → IsSound flat → (p : ℕ) (s t u : List ℕ) (n : ℕ) → IsStateNode flat n → is_true flat p s t n ≡ is_true flat p s u n
is_true-any_next flat sound p s t u n node =
    ap truth_of (eval-agree _ _ _ _ is_after (λ v h. refl) (λ v h. absurd (false≢true (sym h))) flat sound n (truth_node_there flat n node.boolean) node.no_after)

-- the position of a feature depends on the product alone
pub position_of_feature : (flat : Flat) (p : ℕ) (s : List ℕ) (v : ℕ) → v < flat.features → slice_index (positions_in flat p s) v ≡ feature_bit p v
position_of_feature flat p s v h =
    get_or_append_left (map (feature_bit p) (range_with_len 0 flat.features)) s 0 v (omega (arith, length-map-range_with_len (feature_bit p) 0 flat.features))
    ∙ get_or-map-range_with_len (feature_bit p) 0 flat.features v v 0 h (omega arith)

-- whether the product is valid depends on no state
pub is_true-model : (flat : Flat) → IsSound flat → IsProductLine flat → (p : ℕ) (s t : List ℕ) → is_true flat p s t flat.model ≡ is_valid flat p
is_true-model flat sound line p s t =
    ap truth_of (eval-agree _ _ _ _ (is_beyond_features flat.features) same_now (λ v h. absurd (false≢true (sym h))) flat sound flat.model (truth_node_there flat flat.model sound.model.boolean) line.model_of_features)
  where
    same_now : (v : ℕ) → is_beyond_features flat.features (Now v) ≡ false → number_in flat.vars (positions_in flat p s) v ≡ number_in flat.vars (positions_in flat p []) v
    same_now v h =
        let below : v < flat.features = grind arith in
        ap (number_or_none (slice_get flat.vars v)) (position_of_feature flat p s v below ∙ sym (position_of_feature flat p [] v below))

list_all-contains : (test : ℕ → Bool) (xs : List ℕ) (x : ℕ) → Contains xs x → list_all test xs ≡ true → test x ≡ true
list_all-contains test [] x c h = absurd (omega (arith, c.1))
list_all-contains test (y ∷ ys) x (zero, below, is) h = ap test (sym is) ∙ (and_parts (test y) (list_all test ys) h).0
list_all-contains test (y ∷ ys) x (suc k, below, is) h = list_all-contains test ys x (k, omega arith, is) (and_parts (test y) (list_all test ys) h).1

-- only valid products have runs
pub run_valid : (flat : Flat) → IsSound flat → IsProductLine flat → (j p : ℕ) (run : List (List ℕ)) → is_run (machine flat j) p run ≡ true → is_valid flat p ≡ true
run_valid flat sound line j p [] h = cc
run_valid flat sound line j p (s ∷ ts) h =
    sym (is_true-model flat sound line p s s)
    ∙ list_all-contains (is_true flat p s s) flat.init flat.model line.model_in_init (and_parts (all_true flat p s s flat.init) (is_path (machine flat j) p s ts) h).0
