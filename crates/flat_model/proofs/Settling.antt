-- States as positions of all variables, and what settling them changes.
use Rattle.std.proofs.Common.{◌≡◌, ℕ, zero, suc, ◌+◌, ◌-◌, ◌<◌, Bool, true, false, ◌&&◌, List, [], ◌∷◌, length, take, drop, get_or, map, refl, sym, ◌∙◌, ap, subst, arith, Some, inl, inr}
use Rattle.std.specs.Prelude.{slice_get, slice_index, nat_lt, if◌then◌else◌}
use Rattle.std.specs.List.{list_all, range_with_len}
use Rattle.std.proofs.lemmas.Bool.{and_parts, and_from, ltb-true, lt-ltb, cases_lt}
use Rattle.std.proofs.lemmas.List.{get_or-append_right, get_or-take, length-append, length-drop, length-take}
use Rattle.std.proofs.lemmas.List.FromFn.{length-map-range_with_len}
use Rattle.std.proofs.lemmas.Option.{slice_get_within, get_or_from_slice_get}
use Rattle.flat_model.specs.declared.variables.FlatVar.{FlatVar}
use Rattle.flat_model.specs.declared.model.Flat.{Flat}
use Rattle.flat_model.specs.Variables.{listed, IsSoundVariable, ArePositions}
use Rattle.flat_model.specs.Soundness.{IsSound, IsFeature}
use Rattle.flat_model.specs.Products.{feature_bit}
use Rattle.flat_model.specs.Machines.{is_path, is_run, violates}
use Rattle.flat_model.specs.FlatMachine.{state_variables, are_positions, is_state, positions_in, all_true, machine, has_owner, settled_positions, settled, flat_violates, IsProductLine}
use Rattle.flat_model.proofs.FlatMachineLemmas.{position_of_feature}

-- ---- Positions of all variables

slice_get-drop : {X : Type 0} (n : ℕ) (xs : List X) (k : ℕ) → slice_get (drop n xs) k ≡ slice_get xs (n + k)
slice_get-drop zero xs k = ap (slice_get xs) (omega arith)
slice_get-drop (suc n) [] k = refl
slice_get-drop (suc n) (x ∷ xs) k = slice_get-drop n xs k ∙ ap (slice_get (x ∷ xs)) (let e : suc (n + k) ≡ suc n + k = omega arith in e)

pub ArePositions-from_test : (vars : List FlatVar) (positions : List ℕ) → are_positions vars positions ≡ true → ArePositions vars positions
ArePositions-from_test [] [] h = record { one_each = refl; within = λ v var e. cc }
ArePositions-from_test [] (position ∷ positions) h = cc
ArePositions-from_test (var ∷ vars) [] h = cc
ArePositions-from_test (var ∷ vars) (position ∷ positions) h =
    let parts = and_parts (nat_lt position var.count) (are_positions vars positions) h in
    let others : ArePositions vars positions = ArePositions-from_test vars positions parts.1 in
    record { one_each = ap suc others.one_each; within = at others (ltb-true position var.count parts.0) }
  where
    at : ArePositions vars positions → position < var.count → (v : ℕ) (other : FlatVar) → slice_get (var ∷ vars) v ≡ Some other → slice_index (position ∷ positions) v < other.count
    at others here zero other e = subst (λ (x : FlatVar). position < x.count) (let same : var ≡ other = cc in same) here
    at others here (suc v) other e = others.within v other e

module _ (flat : Flat) (sound : IsSound flat) (p : ℕ) where
  feature_count : (v : ℕ) (var : FlatVar) → v < flat.features → slice_get flat.vars v ≡ Some var → var.count ≡ 2
  feature_count v var h e =
      let inside : v < length flat.vars = slice_get_within flat.vars v var e in
      let here : v < length (take flat.features flat.vars) = omega (arith, length-take flat.features flat.vars, sound.features_there) in
      let is : get_or (take flat.features flat.vars) v var ≡ var = get_or-take flat.features flat.vars v var h ∙ get_or_from_slice_get flat.vars v var var e in
      let feature : IsFeature var = subst IsFeature is (sound.features v var here) in
      let own : IsSoundVariable var = subst IsSoundVariable (get_or_from_slice_get flat.vars v var var e) (sound.variables v var inside) in
      sym own.counted ∙ ap (λ values. length (listed values var.count)) feature.boolean

  -- a state gives each variable one of its positions
  pub ArePositions-state : (state : List ℕ) → is_state flat state ≡ true → ArePositions flat.vars (positions_in flat p state)
  ArePositions-state state h = record { one_each = one_each; within = within }
    where
      own : ArePositions (state_variables flat) state
      own = ArePositions-from_test (state_variables flat) state h

      first : length (map (feature_bit p) (range_with_len 0 flat.features)) ≡ flat.features
      first = length-map-range_with_len (feature_bit p) 0 flat.features

      one_each : length (positions_in flat p state) ≡ length flat.vars
      one_each = omega (arith, length-append (map (feature_bit p) (range_with_len 0 flat.features)) state, first, own.one_each, length-drop flat.features flat.vars, sound.features_there)

      within : (v : ℕ) (var : FlatVar) → slice_get flat.vars v ≡ Some var → slice_index (positions_in flat p state) v < var.count
      within v var e = elim (cases_lt v flat.features) [
        | inl feature ↦ omega (arith, position_of_feature flat p state v feature, feature_count v var feature e)
        | inr other ↦
            let at : slice_index (positions_in flat p state) v ≡ slice_index state (v - flat.features) = get_or-append_right (map (feature_bit p) (range_with_len 0 flat.features)) state flat.features v 0 first other in
            let is : slice_get (state_variables flat) (v - flat.features) ≡ Some var = slice_get-drop flat.features flat.vars (v - flat.features) ∙ ap (slice_get flat.vars) (omega arith) ∙ e in
            omega (arith, at, own.within (v - flat.features) var is)
      ]

-- ---- Settling

settled_position : (b : Bool) (position count : ℕ) → position < count → nat_lt (if b then position else 0) count ≡ true
settled_position true position count h = lt-ltb position count h
settled_position false position count h = lt-ltb 0 count (omega arith)

are_positions-settled : (p : ℕ) (vars : List FlatVar) (positions : List ℕ) → are_positions vars positions ≡ true → are_positions vars (settled_positions p vars positions) ≡ true
are_positions-settled p [] [] h = refl
are_positions-settled p [] (position ∷ positions) h = h
are_positions-settled p (var ∷ vars) [] h = h
are_positions-settled p (var ∷ vars) (position ∷ positions) h =
    let parts = and_parts (nat_lt position var.count) (are_positions vars positions) h in
    and_from _ _ (settled_position (has_owner p var.owner) position var.count (ltb-true position var.count parts.0)) (are_positions-settled p vars positions parts.1)

-- a settled state is a state
pub is_state-settled : (flat : Flat) (p : ℕ) (state : List ℕ) → is_state flat state ≡ true → is_state flat (settled flat p state) ≡ true
is_state-settled flat p state h = are_positions-settled p (state_variables flat) state h

settled_positions-fixed : (p : ℕ) (vars : List FlatVar) (positions : List ℕ) → are_positions vars positions ≡ true
    → ((v : ℕ) (var : FlatVar) → slice_get vars v ≡ Some var → has_owner p var.owner ≡ false → slice_index positions v ≡ 0)
    → settled_positions p vars positions ≡ positions
settled_positions-fixed p [] positions h absent = refl
settled_positions-fixed p (var ∷ vars) [] h absent = refl
settled_positions-fixed p (var ∷ vars) (position ∷ positions) h absent =
    let parts = and_parts (nat_lt position var.count) (are_positions vars positions) h in
    ap (λ (xs : List ℕ). (if has_owner p var.owner then position else 0) ∷ xs) (settled_positions-fixed p vars positions parts.1 (λ v other e. absent (suc v) other e))
    ∙ ap (λ (x : ℕ). x ∷ positions) (here (has_owner p var.owner) refl)
  where
    here : (b : Bool) → has_owner p var.owner ≡ b → (if b then position else 0) ≡ position
    here true e = refl
    here false e = sym (absent 0 var refl e)

module _ (flat : Flat) (line : IsProductLine flat) (j p : ℕ) where
  -- a state that is inside is settled
  pub settled-inside : (state : List ℕ) → (machine flat j).inside p state ≡ true → settled flat p state ≡ state
  settled-inside state h =
      let parts = and_parts (is_state flat state) (all_true flat p state state flat.inside) h in
      settled_positions-fixed p (state_variables flat) state parts.0 (line.absent_at_first p state parts.0 parts.1)

  path_settled : (s : List ℕ) (ts : List (List ℕ)) → is_path (machine flat j) p s ts ≡ true → (map (settled flat p) (s ∷ ts) ≡ s ∷ ts) × (list_all (is_state flat) (s ∷ ts) ≡ true)
  path_settled s [] h =
      (ap (λ (x : List ℕ). x ∷ []) (settled-inside s h), and_from (is_state flat s) true (and_parts (is_state flat s) (all_true flat p s s flat.inside) h).0 refl)
  path_settled s (t ∷ ts) h =
      let parts = and_parts ((machine flat j).inside p s) ((machine flat j).step p s t && is_path (machine flat j) p t ts) h in
      let others = path_settled t ts (and_parts ((machine flat j).step p s t) (is_path (machine flat j) p t ts) parts.1).1 in (
        ap (λ (x : List ℕ). x ∷ map (settled flat p) (t ∷ ts)) (settled-inside s parts.0) ∙ ap (λ (xs : List (List ℕ)). s ∷ xs) others.0,
        and_from (is_state flat s) (list_all (is_state flat) (t ∷ ts)) (and_parts (is_state flat s) (all_true flat p s s flat.inside) parts.0).0 others.1,
      )

  -- a violating run of the machine is one of the flat
  pub flat_violates-run : (run : List (List ℕ)) → violates (machine flat j) p run ≡ true → flat_violates flat j p run ≡ true
  flat_violates-run [] h = cc
  flat_violates-run (s ∷ ts) h =
      let run = (and_parts (is_run (machine flat j) p (s ∷ ts)) _ h).0 in
      let same = path_settled s ts (and_parts ((machine flat j).init p s) (is_path (machine flat j) p s ts) run).1 in
      and_from (list_all (is_state flat) (s ∷ ts)) (violates (machine flat j) p (map (settled flat p) (s ∷ ts))) same.1
      (subst (λ (states : List (List ℕ)). violates (machine flat j) p states ≡ true) (sym same.0) h)
