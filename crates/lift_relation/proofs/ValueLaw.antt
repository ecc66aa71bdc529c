-- In related states related expressions have the same values: where the lift's has a value, the text's has it too.
use Rattle.std.proofs.Common.{◌≡◌, ℕ, zero, suc, List, [], ◌∷◌, Bool, true, false, Option, Some, None, refl, sym, subst}
use Rattle.std.specs.Prelude.{if◌then◌else◌}
use Rattle.std.specs.List.{Contains}
use Rattle.smv_ast.specs.declared.syntax.Path.{Path}
use Rattle.smv_ast.specs.declared.syntax.Expr.{Expr}
use Rattle.smv_meaning.specs.declared.value.Value.{Value}
use Rattle.smv_meaning.specs.declared.value.Value.TheVariants.{Boolean}
use Rattle.fixpoint.specs.OptionOrder.{Le}
use Rattle.fixpoint.specs.Fixpoints.{UnderOn, known, most}
use Rattle.fixpoint.proofs.Laws.{known_under}
use Rattle.smv_meaning.specs.Value.{Name, and_then}
use Rattle.smv_meaning.specs.Monotone.{le_refl}
use Rattle.smv_meaning.specs.MentionedPaths.{Shared, mentioned_keeps}
use Rattle.smv_meaning.specs.Paths.{QualifiedName, Binding, Aliases, IsVariable, IsInstance, IsNothing, walked, alias_of_binding, alias_step, aliases, resolve}
use Rattle.smv_meaning.specs.Denotations.{Environment, denotation_of}
use Rattle.smv_meaning.specs.Instances.{Entity, Variable, Inner, Instance, Main, Within, goes_deeper, entity_at, formal_by, binding_in, binding_at, instances}
use Rattle.smv_meaning.specs.Values.{State, Valuation, symbol_of, value_at_path, environment_by, read_by, value_of_binding, valuation_step, variable_in, values_in, environment_in, value_in, allows_in}
use Rattle.smv_meaning.proofs.MemberLemmas.{In, in_of, outer_in}
use Rattle.lift_relation.specs.Environments.{ShowsProduct}
use Rattle.lift_relation.specs.Weaving.{Weaving, IsOfText, home_instance, feature_variable}
use Rattle.lift_relation.specs.RelatedNames.{IsKnownPath, Resolves, IsSymbol, ReadAlike, RelatedEntity, BothVariable, BothInner, BothDefined, BothFormal, AreRelatedNames, AreRelatedStates}
use Rattle.lift_relation.proofs.ExprLaw.{le_trans, related_le}
use Rattle.lift_relation.proofs.TextInstances.{contains_in, declared_as}
use Rattle.lift_relation.proofs.BindingLaw.{RelatedBinding, Variables, Instances, Deeper, Defines, Formals, Nothing, bindings_related}
use Rattle.lift_relation.proofs.ResolutionLaw.{IsDeclared, resolves_kept}

module _ (w : Weaving) (names : AreRelatedNames w) where
  abbrev lift_symbols : Environment
  lift_symbols = symbol_of w.lift

  abbrev text_symbols : Environment
  text_symbols = symbol_of w.text

  abbrev Shows : Environment → Type 0
  Shows = ShowsProduct w.features w.has

  -- ---- paths and expressions, by valuations

  environment_le : (s t : Valuation Instance) → UnderOn (IsDeclared w names) s t → (instance : Instance) → IsOfText w instance → (path : List Name) → IsKnownPath w instance path → Le (environment_by (binding_at w.lift) lift_symbols s instance path) (environment_by (binding_at w.text) text_symbols t instance path)
  environment_le s t h instance g path (Resolves qualified e) = let b = resolves_kept w names instance g path qualified e in rw b.0 (rw e (h qualified b.1))
  environment_le s t h instance g path (IsSymbol e f k) = rw e (rw f k)

  read_le : (s t : Valuation Instance) → UnderOn (IsDeclared w names) s t → (instance : Instance) → IsOfText w instance → (x y : Expr) → ReadAlike w instance x y → Shows (environment_by (binding_at w.lift) lift_symbols s instance)
      → Le (read_by (binding_at w.lift) lift_symbols s instance x) (read_by (binding_at w.text) text_symbols t instance y)
  read_le s t h instance g x y k shows =
      le_trans _ _ _
      ((related_le w.features w.has x y k.related).value _ _ _ _ (record { now_same = refl; after_same = refl; now_shows = shows; after_shows = shows }))
      ((mentioned_keeps (IsKnownPath w instance) y k.known).value _ _ _ _ (record { now_le = environment_le s t h instance g; after_le = environment_le s t h instance g }))

  -- ---- the features' variables

  passed_on : (s : Aliases Instance) (outer : Instance) (l t : Entity) (called : Name) (ts : List Expr) → RelatedEntity w outer l t → t ≡ Inner called ts → (p : Instance) → alias_of_binding s (formal_by outer (Some l) 0) ≡ Some p → s (record { instance = outer; name = w.features }) ≡ Some p
  passed_on s outer l t called ts (BothVariable type) e p i = cc
  passed_on s outer l t called ts (BothInner c path ls us named each) e p i = at (s (record { instance = outer; name = w.features })) (subst (λ (names : List Name). walked s outer names ≡ Some p) named i)
    where
      at : (o : Option Instance) → and_then o (λ q. Some q) ≡ Some p → o ≡ Some p
      at None j = cc
      at (Some q) j = j
  passed_on s outer l t called ts (BothDefined x y k) e p i = cc
  passed_on s outer l t called ts (BothFormal k) e p i = cc

  main_home : (b : Bool) (s : Aliases Instance) (p : Instance) → alias_of_binding s (if b then IsInstance (home_instance w) else IsNothing) ≡ Some p → p ≡ home_instance w
  main_home true s p e = cc
  main_home false s p e = cc

  abbrev rounds : ℕ → Aliases Instance
  rounds = known (alias_step (binding_at w.lift))

  -- what the features' name is an alias of, given its entity
  abbrev AliasBy : ℕ → Instance → Instance → Option Entity → Type 0
  AliasBy n instance p o = and_then (and_then o (λ m. Some (binding_in w.lift instance w.features m))) (alias_of_binding (rounds n)) ≡ Some p

  -- in each instance of the text the features' name denotes their instance, if any
  home_is : (n : ℕ) (instance : Instance) → IsOfText w instance → (p : Instance) → rounds n (record { instance = instance; name = w.features }) ≡ Some p → p ≡ home_instance w
  home_is zero instance g p e = cc
  home_is (suc n) Main g p e = main_home (goes_deeper w.lift Main) (rounds n) p (subst (AliasBy n Main p) names.home.in_main e)
  home_is (suc n) (Within outer name called) g p i =
      let m = in_of (instances w.text) (Within outer name called) g in
      let o = contains_in (instances w.text) outer (outer_in w.text outer name called m) in
      let d = declared_as w.text names.distinct outer name called m in
      let r = names.entities outer o name (Inner called d.actuals) d.entity in
      let j = subst (AliasBy n (Within outer name called) p) (names.home.in_others outer name called g) i in
      let k = subst (λ (o : Option Entity). alias_of_binding (rounds n) (formal_by outer o 0) ≡ Some p) r.declared j in
      home_is n outer o p (passed_on (rounds n) outer r.entity (Inner called d.actuals) called d.actuals r.related refl p k)

  module _ (s t : State) (states : AreRelatedStates w s t) where
    abbrev turns : ℕ → Valuation Instance
    turns = known (valuation_step (binding_at w.lift) lift_symbols (variable_in s))

    abbrev text_turns : ℕ → Valuation Instance
    text_turns = known (valuation_step (binding_at w.text) text_symbols (variable_in t))

    variable_le : (v : Valuation Instance) (feature : Name) (o : Option Entity) → entity_at w.lift (home_instance w) feature ≡ o
        → Le (and_then (and_then o (λ m. Some (binding_in w.lift (home_instance w) feature m))) (value_of_binding (binding_at w.lift) lift_symbols (variable_in s) v (feature_variable w feature))) (Some (Boolean (w.has feature)))
    variable_le v feature None e a i = cc
    variable_le v feature (Some m) e a i =
        let b = names.home.inside feature m e in
        states.features feature a (subst (λ (m : Entity). value_of_binding (binding_at w.lift) lift_symbols (variable_in s) v (feature_variable w feature) (binding_in w.lift (home_instance w) feature m) ≡ Some a) b.1 i)

    feature_le : (n : ℕ) (feature : Name) → Le (turns n (feature_variable w feature)) (Some (Boolean (w.has feature)))
    feature_le zero feature a e = cc
    feature_le (suc n) feature a e = variable_le (turns n) feature (entity_at w.lift (home_instance w) feature) refl a e

    abbrev path_value : ℕ → Name → Option (QualifiedName Instance) → Option Value
    path_value n feature = value_at_path lift_symbols (turns n) (w.features ∷ feature ∷ [])

    found_le : (n : ℕ) (feature : Name) (o : Option (Binding Instance)) → Le (path_value n feature (and_then o (λ m. Some (feature_variable w feature)))) (Some (Boolean (w.has feature)))
    found_le n feature None a e = cc
    found_le n feature (Some m) a e = feature_le n feature a e

    path_le : (n : ℕ) (feature : Name) (o : Option Instance) → ((p : Instance) → o ≡ Some p → p ≡ home_instance w) → Le (path_value n feature (and_then o (λ p. resolve (binding_at w.lift) p (feature ∷ [])))) (Some (Boolean (w.has feature)))
    path_le n feature None h a e = cc
    path_le n feature (Some p) h a e =
        subst (λ (q : Instance). Le (path_value n feature (resolve (binding_at w.lift) q (feature ∷ []))) (Some (Boolean (w.has feature)))) (sym (h p refl)) (found_le n feature (binding_at w.lift (feature_variable w feature))) a e

    -- after each number of rounds the features' variables show the product
    shown : (n : ℕ) (instance : Instance) → IsOfText w instance → Shows (environment_by (binding_at w.lift) lift_symbols (turns n) instance)
    shown n instance g feature = path_le n feature (aliases (binding_at w.lift) (record { instance = instance; name = w.features })) (home_is most instance g)

    -- ---- values of names

    binding_le : (n : ℕ) → UnderOn (IsDeclared w names) (turns n) (text_turns n) → (q : QualifiedName Instance) → IsOfText w q.instance → (a b : Binding Instance) → binding_at w.text q ≡ Some b → RelatedBinding w q.instance a b
        → Le (value_of_binding (binding_at w.lift) lift_symbols (variable_in s) (turns n) q a) (value_of_binding (binding_at w.text) text_symbols (variable_in t) (text_turns n) q b)
    binding_le n h q g a b i Variables = states.variables q g i
    binding_le n h q g a b i (Instances p k) = le_refl None
    binding_le n h q g a b i (Deeper p) = le_refl None
    binding_le n h q g a b i (Defines x y k) = read_le _ _ h q.instance g x y k (shown n q.instance g)
    binding_le n h q g a b i (Formals p x y k r stays) = read_le _ _ h p k x y r (shown n p k)
    binding_le n h q g a b i Nothing = le_refl None

    pub values_le : UnderOn (IsDeclared w names) (values_in w.lift s) (values_in w.text t)
    values_le = known_under (IsDeclared w names) (valuation_step (binding_at w.lift) lift_symbols (variable_in s)) (valuation_step (binding_at w.text) text_symbols (variable_in t)) turn most
      where
        turn : (n : ℕ) → UnderOn (IsDeclared w names) (turns n) (text_turns n) → UnderOn (IsDeclared w names) (turns (suc n)) (text_turns (suc n))
        turn n h q d v e =
            let b = bindings_related w names q d.there d.binding d.bound in
            rw d.bound (binding_le n h q d.there b.binding d.binding d.bound b.related v (subst (λ (o : Option (Binding Instance)). and_then o (value_of_binding (binding_at w.lift) lift_symbols (variable_in s) (turns n) q) ≡ Some v) b.bound e))

    -- the known paths of an instance have in the text the values that they have in the lift
    pub paths_le : (instance : Instance) → IsOfText w instance → (path : List Name) → IsKnownPath w instance path → Le (environment_in w.lift s instance path) (environment_in w.text t instance path)
    paths_le = environment_le _ _ values_le

    pub shows_product : (instance : Instance) → IsOfText w instance → Shows (environment_in w.lift s instance)
    shows_product = shown most

  -- ---- the law

  module _ (s s' t t' : State) (now : AreRelatedStates w s t) (after : AreRelatedStates w s' t') (instance : Instance) (g : IsOfText w instance) (x y : Expr) (k : ReadAlike w instance x y) where
    pub value_le : Le (value_in w.lift s s' instance x) (value_in w.text t t' instance y)
    value_le =
        le_trans _ _ _
        ((related_le w.features w.has x y k.related).value _ _ _ _ (record { now_same = refl; after_same = refl; now_shows = shows_product s t now instance g; after_shows = shows_product s' t' after instance g }))
        ((mentioned_keeps (IsKnownPath w instance) y k.known).value _ _ _ _ (record { now_le = paths_le s t now instance g; after_le = paths_le s' t' after instance g }))

    pub allows_le : (v : Value) → Le (allows_in w.lift s s' instance x v) (allows_in w.text t t' instance y v)
    allows_le v =
        le_trans _ _ _
        ((related_le w.features w.has x y k.related).allows _ _ _ _ (record { now_same = refl; after_same = refl; now_shows = shows_product s t now instance g; after_shows = shows_product s' t' after instance g }) v)
        ((mentioned_keeps (IsKnownPath w instance) y k.known).allows _ _ _ _ (record { now_le = paths_le s t now instance g; after_le = paths_le s' t' after instance g }) v)
