-- What a state or a step of the lift meets, a related one meets in the text.
use Rattle.std.proofs.Common.{◌≡◌, ℕ, zero, suc, ◌≤◌, Bool, true, false, ◌&&◌, ◌||◌, not, inl, inr, List, [], ◌∷◌, length, Option, Some, None, refl, sym, ap, ◌∙◌, subst, arith}
use Rattle.std.specs.Prelude.{if◌then◌else◌}
use Rattle.std.specs.List.{list_all}
use Rattle.smv_ast.specs.declared.syntax.Op.TheVariants as op
use Rattle.smv_ast.specs.declared.syntax.Path.{Path}
use Rattle.smv_ast.specs.declared.syntax.Expr.{Expr}
use Rattle.smv_ast.specs.declared.program.Left.{Left}
use Rattle.smv_ast.specs.declared.program.Left.TheVariants as left
use Rattle.smv_ast.specs.declared.program.Program.{Program}
use Rattle.smv_meaning.specs.declared.value.Value.{Value}
use Rattle.smv_meaning.specs.declared.items.Role.{Role}
use Rattle.smv_meaning.specs.declared.items.Role.TheVariants as role
use Rattle.fixpoint.specs.OptionOrder.{Le}
use Rattle.smv_meaning.specs.Value.{Name, is_true}
use Rattle.smv_meaning.specs.Paths.{QualifiedName, Binding, IsVariable}
use Rattle.smv_meaning.specs.Monotone.{then_le}
use Rattle.smv_meaning.specs.Instances.{Entity, Variable, Inner, Defined, Formal, Entry, Instance, Main, Within, module_at, entries, inner_of, inner_instances, subtree, goes_deeper, entity_at, instances, binding_at}
use Rattle.smv_meaning.specs.Items.{Item, Declares, Assigns, Defines, Constrains}
use Rattle.smv_meaning.specs.ItemIndex.{items_at}
use Rattle.smv_meaning.specs.Values.{State, values_in, value_in}
use Rattle.smv_meaning.specs.Runs.{surely, is_assigned, is_true_in, begins, stays, steps, each_item, IsInit, IsInside, IsStep}
use Rattle.smv_meaning.proofs.MemberLemmas.{In, in_of, in_flat, from_flat, declares}
use Rattle.lift_relation.specs.RelatedExpr.{guarded_constraint, IsVariableOf}
use Rattle.lift_relation.specs.Weaving.{Weaving, IsOfText}
use Rattle.lift_relation.specs.RelatedNames.{ReadAlike, RelatedEntity, BothVariable, BothInner, BothDefined, BothFormal, AreRelatedNames, AreRelatedStates}
use Rattle.lift_relation.specs.RelatedItems.{restricts, RelatedItem, BothConstrain, IntroducedConstraint, BothAssign, AreRelatedItems}
use Rattle.lift_relation.proofs.TextInstances.{contains_in, main_in}
use Rattle.lift_relation.proofs.ResolutionLaw.{IsDeclared}
use Rattle.lift_relation.proofs.ValueLaw.{shows_product, values_le, value_le, allows_le}
use Rattle.lift_relation.proofs.ConstraintLemmas.{whole_leaves, chosen_implies}

-- ---- tests of all members

pub each_passes : {A : Type 0} (p : A → Bool) (xs : List A) → list_all p xs ≡ true → (x : A) → In x xs → p x ≡ true
each_passes p [] h x i = absurd i
each_passes {A} p (y ∷ ys) h x i = at (λ k j. each_passes p ys k x j) (p y) refl h i
  where
    at : (list_all p ys ≡ true → In x ys → p x ≡ true) → (b : Bool) → p y ≡ b → (b && list_all p ys) ≡ true → In x (y ∷ ys) → p x ≡ true
    at again true e k (inl same) = subst (λ (z : A). p z ≡ true) same e
    at again true e k (inr j) = again k j
    at again false e k j = cc

pub all_pass : {A : Type 0} (p : A → Bool) (xs : List A) → ((x : A) → In x xs → p x ≡ true) → list_all p xs ≡ true
all_pass p [] h = refl
all_pass p (x ∷ xs) h = rw (h x (inl refl)) (all_pass p xs (λ y i. h y (inr i)))

-- an item of an instance of a program passes a test that each passes
pub item_passes : (program : Program) (test : Instance → Item → Bool) → each_item program test ≡ true → (instance : Instance) → In instance (instances program) → (item : Item) → In item (items_at program instance) → test instance item ≡ true
item_passes program test e instance i item j =
    each_passes (test instance) (items_at program instance) (each_passes (λ instance. list_all (test instance) (items_at program instance)) (instances program) e instance i) item j

pub items_pass : (program : Program) (test : Instance → Item → Bool) → ((instance : Instance) → In instance (instances program) → (item : Item) → In item (items_at program instance) → test instance item ≡ true) → each_item program test ≡ true
items_pass program test h = all_pass (λ instance. list_all (test instance) (items_at program instance)) (instances program) (λ instance i. all_pass (test instance) (items_at program instance) (h instance i))

true_le : (o q : Option Value) → Le o q → is_true o ≡ true → is_true q ≡ true
true_le None q h e = cc
true_le (Some v) q h e = rw (h v refl) e

surely_le : (o q : Option Bool) → Le o q → surely o ≡ true → surely q ≡ true
surely_le None q h e = cc
surely_le (Some b) q h e = rw (h b refl) e

-- an item that doesn't restrict is met by all states and steps
pub free : (program : Program) (instance : Instance) (s t : State) (item : Item) → restricts item ≡ false → (begins program instance s item ≡ true) × (stays program instance s item ≡ true) × (steps program instance s t item ≡ true)
free program instance s t (Declares name what at) e = (refl, refl, refl)
free program instance s t (Assigns of name right at) e = cc
free program instance s t (Defines name right at) e = (refl, refl, refl)
free program instance s t (Constrains role.Init x at) e = cc
free program instance s t (Constrains role.Invariant x at) e = cc
free program instance s t (Constrains role.Transition x at) e = cc
free program instance s t (Constrains role.Spec x at) e = (refl, refl, refl)

module _ (w : Weaving) (names : AreRelatedNames w) where
  -- ---- each instance of the text is one of the lift

  deeper_too : (instance : Instance) → goes_deeper w.text instance ≡ true → goes_deeper w.lift instance ≡ true
  deeper_too instance d = let more : length w.text.modules ≤ length w.lift.modules = names.modules in grind (arith, more)

  inner_kept : (instance c : Instance) (e : Entry) (m : Entity) → IsOfText w instance → entity_at w.text instance e.name ≡ Some m → In c (inner_of w.text instance e.name m) → In c (inner_instances w.lift instance)
  inner_kept instance c e (Variable t) g i j = absurd j
  inner_kept instance c e (Defined right) g i j = absurd j
  inner_kept instance c e (Formal k) g i j = absurd j
  inner_kept instance c e (Inner called ts) g i j = at (goes_deeper w.text instance) refl j
    where
      entry_in : (l t : Entity) → RelatedEntity w instance l t → t ≡ Inner called ts → entity_at w.lift instance e.name ≡ Some l → goes_deeper w.lift instance ≡ true → In (Within instance e.name called) (inner_instances w.lift instance)
      entry_in l t (BothVariable type) k n d = cc
      entry_in l t (BothInner other path ls us named each) k n d =
          let x = declares (entries (module_at w.lift instance)) e.name l n in
          let s : other ≡ called = (cc) in
          in_flat (λ e. inner_of w.lift instance e.name e.entity) (entries (module_at w.lift instance)) x.entry (Within instance e.name called) x.among
          (subst (λ (n : Name). In (Within instance e.name called) (inner_of w.lift instance n x.entry.entity)) (sym x.named)
          (subst (λ (m : Entity). In (Within instance e.name called) (inner_of w.lift instance e.name m)) (sym x.means) (rw d (inl (ap (Within instance e.name) s)))))
      entry_in l t (BothDefined x y p) k n d = cc
      entry_in l t (BothFormal q) k n d = cc

      at : (b : Bool) → goes_deeper w.text instance ≡ b → In c (if b then Within instance e.name called ∷ [] else []) → In c (inner_instances w.lift instance)
      at true d (inl same) =
          let r = names.entities instance g e.name (Inner called ts) i in
          subst (λ (q : Instance). In q (inner_instances w.lift instance)) same (entry_in r.entity (Inner called ts) r.related refl r.declared (deeper_too instance d))
      at true d (inr k) = absurd k
      at false d k = absurd k

  inner_instance_kept : (instance c : Instance) → IsOfText w instance → In c (inner_instances w.text instance) → In c (inner_instances w.lift instance)
  inner_instance_kept instance c g i =
      let r = from_flat (λ e. inner_of w.text instance e.name e.entity) (entries (module_at w.text instance)) c i in
      inner_kept instance c r.0 r.0.entity g (names.distinct instance g r.0 (contains_in (entries (module_at w.text instance)) r.0 r.1)) r.2

  subtree_kept : (d e : ℕ) → d ≤ e → (top q : Instance) → In top (instances w.text) → ((c : Instance) → In c (subtree d w.text top) → In c (instances w.text)) → In q (subtree d w.text top) → In q (subtree e w.lift top)
  subtree_kept zero zero l top q g h (inl s) = inl s
  subtree_kept zero (suc e) l top q g h (inl s) = inl s
  subtree_kept zero e l top q g h (inr j) = absurd j
  subtree_kept (suc d) zero l top q g h i = absurd (omega (arith, l))
  subtree_kept (suc d) (suc e) l top q g h (inl s) = inl s
  subtree_kept (suc d) (suc e) l top q g h (inr j) =
      let r = from_flat (subtree d w.text) (inner_instances w.text top) q j in
      let below : (c : Instance) → In c (subtree d w.text r.0) → In c (instances w.text) = λ c k. h c (inr (in_flat (subtree d w.text) (inner_instances w.text top) r.0 c r.1 k)) in
      let b = inner_instance_kept top r.0 (contains_in (instances w.text) top g) r.1 in
      inr (in_flat (subtree e w.lift) (inner_instances w.lift top) r.0 q b (subtree_kept d e (omega (arith, l)) r.0 q (below r.0 (top_in d r.0)) below r.2))
    where
      top_in : (d : ℕ) (top : Instance) → In top (subtree d w.text top)
      top_in zero top = inl refl
      top_in (suc d) top = inl refl

  pub instance_kept : (instance : Instance) → In instance (instances w.text) → In instance (instances w.lift)
  instance_kept instance i = subtree_kept (length w.text.modules) (length w.lift.modules) names.modules Main instance (main_in w.text) (λ c k. k) i

  -- ---- items

  module _ (At : State → Type 0) (items : AreRelatedItems w At) where
    kept : (p q : Instance → Item → Bool) → ((instance : Instance) → IsOfText w instance → (l t : Item) → RelatedItem w instance l t → p instance l ≡ true → q instance t ≡ true) → ((instance : Instance) (t : Item) → restricts t ≡ false → q instance t ≡ true) → each_item w.lift p ≡ true → each_item w.text q ≡ true
    kept p q h free e = items_pass w.text q (λ instance i t j. at instance i t j (restricts t) refl)
      where
        at : (instance : Instance) → In instance (instances w.text) → (t : Item) → In t (items_at w.text instance) → (b : Bool) → restricts t ≡ b → q instance t ≡ true
        at instance i t j true r =
            let g = contains_in (instances w.text) instance i in
            let f = items.text instance g t (contains_in (items_at w.text instance) t j) r in
            h instance g f.item t f.related (item_passes w.lift p e instance (instance_kept instance i) f.item (in_of (items_at w.lift instance) f.item f.among))
        at instance i t j false r = free instance t r

    true_kept : (instance : Instance) → IsOfText w instance → (s s' t t' : State) → AreRelatedStates w s t → AreRelatedStates w s' t' → (x y : Expr) → ReadAlike w instance x y → is_true_in w.lift instance s s' x ≡ true → is_true_in w.text instance t t' y ≡ true
    true_kept instance g s s' t t' h h' x y k = true_le _ _ (value_le w names s s' t t' h h' instance g x y k)

    assigned_kept : (instance : Instance) → IsOfText w instance → (own own' s s' t t' : State) → AreRelatedStates w own own' → AreRelatedStates w s t → AreRelatedStates w s' t' → (name : Name) (x y : Expr) → ReadAlike w instance x y → binding_at w.text (record { instance = instance; name = name }) ≡ Some IsVariable
        → is_assigned w.lift instance own s s' name x ≡ true → is_assigned w.text instance own' t t' name y ≡ true
    assigned_kept instance g own own' s s' t t' o h h' name x y k i =
        surely_le _ _ (then_le (values_in w.lift own (record { instance = instance; name = name })) (values_in w.text own' (record { instance = instance; name = name })) _ _ (values_le w names own own' o (record { instance = instance; name = name }) (record { there = g; binding = IsVariable; bound = i }))
        (allows_le w names s s' t t' h h' instance g x y k))

    -- an introduced constraint without its guard
    unguarded_kept : (instance : Instance) → IsOfText w instance → (s s' t t' : State) → AreRelatedStates w s t → AreRelatedStates w s' t' → (variable : Path) (feature : Name) (x y : Expr) → IsVariableOf w.features w.has variable feature → w.has feature ≡ true → ReadAlike w instance x y
        → is_true_in w.lift instance s s' (guarded_constraint variable x) ≡ true → is_true_in w.text instance t t' y ≡ true
    unguarded_kept instance g s s' t t' h h' variable feature x y is e k m =
        true_kept instance g s s' t t' h h' x y k (whole_leaves w.features w.has w.lift s s' instance (shows_product w names s t h instance g) op.Implies variable feature is x true e (λ b. not true || b) (λ b. refl) chosen_implies m)

    -- an initial state, a state inside, a step
    pub init_kept : (s t : State) → AreRelatedStates w s t → IsInit w.lift s → IsInit w.text t
    init_kept s t h = kept (λ instance. begins w.lift instance s) (λ instance. begins w.text instance t) at (λ instance item e. (free w.text instance t t item e).0)
      where
        at : (instance : Instance) → IsOfText w instance → (l u : Item) → RelatedItem w instance l u → begins w.lift instance s l ≡ true → begins w.text instance t u ≡ true
        at instance g l u (BothConstrain role.Init x y i j k) e = true_kept instance g s s t t h h x y k e
        at instance g l u (IntroducedConstraint role.Init variable feature x y i j is has k) e = unguarded_kept instance g s s t t h h variable feature x y is has k e
        at instance g l u (BothAssign left.Init name x y i j k b) e = assigned_kept instance g s t s s t t h h h name x y k b e
        at instance g l u (BothConstrain role.Invariant x y i j k) e = refl
        at instance g l u (BothConstrain role.Transition x y i j k) e = refl
        at instance g l u (BothConstrain role.Spec x y i j k) e = refl
        at instance g l u (IntroducedConstraint role.Invariant variable feature x y i j is has k) e = refl
        at instance g l u (IntroducedConstraint role.Transition variable feature x y i j is has k) e = refl
        at instance g l u (IntroducedConstraint role.Spec variable feature x y i j is has k) e = refl
        at instance g l u (BothAssign left.Next name x y i j k b) e = refl
        at instance g l u (BothAssign left.Now name x y i j k b) e = refl

    pub inside_kept : (s t : State) → AreRelatedStates w s t → IsInside w.lift s → IsInside w.text t
    inside_kept s t h = kept (λ instance. stays w.lift instance s) (λ instance. stays w.text instance t) at (λ instance item e. (free w.text instance t t item e).1)
      where
        at : (instance : Instance) → IsOfText w instance → (l u : Item) → RelatedItem w instance l u → stays w.lift instance s l ≡ true → stays w.text instance t u ≡ true
        at instance g l u (BothConstrain role.Invariant x y i j k) e = true_kept instance g s s t t h h x y k e
        at instance g l u (IntroducedConstraint role.Invariant variable feature x y i j is has k) e = unguarded_kept instance g s s t t h h variable feature x y is has k e
        at instance g l u (BothAssign left.Now name x y i j k b) e = assigned_kept instance g s t s s t t h h h name x y k b e
        at instance g l u (BothConstrain role.Init x y i j k) e = refl
        at instance g l u (BothConstrain role.Transition x y i j k) e = refl
        at instance g l u (BothConstrain role.Spec x y i j k) e = refl
        at instance g l u (IntroducedConstraint role.Init variable feature x y i j is has k) e = refl
        at instance g l u (IntroducedConstraint role.Transition variable feature x y i j is has k) e = refl
        at instance g l u (IntroducedConstraint role.Spec variable feature x y i j is has k) e = refl
        at instance g l u (BothAssign left.Next name x y i j k b) e = refl
        at instance g l u (BothAssign left.Init name x y i j k b) e = refl

    pub step_kept : (s s' t t' : State) → AreRelatedStates w s t → AreRelatedStates w s' t' → IsStep w.lift s s' → IsStep w.text t t'
    step_kept s s' t t' h h' = kept (λ instance. steps w.lift instance s s') (λ instance. steps w.text instance t t') at (λ instance item e. (free w.text instance t t' item e).2)
      where
        at : (instance : Instance) → IsOfText w instance → (l u : Item) → RelatedItem w instance l u → steps w.lift instance s s' l ≡ true → steps w.text instance t t' u ≡ true
        at instance g l u (BothConstrain role.Transition x y i j k) e = true_kept instance g s s' t t' h h' x y k e
        at instance g l u (IntroducedConstraint role.Transition variable feature x y i j is has k) e = unguarded_kept instance g s s' t t' h h' variable feature x y is has k e
        at instance g l u (BothAssign left.Next name x y i j k b) e = assigned_kept instance g s' t' s s' t t' h' h h' name x y k b e
        at instance g l u (BothConstrain role.Init x y i j k) e = refl
        at instance g l u (BothConstrain role.Invariant x y i j k) e = refl
        at instance g l u (BothConstrain role.Spec x y i j k) e = refl
        at instance g l u (IntroducedConstraint role.Init variable feature x y i j is has k) e = refl
        at instance g l u (IntroducedConstraint role.Invariant variable feature x y i j is has k) e = refl
        at instance g l u (IntroducedConstraint role.Spec variable feature x y i j is has k) e = refl
        at instance g l u (BothAssign left.Init name x y i j k b) e = refl
        at instance g l u (BothAssign left.Now name x y i j k b) e = refl
