-- Related names have related bindings, in each instance of the text.
use Rattle.std.proofs.Common.{◌≡◌, ℕ, zero, suc, ◌≤◌, Bool, true, false, List, [], ◌∷◌, length, Option, Some, None, refl, sym, ap, ◌∙◌, subst, arith}
use Rattle.std.specs.Prelude.{slice_get, if◌then◌else◌}
use Rattle.smv_ast.specs.declared.syntax.Expr.{Expr}
use Rattle.smv_meaning.specs.Value.{Name, and_then}
use Rattle.smv_meaning.specs.Paths.{QualifiedName, Binding, IsVariable, IsInstance, IsDefine, IsFormal, IsNothing}
use Rattle.smv_meaning.specs.Instances.{Entity, Variable, Inner, Defined, Formal, Instance, Main, Within, goes_deeper, entity_at, formal_by, formal_at, binding_in, binding_at, instances}
use Rattle.smv_meaning.proofs.MemberLemmas.{In, in_of, outer_in}
use Rattle.smv_meaning.proofs.BindingLemmas.{bound}
use Rattle.lift_relation.specs.Weaving.{Weaving, IsOfText}
use Rattle.lift_relation.specs.RelatedNames.{ReadAlike, KeepsAlias, RelatedActual, NoActual, BothActual, RelatedEntity, BothVariable, BothInner, BothDefined, BothFormal, AreRelatedNames}
use Rattle.lift_relation.proofs.TextInstances.{contains_in, declared_as}

module _ (w : Weaving) where
  -- the bindings of a name in an instance of the lift and of the text; instances of the lift may lie deeper
  pub data RelatedBinding (instance : Instance) : Binding Instance → Binding Instance → Type 0 where
    Variables : RelatedBinding instance IsVariable IsVariable
    Instances : (p : Instance) → IsOfText w p → RelatedBinding instance (IsInstance p) (IsInstance p)
    Deeper : (p : Instance) → RelatedBinding instance (IsInstance p) IsNothing
    Defines : (l t : Expr) → ReadAlike w instance l t → RelatedBinding instance (IsDefine l) (IsDefine t)
    Formals : (p : Instance) (l t : Expr) → IsOfText w p → ReadAlike w p l t → KeepsAlias w p l t → RelatedBinding instance (IsFormal p l) (IsFormal p t)
    Nothing : RelatedBinding instance IsNothing IsNothing

  pub record HasRelatedBinding (qualified : QualifiedName Instance) (t : Binding Instance) : Type 0 where
    pub binding : Binding Instance
    pub bound : binding_at w.lift qualified ≡ Some binding
    pub related : RelatedBinding qualified.instance binding t

  module _ (names : AreRelatedNames w) where
    inner_related : (instance : Instance) (name called : Name) (ts : List Expr) → IsOfText w instance → entity_at w.text instance name ≡ Some (Inner called ts) → (b c : Bool) → goes_deeper w.lift instance ≡ b → goes_deeper w.text instance ≡ c
        → RelatedBinding instance (if b then IsInstance (Within instance name called) else IsNothing) (if c then IsInstance (Within instance name called) else IsNothing)
    inner_related instance name called ts g e true true i j =
        let q : QualifiedName Instance = record { instance = instance; name = name } in
        let h : binding_at w.text q ≡ Some (IsInstance (Within instance name called)) =
        (ap (λ (o : Option Entity). and_then o (λ m. Some (binding_in w.text instance name m))) e ∙ ap (λ (b : Bool). Some (if b then IsInstance (Within instance name called) else IsNothing)) j) in
        Instances (Within instance name called) (contains_in (instances w.text) (Within instance name called) (bound w.text q (IsInstance (Within instance name called)) (in_of (instances w.text) instance g) h))
    inner_related instance name called ts g e true false i j = Deeper (Within instance name called)
    inner_related instance name called ts g e false false i j = Nothing
    inner_related instance name called ts g e false true i j = let more : length w.text.modules ≤ length w.lift.modules = names.modules in absurd (grind (arith, i, j, more))

    actual_related : (instance outer : Instance) (l t : Option Expr) → IsOfText w outer → RelatedActual w outer l t → RelatedBinding instance (elim l [ None ↦ IsNothing | Some a ↦ IsFormal outer a ]) (elim t [ None ↦ IsNothing | Some a ↦ IsFormal outer a ])
    actual_related instance outer l t g NoActual = Nothing
    actual_related instance outer l t g (BothActual x y p stays) = Formals outer x y g p stays

    formal_related : (instance outer : Instance) (ts : List Expr) (called : Name) (k : ℕ) (l t : Entity) → IsOfText w outer → RelatedEntity w outer l t → t ≡ Inner called ts → RelatedBinding instance (formal_by outer (Some l) (suc k)) (formal_by outer (Some t) k)
    formal_related instance outer ts called k l t g (BothVariable type) e = cc
    formal_related instance outer ts called k l t g (BothInner c path ls us named each) e = actual_related instance outer (slice_get ls k) (slice_get us k) g (each k)
    formal_related instance outer ts called k l t g (BothDefined x y p) e = cc
    formal_related instance outer ts called k l t g (BothFormal j) e = cc

    formals_related : (instance : Instance) → IsOfText w instance → (k : ℕ) → RelatedBinding instance (formal_at w.lift instance (suc k)) (formal_at w.text instance k)
    formals_related Main g k = Nothing
    formals_related (Within outer name called) g k =
        let i = in_of (instances w.text) (Within outer name called) g in
        let o = contains_in (instances w.text) outer (outer_in w.text outer name called i) in
        let d = declared_as w.text names.distinct outer name called i in
        let r = names.entities outer o name (Inner called d.actuals) d.entity in
        rw r.declared (rw d.entity (formal_related (Within outer name called) outer d.actuals called k r.entity (Inner called d.actuals) o r.related refl))

    entity_related : (instance : Instance) (name : Name) (l t : Entity) → IsOfText w instance → entity_at w.text instance name ≡ Some t → RelatedEntity w instance l t → RelatedBinding instance (binding_in w.lift instance name l) (binding_in w.text instance name t)
    entity_related instance name l t g e (BothVariable type) = Variables
    entity_related instance name l t g e (BothInner called path ls ts named each) = inner_related instance name called ts g e (goes_deeper w.lift instance) (goes_deeper w.text instance) refl refl
    entity_related instance name l t g e (BothDefined x y p) = Defines x y p
    entity_related instance name l t g e (BothFormal k) = formals_related instance g k

    -- each name of an instance of the text has a related binding in the lift
    pub bindings_related : (qualified : QualifiedName Instance) → IsOfText w qualified.instance → (t : Binding Instance) → binding_at w.text qualified ≡ Some t → HasRelatedBinding qualified t
    bindings_related qualified g t e = at (entity_at w.text qualified.instance qualified.name) refl e
      where
        at : (o : Option Entity) → entity_at w.text qualified.instance qualified.name ≡ o → and_then o (λ m. Some (binding_in w.text qualified.instance qualified.name m)) ≡ Some t → HasRelatedBinding qualified t
        at None i e = cc
        at (Some m) i e =
            let r = names.entities qualified.instance g qualified.name m i in
            let j : binding_in w.text qualified.instance qualified.name m ≡ t = (cc) in
            record {
              binding = binding_in w.lift qualified.instance qualified.name r.entity;
              bound = ap (λ (o : Option Entity). and_then o (λ m. Some (binding_in w.lift qualified.instance qualified.name m))) r.declared;
              related = subst (RelatedBinding qualified.instance (binding_in w.lift qualified.instance qualified.name r.entity)) j (entity_related qualified.instance qualified.name r.entity m g i r.related);
            }
