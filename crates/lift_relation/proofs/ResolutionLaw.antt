-- Paths of the text resolve in the lift where they resolve in the text, and to the same declaration.
use Rattle.std.proofs.Common.{◌≡◌, ℕ, zero, suc, ◌≤◌, List, [], ◌∷◌, ◌++◌, Option, Some, None, refl, sym, ◌∙◌, subst, arith}
use Rattle.smv_ast.specs.declared.syntax.Path.{Path}
use Rattle.smv_ast.specs.declared.syntax.Expr.{Expr}
use Rattle.smv_ast.specs.declared.syntax.Expr.TheVariants as expr
use Rattle.fixpoint.specs.OptionOrder.{Le}
use Rattle.fixpoint.specs.Fixpoints.{Under, known, most}
use Rattle.fixpoint.proofs.Laws.{known_fixpoint}
use Rattle.smv_meaning.specs.Value.{Name, and_then}
use Rattle.smv_meaning.specs.Paths.{QualifiedName, Binding, Aliases, IsFormal, walked, aliased, alias_of_binding, alias_step, aliases, resolve}
use Rattle.smv_meaning.specs.Monotone.{le_refl}
use Rattle.smv_meaning.specs.StepMonotone.{alias_of_binding_monotone, alias_step_monotone}
use Rattle.smv_meaning.specs.Instances.{Instance, binding_at}
use Rattle.lift_relation.specs.Weaving.{Weaving, IsOfText}
use Rattle.lift_relation.specs.RelatedNames.{KeepsAlias, NoAlias, SamePath, AreRelatedNames}
use Rattle.lift_relation.proofs.BindingLaw.{RelatedBinding, Variables, Instances, Deeper, Defines, Formals, Nothing, bindings_related}

module _ (w : Weaving) (names : AreRelatedNames w) where
  abbrev text_aliases : Aliases Instance
  text_aliases = aliases (binding_at w.text)

  -- an alias of a name of the text is one in the lift, and an instance of the text
  abbrev Keeps : Aliases Instance → Aliases Instance → Type 0
  Keeps s u = (qualified : QualifiedName Instance) → IsOfText w qualified.instance → (p : Instance) → s qualified ≡ Some p → (u qualified ≡ Some p) × IsOfText w p

  walked_kept : (s u : Aliases Instance) → Keeps s u → (path : List Name) (instance : Instance) → IsOfText w instance → (p : Instance) → walked s instance path ≡ Some p → (walked u instance path ≡ Some p) × IsOfText w p
  walked_kept s u h [] instance g p e = let i : instance ≡ p = (cc) in (e, subst (IsOfText w) i g)
  walked_kept s u h (name ∷ more) instance g p e = at (s (record { instance = instance; name = name })) refl (walked_kept s u h more) e
    where
      at : (o : Option Instance) → s (record { instance = instance; name = name }) ≡ o → ((q : Instance) → IsOfText w q → (p : Instance) → walked s q more ≡ Some p → (walked u q more ≡ Some p) × IsOfText w p) → and_then o (λ q. walked s q more) ≡ Some p → (walked u instance (name ∷ more) ≡ Some p) × IsOfText w p
      at None i again e = cc
      at (Some q) i again e = let b = h (record { instance = instance; name = name }) g q i in rw b.0 (again q b.1 p e)

  actual_kept : (s u : Aliases Instance) → Keeps s u → (instance : Instance) → IsOfText w instance → (x : Expr) (p : Instance) → aliased s instance x ≡ Some p → (aliased u instance x ≡ Some p) × IsOfText w p
  actual_kept s u h instance g (expr.Name path) p e = walked_kept s u h path.names instance g p e
  actual_kept s u h instance g _ p e = cc

  -- an actual of the text that denotes an instance after some rounds denotes it in the lift
  actual_stays : (s : Aliases Instance) → Under s text_aliases → (instance : Instance) (l t : Expr) → KeepsAlias w instance l t → Le (aliased s instance t) (aliased s instance l)
  actual_stays s f instance l t (NoAlias l' t' none) p e =
      let m = alias_of_binding_monotone (binding_at w.text) s text_aliases f (IsFormal instance t) p e in
      let c : None ≡ Some p = (sym none ∙ m) in cc
  actual_stays s f instance l t (SamePath a b same) p e = subst (λ (path : List Name). Le (walked s instance path) (walked s instance a.names)) same (le_refl _) p e

  alias_kept : (s u : Aliases Instance) (instance : Instance) (l t : Binding Instance) → Keeps s u → Under s text_aliases → RelatedBinding w instance l t → (p : Instance) → alias_of_binding s t ≡ Some p → (alias_of_binding u l ≡ Some p) × IsOfText w p
  alias_kept s u instance l t h f Variables p e = cc
  alias_kept s u instance l t h f (Instances q g) p e = let i : q ≡ p = (cc) in (e, subst (IsOfText w) i g)
  alias_kept s u instance l t h f (Deeper q) p e = cc
  alias_kept s u instance l t h f (Defines x y k) p e = cc
  alias_kept s u instance l t h f (Formals q x y g k stays) p e = actual_kept s u h q g x p (actual_stays s f q x y stays p e)
  alias_kept s u instance l t h f Nothing p e = cc

  step_kept : (s u : Aliases Instance) → Keeps s u → Under s text_aliases → Keeps (alias_step (binding_at w.text) s) (alias_step (binding_at w.lift) u)
  step_kept s u h f qualified g p e = at (binding_at w.text qualified) refl e
    where
      at : (o : Option (Binding Instance)) → binding_at w.text qualified ≡ o → and_then o (alias_of_binding s) ≡ Some p → (alias_step (binding_at w.lift) u qualified ≡ Some p) × IsOfText w p
      at None i e = cc
      at (Some t) i e = let b = bindings_related w names qualified g t i in rw b.bound (alias_kept s u qualified.instance b.binding t h f b.related p e)

  aliases_rounds : (n : ℕ) → n ≤ most → Keeps (known (alias_step (binding_at w.text)) n) (known (alias_step (binding_at w.lift)) n)
  aliases_rounds zero below qualified g p e = cc
  aliases_rounds (suc n) below qualified g p e =
      step_kept _ _ (aliases_rounds n (omega (arith, below))) (known_fixpoint (alias_step (binding_at w.text)) (alias_step_monotone (binding_at w.text)) n (omega (arith, below))) qualified g p e

  pub aliases_kept : Keeps text_aliases (aliases (binding_at w.lift))
  aliases_kept = aliases_rounds most (omega arith)

  -- a name that the text declares in one of its instances
  pub record IsDeclared (qualified : QualifiedName Instance) : Type 0 where
    pub there : IsOfText w qualified.instance
    pub binding : Binding Instance
    pub bound : binding_at w.text qualified ≡ Some binding

  -- a path resolves in the lift as in the text
  pub resolves_kept : (instance : Instance) → IsOfText w instance → (path : List Name) (qualified : QualifiedName Instance) → resolve (binding_at w.text) instance path ≡ Some qualified → (resolve (binding_at w.lift) instance path ≡ Some qualified) × IsDeclared qualified
  resolves_kept instance g [] qualified e = cc
  resolves_kept instance g (name ∷ []) qualified e = at (binding_at w.text (record { instance = instance; name = name })) refl e
    where
      at : (o : Option (Binding Instance)) → binding_at w.text (record { instance = instance; name = name }) ≡ o → and_then o (λ m. Some (record { instance = instance; name = name })) ≡ Some qualified → (resolve (binding_at w.lift) instance (name ∷ []) ≡ Some qualified) × IsDeclared qualified
      at None i e = cc
      at (Some t) i e =
          let b = bindings_related w names (record { instance = instance; name = name }) g t i in
          let j : record { instance = instance; name = name } ≡ qualified = (cc) in
          rw b.bound (e, subst IsDeclared j (record { there = g; binding = t; bound = i }))
  resolves_kept instance g (name ∷ next ∷ more) qualified e = at (text_aliases (record { instance = instance; name = name })) refl (λ p h. resolves_kept p h (next ∷ more) qualified) e
    where
      at : (o : Option Instance) → text_aliases (record { instance = instance; name = name }) ≡ o → ((p : Instance) → IsOfText w p → resolve (binding_at w.text) p (next ∷ more) ≡ Some qualified → (resolve (binding_at w.lift) p (next ∷ more) ≡ Some qualified) × IsDeclared qualified)
          → and_then o (λ p. resolve (binding_at w.text) p (next ∷ more)) ≡ Some qualified → (resolve (binding_at w.lift) instance (name ∷ next ∷ more) ≡ Some qualified) × IsDeclared qualified
      at None i again e = cc
      at (Some p) i again e = let b = aliases_kept (record { instance = instance; name = name }) g p i in rw b.0 (again p b.1 e)
