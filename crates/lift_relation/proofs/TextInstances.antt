-- The instances of a program whose modules declare no name twice: each is declared by the entity of its name.
use Rattle.std.proofs.Common.{◌≡◌, ℕ, zero, suc, ◌+◌, ◌<◌, ◌⊎◌, inl, inr, Bool, true, false, cond, List, [], ◌∷◌, length, Some, refl, sym, ap, ◌∙◌, subst, arith}
use Rattle.std.specs.List.{Contains}
use Rattle.smv_ast.specs.declared.syntax.Expr.{Expr}
use Rattle.smv_ast.specs.declared.program.Program.{Program}
use Rattle.smv_meaning.specs.Value.{Name}
use Rattle.smv_meaning.specs.Instances.{Entity, Variable, Inner, Defined, Formal, Entry, Instance, Main, Within, entries, module_at, entity_at, goes_deeper, inner_of, inner_instances, subtree, instances}
use Rattle.smv_meaning.proofs.MemberLemmas.{In, in_of, from_flat, inner_is, outer_in}
use Rattle.lift_relation.specs.RelatedNames.{AreDistinct}

pub contains_in : {A : Type 0} (xs : List A) (x : A) → In x xs → Contains xs x
contains_in [] x i = absurd i
contains_in (y ∷ ys) x (inl e) = (0, omega arith, e)
contains_in (y ∷ ys) x (inr i) = let c = contains_in ys x i in (suc c.0, omega (arith, c.1), c.2)

module _ (program : Program) where
  top_in : (d : ℕ) (top : Instance) → In top (subtree d program top)
  top_in zero top = inl refl
  top_in (suc d) top = inl refl

  pub main_in : In Main (instances program)
  main_in = top_in (length program.modules) Main

  -- an instance below another one is declared by its outer instance
  declared_below : (d : ℕ) (top outer : Instance) (name called : Name) → In (Within outer name called) (subtree d program top) → (Within outer name called ≡ top) ⊎ In (Within outer name called) (inner_instances program outer)
  declared_below zero top outer name called (inl e) = inl (sym e)
  declared_below zero top outer name called (inr j) = absurd j
  declared_below (suc d) top outer name called (inl e) = inl (sym e)
  declared_below (suc d) top outer name called (inr j) =
      let r = from_flat (subtree d program) (inner_instances program top) (Within outer name called) j in
      let c = inner_is program top r.0 r.1 in
      elim (declared_below d r.0 outer name called r.2) [
        | inl e ↦
            let f : Within outer name called ≡ Within top c.name c.called = e ∙ c.is in
            let g : top ≡ outer = (cc) in
            inr (subst (λ (x : Instance). In (Within outer name called) (inner_instances program x)) g (subst (λ (x : Instance). In x (inner_instances program top)) (sym e) r.1))
        | inr k ↦ inr k
      ]

  declared_in : (outer : Instance) (name called : Name) → In (Within outer name called) (instances program) → In (Within outer name called) (inner_instances program outer)
  declared_in outer name called i = elim (declared_below (length program.modules) Main outer name called i) [ inl e ↦ cc | inr k ↦ k ]

  -- the entity of the name of an instance
  pub record IsDeclaredAs (outer : Instance) (name called : Name) : Type 0 where
    pub actuals : List Expr
    pub entity : entity_at program outer name ≡ Some (Inner called actuals)

  module _ (distinct : AreDistinct program) where
    entry_declares : (outer : Instance) (name called : Name) (e : Entry) → entity_at program outer e.name ≡ Some e.entity → (m : Entity) → e.entity ≡ m → In (Within outer name called) (inner_of program outer e.name m) → IsDeclaredAs outer name called
    entry_declares outer name called e h (Variable t) f i = absurd i
    entry_declares outer name called e h (Defined right) f i = absurd i
    entry_declares outer name called e h (Formal k) f i = absurd i
    entry_declares outer name called e h (Inner other actuals) f i = at (goes_deeper program outer) i
      where
        at : (b : Bool) → In (Within outer name called) (cond b (Within outer e.name other ∷ []) []) → IsDeclaredAs outer name called
        at true (inl g) =
            let n : e.name ≡ name = (cc) in
            let c : other ≡ called = (cc) in
            record {
              actuals = actuals;
              entity = subst (λ (x : Name). entity_at program outer x ≡ Some (Inner called actuals)) n (subst (λ (x : Name). entity_at program outer e.name ≡ Some (Inner x actuals)) c (subst (λ (x : Entity). entity_at program outer e.name ≡ Some x) f h));
            }
        at true (inr j) = absurd j
        at false j = absurd j

    pub declared_as : (outer : Instance) (name called : Name) → In (Within outer name called) (instances program) → IsDeclaredAs outer name called
    declared_as outer name called i =
        let r = from_flat (λ e. inner_of program outer e.name e.entity) (entries (module_at program outer)) (Within outer name called) (declared_in outer name called i) in
        let o = outer_in program outer name called i in
        entry_declares outer name called r.0 (distinct outer (contains_in (instances program) outer o) r.0 (contains_in (entries (module_at program outer)) r.0 r.1)) r.0.entity refl r.2
