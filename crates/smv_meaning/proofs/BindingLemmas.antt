-- The bindings of the names of instances, and the instances that paths resolve to.
use Rattle.std.proofs.Common.{◌≡◌, ℕ, inl, Bool, true, false, cond, List, [], ◌∷◌, ◌++◌, Option, Some, None, refl, subst}
use Rattle.std.specs.Prelude.{is_some, slice_get}
use Rattle.std.specs.Option.{option_map}
use Rattle.std.specs.List.{flat_map}
use Rattle.smv_ast.specs.declared.syntax.Expr.{Expr}
use Rattle.smv_ast.specs.declared.syntax.Expr.TheVariants as expr
use Rattle.smv_ast.specs.declared.syntax.SmvType.{SmvType}
use Rattle.smv_ast.specs.declared.program.Program.{Program}
use Rattle.smv_meaning.specs.Value.{Name, and_then}
use Rattle.fixpoint.proofs.Laws.{fixpoint_satisfies}
use Rattle.smv_meaning.specs.Paths.{QualifiedName, Binding, Aliases, IsVariable, IsInstance, IsDefine, IsFormal, IsNothing, walked, aliased, alias_of_binding, alias_step, aliases, resolve}
use Rattle.smv_meaning.specs.Instances.{Entity, Variable, Inner, Defined, Formal, Instance, Main, Within, entries, module_at, entity_at, inner_of, goes_deeper, actuals_of, formal_at, binding_in, binding_at, instances, path_of}
use Rattle.smv_meaning.specs.Runs.{VariableAt, variable_of, variables}
use Rattle.smv_meaning.specs.declared.table.InstanceTable.{InstanceTable}
use Rattle.smv_meaning.specs.InstanceTable.{binding_view}
use Rattle.smv_meaning.specs.Slots.{slot_of, binding_in as binding_by_slot}
use Rattle.smv_meaning.proofs.MemberLemmas.{In, in_flat, in_get, declares, inner_in, outer_in}

pub then_some : {A B : Type 0} (o : Option A) (f : A → Option B) (b : B) → and_then o f ≡ Some b → (a : A) × (o ≡ Some a) × (f a ≡ Some b)
then_some None f b e = cc
then_some (Some a) f b e = (a, refl, e)

module _ (program : Program) where
  -- a variable of an instance is one of the variables of the program
  pub variable_in : (instance : Instance) (name : Name) (t : SmvType) → In instance (instances program) → entity_at program instance name ≡ Some (Variable t) → In (record { path = path_of instance ++ name ∷ []; type = t }) (variables program)
  variable_in instance name t i e =
      let d = declares (entries (module_at program instance)) name (Variable t) e in
      let v : In (record { path = path_of instance ++ name ∷ []; type = t }) (variable_of instance d.entry.name d.entry.entity) =
      rw (d.means, d.named) (inl refl) in
      in_flat (λ instance. flat_map (λ e. variable_of instance e.name e.entity) (entries (module_at program instance))) (instances program) instance (record { path = path_of instance ++ name ∷ []; type = t }) i
      (in_flat (λ e. variable_of instance e.name e.entity) (entries (module_at program instance)) d.entry (record { path = path_of instance ++ name ∷ []; type = t }) d.among v)

  -- ---- bindings of names

  -- an actual of a declaration in an instance of the program
  pub record IsActualOf (outer : Instance) (actual : Expr) : Type 0 where
    pub there : In outer (instances program)
    pub name : Name
    pub called : Name
    pub actuals : List Expr
    pub declared : entity_at program outer name ≡ Some (Inner called actuals)
    pub among : In actual actuals

  -- what the binding of a name says of the name's entity
  abbrev pub IsBound : QualifiedName Instance → Binding Instance → Type 0
  IsBound q IsVariable = (t : SmvType) × (entity_at program q.instance q.name ≡ Some (Variable t))
  IsBound q (IsInstance c) = In c (instances program)
  IsBound q (IsDefine right) = entity_at program q.instance q.name ≡ Some (Defined right)
  IsBound q (IsFormal outer actual) = IsActualOf outer actual
  IsBound q IsNothing = Unit {0}

  inner_bound : (q : QualifiedName Instance) (called : Name) (actuals : List Expr) → In q.instance (instances program) → entity_at program q.instance q.name ≡ Some (Inner called actuals) → (b : Bool) → goes_deeper program q.instance ≡ b
      → IsBound q (cond b (IsInstance (Within q.instance q.name called)) IsNothing)
  inner_bound q called actuals i e true deeper =
      let d = declares (entries (module_at program q.instance)) q.name (Inner called actuals) e in
      let v : In (Within q.instance q.name called) (inner_of program q.instance d.entry.name d.entry.entity) = rw (d.means, d.named, deeper) (inl refl) in
      inner_in program q.instance (Within q.instance q.name called) i (in_flat (λ e. inner_of program q.instance e.name e.entity) (entries (module_at program q.instance)) d.entry (Within q.instance q.name called) d.among v)
  inner_bound q called actuals i e false deeper = tt

  formal_bound : (q : QualifiedName Instance) (outer : Instance) (name : Name) (k : ℕ) → In outer (instances program) → (o : Option Entity) → entity_at program outer name ≡ o → (a : Option Expr) → slice_get (actuals_of o) k ≡ a
      → IsBound q (elim a as (λ x. Binding Instance) [ None ↦ IsNothing | Some a ↦ IsFormal outer a ])
  formal_bound q outer name k i o e None g = tt
  formal_bound q outer name k i None e (Some a) g = cc
  formal_bound q outer name k i (Some (Variable t)) e (Some a) g = cc
  formal_bound q outer name k i (Some (Inner called actuals)) e (Some a) g = record { there = i; name = name; called = called; actuals = actuals; declared = e; among = in_get actuals k a g }
  formal_bound q outer name k i (Some (Defined right)) e (Some a) g = cc
  formal_bound q outer name k i (Some (Formal j)) e (Some a) g = cc

  entity_bound : (q : QualifiedName Instance) → In q.instance (instances program) → (m : Entity) → entity_at program q.instance q.name ≡ Some m → IsBound q (binding_in program q.instance q.name m)
  entity_bound q i (Variable t) e = (t, e)
  entity_bound q i (Inner called actuals) e = inner_bound q called actuals i e (goes_deeper program q.instance) refl
  entity_bound q i (Defined right) e = e
  entity_bound q i (Formal k) e = at q.instance i
    where
      at : (instance : Instance) → In instance (instances program) → IsBound q (formal_at program instance k)
      at Main i = tt
      at (Within outer name called) i = formal_bound q outer name k (outer_in program outer name called i) (entity_at program outer name) refl (slice_get (actuals_of (entity_at program outer name)) k) refl

  pub bound : (q : QualifiedName Instance) (x : Binding Instance) → In q.instance (instances program) → binding_at program q ≡ Some x → IsBound q x
  bound q x i h = at (entity_at program q.instance q.name) refl h
    where
      at : (o : Option Entity) → entity_at program q.instance q.name ≡ o → and_then o (λ m. Some (binding_in program q.instance q.name m)) ≡ Some x → IsBound q x
      at None e h = cc
      at (Some m) e h = let g : binding_in program q.instance q.name m ≡ x = (cc) in subst (IsBound q) g (entity_bound q i m e)

  -- a name that is bound as a variable of an instance is one of the variables of the program
  pub bound_variable : (q : QualifiedName Instance) → In q.instance (instances program) → binding_at program q ≡ Some IsVariable → (x : VariableAt) × In x (variables program) × (x.path ≡ path_of q.instance ++ q.name ∷ [])
  bound_variable q i h = let t = bound q IsVariable i h in (_, variable_in q.instance q.name t.0 i t.1, refl)

  -- the actual of a formal is read in an instance of the program
  pub formal_there : (q : QualifiedName Instance) (outer : Instance) (actual : Expr) → In q.instance (instances program) → binding_at program q ≡ Some (IsFormal outer actual) → In outer (instances program)
  formal_there q outer actual i h = (bound q (IsFormal outer actual) i h).there

  -- ---- resolution of paths

  -- the aliases of names of instances of the program are instances of the program
  abbrev StayIn : Aliases Instance → Type 0
  StayIn s = (q : QualifiedName Instance) (p : Instance) → s q ≡ Some p → In q.instance (instances program) → In p (instances program)

  walked_in : (s : Aliases Instance) → StayIn s → (path : List Name) (instance p : Instance) → walked s instance path ≡ Some p → In instance (instances program) → In p (instances program)
  walked_in s h [] instance p e i = let f : instance ≡ p = (cc) in subst (λ (x : Instance). In x (instances program)) f i
  walked_in s h (name ∷ more) instance p e i =
      let q : QualifiedName Instance = record { instance = instance; name = name } in
      let t = then_some (s q) (λ p. walked s p more) p e in
      walked_in s h more t.0 p t.2 (h q t.0 t.1 i)

  actual_in : (s : Aliases Instance) → StayIn s → (e : Expr) (instance p : Instance) → aliased s instance e ≡ Some p → In instance (instances program) → In p (instances program)
  actual_in s h (expr.Name path) instance p e i = walked_in s h path.names instance p e i
  actual_in s h _ instance p e i = cc

  alias_in : (s : Aliases Instance) → StayIn s → StayIn (alias_step (binding_at program) s)
  alias_in s h q p e i = let t = then_some (binding_at program q) (alias_of_binding s) p e in at t.0 t.1 t.2
    where
      at : (m : Binding Instance) → binding_at program q ≡ Some m → alias_of_binding s m ≡ Some p → In p (instances program)
      at IsVariable b f = cc
      at (IsInstance c) b f = let g : c ≡ p = (cc) in subst (λ (x : Instance). In x (instances program)) g (bound q (IsInstance c) i b)
      at (IsDefine right) b f = cc
      at (IsFormal outer actual) b f = actual_in s h actual outer p f (bound q (IsFormal outer actual) i b).there
      at IsNothing b f = cc

  aliases_in : StayIn (aliases (binding_at program))
  aliases_in = fixpoint_satisfies (λ (q : QualifiedName Instance) (p : Instance). In q.instance (instances program) → In p (instances program)) (alias_step (binding_at program)) alias_in

  -- paths of an instance resolve to names of instances
  pub resolves_in : (path : List Name) (instance : Instance) (qualified : QualifiedName Instance) → In instance (instances program) → resolve (binding_at program) instance path ≡ Some qualified → In qualified.instance (instances program)
  resolves_in [] instance qualified i e = cc
  resolves_in (name ∷ []) instance qualified i e =
      let t = then_some (binding_at program (record { instance = instance; name = name })) (λ m. Some (record { instance = instance; name = name })) qualified e in
      let f : record { instance = instance; name = name } ≡ qualified = (cc) in
      subst (λ (x : QualifiedName Instance). In x.instance (instances program)) f i
  resolves_in (name ∷ next ∷ more) instance qualified i e =
      let t = then_some (aliases (binding_at program) (record { instance = instance; name = name })) (λ p. resolve (binding_at program) p (next ∷ more)) qualified e in
      resolves_in (next ∷ more) t.0 qualified (aliases_in (record { instance = instance; name = name }) t.0 t.1 i) t.2

-- ---- by number

pub some_mapped : {A B : Type 0} (f : A → B) (o : Option A) → is_some (option_map f o) ≡ is_some o
some_mapped f None = refl
some_mapped f (Some a) = refl

-- the name that a path resolves to has a slot
pub resolve_slot_is : (table : InstanceTable) (path : List Name) (row : ℕ) (qualified : QualifiedName ℕ) → resolve (binding_by_slot table) row path ≡ Some qualified → (k : ℕ) × (slot_of table qualified ≡ Some k)
resolve_slot_is table [] row qualified e = cc
resolve_slot_is table (name ∷ []) row qualified e =
    let q : QualifiedName ℕ = record { instance = row; name = name } in
    let m = then_some (binding_by_slot table q) (λ m. Some q) qualified e in
    let k = then_some (slot_of table q) (λ k. and_then (slice_get table.slots k) (λ slot. Some (binding_view slot.binding))) m.0 m.1 in
    let same : q ≡ qualified = (let f : Some q ≡ Some qualified = m.2 in cc) in
    (k.0, subst (λ (x : QualifiedName ℕ). slot_of table x ≡ Some k.0) same k.1)
resolve_slot_is table (name ∷ next ∷ more) row qualified e =
    let p = then_some (aliases (binding_by_slot table) (record { instance = row; name = name })) (λ p. resolve (binding_by_slot table) p (next ∷ more)) qualified e in
    resolve_slot_is table (next ∷ more) p.0 qualified p.2
