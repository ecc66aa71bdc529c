-- Where no rule is broken, each name of each instance that has a kind has a value of its sort.
use Rattle.std.proofs.Common.{◌≡◌, ℕ, zero, suc, ◌≤◌, inl, inr, Bool, true, false, List, [], ◌∷◌, ◌++◌, Option, Some, None, Result, Ok, Err, IfOk, refl, sym, ap, ◌∙◌, subst, arith}
use Rattle.std.specs.Prelude.{not}
use Rattle.std.specs.List.{Contains}
use Rattle.std.specs.Option.{is_some}
use Rattle.smv_ast.specs.declared.syntax.Path.{Path}
use Rattle.smv_ast.specs.declared.syntax.Expr.{Expr, Expr-F, roll-Expr, fold-roll-Expr}
use Rattle.smv_ast.specs.declared.syntax.Expr as X
use Rattle.smv_ast.specs.declared.syntax.Expr.TheVariants as expr
use denote.Hole.Carrier.{roll}
use Rattle.smv_ast.specs.declared.program.Program.{Program}
use Rattle.smv_ast.specs.declared.fault.Fault.{Fault}
use Rattle.smv_meaning.specs.Faults.{ReportsFirst}
use Rattle.smv_meaning.specs.declared.value.Value.{Value}
use Rattle.smv_meaning.specs.declared.value.Value.TheVariants.{Symbol as Word}
use Rattle.smv_meaning.specs.Value.{Name, and_then, truth, all_values}
use Rattle.fixpoint.specs.Fixpoints.{Under, known, most}
use Rattle.fixpoint.proofs.Laws.{known_fixpoint, fixpoint_unfolds}
use Rattle.smv_meaning.specs.Monotone.{then_le}
use Rattle.smv_meaning.specs.StepMonotone.{alias_step_monotone}
use Rattle.smv_meaning.specs.Paths.{QualifiedName, Binding, Aliases, IsVariable, IsInstance, IsDefine, IsFormal, IsNothing, walked, aliased, alias_of_binding, alias_step, aliases, resolve}
use Rattle.smv_meaning.specs.Denotations.{Environment}
use Rattle.smv_meaning.specs.Instances.{Inner, Defined, Instance, binding_at, instances, path_of}
use Rattle.smv_meaning.specs.Items.{Item, Declares, Assigns, Defines, Constrains, declared_exprs}
use Rattle.smv_meaning.specs.ItemIndex.{items_at}
use Rattle.smv_meaning.specs.Values.{State, Valuation, is_symbol, symbol_of, value_at_path, environment_by, read_by, value_of_binding, valuation_step, variable_in, environment_in, value_in, allows_in}
use Rattle.smv_meaning.specs.Runs.{IsState, variables}
use Rattle.smv_kinds.specs.declared.sorts.Sort.{Sort}
use Rattle.smv_kinds.specs.declared.sorts.Sort.TheVariants.{Boolean, Number, Symbol, Alias, Nothing}
use Rattle.smv_kinds.specs.declared.facts.Facts.{Facts}
use Rattle.smv_kinds.specs.Sorts.{has_kind, is_small, defined_sort, type_sort}
use Rattle.smv_kinds.specs.Facts.{SortEnvironment, facts_of, name_facts, ChoiceFacts, BranchFacts, choice_layer, expr_layer, branch_layer}
use Rattle.smv_kinds.specs.SortsOfNames.{Sorts, variable_sort, word_sort, symbol_sort, sort_at, sorting_by, sort_of, sort_step, variable_at, sorting_in, facts_in, is_instance}
use Rattle.smv_kinds.specs.Monotone.{steady, at_path_monotone, sort_of_monotone}
use Rattle.smv_kinds.specs.Rules.{kinds_fault}
use Rattle.smv_kinds.specs.Parts.{parts_below}
use Rattle.smv_kinds.specs.Soundness.{Fits, FitsKnown, IsKept, Meets, Allows, AreShaped, HasValues, IsDefined, IsSound, shape_of, value_expressions}
use Rattle.smv_kinds.proofs.SoundLemmas.{Agrees, sound}
use Rattle.smv_kinds.proofs.TypeLemmas.{type_fits}
use Rattle.smv_kinds.proofs.InnerLemmas.{Kept, part_kept}
use Rattle.smv_meaning.proofs.MemberLemmas.{In, in_of, all_in, from_filter}
use Rattle.smv_meaning.proofs.BindingLemmas.{then_some, variable_in as variable_among, bound, resolves_in}
use Rattle.smv_kinds.proofs.ItemLemmas.{PlainKept, ActualKept, ItemKept, item_keeps, entity_keeps}

not_both : (b : Bool) → not b ≡ true → b ≡ true → ⊥
not_both true h k = cc
not_both false h k = cc

-- the facts of a path
pub name_is : (on : SortEnvironment) (path : Path) → facts_of on (expr.Name path) ≡ name_facts (on path.names)
unfolding X.roll-Expr roll
name_is on path = fold-roll-Expr ChoiceFacts Facts BranchFacts choice_layer (expr_layer on) branch_layer (Expr-F.Name path)

module _ (program : Program) where
  abbrev by_name : Sorts Instance → QualifiedName Instance → Binding Instance → Option Sort
  by_name = sort_of (binding_at program) (variable_at program) (symbol_sort program)

  -- the sorts of names and of paths after so many iterations
  abbrev sorted : ℕ → Sorts Instance
  sorted = known (sort_step (binding_at program) (variable_at program) (symbol_sort program))

  abbrev sorting : ℕ → Instance → SortEnvironment
  sorting t = sorting_by (binding_at program) (variable_at program) (symbol_sort program) (sorted t)

  sort_monotone : (s t : Sorts Instance) → Under s t → Under (sort_step (binding_at program) (variable_at program) (symbol_sort program) s) (sort_step (binding_at program) (variable_at program) (symbol_sort program) t)
  sort_monotone s t u qualified = then_le (binding_at program qualified) (binding_at program qualified) (by_name s qualified) (by_name t qualified) (λ m e. e) (sort_of_monotone (binding_at program) (variable_at program) (symbol_sort program) s t u qualified)

  sorting_under : (t : ℕ) (instance : Instance) → t ≤ most → Under (sorting t instance) (sorting most instance)
  sorting_under t instance h path = at_path_monotone (binding_at program) (variable_at program) (symbol_sort program) (sorted t) (sorted most) (known_fixpoint _ sort_monotone t h) path (resolve (binding_at program) instance path)

  -- ---- aliases of instances have no kind

  abbrev alias : Aliases Instance
  alias = aliases (binding_at program)

  alias_there : (q : QualifiedName Instance) (p : Instance) → alias q ≡ Some p → (m : Binding Instance) × (binding_at program q ≡ Some m) × (alias_of_binding alias m ≡ Some p)
  alias_there q p e = then_some (binding_at program q) (alias_of_binding alias) p (fixpoint_unfolds (alias_step (binding_at program)) (alias_step_monotone (binding_at program)) q p e)

  -- a path whose prefix resolves to an instance resolves to a name that is an alias of the last
  -- instance
  record ResolvesTo (instance : Instance) (path : List Name) (p : Instance) : Type 0 where
    qualified : QualifiedName Instance
    resolve_is : resolve (binding_at program) instance path ≡ Some qualified
    alias_is : alias qualified ≡ Some p

  walk_resolves : (tail : List Name) (instance : Instance) (name : Name) (p : Instance) → walked alias instance (name ∷ tail) ≡ Some p → ResolvesTo instance (name ∷ tail) p
  walk_resolves [] instance name p e =
      let q : QualifiedName Instance = record { instance = instance; name = name } in
      let t = then_some (alias q) (λ c. Some c) p e in
      let s : alias q ≡ Some p = t.1 ∙ t.2 in
      record { qualified = q; resolve_is = ap (λ (o : Option (Binding Instance)). and_then o (λ m. Some q)) (alias_there q p s).1; alias_is = s }
  walk_resolves (next ∷ more) instance name p e =
      let t = then_some (alias (record { instance = instance; name = name })) (λ c. walked alias c (next ∷ more)) p e in
      let r = walk_resolves more t.0 next p t.2 in
      record { qualified = r.qualified; resolve_is = ap (λ (o : Option Instance). and_then o (λ c. resolve (binding_at program) c (next ∷ more))) t.1 ∙ r.resolve_is; alias_is = r.alias_is }

  abbrev NoKind : ℕ → Type 0
  NoKind t = (q : QualifiedName Instance) (p : Instance) (x : Sort) → alias q ≡ Some p → sorted t q ≡ Some x → x ≡ Nothing

  expr_nothing : (t : ℕ) → NoKind t → (e : Expr) (instance p : Instance) (x : Sort) → aliased alias instance e ≡ Some p → (facts_of (sorting t instance) e).sort ≡ Some x → x ≡ Nothing
  expr_nothing t none (expr.Name path) instance p x e f = at path.names e (ap (λ (a : Facts). a.sort) (sym (name_is (sorting t instance) path)) ∙ f)
    where
      at : (path : List Name) → walked alias instance path ≡ Some p → sorting t instance path ≡ Some x → x ≡ Nothing
      at [] e f = cc
      at (name ∷ tail) e f =
          let r = walk_resolves tail instance name p e in
          none r.qualified p x r.alias_is (ap (sort_at (symbol_sort program) (sorted t) (name ∷ tail)) (sym r.resolve_is) ∙ f)
  expr_nothing t none _ instance p x e f = cc

  no_kind : (t : ℕ) → NoKind t
  no_kind zero q p x e f = cc
  no_kind (suc t) q p x e f =
      let a = alias_there q p e in
      let b = then_some (binding_at program q) (by_name (sorted t) q) x f in
      let same : a.0 ≡ b.0 = (let g : Some a.0 ≡ Some b.0 = sym a.1 ∙ b.1 in cc) in
      at a.0 a.2 (ap (by_name (sorted t) q) same ∙ b.2) (no_kind t)
    where
      at : (m : Binding Instance) → alias_of_binding alias m ≡ Some p → by_name (sorted t) q m ≡ Some x → NoKind t → x ≡ Nothing
      at IsVariable e f none = cc
      at (IsInstance c) e f none = cc
      at (IsDefine right) e f none = cc
      at (IsFormal outer actual) e f none = expr_nothing t none actual outer p x e f
      at IsNothing e f none = cc

  -- ---- definitions

  -- the sort of the right side of a definition
  defined_is : (o : Option Sort) (x : Sort) → defined_sort o ≡ Some x → (y : Sort) × (o ≡ Some y) × (defined_sort (Some y) ≡ Some x)
  defined_is None x e = cc
  defined_is (Some y) x e = (y, refl, e)

  -- a value of the right side is one of the definition
  fits_defined : (x y : Sort) (v : Value) → defined_sort (Some y) ≡ Some x → Fits y v → Fits x v
  fits_defined x Boolean v e h = let g : Boolean ≡ x = (cc) in subst (λ (z : Sort). Fits z v) g h
  fits_defined x (Number i) v e h = let g : Number i ≡ x = (cc) in subst (λ (z : Sort). Fits z v) g h
  fits_defined x Symbol v e h = let g : Symbol ≡ x = (cc) in subst (λ (z : Sort). Fits z v) g h
  fits_defined x Alias v e h = absurd h
  fits_defined x Nothing v e h = absurd h

  -- ---- values of names

  module _ (none : kinds_fault program ≡ None) (shaped : AreShaped program) where
    instance_of : (o : Option Instance) → is_some o ≡ true → (p : Instance) × (o ≡ Some p)
    instance_of None e = cc
    instance_of (Some p) e = (p, refl)

    module _ (s : State) (typed : IsState program s) where
      -- the values of names and of paths after so many iterations
      abbrev worthed : ℕ → Valuation Instance
      worthed = known (valuation_step (binding_at program) (symbol_of program) (variable_in s))

      abbrev environment : ℕ → Instance → Environment
      environment t instance = environment_by (binding_at program) (symbol_of program) (worthed t) instance

      -- a name that has a kind has a value of its sort
      abbrev HasValueOfSort : ℕ → Type 0
      HasValueOfSort t = (qualified : QualifiedName Instance) (x : Sort) → In qualified.instance (instances program) → sorted t qualified ≡ Some x → has_kind (Some x) ≡ true → is_small (Some x) ≡ true → (v : Value) × (worthed t qualified ≡ Some v) × Fits x v

      symbol_agrees : (path : List Name) → has_kind (symbol_sort program path) ≡ true → (v : Value) × (symbol_of program path ≡ Some v) × FitsKnown (symbol_sort program path) v
      symbol_agrees [] h = cc
      symbol_agrees (name ∷ []) h = at (is_symbol program name) h
        where
          at : (b : Bool) → has_kind (Some (word_sort b)) ≡ true → (v : Value) × (elim b [ true ↦ Some (Word name) | false ↦ None ] ≡ Some v) × FitsKnown (Some (word_sort b)) v
          at true h = (Word name, refl, (name, refl))
          at false h = cc
      symbol_agrees (name ∷ next ∷ more) h = cc

      agrees : (t : ℕ) → HasValueOfSort t → (instance : Instance) → In instance (instances program) → Agrees (sorting t instance) (environment t instance)
      agrees t has instance i path kind small = at (resolve (binding_at program) instance path) refl kind small
        where
          known_of : (qualified : QualifiedName Instance) → In qualified.instance (instances program) → (o : Option Sort) → sorted t qualified ≡ o → has_kind o ≡ true → is_small o ≡ true → (v : Value) × (worthed t qualified ≡ Some v) × FitsKnown o v
          known_of qualified i None e k m = cc
          known_of qualified i (Some x) e k m = has qualified x i e k m

          at : (o : Option (QualifiedName Instance)) → resolve (binding_at program) instance path ≡ o → has_kind (sort_at (symbol_sort program) (sorted t) path o) ≡ true → is_small (sort_at (symbol_sort program) (sorted t) path o) ≡ true →
              (v : Value) × (value_at_path (symbol_of program) (worthed t) path o ≡ Some v) × FitsKnown (sort_at (symbol_sort program) (sorted t) path o) v
          at None e k m = symbol_agrees path k
          at (Some qualified) e k m = known_of qualified (resolves_in program path instance qualified i e) (sorted t qualified) refl k m

      -- an expression that is read in its own instance
      read_alias : (t : ℕ) → t ≤ most → HasValueOfSort t → (instance : Instance) (e : Expr) (x : Sort) → In instance (instances program) → IsKept (facts_in program instance e) → (shape_of e).plain ≡ true → (facts_of (sorting t instance) e).sort ≡ Some x →
          (v : Value) × (read_by (binding_at program) (symbol_of program) (worthed t) instance e ≡ Some v) × Fits x v
      read_alias t h has instance e x i k p f =
          let same : facts_of (sorting t instance) e ≡ facts_in program instance e = steady (sorting t instance) (sorting most instance) (sorting_under t instance h) e (x, f) in
          let kept : IsKept (facts_of (sorting t instance) e) = subst IsKept (sym same) k in
          let a = agrees t has instance i in
          let m = (sound (sorting t instance) e).value (environment t instance) (environment t instance) a a kept p in
          (m.0, m.1, subst (λ (o : Option Sort). FitsKnown o m.0) f m.2.sort)

      actual_alias : (t : ℕ) → t ≤ most → HasValueOfSort t → (outer : Instance) (actual : Expr) (x : Sort) → In outer (instances program) → ActualKept program outer actual → has_kind (Some x) ≡ true → (facts_of (sorting t outer) actual).sort ≡ Some x →
          (v : Value) × (read_by (binding_at program) (symbol_of program) (worthed t) outer actual ≡ Some v) × Fits x v
      actual_alias t h has outer actual x i k kind f = elim k [
        | inl e ↦ let p = instance_of (aliased (aliases (binding_at program)) outer actual) e in
            let g = expr_nothing t (no_kind t) actual outer p.0 x p.1 f in
            absurd (never (subst (λ (y : Sort). has_kind (Some y) ≡ true) g kind))
        | inr e ↦ read_alias t h has outer actual x i e.kept e.plain f
      ]
        where
          never : false ≡ true → ⊥
          never e = cc

      variable_alias : (qualified : QualifiedName Instance) (x : Sort) → In qualified.instance (instances program) → binding_at program qualified ≡ Some IsVariable → variable_at program qualified ≡ x → is_small (Some x) ≡ true → (v : Value) × (variable_in s qualified ≡ Some v) × Fits x v
      variable_alias qualified x i m e small =
          let t = bound program qualified IsVariable i m in
          let among = variable_among program qualified.instance qualified.name t.0 i t.1 in
          let has = all_in (λ x. (v : Value) × (s x.path ≡ Some v) × Contains (all_values x.type) v) (variables program) (record { path = path_of qualified.instance ++ qualified.name ∷ []; type = t.0 }) typed among in
          let f : type_sort t.0 ≡ x = sym (ap variable_sort t.1) ∙ e in
          let small' : is_small (Some (type_sort t.0)) ≡ true = subst (λ (y : Sort). is_small (Some y) ≡ true) (sym f) small in
          (has.0, has.1, subst (λ (y : Sort). Fits y has.0) f (type_fits t.0 has.0 small' (in_of (all_values t.0) has.0 has.2)))

      instance_at : (t : ℕ) → t ≤ most → HasValueOfSort t
      instance_at zero h qualified x i e k m = cc
      instance_at (suc t) h qualified x i e k m =
          let a = then_some (binding_at program qualified) (by_name (sorted t) qualified) x e in
          let r = at a.0 a.1 a.2 (instance_at t (omega arith)) in
          (r.0, ap (λ (o : Option (Binding Instance)). and_then o (value_of_binding (binding_at program) (symbol_of program) (variable_in s) (worthed t) qualified)) a.1 ∙ r.1, r.2)
        where
          at : (n : Binding Instance) → binding_at program qualified ≡ Some n → by_name (sorted t) qualified n ≡ Some x → HasValueOfSort t → (v : Value) × (value_of_binding (binding_at program) (symbol_of program) (variable_in s) (worthed t) qualified n ≡ Some v) × Fits x v
          at IsVariable q f has = let g : variable_at program qualified ≡ x = (cc) in variable_alias qualified x i q g m
          at (IsInstance p) q f has = let g : Nothing ≡ x = (cc) in let k' = subst (λ (y : Sort). has_kind (Some y) ≡ true) (sym g) k in cc
          at (IsDefine right) q f has =
              let r = entity_keeps program none shaped qualified.instance qualified.name (Defined right) i (bound program qualified (IsDefine right) i q) in
              let y = defined_is (facts_of (sorting t qualified.instance) right).sort x f in
              let m = read_alias t (omega arith) has qualified.instance right y.0 i r.kept r.plain y.1 in
              (m.0, m.1, fits_defined x y.0 m.0 y.2 m.2)
          at (IsFormal outer actual) q f has =
              let o = bound program qualified (IsFormal outer actual) i q in
              actual_alias t (omega arith) has outer actual x o.there (entity_keeps program none shaped outer o.name (Inner o.called o.actuals) o.there o.declared actual o.among) k f
          at IsNothing q f has = let g : Nothing ≡ x = (cc) in let k' = subst (λ (y : Sort). has_kind (Some y) ≡ true) (sym g) k in cc

      pub state_agrees : (instance : Instance) → In instance (instances program) → Agrees (sorting_in program instance) (environment_in program s instance)
      state_agrees instance i = agrees most (instance_at most (omega arith)) instance i

    value_is : (instance : Instance) (e : Expr) (s t : State) → In instance (instances program) → IsState program s → IsState program t → IsKept (facts_in program instance e) → (shape_of e).plain ≡ true → Meets (facts_in program instance e) (value_in program s t instance e)
    value_is instance e s t i p q = (sound (sorting_in program instance) e).value (environment_in program s instance) (environment_in program t instance) (state_agrees s p instance i) (state_agrees t q instance i)

    allows_is : (instance : Instance) (e : Expr) (s t : State) → In instance (instances program) → IsState program s → IsState program t → IsKept (facts_in program instance e) → (shape_of e).free ≡ true → Allows (facts_in program instance e) (allows_in program s t instance e)
    allows_is instance e s t i p q = (sound (sorting_in program instance) e).allows (environment_in program s instance) (environment_in program t instance) (state_agrees s p instance i) (state_agrees t q instance i)

    abbrev IsKeptAt : Instance → Expr → Type 0
    IsKeptAt instance = Kept (sorting_in program instance)

    plain_at : (instance : Instance) (e : Expr) → PlainKept program instance e → IsKeptAt instance e
    plain_at instance e k = record { kept = k.kept; free = (sound (sorting_in program instance) e).loose k.plain }

    plain_value : (instance : Instance) (e : Expr) (s t : State) → In instance (instances program) → IsState program s → IsState program t → PlainKept program instance e → Meets (facts_in program instance e) (value_in program s t instance e)
    plain_value instance e s t i p q k = value_is instance e s t i p q k.kept k.plain

    -- the expressions of an item that have values keep the rules
    value_kept : (instance : Instance) (item : Item) (e : Expr) → ItemKept program instance item → In e (value_expressions (is_instance program instance) item) → IsKeptAt instance e
    value_kept instance (Declares name what at) e k i =
        let f = from_filter (λ x. not (is_instance program instance x)) (declared_exprs what) e i in
        elim (k e f.0) [ inl g ↦ absurd (not_both (is_instance program instance e) f.1 g) | inr g ↦ plain_at instance e g ]
    value_kept instance (Assigns left name right at) e k (inl same) = subst (IsKeptAt instance) same k
    value_kept instance (Assigns left name right at) e k (inr i) = absurd i
    value_kept instance (Defines name right at) e k (inl same) = subst (IsKeptAt instance) same (plain_at instance right k)
    value_kept instance (Defines name right at) e k (inr i) = absurd i
    value_kept instance (Constrains r x at) e k (inl same) = subst (IsKeptAt instance) same (plain_at instance x k.0)
    value_kept instance (Constrains r x at) e k (inr i) = absurd i

    item_has : (instance : Instance) (item : Item) (s t : State) → In instance (instances program) → IsState program s → IsState program t → ItemKept program instance item → HasValues program instance s t item
    item_has instance (Declares name what at) s t i p q k = λ e j. elim (k e (in_of (declared_exprs what) e j)) [ inl f ↦ inl f | inr f ↦ inr (plain_value instance e s t i p q f) ]
    item_has instance (Assigns left name right at) s t i p q k = allows_is instance right s t i p q k.kept k.free
    item_has instance (Defines name right at) s t i p q k = plain_value instance right s t i p q k
    item_has instance (Constrains r e at) s t i p q k =
        let v = plain_value instance e s t i p q k.0 in
        let b = v.2.serves k.1 in
        (b.0, ap (λ (o : Option Value). and_then o truth) v.1 ∙ b.1)

    defined : (instance : Instance) (e : Expr) (s t : State) → In instance (instances program) → IsState program s → IsState program t → IsKeptAt instance e → IsDefined program instance s t e
    defined instance e s t i p q k = record {
      kept = k.kept;
      value = λ plain. value_is instance e s t i p q k.kept plain;
      allows = allows_is instance e s t i p q k.kept k.free;
    }

    -- each item of each instance has its values in each two states, and each expression in it is
    -- defined
    pub is_sound : IsSound program
    is_sound = record {
      items = λ instance item s t i j p q.
          let k = in_of (instances program) instance i in
          item_has instance item s t k p q (item_keeps program none shaped instance item k (in_of (items_at program instance) item j));
      parts = λ instance item e part s t i j v h p q.
          let k = in_of (instances program) instance i in
          let exprs = value_expressions (is_instance program instance) item in
          let r = value_kept instance item e (item_keeps program none shaped instance item k (in_of (items_at program instance) item j)) (in_of exprs e v) in
          defined instance part s t k p q (part_kept (sorting_in program instance) h.0 e part r (in_of (parts_below h.0 e) part h.1));
      value = λ instance e s t i p q. value_is instance e s t (in_of (instances program) instance i) p q;
      allows = λ instance e s t i p q. allows_is instance e s t (in_of (instances program) instance i) p q;
    }

-- an answer without a fault belongs to a sound program
pub sound_if_ok : {A : Type 0} (program : Program) (r : Result A Fault) → ReportsFirst (kinds_fault program) r → IfOk r (λ u. AreShaped program → IsSound program)
sound_if_ok program (Ok a) h = λ shaped. is_sound program h shaped
sound_if_ok program (Err f) h = tt
