-- The definitions by number agree with those by instance, over a correct instance table.
use Rattle.std.proofs.Common.{◌≡◌, ℕ, zero, suc, ◌+◌, ◌<◌, Bool, true, false, List, [], ◌∷◌, ◌++◌, length, Option, Some, None, refl, sym, ap, ◌∙◌, subst, arith, cond}
use Rattle.std.proofs.lemmas.Option.{slice_get_within}
use Rattle.std.specs.Prelude.{slice_get, find}
use Rattle.std.specs.Option.{option_map}
use Rattle.std.specs.Str.{bytes_eq}
use Rattle.std.proofs.lemmas.Slice.Eq.{bytes_eq-Decides}
use mathlib.Core.Path.{fun_ext}
use Rattle.smv_ast.specs.declared.syntax.Expr.{Expr}
use Rattle.smv_ast.specs.declared.syntax.Expr.TheVariants as expr
use Rattle.smv_ast.specs.declared.program.Program.{Program}
use Rattle.smv_meaning.specs.declared.table.InstanceTable.{InstanceTable}
use Rattle.smv_meaning.specs.declared.table.Row.{Row}
use Rattle.smv_meaning.specs.declared.table.Slot.{Slot}
use Rattle.smv_meaning.specs.declared.value.Value.{Value}
use Rattle.smv_meaning.specs.Value.{Name, and_then}
use Rattle.fixpoint.specs.Fixpoints.{known, most, entry}
use Rattle.smv_meaning.specs.Paths.{QualifiedName, Binding, Aliases, IsVariable, IsInstance, IsDefine, IsFormal, IsNothing, walked, aliased, alias_of_binding, alias_step, aliases, resolve}
use Rattle.smv_meaning.specs.Instances.{Entry, Entity, Instance, binding_at, binding_in as renumbered_binding, path_of, entries, module_at}
use Rattle.smv_meaning.specs.Entries.{first_index, entity_among}
use Rattle.smv_meaning.specs.Denotations.{Environment, denotation_of}
use Rattle.smv_meaning.specs.Values.{State, Valuation, symbol_of, value_at_path, environment_by, read_by, value_of_binding, valuation_step, valuation_in, variable_in, values_in, environment_in}
use Rattle.smv_meaning.specs.InstanceTable.{entries_at, nth_instance, row_instances, renumbered, InRange, binding_view, IsTableOf}
use Rattle.smv_meaning.specs.Slots.{slot_of, name_of_slot, binding_in, by_slot, HasSlots}
use Rattle.smv_meaning.specs.Valuation.{AreLinked, variable_at, IsValuationTable, row_environment}
use Rattle.smv_meaning.proofs.InstanceTableLemmas.{row_at, names_at}

pub get_at : {A : Type 0} (xs : List A) (k : ℕ) → k < length xs → (a : A) × (slice_get xs k ≡ Some a)
get_at [] k h = absurd (omega arith)
get_at (x ∷ xs) zero h = (x, refl)
get_at (x ∷ xs) (suc k) h = get_at xs k (omega arith)

-- ---- entries by name

pub record Found (es : List Entry) (name : Name) (j : ℕ) : Type 0 where
  pub entry : Entry
  pub at : slice_get es j ≡ Some entry
  pub named : entry.name ≡ name
  pub entity : entity_among es name ≡ Some entry.entity

found : (es : List Entry) (name : Name) (j : ℕ) → first_index name es ≡ Some j → Found es name j
found [] name j h = cc
found (e ∷ es) name j h = at (found es name) (bytes_eq e.name name) refl h
  where
    alias_of_it : ((j : ℕ) → first_index name es ≡ Some j → Found es name j) → (o : Option ℕ) → first_index name es ≡ o → bytes_eq e.name name ≡ false → option_map suc o ≡ Some j → Found (e ∷ es) name j
    alias_of_it more None g b h = cc
    alias_of_it more (Some i) g b h =
        let f = more i g in
        let s : suc i ≡ j = cc in
        subst (Found (e ∷ es) name) s (record {
          entry = f.entry;
          at = f.at;
          named = f.named;
          entity = ap (λ (t : Bool). and_then (cond t (Some e) (find (λ e. bytes_eq e.name name) es)) (λ e. Some e.entity)) b ∙ f.entity;
        })

    at : ((j : ℕ) → first_index name es ≡ Some j → Found es name j) → (b : Bool) → bytes_eq e.name name ≡ b → cond b (Some 0) (option_map suc (first_index name es)) ≡ Some j → Found (e ∷ es) name j
    at more true b h =
        let s : 0 ≡ j = cc in
        subst (Found (e ∷ es) name) s (record {
          entry = e;
          at = refl;
          named = (bytes_eq-Decides e.name name).0 b;
          entity = ap (λ (t : Bool). and_then (cond t (Some e) (find (λ e. bytes_eq e.name name) es)) (λ e. Some e.entity)) b;
        })
    at more false b h = alias_of_it more (first_index name es) refl b h

not_found : (es : List Entry) (name : Name) → first_index name es ≡ None → entity_among es name ≡ None
not_found [] name h = refl
not_found (e ∷ es) name h = at (not_found es name) (bytes_eq e.name name) refl h
  where
    inner : (o : Option ℕ) → option_map suc o ≡ None → o ≡ None
    inner None h = refl
    inner (Some i) h = cc

    at : (first_index name es ≡ None → entity_among es name ≡ None) → (b : Bool) → bytes_eq e.name name ≡ b → cond b (Some 0) (option_map suc (first_index name es)) ≡ None → entity_among (e ∷ es) name ≡ None
    at more true b h = cc
    at more false b h = ap (λ (t : Bool). and_then (cond t (Some e) (find (λ e. bytes_eq e.name name) es)) (λ e. Some e.entity)) b ∙ more (inner (first_index name es) h)

-- ---- the names of instances by number

abbrev pub qualified_at : {P : Type 0} → P → Name → QualifiedName P
qualified_at instance name = record { instance = instance; name = name }

same_spot : {P : Type 0} {p q : P} {m n : Name} → p ≡ q → m ≡ n → qualified_at p m ≡ qualified_at q n
same_spot {p = p} {n = n} e f = ap (qualified_at p) f ∙ ap (λ x. qualified_at x n) e

module _ (program : Program) (table : InstanceTable) (right : IsTableOf program table.rows table.firsts table.slots) where
  abbrev instance_at : ℕ → Instance
  instance_at k = nth_instance (row_instances table.rows) k

  -- the slot of a name, with its properties
  pub record Slotted (qualified : QualifiedName ℕ) (k : ℕ) : Type 0 where
    pub slot : Slot
    pub at : slice_get table.slots k ≡ Some slot
    pub spelt : name_of_slot slot ≡ qualified
    pub entity : Entity
    pub among : entity_among (entries_at table.rows qualified.instance) qualified.name ≡ Some entity
    pub binding : renumbered instance_at (binding_view slot.binding) ≡ renumbered_binding program (instance_at qualified.instance) qualified.name entity
    pub range : InRange (length table.rows) (binding_view slot.binding)

  slotted : (qualified : QualifiedName ℕ) (k : ℕ) → slot_of table qualified ≡ Some k → Slotted qualified k
  slotted qualified k h = with_first (slice_get table.firsts qualified.instance) refl h
    where
      with_instance : (first : ℕ) → slice_get table.firsts qualified.instance ≡ Some first → (o : Option ℕ) → first_index qualified.name (entries_at table.rows qualified.instance) ≡ o → option_map (λ j. first + j) o ≡ Some k → Slotted qualified k
      with_instance first f None g h = cc
      with_instance first f (Some j) g h =
          let e = found (entries_at table.rows qualified.instance) qualified.name j g in
          let s = right.slots qualified.instance first f j e.entry (slice_get_within (entries_at table.rows qualified.instance) j e.entry e.at) e.at in
          let n : first + j ≡ k = cc in
          record {
            slot = s.0;
            at = subst (λ (x : ℕ). slice_get table.slots x ≡ Some s.0) n s.1;
            spelt = same_spot s.2.row (s.2.name ∙ e.named);
            entity = e.entry.entity;
            among = e.entity;
            binding = s.2.binding ∙ ap (λ (x : Name). renumbered_binding program (instance_at qualified.instance) x e.entry.entity) e.named;
            range = s.2.range;
          }

      with_first : (o : Option ℕ) → slice_get table.firsts qualified.instance ≡ o → and_then o (λ first. option_map (λ j. first + j) (first_index qualified.name (entries_at table.rows qualified.instance))) ≡ Some k → Slotted qualified k
      with_first None f h = cc
      with_first (Some first) f h = with_instance first f (first_index qualified.name (entries_at table.rows qualified.instance)) refl h

  pub has_slots : HasSlots table
  has_slots qualified k h = let s = slotted qualified k h in ap (option_map name_of_slot) s.at ∙ ap Some s.spelt

  pub are_linked : AreLinked table.rows
  are_linked k row e = let r = right.rows k row e in record { outer = r.outer; instance_at = r.instance_at }

  -- the binding of a name by number is its binding by instance, and its instances are in the table
  pub record SameBinding (r : ℕ) (name : Name) : Type 0 where
    pub same : option_map (renumbered instance_at) (binding_in table (qualified_at r name)) ≡ binding_at program (qualified_at (instance_at r) name)
    pub range : (m : Binding ℕ) → binding_in table (qualified_at r name) ≡ Some m → InRange (length table.rows) m

  pub same_binding : (r : ℕ) (name : Name) → r < length table.rows → SameBinding r name
  same_binding r name h = with_slot (slot_of table (qualified_at r name)) refl
    where
      names : entries_at table.rows r ≡ entries (module_at program (instance_at r))
      names = names_at program table.rows r right.rows h

      binding_of : (o : Option ℕ) → slot_of table (qualified_at r name) ≡ o → binding_in table (qualified_at r name) ≡ and_then o (λ k. and_then (slice_get table.slots k) (λ slot. Some (binding_view slot.binding)))
      binding_of o e = ap (λ (x : Option ℕ). and_then x (λ k. and_then (slice_get table.slots k) (λ slot. Some (binding_view slot.binding)))) e

      with_slot : (o : Option ℕ) → slot_of table (qualified_at r name) ≡ o → SameBinding r name
      with_slot (Some k) e =
          let s = slotted (qualified_at r name) k e in
          let m : binding_in table (qualified_at r name) ≡ Some (binding_view s.slot.binding) = binding_of (Some k) e ∙ ap (λ (x : Option Slot). and_then x (λ slot. Some (binding_view slot.binding))) s.at in
          let w : entity_among (entries (module_at program (instance_at r))) name ≡ Some s.entity = ap (λ (es : List Entry). entity_among es name) (sym names) ∙ s.among in
          record {
            same = ap (option_map (renumbered instance_at)) m ∙ (ap Some s.binding ∙ sym (ap (λ (x : Option Entity). and_then x (λ y. Some (renumbered_binding program (instance_at r) name y))) w));
            range = λ y g. let i : binding_view s.slot.binding ≡ y = cc in subst (InRange (length table.rows)) i s.range;
          }
      with_slot None e = none (first_none (slice_get table.firsts r) refl (first_at right.count h))
        where
          first_at : length table.firsts ≡ length table.rows → r < length table.rows → (first : ℕ) × (slice_get table.firsts r ≡ Some first)
          first_at c h = get_at table.firsts r (omega arith)

          first_none : (o : Option ℕ) → slice_get table.firsts r ≡ o → (first : ℕ) × (slice_get table.firsts r ≡ Some first) → first_index name (entries_at table.rows r) ≡ None
          first_none o f (first, g) = at (first_index name (entries_at table.rows r)) refl
            where
              whole : slot_of table (qualified_at r name) ≡ option_map (λ j. first + j) (first_index name (entries_at table.rows r))
              whole = ap (λ (x : Option ℕ). and_then x (λ first. option_map (λ j. first + j) (first_index name (entries_at table.rows r)))) g

              at : (p : Option ℕ) → first_index name (entries_at table.rows r) ≡ p → first_index name (entries_at table.rows r) ≡ None
              at None q = q
              at (Some j) q = let x : None ≡ Some (first + j) = sym e ∙ (whole ∙ ap (option_map (λ j. first + j)) q) in cc

          none : first_index name (entries_at table.rows r) ≡ None → SameBinding r name
          none g =
              let m : binding_in table (qualified_at r name) ≡ None = binding_of None e in
              let w : entity_among (entries (module_at program (instance_at r))) name ≡ None = ap (λ (es : List Entry). entity_among es name) (sym names) ∙ not_found (entries_at table.rows r) name g in
              record {
                same = ap (option_map (renumbered instance_at)) m ∙ sym (ap (λ (x : Option Entity). and_then x (λ y. Some (renumbered_binding program (instance_at r) name y))) w);
                range = λ y i. cc;
              }

  -- ---- aliases and values of names

  abbrev n : ℕ
  n = length table.rows

  -- an instance by number is the one of the program
  pub record SameInstance (o : Option ℕ) (p : Option Instance) : Type 0 where
    pub same : option_map instance_at o ≡ p
    pub range : (c : ℕ) → o ≡ Some c → c < n

  nth_instance_some : (c : ℕ) → c < n → SameInstance (Some c) (Some (instance_at c))
  nth_instance_some c h = record { same = refl; range = λ d e. let i : c ≡ d = cc in subst (λ (x : ℕ). x < n) i h }

  nth_instance_none : SameInstance None None
  nth_instance_none = record { same = refl; range = λ d e. cc }

  instance_then : (o : Option ℕ) (p : Option Instance) (g : ℕ → Option ℕ) (h : Instance → Option Instance) → SameInstance o p → ((c : ℕ) → c < n → SameInstance (g c) (h (instance_at c))) → SameInstance (and_then o g) (and_then p h)
  instance_then None p g h s more = subst (λ (q : Option Instance). SameInstance None (and_then q h)) s.same nth_instance_none
  instance_then (Some c) p g h s more = subst (λ (q : Option Instance). SameInstance (g c) (and_then q h)) s.same (more c (s.range c refl))

  binding_then : (o : Option (Binding ℕ)) (p : Option (Binding Instance)) (g : Binding ℕ → Option ℕ) (h : Binding Instance → Option Instance) → option_map (renumbered instance_at) o ≡ p → ((m : Binding ℕ) → o ≡ Some m → InRange n m) →
      ((m : Binding ℕ) → InRange n m → SameInstance (g m) (h (renumbered instance_at m))) → SameInstance (and_then o g) (and_then p h)
  binding_then None p g h s w more = subst (λ (q : Option (Binding Instance)). SameInstance None (and_then q h)) s nth_instance_none
  binding_then (Some m) p g h s w more = subst (λ (q : Option (Binding Instance)). SameInstance (g m) (and_then q h)) s (more m (w m refl))

  -- the aliases agree on the instances of the table
  abbrev pub Agree : Aliases ℕ → Aliases Instance → Type 0
  Agree s t = (r : ℕ) (name : Name) → r < n → SameInstance (s (qualified_at r name)) (t (qualified_at (instance_at r) name))

  walked_same : (s : Aliases ℕ) (t : Aliases Instance) → Agree s t → (path : List Name) (r : ℕ) → r < n → SameInstance (walked s r path) (walked t (instance_at r) path)
  walked_same s t a [] r h = nth_instance_some r h
  walked_same s t a (name ∷ more) r h =
      instance_then (s (qualified_at r name)) (t (qualified_at (instance_at r) name)) (λ p. walked s p more) (λ p. walked t p more) (a r name h) (walked_same s t a more)

  pub stood_same : (s : Aliases ℕ) (t : Aliases Instance) → Agree s t → (r : ℕ) (e : Expr) → r < n → SameInstance (aliased s r e) (aliased t (instance_at r) e)
  stood_same s t a r (expr.Name path) h = walked_same s t a path.names r h
  stood_same s t a r _ h = nth_instance_none

  alias_of_binding_same : (s : Aliases ℕ) (t : Aliases Instance) → Agree s t → (m : Binding ℕ) → InRange n m → SameInstance (alias_of_binding s m) (alias_of_binding t (renumbered instance_at m))
  alias_of_binding_same s t a IsVariable h = nth_instance_none
  alias_of_binding_same s t a (IsInstance c) h = nth_instance_some c h
  alias_of_binding_same s t a (IsDefine right') h = nth_instance_none
  alias_of_binding_same s t a (IsFormal c actual) h = stood_same s t a c actual h
  alias_of_binding_same s t a IsNothing h = nth_instance_none

  alias_same : (s : Aliases ℕ) (t : Aliases Instance) → Agree s t → Agree (alias_step (binding_in table) s) (alias_step (binding_at program) t)
  alias_same s t a r name h =
      let m = same_binding r name h in
      binding_then (binding_in table (qualified_at r name)) (binding_at program (qualified_at (instance_at r) name)) (alias_of_binding s) (alias_of_binding t) m.same m.range (alias_of_binding_same s t a)

  known_same : (rounds : ℕ) → Agree (known (alias_step (binding_in table)) rounds) (known (alias_step (binding_at program)) rounds)
  known_same zero r name h = nth_instance_none
  known_same (suc rounds) r name h = alias_same (known (alias_step (binding_in table)) rounds) (known (alias_step (binding_at program)) rounds) (known_same rounds) r name h

  pub aliases_same : Agree (aliases (binding_in table)) (aliases (binding_at program))
  aliases_same = known_same most

  -- a qualified name by number is the one of the program
  pub record SameName (o : Option (QualifiedName ℕ)) (p : Option (QualifiedName Instance)) : Type 0 where
    pub same : option_map (λ qualified. qualified_at (instance_at qualified.instance) qualified.name) o ≡ p
    pub range : (qualified : QualifiedName ℕ) → o ≡ Some qualified → qualified.instance < n

  pub resolve_same : (path : List Name) (r : ℕ) → r < n → SameName (resolve (binding_in table) r path) (resolve (binding_at program) (instance_at r) path)
  resolve_same [] r h = record { same = refl; range = λ qualified e. cc }
  resolve_same (name ∷ []) r h = at (binding_in table (qualified_at r name)) (binding_at program (qualified_at (instance_at r) name)) (same_binding r name h).same
    where
      at : (o : Option (Binding ℕ)) (p : Option (Binding Instance)) → option_map (renumbered instance_at) o ≡ p → SameName (and_then o (λ m. Some (qualified_at r name))) (and_then p (λ m. Some (qualified_at (instance_at r) name)))
      at None p e = subst (λ (q : Option (Binding Instance)). SameName None (and_then q (λ m. Some (qualified_at (instance_at r) name)))) e (record { same = refl; range = λ qualified e. cc })
      at (Some m) p e = subst (λ (q : Option (Binding Instance)). SameName (Some (qualified_at r name)) (and_then q (λ m. Some (qualified_at (instance_at r) name)))) e
          (record { same = refl; range = λ qualified e. let i : qualified_at r name ≡ qualified = cc in subst (λ (x : QualifiedName ℕ). x.instance < n) i h })
  resolve_same (name ∷ next ∷ more) r h = at (aliases (binding_in table) (qualified_at r name)) (aliases (binding_at program) (qualified_at (instance_at r) name)) (aliases_same r name h) (resolve_same (next ∷ more))
    where
      at : (o : Option ℕ) (p : Option Instance) → SameInstance o p → ((c : ℕ) → c < n → SameName (resolve (binding_in table) c (next ∷ more)) (resolve (binding_at program) (instance_at c) (next ∷ more))) →
          SameName (and_then o (λ c. resolve (binding_in table) c (next ∷ more))) (and_then p (λ c. resolve (binding_at program) c (next ∷ more)))
      at None p s deeper = subst (λ (q : Option Instance). SameName None (and_then q (λ c. resolve (binding_at program) c (next ∷ more)))) s.same (record { same = refl; range = λ qualified e. cc })
      at (Some c) p s deeper = subst (λ (q : Option Instance). SameName (resolve (binding_in table) c (next ∷ more)) (and_then q (λ c. resolve (binding_at program) c (next ∷ more)))) s.same (deeper c (s.range c refl))

  -- the valuations agree on the instances of the table
  abbrev Worthy : Valuation ℕ → Valuation Instance → Type 0
  Worthy u w = (r : ℕ) (name : Name) → r < n → u (qualified_at r name) ≡ w (qualified_at (instance_at r) name)

  module _ (symbols : Environment) where
    environment_same : (u : Valuation ℕ) (w : Valuation Instance) → Worthy u w → (r : ℕ) → r < n → environment_by (binding_in table) symbols u r ≡ environment_by (binding_at program) symbols w (instance_at r)
    environment_same u w a r h = fun_ext (λ path. at path (resolve (binding_in table) r path) (resolve (binding_at program) (instance_at r) path) (resolve_same path r h))
      where
        at : (path : List Name) (o : Option (QualifiedName ℕ)) (p : Option (QualifiedName Instance)) → SameName o p → value_at_path symbols u path o ≡ value_at_path symbols w path p
        at path None p s = ap (value_at_path symbols w path) s.same
        at path (Some qualified) p s = a qualified.instance qualified.name (s.range qualified refl) ∙ ap (value_at_path symbols w path) s.same

    read_same : (u : Valuation ℕ) (w : Valuation Instance) → Worthy u w → (r : ℕ) (e : Expr) → r < n → read_by (binding_in table) symbols u r e ≡ read_by (binding_at program) symbols w (instance_at r) e
    read_same u w a r e h = ap (λ (x : Environment). (denotation_of e).value x x) (environment_same u w a r h)

    module _ (s : Valuation ℕ) (t : Valuation Instance) (state : Worthy s t) where
      value_of_binding_same : (u : Valuation ℕ) (w : Valuation Instance) → Worthy u w → (r : ℕ) (name : Name) → r < n → (m : Binding ℕ) → InRange n m → value_of_binding (binding_in table) symbols s u (qualified_at r name) m ≡ value_of_binding (binding_at program) symbols t w (qualified_at (instance_at r) name) (renumbered instance_at m)
      value_of_binding_same u w a r name h IsVariable g = state r name h
      value_of_binding_same u w a r name h (IsInstance c) g = refl
      value_of_binding_same u w a r name h (IsDefine right') g = read_same u w a r right' h
      value_of_binding_same u w a r name h (IsFormal c actual) g = read_same u w a c actual g
      value_of_binding_same u w a r name h IsNothing g = refl

      step_same : (u : Valuation ℕ) (w : Valuation Instance) → Worthy u w → Worthy (valuation_step (binding_in table) symbols s u) (valuation_step (binding_at program) symbols t w)
      step_same u w a r name h = let m = same_binding r name h in at (binding_in table (qualified_at r name)) (binding_at program (qualified_at (instance_at r) name)) m.same m.range
        where
          at : (o : Option (Binding ℕ)) (p : Option (Binding Instance)) → option_map (renumbered instance_at) o ≡ p → ((m : Binding ℕ) → o ≡ Some m → InRange n m) →
              and_then o (value_of_binding (binding_in table) symbols s u (qualified_at r name)) ≡ and_then p (value_of_binding (binding_at program) symbols t w (qualified_at (instance_at r) name))
          at None p e g = ap (λ (q : Option (Binding Instance)). and_then q (value_of_binding (binding_at program) symbols t w (qualified_at (instance_at r) name))) e
          at (Some m) p e g = value_of_binding_same u w a r name h m (g m refl) ∙ ap (λ (q : Option (Binding Instance)). and_then q (value_of_binding (binding_at program) symbols t w (qualified_at (instance_at r) name))) e

      valuation_known : (rounds : ℕ) → Worthy (known (valuation_step (binding_in table) symbols s) rounds) (known (valuation_step (binding_at program) symbols t) rounds)
      valuation_known zero r name h = refl
      valuation_known (suc rounds) r name h = step_same (known (valuation_step (binding_in table) symbols s) rounds) (known (valuation_step (binding_at program) symbols t) rounds) (valuation_known rounds) r name h

      valuation_same : Worthy (valuation_in (binding_in table) symbols s) (valuation_in (binding_at program) symbols t)
      valuation_same = valuation_known most

  state_same : (s : State) → Worthy (variable_at table s) (variable_in s)
  state_same s r name h =
      let row = row_at table.rows r h in
      ap (λ (o : Option Row). and_then o (λ row. s (path_of (instance_at r) ++ name ∷ []))) row.1

  -- the environment of an instance by a table of slots is its environment in the state
  pub row_environment_is : (s : State) (solution : List (Option Value)) (r : ℕ) → IsValuationTable program table s solution → r < n → row_environment program table solution r ≡ environment_in program s (instance_at r)
  row_environment_is s solution r is_of h =
      ap (λ (u : Valuation ℕ). environment_by (binding_in table) (symbol_of program) u r) (fun_ext is_of)
      ∙ environment_same (symbol_of program) (valuation_in (binding_in table) (symbol_of program) (variable_at table s)) (valuation_in (binding_at program) (symbol_of program) (variable_in s)) (valuation_same (symbol_of program) (variable_at table s) (variable_in s) (state_same s)) r h

  -- the value of a name of an instance by a table of slots is its value in the state
  pub row_value_is : (s : State) (solution : List (Option Value)) (r : ℕ) (name : Name) → IsValuationTable program table s solution → r < n → by_slot table (entry solution) (qualified_at r name) ≡ values_in program s (qualified_at (instance_at r) name)
  row_value_is s solution r name is_of h = is_of (qualified_at r name) ∙ valuation_same (symbol_of program) (variable_at table s) (variable_in s) (state_same s) r name h
