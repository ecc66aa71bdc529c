-- The dependencies of the slots of a correct table are those of the names of the program.
use Rattle.std.proofs.Common.{◌≡◌, ℕ, zero, suc, ◌+◌, ◌<◌, Bool, true, false, ◌&&◌, not, List, [], ◌∷◌, ◌++◌, length, map, Option, Some, None, refl, sym, ap, ◌∙◌, subst, arith, if◌then◌else◌, nat_eq, true≢false}
use Rattle.std.specs.Prelude.{slice_get, is_some, unwrap_or}
use Rattle.std.specs.List.{flat_map}
use Rattle.std.specs.Option.{option_map, option_to_list}
use Rattle.std.specs.Str.{bytes_eq}
use Rattle.std.proofs.lemmas.Slice.Eq.{bytes_eq-Decides}
use Rattle.std.proofs.lemmas.Bool.{eqb-true, eq-eqb, and_from, and_parts}
use Rattle.std.proofs.lemmas.Option.{slice_get-map, slice_get_within}
use Rattle.smv_ast.specs.declared.syntax.Expr.{Expr}
use Rattle.smv_ast.specs.declared.program.Program.{Program}
use Rattle.smv_meaning.specs.declared.table.InstanceTable.{InstanceTable}
use Rattle.smv_meaning.specs.declared.table.Slot.{Slot}
use Rattle.smv_meaning.specs.declared.table.Binding.{Binding as HeldBinding}
use Rattle.smv_meaning.specs.declared.table.Binding.TheVariants as held
use Rattle.smv_meaning.specs.Value.{Name, and_then}
use Rattle.fixpoint.specs.Fixpoints.{entry}
use Rattle.smv_meaning.specs.Paths.{QualifiedName, Binding, aliases, resolve}
use Rattle.smv_meaning.specs.Instances.{Instance, Main, Within, binding_at}
use Rattle.smv_meaning.specs.InstanceTable.{renumbered, InRange, binding_view, entries_at}
use Rattle.smv_meaning.specs.Entries.{first_index}
use Rattle.smv_meaning.specs.Slots.{slot_of, name_of_slot, binding_in, HasSlots, AreAliases, resolve_slot}
use Rattle.smv_meaning.specs.Checking.{IsTableOfProgram, instance_at}
use Rattle.smv_meaning.proofs.NumberLemmas.{SameName, has_slots, same_binding, aliases_same, resolve_same}
use Rattle.smv_meaning.proofs.SlotLemmas.{the_slot}
use Rattle.smv_cycles.specs.Nodes.{Node, nodes_of}
use Rattle.smv_cycles.specs.Reads.{Edge, targets_of, read_by}
use Rattle.smv_cycles.specs.EdgesBySlot.{edges_view, edges_at, is_read, read_slot, slot_read, edge_in, edges_in, edges_by, slot_edges}
use Rattle.smv_cycles.specs.Cycles as spec
use Rattle.smv_cycles.specs.declared.edges.Edge.{Edge as HeldEdge}
use Rattle.smv_cycles.specs.CyclesBySlot.{Graph, OneEach, targets, targets_found}
use Rattle.smv_meaning.proofs.BindingLemmas.{then_some, some_mapped, resolve_slot_is}
use Rattle.smv_cycles.proofs.HeightLemmas.{in_some}
use Rattle.graph.specs.Graphs.{successors_in}
use Rattle.graph.proofs.Renaming.{AllIn}
use Rattle.smv_cycles.proofs.MovedLemmas.{moved, TargetIn, EdgesIn, targets_same, targets_in}

graph_at : {A B C : Type 0} (g : A → Option C) (h : B → Option C) (xs : List A) (ys : List B) → map g xs ≡ map h ys → (k : ℕ) (y : B) → slice_get ys k ≡ Some y → and_then (slice_get xs k) g ≡ h y
graph_at g h xs [] e k y f = cc
graph_at g h [] (z ∷ ys) e k y f = cc
graph_at g h (x ∷ xs) (z ∷ ys) e zero y f = let i : z ≡ y = in_some f in let j : g x ≡ h z = cc in j ∙ ap h i
graph_at g h (x ∷ xs) (z ∷ ys) e (suc k) y f = graph_at g h xs ys (cc) k y f

-- the slots that a slot reads, by its edges
edge_targets : (es : List HeldEdge) → flat_map (λ e. option_to_list e.target) es ≡ flat_map (λ e. option_to_list e.target) (edges_view es)
edge_targets [] = refl
edge_targets (e ∷ es) = ap (λ (ks : List ℕ). option_to_list e.target ++ ks) (edge_targets es)

found_targets : (o : Option (Option (List HeldEdge))) → unwrap_or (option_map targets_found o) [] ≡ targets_of (and_then o (option_map edges_view))
found_targets None = refl
found_targets (Some None) = refl
found_targets (Some (Some es)) = edge_targets es

pub successors_are : (graph : Graph) (k : ℕ) → successors_in (targets graph) k ≡ read_by (edges_at graph) k
successors_are graph k = ap (λ (o : Option (List ℕ)). unwrap_or o []) (slice_get-map targets_found graph k) ∙ found_targets (slice_get graph k)

-- ---- equal names

instance_decides : (p q : Instance) → spec.same_instance p q ≡ true → p ≡ q
instance_decides Main Main e = refl
instance_decides Main (Within q n c) e = cc
instance_decides (Within p n c) Main e = cc
instance_decides (Within p n c) (Within q m d) e =
    let r = and_parts (bytes_eq n m && bytes_eq c d) (spec.same_instance p q) e in
    let s = and_parts (bytes_eq n m) (bytes_eq c d) r.0 in
    let i = (bytes_eq-Decides n m).0 s.0 in
    let j = (bytes_eq-Decides c d).0 s.1 in
    let h = instance_decides p q r.1 in
    ap (λ (x : Instance). Within x n c) h ∙ (ap (λ (x : Name). Within q x c) i ∙ ap (Within q m) j)

pub name_decides : (a b : QualifiedName Instance) → spec.same_name a b ≡ true → a ≡ b
name_decides a b e =
    let r = and_parts (bytes_eq a.name b.name) (spec.same_instance a.instance b.instance) e in
    let n = (bytes_eq-Decides a.name b.name).0 r.0 in
    let p = instance_decides a.instance b.instance r.1 in
    same p n
  where
    same : a.instance ≡ b.instance → a.name ≡ b.name → a ≡ b
    same p n = ap (λ (x : Instance). record { instance = x; name = a.name }) p ∙ ap (λ (x : Name). record { instance = b.instance; name = x }) n

instance_self : (p : Instance) → spec.same_instance p p ≡ true
instance_self Main = refl
instance_self (Within p name called) = and_from (bytes_eq name name && bytes_eq called called) (spec.same_instance p p) (and_from (bytes_eq name name) (bytes_eq called called) ((bytes_eq-Decides name name).1 refl) ((bytes_eq-Decides called called).1 refl)) (instance_self p)

name_self : (s : QualifiedName Instance) → spec.same_name s s ≡ true
name_self s = and_from (bytes_eq s.name s.name) (spec.same_instance s.instance s.instance) ((bytes_eq-Decides s.name s.name).1 refl) (instance_self s.instance)

module _ (program : Program) (table : InstanceTable) (right : IsTableOfProgram program table) where
  abbrev n : ℕ
  n = length table.rows

  -- the name of the program for a name by number
  abbrev pub renumbered_name : QualifiedName ℕ → QualifiedName Instance
  renumbered_name s = record { instance = instance_at table s.instance; name = s.name }

  abbrev name_found : Option Slot → QualifiedName Instance
  name_found None = record { instance = Main; name = [] }
  name_found (Some slot) = renumbered_name (name_of_slot slot)

  -- the name of the program for a slot
  abbrev pub of_slot : ℕ → QualifiedName Instance
  of_slot k = name_found (slice_get table.slots k)

  -- the number of the slot of a name of an instance of the table
  pub record IsSlot (k : ℕ) : Type 0 where
    pub qualified : QualifiedName ℕ
    pub within : qualified.instance < n
    pub at : slot_of table qualified ≡ Some k

  pub has : HasSlots table
  has = has_slots program table right

  pub slot_in : (qualified : QualifiedName ℕ) (k : ℕ) → slot_of table qualified ≡ Some k → IsSlot k
  slot_in qualified k e =
      let r = then_some (slice_get table.firsts qualified.instance) (λ first. option_map (λ k. first + k) (first_index qualified.name (entries_at table.rows qualified.instance))) k e in
      record { qualified = qualified; within = below (slice_get_within table.firsts qualified.instance r.0 r.1) right.count; at = e }
    where
      below : qualified.instance < length table.firsts → length table.firsts ≡ length table.rows → qualified.instance < n
      below h c = omega (arith, h, c)

  module _ (k : ℕ) (i : IsSlot k) where
    abbrev pub slot : Slot
    slot = (the_slot table i.qualified k has i.at).0

    pub get : slice_get table.slots k ≡ Some slot
    get = (the_slot table i.qualified k has i.at).1

    pub spelt : name_of_slot slot ≡ i.qualified
    spelt = (the_slot table i.qualified k has i.at).2

    pub of_is : of_slot k ≡ renumbered_name i.qualified
    of_is = ap name_found get ∙ ap renumbered_name spelt

    binding_by : binding_in table i.qualified ≡ Some (binding_view slot.binding)
    binding_by =
        ap (λ (o : Option ℕ). and_then o (λ k. and_then (slice_get table.slots k) (λ slot. Some (binding_view slot.binding)))) i.at
        ∙ ap (λ (o : Option Slot). and_then o (λ slot. Some (binding_view slot.binding))) get

    pub binding_is : binding_at program (renumbered_name i.qualified) ≡ Some (renumbered (instance_at table) (binding_view slot.binding))
    binding_is = sym (same_binding program table right i.qualified.instance i.qualified.name i.within).same ∙ ap (option_map (renumbered (instance_at table))) binding_by

    pub range : InRange n (binding_view slot.binding)
    range = (same_binding program table right i.qualified.instance i.qualified.name i.within).range (binding_view slot.binding) binding_by

    pub row_within : slot.row < n
    row_within = subst (λ (s : QualifiedName ℕ). s.instance < n) (sym spelt) i.within

  module _ (solution : List (Option ℕ)) (is_of : AreAliases table solution) where
    some_same : (k : ℕ) (i : IsSlot k) → is_some (entry solution k) ≡ is_some (aliases (binding_at program) (renumbered_name i.qualified))
    some_same k i =
        let t : entry solution k ≡ aliases (binding_in table) i.qualified = sym (ap (λ (o : Option ℕ). and_then o (entry solution)) i.at) ∙ is_of i.qualified in
        ap is_some t ∙ (sym (some_mapped (instance_at table) (aliases (binding_in table) i.qualified)) ∙ ap is_some (aliases_same program table right i.qualified.instance i.qualified.name i.within).same)

    is_same : (k : ℕ) (i : IsSlot k) (m : HeldBinding) → is_read solution k m ≡ spec.is_read (binding_at program) (renumbered_name i.qualified) (renumbered (instance_at table) (binding_view m))
    is_same k i held.Variable = refl
    is_same k i (held.Instance c) = refl
    is_same k i (held.Define e) = refl
    is_same k i (held.Formal outer actual) = ap not (some_same k i)
    is_same k i held.Nothing = refl

    -- the name that is read, by slot and in the program
    record Target (o : Option ℕ) (p : Option (QualifiedName Instance)) : Type 0 where
      same : option_map of_slot o ≡ p
      inside : TargetIn of_slot IsSlot o

    none_target : Target None None
    none_target = record { same = refl; inside = tt }

    read_same : (k : ℕ) (i : IsSlot k) → Target (read_slot table solution k) (spec.read_name (binding_at program) (renumbered_name i.qualified))
    read_same k i = at (is_read solution k (slot k i).binding) refl
      where
        this : QualifiedName Instance
        this = renumbered_name i.qualified

        left : (b : Bool) → is_read solution k (slot k i).binding ≡ b → read_slot table solution k ≡ (if b then Some k else None)
        left b e = ap (λ (o : Option Slot). and_then o (λ slot. if is_read solution k slot.binding then Some k else None)) (get k i) ∙ ap (λ (x : Bool). if x then Some k else None) e

        right' : (b : Bool) → is_read solution k (slot k i).binding ≡ b → spec.read_name (binding_at program) this ≡ (if b then Some this else None)
        right' b e =
            ap (λ (o : Option (Binding Instance)). and_then o (λ m. if spec.is_read (binding_at program) this m then Some this else None)) (binding_is k i)
            ∙ ap (λ (x : Bool). if x then Some this else None) (sym (is_same k i (slot k i).binding) ∙ e)

        at : (b : Bool) → is_read solution k (slot k i).binding ≡ b → Target (read_slot table solution k) (spec.read_name (binding_at program) this)
        at true e = subst (λ (o : Option ℕ). Target o (spec.read_name (binding_at program) this)) (sym (left true e)) (subst (λ (p : Option (QualifiedName Instance)). Target (Some k) p) (sym (right' true e)) (record { same = ap Some (of_is k i); inside = i }))
        at false e = subst (λ (o : Option ℕ). Target o (spec.read_name (binding_at program) this)) (sym (left false e)) (subst (λ (p : Option (QualifiedName Instance)). Target None p) (sym (right' false e)) none_target)

    path_same : (row : ℕ) → row < n → (path : Option (List Name)) → Target (slot_read table solution row path) (spec.name_read (binding_at program) (instance_at table row) path)
    path_same row h None = none_target
    path_same row h (Some names) = at (resolve (binding_in table) row names) refl
      where
        l : SameName program table right (resolve (binding_in table) row names) (resolve (binding_at program) (instance_at table row) names)
        l = resolve_same program table right names row h

        at : (o : Option (QualifiedName ℕ)) → resolve (binding_in table) row names ≡ o → Target (slot_read table solution row (Some names)) (spec.name_read (binding_at program) (instance_at table row) (Some names))
        at None e =
            let p : resolve (binding_at program) (instance_at table row) names ≡ None = sym l.same ∙ ap (option_map renumbered_name) e in
            subst (λ (x : Option (QualifiedName Instance)). Target (slot_read table solution row (Some names)) (and_then x (spec.read_name (binding_at program)))) (sym p)
            (subst (λ (x : Option (QualifiedName ℕ)). Target (and_then (and_then x (slot_of table)) (read_slot table solution)) None) (sym e) none_target)
        at (Some qualified) e =
            let p : resolve (binding_at program) (instance_at table row) names ≡ Some (renumbered_name qualified) = sym l.same ∙ ap (option_map renumbered_name) e in
            let s = resolve_slot_is table names row qualified e in
            let q : resolve_slot table row names ≡ Some s.0 = ap (λ (x : Option (QualifiedName ℕ)). and_then x (slot_of table)) e ∙ s.1 in
            let i : IsSlot s.0 = record { qualified = qualified; within = l.range qualified e; at = s.1 } in
            subst (λ (x : Option (QualifiedName Instance)). Target (slot_read table solution row (Some names)) (and_then x (spec.read_name (binding_at program)))) (sym p)
            (subst (λ (x : Option ℕ). Target (and_then x (read_slot table solution)) (spec.read_name (binding_at program) (renumbered_name qualified))) (sym q) (read_same s.0 i))

    -- the edges of nodes agree
    pub record SameEdges (es : List (Edge ℕ)) (fs : List (Edge (QualifiedName Instance))) : Type 0 where
      pub same : map (moved of_slot IsSlot) es ≡ fs
      pub inside : EdgesIn of_slot IsSlot es

    nodes_same : (row : ℕ) → row < n → (nodes : List Node) → SameEdges (map (edge_in table solution row) nodes) (map (spec.edge_in (binding_at program) (instance_at table row)) nodes)
    nodes_same row h [] = record { same = refl; inside = tt }
    nodes_same row h (x ∷ nodes) =
        let t = path_same row h x.path in
        let m = nodes_same row h nodes in
        record {
          same = ap (λ (o : Option (QualifiedName Instance)). record { above = x.above; target = o } ∷ map (moved of_slot IsSlot) (map (edge_in table solution row) nodes)) t.same
              ∙ ap (λ (es : List (Edge (QualifiedName Instance))). spec.edge_in (binding_at program) (instance_at table row) x ∷ es) m.same;
          inside = (t.inside, m.inside);
        }

    pub edges_same : (row : ℕ) → row < n → (e : Expr) → SameEdges (edges_in table solution row e) (spec.edges_in (binding_at program) (instance_at table row) e)
    edges_same row h e = nodes_same row h (nodes_of e)

    -- the edges of a name agree
    record SameRead (o : Option (List (Edge ℕ))) (p : Option (List (Edge (QualifiedName Instance)))) : Type 0 where
      same : p ≡ option_map (map (moved of_slot IsSlot)) o
      inside : (es : List (Edge ℕ)) → o ≡ Some es → EdgesIn of_slot IsSlot es

    read_some : (es : List (Edge ℕ)) (fs : List (Edge (QualifiedName Instance))) → SameEdges es fs → SameRead (Some es) (Some fs)
    read_some es fs s = record { same = ap Some (sym s.same); inside = λ gs e. subst (EdgesIn of_slot IsSlot) (in_some e) s.inside }

    by_same : (row : ℕ) (qualified : QualifiedName Instance) → row < n → instance_at table row ≡ qualified.instance → (m : HeldBinding) → InRange n (binding_view m) → SameRead (edges_by table solution row m) (spec.edges_by (binding_at program) qualified (renumbered (instance_at table) (binding_view m)))
    by_same row qualified h p held.Variable r = record { same = refl; inside = λ es e. cc }
    by_same row qualified h p (held.Instance c) r = record { same = refl; inside = λ es e. cc }
    by_same row qualified h p (held.Define e) r =
        subst (λ (x : Instance). SameRead (Some (edges_in table solution row e.now)) (Some (spec.edges_in (binding_at program) x e.now))) p (read_some _ _ (edges_same row h e.now))
    by_same row qualified h p (held.Formal outer actual) r = read_some _ _ (edges_same outer r actual.now)
    by_same row qualified h p held.Nothing r = record { same = refl; inside = λ es e. cc }

    module _ (graph : Graph) (seen : map (option_map edges_view) graph ≡ map (slot_edges table solution) table.slots) where
      slot_reads : (k : ℕ) (i : IsSlot k) → SameRead (edges_at graph k) (spec.program_edges program (of_slot k))
      slot_reads k i =
          let g : edges_at graph k ≡ slot_edges table solution (slot k i) = graph_at (option_map edges_view) (slot_edges table solution) graph table.slots seen k (slot k i) (get k i) in
          let p : spec.program_edges program (of_slot k) ≡ spec.edges_by (binding_at program) (renumbered_name i.qualified) (renumbered (instance_at table) (binding_view (slot k i).binding)) =
          ap (spec.program_edges program) (of_is k i) ∙ ap (λ (o : Option (Binding Instance)). and_then o (spec.edges_by (binding_at program) (renumbered_name i.qualified))) (binding_is k i) in
          let b = by_same (slot k i).row (renumbered_name i.qualified) (row_within k i) (ap (λ (s : QualifiedName ℕ). instance_at table s.instance) (spelt k i)) (slot k i).binding (range k i) in
          subst (λ (o : Option (List (Edge ℕ))). SameRead o (spec.program_edges program (of_slot k))) (sym g) (subst (SameRead (slot_edges table solution (slot k i))) (sym p) b)

      pub covers : (k : ℕ) → IsSlot k → spec.program_edges program (of_slot k) ≡ option_map (map (moved of_slot IsSlot)) (edges_at graph k)
      covers k i = (slot_reads k i).same

      pub inside : (k : ℕ) (es : List (Edge ℕ)) → IsSlot k → edges_at graph k ≡ Some es → EdgesIn of_slot IsSlot es
      inside k es i e = (slot_reads k i).inside es e

      -- the slots that a slot reads are those of the names that its name reads
      pub reads_over : (k : ℕ) → IsSlot k → read_by (spec.program_edges program) (of_slot k) ≡ map of_slot (successors_in (targets graph) k)
      reads_over k i = ap targets_of (covers k i) ∙ (at (edges_at graph k) ∙ ap (map of_slot) (sym (successors_are graph k)))
        where
          at : (o : Option (List (Edge ℕ))) → targets_of (option_map (map (moved of_slot IsSlot)) o) ≡ map of_slot (targets_of o)
          at None = refl
          at (Some es) = sym (targets_same of_slot IsSlot es)

      pub reads_inside : (k : ℕ) → IsSlot k → AllIn IsSlot (successors_in (targets graph) k)
      reads_inside k i = subst (AllIn IsSlot) (sym (successors_are graph k)) (at (edges_at graph k) refl)
        where
          at : (o : Option (List (Edge ℕ))) → edges_at graph k ≡ o → AllIn IsSlot (targets_of o)
          at None e = tt
          at (Some es) e = targets_in of_slot IsSlot es (inside k es i e)

  -- ---- equal slots

  module _ (one : OneEach table) where
    pub slot_one : (a b : ℕ) → IsSlot a → IsSlot b → of_slot a ≡ of_slot b → a ≡ b
    slot_one a b i j e =
        let f = sym (of_is a i) ∙ (e ∙ of_is b j) in
        let instance = one i.qualified.instance j.qualified.instance i.within j.within (ap (λ (s : QualifiedName Instance). s.instance) f) in
        let qualified : i.qualified ≡ j.qualified = ap (λ (x : ℕ). record { instance = x; name = i.qualified.name }) instance ∙ ap (λ (x : Name). record { instance = j.qualified.instance; name = x }) (ap (λ (s : QualifiedName Instance). s.name) f) in
        in_some (sym i.at ∙ (ap (slot_of table) qualified ∙ j.at))

    -- names are equal exactly where their slots are
    pub slots_same : (a b : ℕ) → IsSlot a → IsSlot b → spec.same_name (of_slot a) (of_slot b) ≡ nat_eq a b
    slots_same a b i j = at (spec.same_name (of_slot a) (of_slot b)) refl
      where
        at : (t : Bool) → spec.same_name (of_slot a) (of_slot b) ≡ t → t ≡ nat_eq a b
        at true e = sym (eq-eqb a b (slot_one a b i j (name_decides (of_slot a) (of_slot b) e)))
        at false e = other (nat_eq a b) refl
          where
            other : (t : Bool) → nat_eq a b ≡ t → false ≡ t
            other false f = refl
            other true f = let g = ap (λ (x : ℕ). spec.same_name (of_slot a) (of_slot x)) (eqb-true a b f) in absurd (true≢false (sym (name_self (of_slot a)) ∙ (g ∙ e)))
