-- The count of nodes over a correct table, with each instance once, is that of the program.
use Rattle.std.proofs.Common.{◌≡◌, ℕ, zero, suc, ◌<◌, Bool, List, [], ◌∷◌, ◌++◌, map, length, Option, Some, None, inl, inr, refl, sym, ap, ◌∙◌, subst}
use Rattle.std.specs.Prelude.{true, false}
use Rattle.std.specs.List.{flat_map}
use Rattle.std.specs.Option.{option_map, option_to_list}
use Rattle.std.proofs.lemmas.List.{map-append}
use Rattle.smv_ast.specs.declared.syntax.Expr.{Expr}
use Rattle.smv_ast.specs.declared.program.Program.{Program}
use Rattle.smv_meaning.specs.declared.table.InstanceTable.{InstanceTable}
use Rattle.smv_meaning.specs.declared.table.Slot.{Slot}
use Rattle.smv_meaning.specs.Value.{Name, and_then}
use Rattle.smv_meaning.specs.Paths.{QualifiedName, Binding, IsVariable, IsInstance, IsDefine, IsFormal, IsNothing, resolve}
use Rattle.smv_meaning.specs.Instances.{Instance, binding_at}
use Rattle.smv_meaning.specs.InstanceTable.{renumbered, InRange, binding_view}
use Rattle.smv_meaning.specs.Slots.{slot_of, binding_in, resolve_slot}
use Rattle.smv_meaning.specs.Checking.{IsTableOfProgram, AreRows, instance_at}
use Rattle.smv_meaning.specs.Items.{Item, Declares, Assigns, Defines, Constrains}
use Rattle.smv_meaning.specs.ItemIndex.{items_at}
use Rattle.smv_meaning.proofs.NumberLemmas.{resolve_same}
use Rattle.smv_cycles.specs.CyclesBySlot.{OneEach}
use Rattle.smv_cycles.proofs.HeightLemmas.{in_some}
use Rattle.smv_cycles.proofs.ProgramLemmas as names
use Rattle.smv_meaning.proofs.BindingLemmas.{resolve_slot_is}
use Rattle.smv_meaning.proofs.MemberLemmas.{In, in_of, all_in, in_map, from_map, in_either}
use Rattle.smv_nodes.specs.Own.{saturating_add}
use Rattle.smv_nodes.specs.Mentions.{Mention, reads_of}
use Rattle.smv_nodes.specs.Count.{Lookup, content, of_program, ReadExpr, read_now, item_exprs, instance_exprs, own_nodes, Shared, name_nodes, shared_expr, shared_by, shared_among, shared_in, content_reads, names_nodes, expr_nodes, exprs_nodes, exprs_of_shared, ReachedIn, AreReached, IsCount}
use Rattle.smv_nodes.specs.CountBySlot.{of_table, table_exprs}
use Rattle.smv_types.proofs.ApartLemmas.{Apart, pairs_of, apart_of, contains_in}

module _ (program : Program) (table : InstanceTable) (right : IsTableOfProgram program table) where
  abbrev n : ℕ
  n = length table.rows

  abbrev solution : Lookup ℕ ℕ
  solution = of_table table

  abbrev model : Lookup Instance (QualifiedName Instance)
  model = of_program program

  -- the name of a slot
  abbrev named : ℕ → QualifiedName Instance
  named = names.of_slot program table right

  abbrev Slotted : ℕ → Type 0
  Slotted = names.IsSlot program table right

  abbrev moved : Shared ℕ → Shared (QualifiedName Instance)
  moved s = (named s.0, s.1)

  abbrev renumbered_expr : ReadExpr ℕ → ReadExpr Instance
  renumbered_expr p = record { instance = instance_at table p.instance; right = p.right; assigned = p.assigned; after_step = p.after_step }

  -- ---- one name

  record SameName (o : Option ℕ) (p : Option (QualifiedName Instance)) : Type 0 where
    same : option_map named o ≡ p
    inside : (k : ℕ) → o ≡ Some k → Slotted k

  names_same : (row : ℕ) → row < n → (path : List Name) → SameName (resolve_slot table row path) (resolve (binding_at program) (instance_at table row) path)
  names_same row h path = at (resolve (binding_in table) row path) refl
    where
      here : Option (QualifiedName Instance)
      here = resolve (binding_at program) (instance_at table row) path

      at : (o : Option (QualifiedName ℕ)) → resolve (binding_in table) row path ≡ o → SameName (resolve_slot table row path) here
      at None e = subst (λ (x : Option (QualifiedName ℕ)). SameName (and_then x (slot_of table)) here) (sym e) (record {
        same = sym (ap (option_map (names.renumbered_name program table right)) e) ∙ (resolve_same program table right path row h).same;
        inside = λ k f. cc;
      })
      at (Some qualified) e =
          let s = resolve_slot_is table path row qualified e in
          let i : Slotted s.0 = record { qualified = qualified; within = (resolve_same program table right path row h).range qualified e; at = s.1 } in
          let q : resolve_slot table row path ≡ Some s.0 = ap (λ (x : Option (QualifiedName ℕ)). and_then x (slot_of table)) e ∙ s.1 in
          subst (λ (x : Option ℕ). SameName x here) (sym q) (record {
            same = ap Some (names.of_is program table right s.0 i) ∙ (sym (ap (option_map (names.renumbered_name program table right)) e) ∙ (resolve_same program table right path row h).same);
            inside = λ k f. subst Slotted (in_some f) i;
          })

  record SameContent (o : Option (ℕ × Expr)) (p : Option (Instance × Expr)) : Type 0 where
    same : option_map (λ c. (instance_at table c.0, c.1)) o ≡ p
    inside : (c : ℕ × Expr) → o ≡ Some c → c.0 < n

  content_some : (row : ℕ) (e : Expr) → row < n → SameContent (Some (row, e)) (Some (instance_at table row, e))
  content_some row e h = record { same = refl; inside = λ c f. subst (λ (x : ℕ × Expr). x.0 < n) (in_some f) h }

  content_same : (row : ℕ) → row < n → (m : Binding ℕ) → InRange n m → SameContent (content row m) (content (instance_at table row) (renumbered (instance_at table) m))
  content_same row h IsVariable r = record { same = refl; inside = λ c f. cc }
  content_same row h (IsInstance c) r = record { same = refl; inside = λ c f. cc }
  content_same row h (IsDefine e) r = content_some row e h
  content_same row h (IsFormal outer actual) r = content_some outer actual r
  content_same row h IsNothing r = record { same = refl; inside = λ c f. cc }

  alias_of_binding_same : (k : ℕ) → Slotted k → SameContent (solution.content_of k) (model.content_of (named k))
  alias_of_binding_same k i =
      let slot = names.slot program table right k i in
      let spelt = names.spelt program table right k i in
      let row : slot.row ≡ i.qualified.instance = ap (λ (s : QualifiedName ℕ). s.instance) spelt in
      let left : solution.content_of k ≡ content slot.row (binding_view slot.binding) = ap (λ (o : Option Slot). and_then o (λ slot. content slot.row (binding_view slot.binding))) (names.get program table right k i) in
      let here : model.content_of (named k) ≡ content (instance_at table i.qualified.instance) (renumbered (instance_at table) (binding_view slot.binding)) =
      ap (λ (s : QualifiedName Instance). and_then (binding_at program s) (content s.instance)) (names.of_is program table right k i)
      ∙ ap (λ (o : Option (Binding Instance)). and_then o (content (instance_at table i.qualified.instance))) (names.binding_is program table right k i) in
      let same = content_same i.qualified.instance i.within (binding_view slot.binding) (names.range program table right k i) in
      subst (λ (o : Option (ℕ × Expr)). SameContent o (model.content_of (named k))) (sym left)
      (subst (λ (p : Option (Instance × Expr)). SameContent (content slot.row (binding_view slot.binding)) p) (sym here)
      (subst (λ (x : ℕ). SameContent (content x (binding_view slot.binding)) (content (instance_at table i.qualified.instance) (renumbered (instance_at table) (binding_view slot.binding)))) (sym row) same))

  record SameShared (o : Option (Shared ℕ)) (p : Option (Shared (QualifiedName Instance))) : Type 0 where
    same : option_map moved o ≡ p
    inside : (s : Shared ℕ) → o ≡ Some s → Slotted s.0

  shared_none : SameShared None None
  shared_none = record { same = refl; inside = λ s e. cc }

  shared_same : (row : ℕ) → row < n → (m : Mention) → SameShared (shared_by solution row m) (shared_by model (instance_at table row) m)
  shared_same row h m = at (resolve_slot table row m.names) (resolve (binding_at program) (instance_at table row) m.names) (names_same row h m.names)
    where
      read : (k : ℕ) → Slotted k → (o : Option (ℕ × Expr)) (p : Option (Instance × Expr)) → SameContent o p → SameShared (and_then o (λ c. Some (k, m.after_step))) (and_then p (λ c. Some (named k, m.after_step)))
      read k i None p s = subst (λ (q : Option (Instance × Expr)). SameShared None (and_then q (λ c. Some (named k, m.after_step)))) s.same shared_none
      read k i (Some c) p s = subst (λ (q : Option (Instance × Expr)). SameShared (Some (k, m.after_step)) (and_then q (λ c. Some (named k, m.after_step)))) s.same
          (record { same = refl; inside = λ s e. subst (λ (x : Shared ℕ). Slotted x.0) (in_some e) i })

      at : (o : Option ℕ) (p : Option (QualifiedName Instance)) → SameName o p →
          SameShared (and_then o (λ k. and_then (solution.content_of k) (λ c. Some (k, m.after_step)))) (and_then p (λ qualified. and_then (model.content_of qualified) (λ c. Some (qualified, m.after_step))))
      at None p s = subst (λ (q : Option (QualifiedName Instance)). SameShared None (and_then q (λ qualified. and_then (model.content_of qualified) (λ c. Some (qualified, m.after_step))))) s.same shared_none
      at (Some k) p s = subst (λ (q : Option (QualifiedName Instance)). SameShared (and_then (solution.content_of k) (λ c. Some (k, m.after_step))) (and_then q (λ qualified. and_then (model.content_of qualified) (λ c. Some (qualified, m.after_step))))) s.same
          (read k (s.inside k refl) (solution.content_of k) (model.content_of (named k)) (alias_of_binding_same k (s.inside k refl)))

  -- ---- the names of an expression

  record SameAll (xs : List (Shared ℕ)) (ys : List (Shared (QualifiedName Instance))) : Type 0 where
    same : map moved xs ≡ ys
    inside : (s : Shared ℕ) → In s xs → Slotted s.0

  all_listed : (o : Option (Shared ℕ)) (p : Option (Shared (QualifiedName Instance))) → SameShared o p → SameAll (option_to_list o) (option_to_list p)
  all_listed None p s = subst (λ (q : Option (Shared (QualifiedName Instance))). SameAll [] (option_to_list q)) s.same (record { same = refl; inside = λ s i. absurd i })
  all_listed (Some x) p s = subst (λ (q : Option (Shared (QualifiedName Instance))). SameAll (x ∷ []) (option_to_list q)) s.same (record { same = refl; inside = λ y i. one y i })
    where
      one : (y : Shared ℕ) → In y (x ∷ []) → Slotted y.0
      one y (inl e) = subst (λ (z : Shared ℕ). Slotted z.0) e (s.inside x refl)
      one y (inr i) = absurd i

  all_joined : (xs zs : List (Shared ℕ)) (ys ws : List (Shared (QualifiedName Instance))) → SameAll xs ys → SameAll zs ws → SameAll (xs ++ zs) (ys ++ ws)
  all_joined xs zs ys ws s t = record {
    same = map-append moved xs zs ∙ (ap (λ (l : List (Shared (QualifiedName Instance))). l ++ map moved zs) s.same ∙ ap (λ (l : List (Shared (QualifiedName Instance))). ys ++ l) t.same);
    inside = λ x i. elim (in_either xs zs x i) [ inl j ↦ s.inside x j | inr j ↦ t.inside x j ];
  }

  among_same : (row : ℕ) → row < n → (ms : List Mention) → SameAll (shared_among solution row ms) (shared_among model (instance_at table row) ms)
  among_same row h [] = record { same = refl; inside = λ s i. absurd i }
  among_same row h (m ∷ ms) = all_joined _ _ _ _ (all_listed (shared_by solution row m) (shared_by model (instance_at table row) m) (shared_same row h m)) (among_same row h ms)

  names_count : (row : ℕ) → row < n → (ms : List Mention) → names_nodes solution row ms ≡ names_nodes model (instance_at table row) ms
  names_count row h [] = refl
  names_count row h (m ∷ ms) =
      ap (λ (k : ℕ). saturating_add k (names_nodes solution row ms)) (own (shared_by solution row m) ∙ ap name_nodes (shared_same row h m).same)
      ∙ ap (saturating_add (name_nodes (shared_by model (instance_at table row) m))) (names_count row h ms)
    where
      own : (o : Option (Shared ℕ)) → name_nodes o ≡ name_nodes (option_map moved o)
      own None = refl
      own (Some s) = refl

  -- ---- expressions

  record SameReadExprs (xs : List (ReadExpr ℕ)) (ys : List (ReadExpr Instance)) : Type 0 where
    same : map renumbered_expr xs ≡ ys
    inside : (p : ReadExpr ℕ) → In p xs → p.instance < n

  reads_same : (ps : List (ReadExpr ℕ)) → ((p : ReadExpr ℕ) → In p ps → p.instance < n) → SameAll (flat_map (shared_in solution) ps) (flat_map (shared_in model) (map renumbered_expr ps))
  reads_same [] h = record { same = refl; inside = λ s i. absurd i }
  reads_same (p ∷ ps) h = all_joined _ _ _ _ (among_same p.instance (h p (inl refl)) (reads_of p.right p.after_step)) (reads_same ps (λ q i. h q (inr i)))

  nodes_same : (ps : List (ReadExpr ℕ)) → ((p : ReadExpr ℕ) → In p ps → p.instance < n) → exprs_nodes solution ps ≡ exprs_nodes model (map renumbered_expr ps)
  nodes_same [] h = refl
  nodes_same (p ∷ ps) h =
      ap (λ (k : ℕ). saturating_add (saturating_add (own_nodes p) k) (exprs_nodes solution ps)) (names_count p.instance (h p (inl refl)) (reads_of p.right p.after_step))
      ∙ ap (saturating_add (expr_nodes model (renumbered_expr p))) (nodes_same ps (λ q i. h q (inr i)))

  exprs_joined : (xs zs : List (ReadExpr ℕ)) (ys ws : List (ReadExpr Instance)) → SameReadExprs xs ys → SameReadExprs zs ws → SameReadExprs (xs ++ zs) (ys ++ ws)
  exprs_joined xs zs ys ws s t = record {
    same = map-append renumbered_expr xs zs ∙ (ap (λ (l : List (ReadExpr Instance)). l ++ map renumbered_expr zs) s.same ∙ ap (λ (l : List (ReadExpr Instance)). ys ++ l) t.same);
    inside = λ x i. elim (in_either xs zs x i) [ inl j ↦ s.inside x j | inr j ↦ t.inside x j ];
  }

  content_of_node : (s : Shared ℕ) → Slotted s.0 → SameReadExprs (option_to_list (shared_expr solution s)) (option_to_list (shared_expr model (moved s)))
  content_of_node s i = at (solution.content_of s.0) (model.content_of (named s.0)) (alias_of_binding_same s.0 i)
    where
      whole : ℕ × Expr → ReadExpr ℕ
      whole c = record { instance = c.0; right = c.1; assigned = false; after_step = s.1 }

      there : Instance × Expr → ReadExpr Instance
      there c = record { instance = c.0; right = c.1; assigned = false; after_step = s.1 }

      at : (o : Option (ℕ × Expr)) (p : Option (Instance × Expr)) → SameContent o p → SameReadExprs (option_to_list (and_then o (λ c. Some (whole c)))) (option_to_list (and_then p (λ c. Some (there c))))
      at None p same = subst (λ (q : Option (Instance × Expr)). SameReadExprs [] (option_to_list (and_then q (λ c. Some (there c))))) same.same (record { same = refl; inside = λ p i. absurd i })
      at (Some c) p same = subst (λ (q : Option (Instance × Expr)). SameReadExprs (whole c ∷ []) (option_to_list (and_then q (λ c. Some (there c))))) same.same (record { same = refl; inside = λ p i. one p i })
        where
          one : (p : ReadExpr ℕ) → In p (whole c ∷ []) → p.instance < n
          one p (inl e) = subst (λ (q : ReadExpr ℕ). q.instance < n) e (same.inside c refl)
          one p (inr i) = absurd i

  content_reads_same : (s : Shared ℕ) → Slotted s.0 → SameAll (content_reads solution s) (content_reads model (moved s))
  content_reads_same s i =
      let p = content_of_node s i in
      subst (λ (ps : List (ReadExpr Instance)). SameAll (content_reads solution s) (flat_map (shared_in model) ps)) p.same (reads_same (option_to_list (shared_expr solution s)) p.inside)

  exprs_of_shared_same : (xs : List (Shared ℕ)) → ((s : Shared ℕ) → In s xs → Slotted s.0) → SameReadExprs (exprs_of_shared solution xs) (exprs_of_shared model (map moved xs))
  exprs_of_shared_same [] h = record { same = refl; inside = λ p i. absurd i }
  exprs_of_shared_same (s ∷ xs) h = exprs_joined _ _ _ _ (content_of_node s (h s (inl refl))) (exprs_of_shared_same xs (λ t i. h t (inr i)))

  -- ---- items

  read_same : (row : ℕ) → row < n → (e : Expr) (assigned : Bool) → SameReadExprs (read_now row e assigned ∷ []) (read_now (instance_at table row) e assigned ∷ [])
  read_same row h e assigned = record { same = refl; inside = λ p i. elim i [ inl f ↦ subst (λ (q : ReadExpr ℕ). q.instance < n) f h | inr j ↦ absurd j ] }

  none_same : SameReadExprs [] []
  none_same = record { same = refl; inside = λ p i. absurd i }

  item_same : (row : ℕ) → row < n → (item : Item) → SameReadExprs (item_exprs row item) (item_exprs (instance_at table row) item)
  item_same row h (Declares name what at) = none_same
  item_same row h (Assigns left name right at) = read_same row h right true
  item_same row h (Defines name right at) = none_same
  item_same row h (Constrains r e at) = read_same row h e false

  items_same : (row : ℕ) → row < n → (items : List Item) → SameReadExprs (flat_map (item_exprs row) items) (flat_map (item_exprs (instance_at table row)) items)
  items_same row h [] = none_same
  items_same row h (item ∷ items) = exprs_joined _ _ _ _ (item_same row h item) (items_same row h items)

  rows_same : (order : List ℕ) → ((row : ℕ) → In row order → row < n) → SameReadExprs (table_exprs program table order) (instance_exprs (items_at program) (map (instance_at table) order))
  rows_same [] h = none_same
  rows_same (row ∷ order) h = exprs_joined _ _ _ _ (items_same row (h row (inl refl)) (items_at program (instance_at table row))) (rows_same order (λ r i. h r (inr i)))

  -- ---- reachable shared nodes

  module _ (items : List (ReadExpr ℕ)) (within : (p : ReadExpr ℕ) → In p items → p.instance < n) where
    abbrev placed_items : List (ReadExpr Instance)
    placed_items = map renumbered_expr items

    -- a shared node reachable by number is a slot, and reachable by name
    record Forth (rounds : ℕ) (s : Shared ℕ) : Type 0 where
      slotted : Slotted s.0
      reached : ReachedIn model placed_items rounds (moved s)

    forth : (rounds : ℕ) (s : Shared ℕ) → ReachedIn solution items rounds s → Forth rounds s
    forth zero s r =
        let all = reads_same items within in
        let i = in_of (flat_map (shared_in solution) items) s r in
        record {
          slotted = all.inside s i;
          reached = contains_in _ (moved s) (subst (In (moved s)) all.same (in_map moved (flat_map (shared_in solution) items) s i));
        }
    forth (suc rounds) s (t, r, g) =
        let f = forth rounds t r in
        let all = content_reads_same t f.slotted in
        let i = in_of (content_reads solution t) s g in
        record {
          slotted = all.inside s i;
          reached = (moved t, f.reached, contains_in _ (moved s) (subst (In (moved s)) all.same (in_map moved (content_reads solution t) s i)));
        }

    -- a shared node reachable by name has a number
    record Back (rounds : ℕ) (t : Shared (QualifiedName Instance)) : Type 0 where
      from : Shared ℕ
      reached : ReachedIn solution items rounds from
      is : moved from ≡ t

    back : (rounds : ℕ) (t : Shared (QualifiedName Instance)) → ReachedIn model placed_items rounds t → Back rounds t
    back zero t r =
        let all = reads_same items within in
        let f = from_map moved (flat_map (shared_in solution) items) t (subst (In t) (sym all.same) (in_of _ t r)) in
        record { from = f.0; reached = contains_in _ f.0 f.1; is = f.2 }
    back (suc rounds) t (u, r, g) =
        let b = back rounds u r in
        let all = content_reads_same b.from (forth rounds b.from b.reached).slotted in
        let i : In t (content_reads model (moved b.from)) = subst (λ (x : Shared (QualifiedName Instance)). In t (content_reads model x)) (sym b.is) (in_of _ t g) in
        let f = from_map moved (content_reads solution b.from) t (subst (In t) (sym all.same) i) in
        record { from = f.0; reached = (b.from, b.reached, contains_in _ f.0 f.1); is = f.2 }

    -- ---- the count

    module _ (one : OneEach table) where
      moved_one : (s t : Shared ℕ) → Slotted s.0 → Slotted t.0 → moved s ≡ moved t → s ≡ t
      moved_one (a, after_step) (b, later) i j e = ap (λ (x : ℕ). (x, after_step)) (names.slot_one program table right one a b i j (ap (λ (x : Shared (QualifiedName Instance)). x.0) e)) ∙ ap (λ (x : Bool). (b, x)) (ap (λ (x : Shared (QualifiedName Instance)). x.1) e)

      moved_apart : (xs : List (Shared ℕ)) → ((s : Shared ℕ) → In s xs → Slotted s.0) → Apart xs → Apart (map moved xs)
      moved_apart [] h a = tt
      moved_apart (x ∷ xs) h a = (
        λ i. let f = from_map moved xs (moved x) i in a.0 (subst (λ (y : Shared ℕ). In y xs) (moved_one f.0 x (h f.0 (inr f.1)) (h x (inl refl)) f.2) f.1),
        moved_apart xs (λ s i. h s (inr i)) a.1,
      )

      count_same : (count : ℕ) → IsCount solution items count → IsCount model placed_items count
      count_same count (xs, r, e) = (map moved xs, reached, sum)
        where
          slotted : (s : Shared ℕ) → In s xs → Slotted s.0
          slotted s i = let f = r.reached s (contains_in xs s i) in (forth f.0 s f.1).slotted

          reached : AreReached model placed_items (map moved xs)
          reached = record {
            once = pairs_of (map moved xs) (moved_apart xs slotted (apart_of xs r.once));
            reached = λ t c. let f = from_map moved xs t (in_of (map moved xs) t c) in let g = r.reached f.0 (contains_in xs f.0 f.1) in (g.0, subst (ReachedIn model placed_items g.0) f.2 (forth g.0 f.0 g.1).reached);
            all = λ t h. let b = back h.0 t h.1 in contains_in (map moved xs) t (subst (λ (x : Shared (QualifiedName Instance)). In x (map moved xs)) b.is (in_map moved xs b.from (in_of xs b.from (r.all b.from (h.0, b.reached)))));
          }

          content_of : SameReadExprs (exprs_of_shared solution xs) (exprs_of_shared model (map moved xs))
          content_of = exprs_of_shared_same xs slotted

          whole : SameReadExprs (items ++ exprs_of_shared solution xs) (placed_items ++ exprs_of_shared model (map moved xs))
          whole = exprs_joined items (exprs_of_shared solution xs) placed_items (exprs_of_shared model (map moved xs)) (record { same = refl; inside = within }) content_of

          sum : count ≡ exprs_nodes model (placed_items ++ exprs_of_shared model (map moved xs))
          sum = e ∙ (nodes_same (items ++ exprs_of_shared solution xs) whole.inside ∙ ap (exprs_nodes model) whole.same)

  -- the count over the instances in their order
  pub table_count : (order : List ℕ) (count : ℕ) → AreRows table order → OneEach table →
      IsCount solution (table_exprs program table order) count → IsCount model (instance_exprs (items_at program) (map (instance_at table) order)) count
  table_count order count rows one c =
      let items = rows_same order (λ row i. all_in (λ (k : ℕ). k < n) order row rows i) in
      subst (λ (ps : List (ReadExpr Instance)). IsCount model ps count) items.same (count_same (table_exprs program table order) items.inside one count c)
