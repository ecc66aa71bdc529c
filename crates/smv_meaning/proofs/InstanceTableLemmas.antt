-- The instance table while it is filled.
use Rattle.std.proofs.Common.{◌≡◌, ℕ, zero, suc, ◌+◌, ◌<◌, ◌≤◌, Bool, true, false, List, [], ◌∷◌, ◌++◌, length, get_or, map, Option, Some, None, refl, sym, ap, ◌∙◌, subst, arith, length-append, append_assoc, ◌⊎◌, inl, inr, codes, nat_lt, cond}
use Rattle.std.proofs.lemmas.Option.{slice_get_within}
use Rattle.std.specs.Prelude.{slice_get, IfSome, find}
use Rattle.std.specs.List.{fold}
use Rattle.std.specs.Str.{bytes_eq}
use Rattle.std.proofs.lemmas.List.Sums.{fold_push, fold-append}
use Rattle.std.proofs.lemmas.List.{get_or_append_left, get_or_push, append-nil}
use Rattle.smv_ast.specs.declared.syntax.Expr.{Expr}
use Rattle.smv_ast.specs.declared.program.Module.{Module}
use Rattle.smv_ast.specs.declared.program.Program.{Program}
use Rattle.smv_meaning.specs.declared.table.Row.{Row}
use Rattle.smv_meaning.specs.declared.table.Link.{Link}
use Rattle.smv_meaning.specs.declared.table.Slot.{Slot}
use Rattle.smv_meaning.specs.Value.{Name}
use Rattle.smv_meaning.specs.Paths.{Binding, IsVariable, IsInstance, IsDefine, IsFormal, IsNothing}
use Rattle.smv_meaning.specs.declared.entries.Entry.{Entry as Held}
use Rattle.smv_meaning.specs.Entries.{entries_view, entry_view, entity_among}
use Rattle.smv_meaning.specs.Scopes.{scope_of, scopes_of, entries_in, entries_found}
use Rattle.smv_meaning.specs.Instances.{Entity, Variable, Inner, Defined, Formal, Entry, Instance, Main, Within, entries, module_at, or_empty, depth_of, goes_deeper, formal_by, formal_at, binding_in, actuals_of}
use Rattle.smv_meaning.specs.InstanceTable.{binding_view, nth_instance, instance_of_link, row_instances, row_names, entries_at, renumbered, InRange, formal_in, binding_in_row, IsRowOf, AreRowsOfProgram, IsSlotOf, Extends, AddsSlot, AreSlotsUpTo, AreSlotsOf, AppendsSlots, called_by}

pub entries_at_index : (rows : List Row) (k : ℕ) (row : Row) → k < length rows → row ≡ get_or rows k row → entries_at rows k ≡ row_names row
entries_at_index [] k row h e = absurd (omega arith)
entries_at_index (r ∷ rows) zero row h e = ap row_names (sym e)
entries_at_index (r ∷ rows) (suc k) row h e = entries_at_index rows k row (omega arith) e

-- ---- the instances of rows

abbrev step : List Instance → Row → List Instance
step ps row = ps ++ instance_of_link ps row.link ∷ []

length-fold : (ps : List Instance) (rows : List Row) → length (fold step ps rows) ≡ length ps + length rows
length-fold ps [] = omega arith
length-fold ps (r ∷ rows) = omega (arith, length-fold (step ps r) rows, length-append ps (instance_of_link ps r.link ∷ []))

pub length-row_instances : (rows : List Row) → length (row_instances rows) ≡ length rows
length-row_instances rows = length-fold [] rows ∙ omega arith

kept-fold : (acc : List Instance) (rows : List Row) (k : ℕ) (d : Instance) → k < length acc → get_or (fold step acc rows) k d ≡ get_or acc k d
kept-fold acc [] k d h = refl
kept-fold acc (r ∷ rows) k d h =
    kept-fold (step acc r) rows k d (omega (arith, length-append acc (instance_of_link acc r.link ∷ []))) ∙ get_or_append_left acc (instance_of_link acc r.link ∷ []) d k h

-- appended rows keep the instances of the earlier ones
pub kept_instance : (rows more : List Row) (k : ℕ) → k < length rows → nth_instance (row_instances (rows ++ more)) k ≡ nth_instance (row_instances rows) k
kept_instance rows more k h = ap (λ ps. nth_instance ps k) (fold-append step [] rows more) ∙ kept-fold (row_instances rows) more k Main (omega (arith, length-row_instances rows))

pub nth_instance_next : (rows : List Row) (row : Row) → nth_instance (row_instances (rows ++ row ∷ [])) (length rows) ≡ instance_of_link (row_instances rows) row.link
nth_instance_next rows row = ap (λ ps. nth_instance ps (length rows)) (fold_push step [] rows row) ∙ get_or_push (row_instances rows) (instance_of_link (row_instances rows) row.link) Main (length rows) (length-row_instances rows)

kept_next : (rows more : List Row) (link : Option Link) → IfSome link (λ l. l.outer < length rows) → instance_of_link (row_instances (rows ++ more)) link ≡ instance_of_link (row_instances rows) link
kept_next rows more None h = refl
kept_next rows more (Some link) h = ap (λ p. Within p link.name.now link.called.now) (kept_instance rows more link.outer h)

-- ---- slices

pub get_append : {A : Type 0} (xs ys : List A) (k : ℕ) (a : A) → slice_get xs k ≡ Some a → slice_get (xs ++ ys) k ≡ Some a
get_append [] ys k a e = cc
get_append (x ∷ xs) ys zero a e = e
get_append (x ∷ xs) ys (suc k) a e = get_append xs ys k a e

pub get_last : {A : Type 0} (xs : List A) (y : A) (k : ℕ) → k ≡ length xs → slice_get (xs ++ y ∷ []) k ≡ Some y
get_last [] y zero e = refl
get_last [] y (suc k) e = absurd (omega arith)
get_last (x ∷ xs) y zero e = absurd (omega arith)
get_last (x ∷ xs) y (suc k) e = get_last xs y k (omega arith)

-- the elements of a list after a push
pub get_pushed : {A : Type 0} (xs : List A) (y : A) (k : ℕ) (a : A) → slice_get (xs ++ y ∷ []) k ≡ Some a → ((k < length xs) × (slice_get xs k ≡ Some a)) ⊎ ((k ≡ length xs) × (y ≡ a))
get_pushed [] y zero a e = inr (refl, cc)
get_pushed [] y (suc k) a e = cc
get_pushed (x ∷ xs) y zero a e = inl (omega arith, e)
get_pushed (x ∷ xs) y (suc k) a e = elim (get_pushed xs y k a e) [ inl h ↦ inl (omega (arith, h.0), h.1) | inr h ↦ inr (ap suc h.0, h.1) ]

-- ---- modules by name

pub entries_named_is : (modules : List Module) (name : Name) → entries_in (map scope_of modules) name ≡ entries (or_empty name (find (λ m. bytes_eq m.name name) modules))
entries_named_is [] name = refl
entries_named_is (m ∷ modules) name = at (entries_named_is modules name) (bytes_eq m.name name)
  where
    at : entries_in (map scope_of modules) name ≡ entries (or_empty name (find (λ m. bytes_eq m.name name) modules)) → (b : Bool) →
        entries_found (cond b (Some (scope_of m)) (find (λ s. bytes_eq s.name name) (map scope_of modules))) ≡ entries (or_empty name (cond b (Some m) (find (λ m. bytes_eq m.name name) modules)))
    at more true = refl
    at more false = more

-- ---- rows

row_kept : (program : Program) (rows more : List Row) (k : ℕ) (row : Row) → k < length rows → IsRowOf program rows k row → IsRowOf program (rows ++ more) k row
row_kept program rows more k row h r = record {
  names = r.names ∙ ap (λ p. entries (module_at program p)) (sym (kept_instance rows more k h));
  depth = r.depth ∙ ap depth_of (sym (kept_instance rows more k h));
  outer = r.outer;
  instance_at = kept_instance rows more k h ∙ (r.instance_at ∙ sym (kept_next rows more row.link (further row.link r.outer)));
}
  where
    further : (link : Option Link) → IfSome link (λ l. l.outer < k) → IfSome link (λ l. l.outer < length rows)
    further None g = tt
    further (Some l) g = omega arith

-- a new row is correct if its names and its depth are those of its instance
pub record IsNew (program : Program) (rows : List Row) (row : Row) : Type 0 where
  pub names : row_names row ≡ entries (module_at program (instance_of_link (row_instances rows) row.link))
  pub depth : row.depth ≡ depth_of (instance_of_link (row_instances rows) row.link)
  pub outer : IfSome row.link (λ link. link.outer < length rows)

pub rows_more : (program : Program) (rows : List Row) (row : Row) → AreRowsOfProgram program rows → IsNew program rows row → AreRowsOfProgram program (rows ++ row ∷ [])
rows_more program rows row right new k r e = elim (get_pushed rows row k r e) [ inl h ↦ row_kept program rows (row ∷ []) k r h.0 (right k r h.1) | inr h ↦ at k r h.0 h.1 ]
  where
    last : IsRowOf program (rows ++ row ∷ []) (length rows) row
    last = record {
      names = new.names ∙ ap (λ p. entries (module_at program p)) (sym (nth_instance_next rows row));
      depth = new.depth ∙ ap depth_of (sym (nth_instance_next rows row));
      outer = new.outer;
      instance_at = nth_instance_next rows row ∙ sym (kept_next rows (row ∷ []) row.link new.outer);
    }

    at : (k : ℕ) (r : Row) → k ≡ length rows → row ≡ r → IsRowOf program (rows ++ row ∷ []) k r
    at k r e f = subst (λ (x : ℕ). IsRowOf program (rows ++ row ∷ []) x r) (sym e) (subst (λ (y : Row). IsRowOf program (rows ++ row ∷ []) (length rows) y) f last)

-- ---- slots

placed_same : (f g : ℕ → Instance) (n : ℕ) (m : Binding ℕ) → ((k : ℕ) → k < n → f k ≡ g k) → InRange n m → renumbered f m ≡ renumbered g m
placed_same f g n IsVariable same h = refl
placed_same f g n (IsInstance c) same h = ap IsInstance (same c h)
placed_same f g n (IsDefine right) same h = refl
placed_same f g n (IsFormal c actual) same h = ap (λ p. IsFormal p actual) (same c h)
placed_same f g n IsNothing same h = refl

range_more : (m n : ℕ) (x : Binding ℕ) → m ≤ n → InRange m x → InRange n x
range_more m n IsVariable le h = tt
range_more m n (IsInstance c) le h = omega arith
range_more m n (IsDefine right) le h = tt
range_more m n (IsFormal c actual) le h = omega arith
range_more m n IsNothing le h = tt

pub slot_kept : (program : Program) (rows more : List Row) (r : ℕ) (e : Entry) (slot : Slot) → r < length rows → IsSlotOf program rows r e slot → IsSlotOf program (rows ++ more) r e slot
slot_kept program rows more r e slot h right = record {
  row = right.row;
  name = right.name;
  binding = placed_same (nth_instance (row_instances (rows ++ more))) (nth_instance (row_instances rows)) (length rows) (binding_view slot.binding) (kept_instance rows more) right.range
      ∙ (right.binding ∙ ap (λ p. binding_in program p e.name e.entity) (sym (kept_instance rows more r h)));
  range = range_more (length rows) (length (rows ++ more)) (binding_view slot.binding) (omega (arith, length-append rows more)) right.range;
}

formal_placed : (f : ℕ → Instance) (outer : ℕ) (m : Option Entity) (k : ℕ) → renumbered f (formal_by outer m k) ≡ formal_by (f outer) m k
formal_placed f outer m k = at (slice_get (actuals_of m) k)
  where
    at : (a : Option Expr) → renumbered f (elim a [ None ↦ IsNothing | Some a ↦ IsFormal outer a ]) ≡ elim a [ None ↦ IsNothing | Some a ↦ IsFormal (f outer) a ]
    at None = refl
    at (Some a) = refl

formal_range : (n outer : ℕ) (m : Option Entity) (k : ℕ) → outer < n → InRange n (formal_by outer m k)
formal_range n outer m k h = at (slice_get (actuals_of m) k)
  where
    at : (a : Option Expr) → InRange n (elim a [ None ↦ IsNothing | Some a ↦ IsFormal outer a ])
    at None = tt
    at (Some a) = h

pub row_at : (rows : List Row) (k : ℕ) → k < length rows → (row : Row) × (slice_get rows k ≡ Some row)
row_at [] k h = absurd (omega arith)
row_at (r ∷ rows) zero h = (r, refl)
row_at (r ∷ rows) (suc k) h = row_at rows k (omega arith)

pub names_at : (program : Program) (rows : List Row) (k : ℕ) → AreRowsOfProgram program rows → k < length rows → entries_at rows k ≡ entries (module_at program (nth_instance (row_instances rows) k))
names_at program rows k right h =
    let r = row_at rows k h in
    at (slice_get rows k) r.0 r.1 (right k r.0 r.1).names
  where
    at : (o : Option Row) (row : Row) → o ≡ Some row → row_names row ≡ entries (module_at program (nth_instance (row_instances rows) k)) → elim o [ None ↦ [] | Some row ↦ row_names row ] ≡ entries (module_at program (nth_instance (row_instances rows) k))
    at None row e n = cc
    at (Some row') row e n = ap (λ (x : Option Row). elim x [ None ↦ [] | Some row ↦ row_names row ]) e ∙ n

-- the binding of a formal by number is its binding by instance
formal_right : (program : Program) (rows : List Row) (link : Option Link) (k : ℕ) → AreRowsOfProgram program rows → IfSome link (λ l. l.outer < length rows) →
    renumbered (nth_instance (row_instances rows)) (formal_in rows link k) ≡ formal_at program (instance_of_link (row_instances rows) link) k
formal_right program rows None k right h = refl
formal_right program rows (Some link) k right h =
    formal_placed (nth_instance (row_instances rows)) link.outer (entity_among (entries_at rows link.outer) link.name.now) k
    ∙ ap (λ es. formal_by (nth_instance (row_instances rows) link.outer) (entity_among es link.name.now) k) (names_at program rows link.outer right h)

formal_in_range : (rows : List Row) (link : Option Link) (k : ℕ) → IfSome link (λ l. l.outer < length rows) → InRange (length rows) (formal_in rows link k)
formal_in_range rows None k h = tt
formal_in_range rows (Some link) k h = formal_range (length rows) link.outer (entity_among (entries_at rows link.outer) link.name.now) k h

pub record IsBinding (program : Program) (rows : List Row) (r : ℕ) (name : Name) (m : Entity) (x : Binding ℕ) : Type 0 where
  pub binding : renumbered (nth_instance (row_instances rows)) x ≡ binding_in program (nth_instance (row_instances rows) r) name m
  pub range : InRange (length rows) x

-- the slot of an entity that declares no instance
binding_shallow : (program : Program) (rows : List Row) (r : ℕ) (row : Row) (name called : Name) (actuals : List Expr) (deeper : Bool) → goes_deeper program (nth_instance (row_instances rows) r) ≡ deeper → called_by deeper (Inner called actuals) ≡ None →
    IsBinding program rows r name (Inner called actuals) (binding_in_row rows row deeper (length rows) (Inner called actuals))
binding_shallow program rows r row name called actuals true d n = cc
binding_shallow program rows r row name called actuals false d n = record { binding = rw d refl; range = tt }

pub binding_alone : (program : Program) (rows : List Row) (r : ℕ) (row : Row) (name : Name) (m : Entity) (deeper : Bool) → AreRowsOfProgram program rows → slice_get rows r ≡ Some row → goes_deeper program (nth_instance (row_instances rows) r) ≡ deeper → called_by deeper m ≡ None →
    IsBinding program rows r name m (binding_in_row rows row deeper (length rows) m)
binding_alone program rows r row name (Variable t) deeper right e d n = record { binding = refl; range = tt }
binding_alone program rows r row name (Inner called actuals) deeper right e d n = binding_shallow program rows r row name called actuals deeper d n
binding_alone program rows r row name (Defined right') deeper right e d n = record { binding = refl; range = tt }
binding_alone program rows r row name (Formal k) deeper right e d n =
    let here = right r row e in
    let w : IfSome row.link (λ l. l.outer < length rows) = further row.link here.outer in
    record {
      binding = formal_right program rows row.link k right w ∙ ap (λ p. formal_at program p k) (sym here.instance_at);
      range = formal_in_range rows row.link k w;
    }
  where
    further : (link : Option Link) → IfSome link (λ l. l.outer < r) → IfSome link (λ l. l.outer < length rows)
    further None g = tt
    further (Some l) g = omega (arith, slice_get_within rows r row e)

-- the slot of an entity that declares an instance, whose row is appended
binding_deep : (program : Program) (rows : List Row) (r : ℕ) (child : Row) (link : Link) (name called : Name) (actuals : List Expr) (deeper : Bool) → r < length rows → goes_deeper program (nth_instance (row_instances rows) r) ≡ deeper →
    child.link ≡ Some link → link.outer ≡ r → link.name.now ≡ name → Some link.called.now ≡ called_by deeper (Inner called actuals) →
    IsBinding program (rows ++ child ∷ []) r name (Inner called actuals) (IsInstance (length rows))
binding_deep program rows r child link name called actuals false h d c o n e = cc
binding_deep program rows r child link name called actuals true h d c o n e =
    let kept = kept_instance rows (child ∷ []) r h in
    let f : link.called.now ≡ called = cc in
    let at : nth_instance (row_instances (rows ++ child ∷ [])) (length rows) ≡ Within (nth_instance (row_instances rows) r) name called =
    nth_instance_next rows child ∙ (ap (instance_of_link (row_instances rows)) c ∙ (ap (λ x. Within (nth_instance (row_instances rows) x) link.name.now link.called.now) o ∙ (ap (λ x. Within (nth_instance (row_instances rows) r) x link.called.now) n ∙ ap (Within (nth_instance (row_instances rows) r) name) f))) in
    let whole : IsInstance (nth_instance (row_instances (rows ++ child ∷ [])) (length rows)) ≡ binding_in program (nth_instance (row_instances rows) r) name (Inner called actuals) = rw d (ap IsInstance at) in
    record {
      binding = whole ∙ ap (λ p. binding_in program p name (Inner called actuals)) (sym kept);
      range = omega (arith, length-append rows (child ∷ []));
    }

pub binding_instance : (program : Program) (rows : List Row) (r : ℕ) (child : Row) (link : Link) (name : Name) (m : Entity) (deeper : Bool) → r < length rows → goes_deeper program (nth_instance (row_instances rows) r) ≡ deeper →
    child.link ≡ Some link → link.outer ≡ r → link.name.now ≡ name → Some link.called.now ≡ called_by deeper m →
    IsBinding program (rows ++ child ∷ []) r name m (IsInstance (length rows))
binding_instance program rows r child link name (Variable t) deeper h d c o n e = cc
binding_instance program rows r child link name (Inner called actuals) deeper h d c o n e = binding_deep program rows r child link name called actuals deeper h d c o n e
binding_instance program rows r child link name (Defined right) deeper h d c o n e = cc
binding_instance program rows r child link name (Formal k) deeper h d c o n e = cc

pub outer_within : (program : Program) (rows : List Row) (r : ℕ) (row : Row) → AreRowsOfProgram program rows → slice_get rows r ≡ Some row → IfSome row.link (λ l. l.outer < length rows)
outer_within program rows r row right e = further row.link (right r row e).outer
  where
    further : (link : Option Link) → IfSome link (λ l. l.outer < r) → IfSome link (λ l. l.outer < length rows)
    further None g = tt
    further (Some l) g = omega (arith, slice_get_within rows r row e)

pub deeper_is : (program : Program) (rows : List Row) (r : ℕ) (row : Row) (n : ℕ) → AreRowsOfProgram program rows → slice_get rows r ≡ Some row → n ≡ length program.modules → goes_deeper program (nth_instance (row_instances rows) r) ≡ nat_lt row.depth n
deeper_is program rows r row n right e h = ap (λ (k : ℕ). nat_lt k (length program.modules)) (sym (right r row e).depth) ∙ ap (nat_lt row.depth) (sym h)

pub slot_right : (program : Program) (rows : List Row) (r : ℕ) (e : Entry) (slot : Slot) (x : Binding ℕ) → slot.row ≡ r → slot.name.now ≡ e.name → binding_view slot.binding ≡ x → IsBinding program rows r e.name e.entity x → IsSlotOf program rows r e slot
slot_right program rows r e slot x h n m right = record {
  row = h;
  name = n;
  binding = ap (renumbered (nth_instance (row_instances rows))) m ∙ right.binding;
  range = subst (InRange (length rows)) (sym m) right.range;
}

-- the row of an instance that another instance declares
pub child_new : (program : Program) (rows : List Row) (r : ℕ) (row child : Row) (link : Link) (name : Name) → AreRowsOfProgram program rows → slice_get rows r ≡ Some row → child.link ≡ Some link → link.outer ≡ r → child.depth ≡ row.depth + 1 →
    row_names child ≡ entries_in (scopes_of program) name → name ≡ link.called.now → IsNew program rows child
child_new program rows r row child link name right e c o d n g = record {
  names = n ∙ (ap (entries_in (scopes_of program)) g ∙ (entries_named_is program.modules link.called.now ∙ ap (λ p. entries (module_at program p)) (sym at)));
  depth = d ∙ (deep (right r row e).depth ∙ ap depth_of (sym at));
  outer = rw (c, o) (slice_get_within rows r row e);
}
  where
    at : instance_of_link (row_instances rows) child.link ≡ Within (nth_instance (row_instances rows) r) link.name.now link.called.now
    at = ap (instance_of_link (row_instances rows)) c ∙ ap (λ x. Within (nth_instance (row_instances rows) x) link.name.now link.called.now) o

    deep : row.depth ≡ depth_of (nth_instance (row_instances rows) r) → row.depth + 1 ≡ suc (depth_of (nth_instance (row_instances rows) r))
    deep e = omega arith

-- ---- all names of an instance

pub extends_more : (a b c : List Row) → Extends a b → Extends b c → Extends a c
extends_more a b c h k = (h.0 ++ k.0, k.1 ∙ (ap (λ x. x ++ k.0) h.1 ∙ append_assoc a h.0 k.0))

pub extends_none : (a : List Row) → Extends a a
extends_none a = ([], sym (append-nil a))

pub extends_length : (a b : List Row) → Extends a b → length a ≤ length b
extends_length a b h = omega (arith, ap length h.1, length-append a h.0)

pub get_view : (es : List Held) (k : ℕ) (e : Held) → k < length es → e ≡ get_or es k e → slice_get (entries_view es) k ≡ Some (entry_view e)
get_view [] k e h g = absurd (omega arith)
get_view (x ∷ es) zero e h g = ap (λ y. Some (entry_view y)) (sym g)
get_view (x ∷ es) (suc k) e h g = get_view es k e (omega arith) g

pub get_none : {A : Type 0} (xs : List A) (k : ℕ) → slice_get xs k ≡ None → length xs ≤ k
get_none [] k e = omega arith
get_none (x ∷ xs) zero e = cc
get_none (x ∷ xs) (suc k) e = omega (arith, get_none xs k e)

pub behind_more : (n : ℕ) (old slots slots' : List Slot) (slot : Slot) → AppendsSlots n old slots → slots' ≡ slots ++ slot ∷ [] → AppendsSlots (n + 1) old slots'
behind_more n old slots slots' slot h e = (h.0 ++ slot ∷ [], e ∙ (ap (λ x. x ++ slot ∷ []) h.1 ∙ append_assoc old h.0 (slot ∷ [])), omega (arith, length-append h.0 (slot ∷ []), h.2))

pub appended_length : (n : ℕ) (old slots : List Slot) → AppendsSlots n old slots → length slots ≡ length old + n
appended_length n old slots h = omega (arith, ap length h.1, length-append old h.0, h.2)

pub below_or : (a b : ℕ) → a < b + 1 → (a < b) ⊎ (a ≡ b)
below_or zero zero h = inr refl
below_or zero (suc b) h = inl (omega arith)
below_or (suc a) zero h = absurd (omega arith)
below_or (suc a) (suc b) h = elim (below_or a b (omega arith)) [ inl g ↦ inl (omega arith) | inr g ↦ inr (ap suc g) ]

abbrev At : Program → List Row → List Slot → ℕ → ℕ → Entry → Type 0
At program rows slots r n e = (slot : Slot) × (slice_get slots n ≡ Some slot) × IsSlotOf program rows r e slot

at_kept : (program : Program) (rows more : List Row) (slots appended : List Slot) (r n : ℕ) (e : Entry) → r < length rows → At program rows slots r n e → At program (rows ++ more) (slots ++ appended) r n e
at_kept program rows more slots appended r n e h a = (a.0, get_append slots appended n a.0 a.1, slot_kept program rows more r e a.0 h a.2)

-- appended slots and rows keep the earlier ones correct
pub upto_kept : (program : Program) (rows rows' : List Row) (slots slots' appended : List Slot) (r first : ℕ) (es : List Entry) (n : ℕ) → Extends rows rows' → slots' ≡ slots ++ appended → r < length rows → AreSlotsUpTo program rows slots r first es n → AreSlotsUpTo program rows' slots' r first es n
upto_kept program rows rows' slots slots' appended r first es n x s h right k e below g =
    subst (λ (ss : List Slot). At program rows' ss r (first + k) e) (sym s) (subst (λ (rs : List Row). At program rs (slots ++ appended) r (first + k) e) (sym x.1) (at_kept program rows x.0 slots appended r (first + k) e h (right k e below g)))

pub upto_more : (program : Program) (rows rows' : List Row) (slots slots' : List Slot) (r first : ℕ) (es : List Entry) (n : ℕ) (e : Entry) → Extends rows rows' → AddsSlot program rows' r e slots slots' → length slots ≡ first + n → slice_get es n ≡ Some e → r < length rows →
    AreSlotsUpTo program rows slots r first es n → AreSlotsUpTo program rows' slots' r first es (n + 1)
upto_more program rows rows' slots slots' r first es n e x a l g h right k e' below g' =
    elim (below_or k n below) [
      | inl b ↦ upto_kept program rows rows' slots slots' (a.0 ∷ []) r first es n x a.1 h right k e' b g'
      | inr b ↦ last k e' b g'
    ]
  where
    here : At program rows' slots' r (first + n) e
    here = (a.0, subst (λ (ss : List Slot). slice_get ss (first + n) ≡ Some a.0) (sym a.1) (get_last slots a.0 (first + n) (sym l)), a.2)

    last : (k : ℕ) (e' : Entry) → k ≡ n → slice_get es k ≡ Some e' → At program rows' slots' r (first + k) e'
    last k e' b g' =
        let s : e ≡ e' = cc (subst (λ (x : ℕ). slice_get es x ≡ Some e') b g') in
        subst (λ (x : ℕ). At program rows' slots' r (first + x) e') (sym b) (subst (λ (y : Entry). At program rows' slots' r (first + n) y) s here)

-- ---- all instances

pub entries_at_get : (rows : List Row) (k : ℕ) (row : Row) → slice_get rows k ≡ Some row → entries_at rows k ≡ row_names row
entries_at_get rows k row e = ap (λ (x : Option Row). elim x [ None ↦ [] | Some row ↦ row_names row ]) e

entries_at_kept : (rows more : List Row) (k : ℕ) → k < length rows → entries_at (rows ++ more) k ≡ entries_at rows k
entries_at_kept rows more k h =
    let r = row_at rows k h in
    entries_at_get (rows ++ more) k r.0 (get_append rows more k r.0 r.1) ∙ sym (entries_at_get rows k r.0 r.1)

pub slots_more : (program : Program) (rows rows' : List Row) (firsts : List ℕ) (slots slots' : List Slot) (row : Row) (n : ℕ) → Extends rows rows' → AppendsSlots n slots slots' → slice_get rows (length firsts) ≡ Some row →
    AreSlotsUpTo program rows' slots' (length firsts) (length slots) (row_names row) (length (row_names row)) →
    AreSlotsOf program rows firsts slots → AreSlotsOf program rows' (firsts ++ length slots ∷ []) slots'
slots_more program rows rows' firsts slots slots' row n x s g here right r first e =
    elim (get_pushed firsts (length slots) r first e) [ inl h ↦ old h.0 h.1 | inr h ↦ new h.0 h.1 ]
  where
    names : (k : ℕ) → k < length rows → entries_at rows' k ≡ entries_at rows k
    names k h = subst (λ (rs : List Row). entries_at rs k ≡ entries_at rows k) (sym x.1) (entries_at_kept rows x.0 k h)

    old : r < length firsts → slice_get firsts r ≡ Some first → AreSlotsUpTo program rows' slots' r first (entries_at rows' r) (length (entries_at rows' r))
    old h f =
        let w : r < length rows = omega (arith, slice_get_within rows (length firsts) row g) in
        subst (λ (es : List Entry). AreSlotsUpTo program rows' slots' r first es (length es)) (sym (names r w)) (upto_kept program rows rows' slots slots' s.0 r first (entries_at rows r) (length (entries_at rows r)) x s.1 w (right r first f))

    here' : AreSlotsUpTo program rows' slots' (length firsts) (length slots) (entries_at rows' (length firsts)) (length (entries_at rows' (length firsts)))
    here' =
        subst (λ (es : List Entry). AreSlotsUpTo program rows' slots' (length firsts) (length slots) es (length es)) (sym (names (length firsts) (slice_get_within rows (length firsts) row g) ∙ entries_at_get rows (length firsts) row g))
        here

    new : r ≡ length firsts → length slots ≡ first → AreSlotsUpTo program rows' slots' r first (entries_at rows' r) (length (entries_at rows' r))
    new h f = subst (λ (x : ℕ). AreSlotsUpTo program rows' slots' x first (entries_at rows' x) (length (entries_at rows' x))) (sym h)
        (subst (λ (y : ℕ). AreSlotsUpTo program rows' slots' (length firsts) y (entries_at rows' (length firsts)) (length (entries_at rows' (length firsts)))) f here')

pub main_new : (program : Program) (row : Row) → row.link ≡ None → row.depth ≡ 0 → row_names row ≡ entries_in (scopes_of program) (codes "main") → IsNew program [] row
main_new program row l d n = record {
  names = n ∙ (entries_named_is program.modules (codes "main") ∙ ap (λ (k : Option Link). entries (module_at program (instance_of_link [] k))) (sym l));
  depth = d ∙ ap (λ (k : Option Link). depth_of (instance_of_link [] k)) (sym l);
  outer = rw l tt;
}
