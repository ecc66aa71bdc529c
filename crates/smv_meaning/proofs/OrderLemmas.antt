-- The instances in their order, by number.
use Rattle.std.proofs.Common.{◌≡◌, ℕ, zero, suc, ◌+◌, ◌<◌, ◌≤◌, Bool, true, false, List, [], ◌∷◌, ◌++◌, length, map, drop, get_or, Option, Some, None, refl, sym, ap, ◌∙◌, subst, arith, append_assoc, if◌then◌else◌}
use Rattle.std.proofs.lemmas.Option.{slice_get_within}
use Rattle.std.specs.Prelude.{slice_get, All}
use Rattle.std.specs.List.{flat_map}
use Rattle.std.proofs.lemmas.Grind.{flat_map-append}
use Rattle.std.proofs.lemmas.List.{map-append, append-nil}
use Rattle.std.proofs.lemmas.List.Elements.{All-push}
use Rattle.smv_ast.specs.declared.syntax.Expr.{Expr}
use Rattle.smv_ast.specs.declared.program.Program.{Program}
use Rattle.smv_meaning.specs.declared.table.InstanceTable.{InstanceTable}
use Rattle.smv_meaning.specs.declared.table.Slot.{Slot}
use Rattle.smv_meaning.specs.declared.table.Row.{Row}
use Rattle.smv_meaning.specs.declared.order.Waiting.{Waiting}
use Rattle.smv_meaning.specs.Value.{Name, and_then}
use Rattle.smv_meaning.specs.Paths.{Binding, IsVariable, IsInstance, IsDefine, IsFormal, IsNothing}
use Rattle.smv_meaning.specs.Instances.{Entity, Variable, Inner, Defined, Formal, Entry, Instance, Main, Within, entries, module_at, entity_at, inner_of, subtree, goes_deeper, formal_at, binding_in, actuals_of}
use Rattle.smv_meaning.specs.InstanceTable.{row_names, entries_at, renumbered, InRange, binding_view}
use Rattle.smv_meaning.specs.Checking.{IsTableOfProgram, instance_at, slot_in, declared_instance, inner_slot, AreRows, waiting_at, waiting_instances, AreWaiting}
use Rattle.smv_meaning.proofs.InstanceTableLemmas.{names_at, entries_at_index}
use Rattle.smv_meaning.proofs.NumberLemmas.{get_at}

pub flat_next : {A B : Type 0} (G : A → List B) (xs : List A) (k : ℕ) (x : A) → slice_get xs k ≡ Some x → flat_map G (drop k xs) ≡ G x ++ flat_map G (drop (k + 1) xs)
flat_next G [] k x e = cc
flat_next G (y ∷ ys) zero x e = let s : y ≡ x = cc in ap (λ z. G z ++ flat_map G ys) s
flat_next G (y ∷ ys) (suc k) x e = let s : suc k + 1 ≡ suc (k + 1) = omega arith in rw s (flat_next G ys k x e)

pub drop_past : {A : Type 0} (xs : List A) (k : ℕ) → length xs ≤ k → drop k xs ≡ []
drop_past [] zero h = refl
drop_past [] (suc k) h = refl
drop_past (x ∷ xs) zero h = absurd (omega arith)
drop_past (x ∷ xs) (suc k) h = drop_past xs k (omega arith)

inner_placed : (f : ℕ → Instance) (m : Binding ℕ) → map f (declared_instance m) ≡ declared_instance (renumbered f m)
inner_placed f IsVariable = refl
inner_placed f (IsInstance c) = refl
inner_placed f (IsDefine right) = refl
inner_placed f (IsFormal c actual) = refl
inner_placed f IsNothing = refl

formal_inner : (program : Program) (p : Instance) (k : ℕ) → declared_instance (formal_at program p k) ≡ []
formal_inner program Main k = refl
formal_inner program (Within outer name called) k = at (slice_get (actuals_of (entity_at program outer name)) k)
  where
    at : (o : Option Expr) → declared_instance {P = Instance} (elim o [ None ↦ IsNothing | Some a ↦ IsFormal outer a ]) ≡ []
    at None = refl
    at (Some a) = refl

inner_of_is : (program : Program) (p : Instance) (name : Name) (m : Entity) → inner_of program p name m ≡ declared_instance (binding_in program p name m)
inner_of_is program p name (Variable t) = refl
inner_of_is program p name (Inner called actuals) = at (goes_deeper program p)
  where
    at : (b : Bool) → (if b then Within p name called ∷ [] else []) ≡ declared_instance (if b then IsInstance (Within p name called) else IsNothing)
    at true = refl
    at false = refl
inner_of_is program p name (Defined right) = refl
inner_of_is program p name (Formal k) = sym (formal_inner program p k)

range_inner : (n : ℕ) (m : Binding ℕ) → InRange n m → All (λ row. row < n) (declared_instance m)
range_inner n IsVariable h = λ k d g. absurd (omega arith)
range_inner n (IsInstance c) h = All-push (λ row. row < n) [] c (λ k d g. absurd (omega arith)) h
range_inner n (IsDefine right) h = λ k d g. absurd (omega arith)
range_inner n (IsFormal c actual) h = λ k d g. absurd (omega arith)
range_inner n IsNothing h = λ k d g. absurd (omega arith)

module _ (program : Program) (table : InstanceTable) (right : IsTableOfProgram program table) (row : ℕ) (within : row < length table.rows) where
  abbrev names : List Entry
  names = entries (module_at program (instance_at table row))

  pub record Visited (k : ℕ) (e : Entry) : Type 0 where
    pub inner : map (instance_at table) (inner_slot (slot_in table row k)) ≡ inner_of program (instance_at table row) e.name e.entity
    pub rows : AreRows table (inner_slot (slot_in table row k))

  pub visited : (k : ℕ) (e : Entry) → slice_get names k ≡ Some e → Visited k e
  visited k e at =
      let f = get_at table.firsts row (first_within right.count) in
      let same : entries_at table.rows row ≡ names = names_at program table.rows row right.rows within in
      let at' : slice_get (entries_at table.rows row) k ≡ Some e = ap (λ (es : List Entry). slice_get es k) same ∙ at in
      let s = right.slots row f.0 f.1 k e (slice_get_within (entries_at table.rows row) k e at') at' in
      let slot : slot_in table row k ≡ Some s.0 = ap (λ (o : Option ℕ). and_then o (λ first. slice_get table.slots (first + k))) f.1 ∙ s.1 in
      record {
        inner = ap (λ (o : Option Slot). map (instance_at table) (inner_slot o)) slot ∙ (inner_placed (instance_at table) (binding_view s.0.binding) ∙ (ap declared_instance s.2.binding ∙ sym (inner_of_is program (instance_at table row) e.name e.entity)));
        rows = subst (λ (o : Option Slot). AreRows table (inner_slot o)) (sym slot) (range_inner (length table.rows) (binding_view s.0.binding) s.2.range);
      }
    where
      first_within : length table.firsts ≡ length table.rows → row < length table.firsts
      first_within c = omega arith

  -- the subtree of the instance that one more name declares
  pub visit_next : (left k : ℕ) (e : Entry) → slice_get names k ≡ Some e →
      flat_map (subtree left program) (flat_map (λ e. inner_of program (instance_at table row) e.name e.entity) (drop k names))
      ≡ flat_map (subtree left program) (map (instance_at table) (inner_slot (slot_in table row k))) ++ flat_map (subtree left program) (flat_map (λ e. inner_of program (instance_at table row) e.name e.entity) (drop (k + 1) names))
  visit_next left k e at =
      ap (flat_map (subtree left program)) (flat_next (λ e. inner_of program (instance_at table row) e.name e.entity) names k e at)
      ∙ (flat_map-append (subtree left program) (inner_of program (instance_at table row) e.name e.entity) (flat_map (λ e. inner_of program (instance_at table row) e.name e.entity) (drop (k + 1) names))
      ∙ ap (λ (ps : List Instance). flat_map (subtree left program) ps ++ flat_map (subtree left program) (flat_map (λ e. inner_of program (instance_at table row) e.name e.entity) (drop (k + 1) names))) (sym (visited k e at).inner))

  pub names_count : length (entries_at table.rows row) ≡ length names
  names_count = ap length (names_at program table.rows row right.rows within)

-- one more instance on the stack
pub instances_push : (program : Program) (table : InstanceTable) (ws : List Waiting) (w : Waiting) → waiting_instances program table (ws ++ w ∷ []) ≡ subtree w.left program (instance_at table w.row) ++ waiting_instances program table ws
instances_push program table [] w = sym (append-nil _)
instances_push program table (x ∷ xs) w =
    ap (λ (ps : List Instance). ps ++ subtree x.left program (instance_at table x.row)) (instances_push program table xs w)
    ∙ append_assoc (subtree w.left program (instance_at table w.row)) (waiting_instances program table xs) (subtree x.left program (instance_at table x.row))

-- the instance that a binding declares is pushed, if there is one
instances_inner : (program : Program) (table : InstanceTable) (left : ℕ) (ws : List Waiting) (m : Binding ℕ) →
    waiting_instances program table (ws ++ map (waiting_at left) (declared_instance m)) ≡ flat_map (subtree left program) (map (instance_at table) (declared_instance m)) ++ waiting_instances program table ws
instances_inner program table left ws (IsInstance row) =
    instances_push program table ws (waiting_at left row) ∙ ap (λ (ps : List Instance). ps ++ waiting_instances program table ws) (sym (append-nil (subtree left program (instance_at table row))))
instances_inner program table left ws IsVariable = ap (waiting_instances program table) (append-nil ws)
instances_inner program table left ws (IsDefine right) = ap (waiting_instances program table) (append-nil ws)
instances_inner program table left ws (IsFormal row actual) = ap (waiting_instances program table) (append-nil ws)
instances_inner program table left ws IsNothing = ap (waiting_instances program table) (append-nil ws)

pub instances_slot : (program : Program) (table : InstanceTable) (left : ℕ) (ws : List Waiting) (slot : Option Slot) →
    waiting_instances program table (ws ++ map (waiting_at left) (inner_slot slot)) ≡ flat_map (subtree left program) (map (instance_at table) (inner_slot slot)) ++ waiting_instances program table ws
instances_slot program table left ws None = ap (waiting_instances program table) (append-nil ws)
instances_slot program table left ws (Some slot) = instances_inner program table left ws (binding_view slot.binding)

waiting_inner : (table : InstanceTable) (left : ℕ) (ws : List Waiting) (m : Binding ℕ) → AreRows table (declared_instance m) → AreWaiting table ws → AreWaiting table (ws ++ map (waiting_at left) (declared_instance m))
waiting_inner table left ws (IsInstance row) rows waiting = All-push (λ w. w.row < length table.rows) ws (waiting_at left row) waiting (rows 0 0 (omega arith))
waiting_inner table left ws IsVariable rows waiting = subst (AreWaiting table) (sym (append-nil ws)) waiting
waiting_inner table left ws (IsDefine right) rows waiting = subst (AreWaiting table) (sym (append-nil ws)) waiting
waiting_inner table left ws (IsFormal row actual) rows waiting = subst (AreWaiting table) (sym (append-nil ws)) waiting
waiting_inner table left ws IsNothing rows waiting = subst (AreWaiting table) (sym (append-nil ws)) waiting

pub waiting_slot : (table : InstanceTable) (left : ℕ) (ws : List Waiting) (slot : Option Slot) → AreRows table (inner_slot slot) → AreWaiting table ws → AreWaiting table (ws ++ map (waiting_at left) (inner_slot slot))
waiting_slot table left ws None rows waiting = subst (AreWaiting table) (sym (append-nil ws)) waiting
waiting_slot table left ws (Some slot) rows waiting = waiting_inner table left ws (binding_view slot.binding) rows waiting

-- an instance is popped, and the instances that it declares are pushed
pub round_taken : (program : Program) (table : InstanceTable) (old order : List ℕ) (ws popped new : List Waiting) (w : Waiting) → order ≡ old ++ w.row ∷ [] → ws ≡ popped ++ w ∷ [] →
    instance_at table w.row ∷ waiting_instances program table new ≡ subtree w.left program (instance_at table w.row) ++ waiting_instances program table popped →
    map (instance_at table) order ++ waiting_instances program table new ≡ map (instance_at table) old ++ waiting_instances program table ws
round_taken program table old order ws popped new w e f round =
    ap (λ (xs : List ℕ). map (instance_at table) xs ++ waiting_instances program table new) e
    ∙ (ap (λ (ps : List Instance). ps ++ waiting_instances program table new) (map-append (instance_at table) old (w.row ∷ []))
    ∙ (append_assoc (map (instance_at table) old) (instance_at table w.row ∷ []) (waiting_instances program table new)
    ∙ ap (λ (ps : List Instance). map (instance_at table) old ++ ps) (round ∙ (sym (instances_push program table popped w) ∙ ap (waiting_instances program table) (sym f)))))

pub round_shorter : (program : Program) (table : InstanceTable) (ws popped new : List Waiting) (w : Waiting) → ws ≡ popped ++ w ∷ [] →
    instance_at table w.row ∷ waiting_instances program table new ≡ subtree w.left program (instance_at table w.row) ++ waiting_instances program table popped →
    length (waiting_instances program table new) < length (waiting_instances program table ws)
round_shorter program table ws popped new w f round =
    let same : length (instance_at table w.row ∷ waiting_instances program table new) ≡ length (waiting_instances program table ws) = ap length (round ∙ (sym (instances_push program table popped w) ∙ ap (waiting_instances program table) (sym f))) in
    omega (arith, same)

pub rows_push : (table : InstanceTable) (old new : List ℕ) (row : ℕ) → new ≡ old ++ row ∷ [] → row < length table.rows → AreRows table old → AreRows table new
rows_push table old new row e h rows = subst (AreRows table) (sym e) (All-push (λ row. row < length table.rows) old row rows h)

pub count_is : (rows : List Row) (k : ℕ) (row : Row) → k < length rows → row ≡ get_or rows k row → length (row_names row) ≡ length (entries_at rows k)
count_is rows k row h e = ap length (sym (entries_at_index rows k row h e))
