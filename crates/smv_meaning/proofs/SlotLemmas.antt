-- A fixpoint on names is the fixpoint on their slots.
use Rattle.std.proofs.Common.{◌≡◌, ℕ, zero, suc, drop, get_or, ◌+◌, ◌<◌, ◌≤◌, List, [], ◌∷◌, length, Option, Some, None, refl, sym, ap, ◌∙◌, arith}
use Rattle.std.specs.Prelude.{slice_get}
use Rattle.std.specs.Option.{option_map}
use Rattle.std.proofs.lemmas.Option.{slice_get_past, slice_get_within}
use mathlib.Core.Path.{fun_ext}
use Rattle.smv_ast.specs.declared.program.Program.{Program}
use Rattle.smv_meaning.specs.declared.table.InstanceTable.{InstanceTable}
use Rattle.smv_meaning.specs.declared.table.Slot.{Slot}
use Rattle.smv_meaning.specs.declared.value.Value.{Value}
use Rattle.smv_meaning.specs.Value.{Name, and_then}
use Rattle.fixpoint.specs.Fixpoints.{known, fixpoint, most, entry}
use Rattle.smv_meaning.specs.Paths.{QualifiedName, alias_of_binding, resolve}
use Rattle.smv_meaning.specs.declared.table.Row.{Row}
use Rattle.smv_meaning.specs.Entries.{first_index}
use Rattle.smv_meaning.specs.InstanceTable.{row_names, entries_at, binding_view}
use Rattle.smv_meaning.specs.Slots.{slot_of, name_of_slot, binding_in, by_slot, TransferFunction, name_step, slot_step, HasSlots, alias_slots, AreAliases, resolve_slot}
use Rattle.smv_meaning.specs.Valuation.{variable_at, valuation_slots, IsValuationTable}
use Rattle.smv_meaning.specs.Values.{State, symbol_of, value_of_binding}
use Rattle.smv_meaning.proofs.InstanceTableLemmas.{entries_at_get}

-- ---- slots and names

pub the_slot : (table : InstanceTable) (qualified : QualifiedName ℕ) (k : ℕ) → HasSlots table → slot_of table qualified ≡ Some k → (slot : Slot) × (slice_get table.slots k ≡ Some slot) × (name_of_slot slot ≡ qualified)
the_slot table qualified k has e = mapped (slice_get table.slots k) (has qualified k e)
  where
    mapped : (o : Option Slot) → option_map name_of_slot o ≡ Some qualified → (slot : Slot) × (o ≡ Some slot) × (name_of_slot slot ≡ qualified)
    mapped None h = cc
    mapped (Some slot) h = (slot, refl, cc)

by_none : {A : Type 0} (o : Option ℕ) → and_then {A = ℕ} {B = A} o (λ k. None) ≡ None
by_none None = refl
by_none (Some k) = refl

module _ {A : Type 0} (table : InstanceTable) (has : HasSlots table) (transfer : TransferFunction A) where
  at_slot : (known_of : ℕ → Option A) (qualified : QualifiedName ℕ) (o : Option ℕ) → slot_of table qualified ≡ o → name_step table transfer (by_slot table known_of) qualified ≡ and_then o (slot_step table transfer known_of)
  at_slot known_of qualified None e = ap (λ (x : Option ℕ). and_then (and_then x (λ k. and_then (slice_get table.slots k) (λ slot. Some (binding_view slot.binding)))) (transfer (by_slot table known_of) qualified)) e
  at_slot known_of qualified (Some k) e =
      let s = the_slot table qualified k has e in
      let slot : Slot = s.0 in
      let left : name_step table transfer (by_slot table known_of) qualified ≡ transfer (by_slot table known_of) qualified (binding_view slot.binding) =
      ap (λ (x : Option ℕ). and_then (and_then x (λ k. and_then (slice_get table.slots k) (λ slot. Some (binding_view slot.binding)))) (transfer (by_slot table known_of) qualified)) e
      ∙ ap (λ (x : Option Slot). and_then (and_then x (λ slot. Some (binding_view slot.binding))) (transfer (by_slot table known_of) qualified)) s.1 in
      let right : slot_step table transfer known_of k ≡ transfer (by_slot table known_of) qualified (binding_view slot.binding) =
      ap (λ (x : Option Slot). and_then x (λ slot. transfer (by_slot table known_of) (name_of_slot slot) (binding_view slot.binding))) s.1 ∙ ap (λ (x : QualifiedName ℕ). transfer (by_slot table known_of) x (binding_view slot.binding)) s.2 in
      left ∙ sym right

  known-slots : (rounds : ℕ) (qualified : QualifiedName ℕ) → known (name_step table transfer) rounds qualified ≡ by_slot table (known (slot_step table transfer) rounds) qualified
  known-slots zero qualified = sym (by_none (slot_of table qualified))
  known-slots (suc rounds) qualified =
      ap (λ (t : QualifiedName ℕ → Option A). name_step table transfer t qualified) (fun_ext (known-slots rounds)) ∙ at_slot (known (slot_step table transfer) rounds) qualified (slot_of table qualified) refl

  -- the fixpoint on names is that on slots
  pub fixpoint_slots : (qualified : QualifiedName ℕ) → fixpoint (name_step table transfer) qualified ≡ by_slot table (fixpoint (slot_step table transfer)) qualified
  fixpoint_slots qualified = known-slots most qualified

-- a number beyond the slots has no entry
pub slot_step_past : {A : Type 0} (table : InstanceTable) (transfer : TransferFunction A) (s : ℕ → Option A) (k : ℕ) → length table.slots ≤ k → slot_step table transfer s k ≡ None
slot_step_past table transfer s k h = ap (λ (x : Option Slot). and_then x (λ slot. transfer (by_slot table s) (name_of_slot slot) (binding_view slot.binding))) (slice_get_past table.slots k h)

-- the number of a slot is below the number of slots
pub slot_within : (table : InstanceTable) (instance first k : ℕ) (name : Name) (row : Row) → HasSlots table → slice_get table.firsts instance ≡ Some first → slice_get table.rows instance ≡ Some row → first_index name (row_names row) ≡ Some k → first + k < length table.slots
slot_within table instance first k name row has f r p =
    let qualified : QualifiedName ℕ = record { instance = instance; name = name } in
    let is : slot_of table qualified ≡ Some (first + k) =
    ap (λ (x : Option ℕ). and_then x (λ first. option_map (λ k. first + k) (first_index name (entries_at table.rows instance)))) f
    ∙ ap (option_map (λ k. first + k)) (ap (first_index name) (entries_at_get table.rows instance row r) ∙ p) in
    let s = the_slot table qualified (first + k) has is in
    slice_get_within table.slots (first + k) s.0 s.1

pub alias_slots_past : (table : InstanceTable) (s : ℕ → Option ℕ) (k : ℕ) → length table.slots ≤ k → alias_slots table s k ≡ None
alias_slots_past table = slot_step_past table (λ alias qualified. alias_of_binding alias)

-- a fixpoint of aliases on slots is one on names
pub are_aliases : (table : InstanceTable) (solution : List (Option ℕ)) → HasSlots table → ((k : ℕ) → entry solution k ≡ fixpoint (alias_slots table) k) → AreAliases table solution
are_aliases table solution has right qualified =
    ap (λ (f : ℕ → Option ℕ). by_slot table f qualified) (fun_ext right) ∙ sym (fixpoint_slots table has (λ alias qualified. alias_of_binding alias) qualified)

-- ---- paths

-- a path of a declared name resolves to its slot
resolve_one : (table : InstanceTable) (qualified : QualifiedName ℕ) → HasSlots table → and_then (and_then (binding_in table qualified) (λ m. Some qualified)) (slot_of table) ≡ slot_of table qualified
resolve_one table qualified has = at (slot_of table qualified) refl
  where
    at : (o : Option ℕ) → slot_of table qualified ≡ o → and_then (and_then (and_then o (λ k. and_then (slice_get table.slots k) (λ slot. Some (binding_view slot.binding)))) (λ m. Some qualified)) (slot_of table) ≡ o
    at None e = refl
    at (Some k) e =
        let s = the_slot table qualified k has e in
        ap (λ (x : Option Slot). and_then (and_then (and_then x (λ slot. Some (binding_view slot.binding))) (λ m. Some qualified)) (slot_of table)) s.1 ∙ e

pub resolve_last : (table : InstanceTable) (names : List Name) (i row : ℕ) (name : Name) → HasSlots table → i + 1 ≡ length names → name ≡ get_or names i name → resolve_slot table row (drop i names) ≡ slot_of table (record { instance = row; name = name })
resolve_last table [] i row name has h e = absurd (omega arith)
resolve_last table (n ∷ []) zero row name has h e = ap (λ (x : Name). resolve_slot table row (x ∷ [])) (sym e) ∙ resolve_one table (record { instance = row; name = name }) has
resolve_last table (n ∷ m ∷ names) zero row name has h e = absurd (omega arith)
resolve_last table (n ∷ names) (suc i) row name has h e = resolve_last table names i row name has (omega arith) e

pub resolve_more : (table : InstanceTable) (solution : List (Option ℕ)) (names : List Name) (i row below : ℕ) (name : Name) → AreAliases table solution → i + 1 < length names → name ≡ get_or names i name → by_slot table (entry solution) (record { instance = row; name = name }) ≡ Some below →
    resolve_slot table row (drop i names) ≡ resolve_slot table below (drop (i + 1) names)
resolve_more table solution [] i row below name is_of h e b = absurd (omega arith)
resolve_more table solution (n ∷ []) zero row below name is_of h e b = absurd (omega arith)
resolve_more table solution (n ∷ m ∷ names) zero row below name is_of h e b =
    ap (λ (x : Name). resolve_slot table row (x ∷ m ∷ names)) (sym e)
    ∙ ap (λ (o : Option ℕ). and_then (and_then o (λ p. resolve (binding_in table) p (m ∷ names))) (slot_of table)) (sym (is_of (record { instance = row; name = name })) ∙ b)
resolve_more table solution (n ∷ names) (suc i) row below name is_of h e b =
    let s : suc i + 1 ≡ suc (i + 1) = omega arith in rw s (resolve_more table solution names i row below name is_of (omega arith) e b)

-- ---- values

pub valuation_slots_past : (program : Program) (table : InstanceTable) (state : State) (s : ℕ → Option Value) (k : ℕ) → length table.slots ≤ k → valuation_slots program table state s k ≡ None
valuation_slots_past program table state = slot_step_past table (value_of_binding (binding_in table) (symbol_of program) (variable_at table state))

-- a fixpoint of a valuation on slots is one on names
pub is_valuation_table : (program : Program) (table : InstanceTable) (state : State) (solution : List (Option Value)) → HasSlots table → ((k : ℕ) → entry solution k ≡ fixpoint (valuation_slots program table state) k) → IsValuationTable program table state solution
is_valuation_table program table state solution has right qualified =
    ap (λ (f : ℕ → Option Value). by_slot table f qualified) (fun_ext right) ∙ sym (fixpoint_slots table has (value_of_binding (binding_in table) (symbol_of program) (variable_at table state)) qualified)
