-- Qualified names by slot: the numbering of names by the instance table.
use Rattle.std.specs.Prelude.{◌≡◌, ℕ, ◌+◌, List, Option, Some, slice_get}
use Rattle.std.specs.Option.{option_map}
use Rattle.smv_meaning.specs.declared.table.Slot.{Slot}
use Rattle.smv_meaning.specs.declared.table.InstanceTable.{InstanceTable}
use Rattle.smv_meaning.specs.Value.{Name, and_then}
use Rattle.fixpoint.specs.Fixpoints.{entry}
use Rattle.smv_meaning.specs.Paths.{QualifiedName, Binding, alias_of_binding, aliases, resolve}
use Rattle.smv_meaning.specs.Entries.{first_index}
use Rattle.smv_meaning.specs.InstanceTable.{entries_at, binding_view}

-- the number of the slot of a name of an instance
abbrev pub slot_of : InstanceTable → QualifiedName ℕ → Option ℕ
slot_of table qualified = and_then (slice_get table.firsts qualified.instance)
    (λ first. option_map (λ k. first + k)
    (first_index qualified.name (entries_at table.rows qualified.instance)))

-- the qualified name of a slot
abbrev pub name_of_slot : Slot → QualifiedName ℕ
name_of_slot slot = record { instance = slot.row; name = slot.name.now }

-- the bindings of the names of the instances, by the table
abbrev pub binding_in : InstanceTable → QualifiedName ℕ → Option (Binding ℕ)
binding_in table qualified = and_then (slot_of table qualified)
    (λ k. and_then (slice_get table.slots k) (λ slot. Some (binding_view slot.binding)))

-- the entry that a table by slots has for a name of an instance
abbrev pub by_slot : {A : Type 0} → InstanceTable → (ℕ → Option A) → QualifiedName ℕ → Option A
by_slot table known_of qualified = and_then (slot_of table qualified) known_of

-- a transfer function over bindings: the entry of a name, given its binding and the entries of
-- others
abbrev pub TransferFunction : Type 0 → Type 0
TransferFunction A = (QualifiedName ℕ → Option A) → QualifiedName ℕ → Binding ℕ → Option A

-- the transfer function as a step on names
abbrev pub name_step : {A : Type 0} → InstanceTable → TransferFunction A
    → (QualifiedName ℕ → Option A) → QualifiedName ℕ → Option A
name_step table transfer known_of qualified = and_then (binding_in table qualified)
    (transfer known_of qualified)

-- the transfer function as a step on slots
abbrev pub slot_step : {A : Type 0} → InstanceTable → TransferFunction A → (ℕ → Option A) → ℕ
    → Option A
slot_step table transfer known_of k = and_then (slice_get table.slots k)
    (λ slot. transfer (by_slot table known_of) (name_of_slot slot) (binding_view slot.binding))

-- each name of an instance has a slot of that name
abbrev pub HasSlots : InstanceTable → Type 0
HasSlots table = (qualified : QualifiedName ℕ) (k : ℕ) → slot_of table qualified ≡ Some k
    → option_map name_of_slot (slice_get table.slots k) ≡ Some qualified

-- the transfer function of aliases, on slots
abbrev pub alias_slots : InstanceTable → (ℕ → Option ℕ) → ℕ → Option ℕ
alias_slots table = slot_step table (λ alias qualified. alias_of_binding alias)

-- the table has the alias of each name
abbrev pub AreAliases : InstanceTable → List (Option ℕ) → Type 0
AreAliases table solution = (qualified : QualifiedName ℕ) → by_slot table (entry solution) qualified
    ≡ aliases (binding_in table) qualified

-- the slot of the declaration that a path resolves to
abbrev pub resolve_slot : InstanceTable → ℕ → List Name → Option ℕ
resolve_slot table row path = and_then (resolve (binding_in table) row path) (slot_of table)
