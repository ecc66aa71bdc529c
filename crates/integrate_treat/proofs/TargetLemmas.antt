-- Resolution of a target by number.
use Rattle.std.proofs.Common.{◌≡◌, ℕ, ◌<◌, Bool, true, false, ◌||◌, List, [], ◌∷◌, length, get_or, Option, Some, None, refl, sym, ap, ◌∙◌}
use Rattle.std.specs.Prelude.{is_some, not, slice_get}
use Rattle.std.specs.Option.{option_map}
use Rattle.std.specs.Str.{bytes_eq}
use Rattle.smv_ast.specs.declared.program.Program.{Program}
use Rattle.smv_meaning.specs.declared.table.InstanceTable.{InstanceTable}
use Rattle.smv_meaning.specs.declared.table.Row.{Row}
use Rattle.smv_meaning.specs.declared.table.Link.{Link}
use Rattle.smv_meaning.specs.declared.table.Slot.{Slot}
use Rattle.fixpoint.specs.Fixpoints.{entry}
use Rattle.smv_meaning.specs.Value.{Name, and_then}
use Rattle.smv_meaning.specs.Paths.{QualifiedName, Aliases, aliases, resolve, resolve_by}
use Rattle.smv_meaning.specs.Instances.{Instance, Entry, called_at, binding_at}
use Rattle.smv_meaning.specs.Entries.{entity_among}
use Rattle.smv_meaning.specs.Scopes.{scopes_of, entries_in}
use Rattle.smv_meaning.specs.InstanceTable.{binding_view, instance_of_link, row_instances}
use Rattle.smv_meaning.specs.Slots.{slot_of, binding_in, AreAliases, resolve_slot}
use Rattle.smv_meaning.specs.Checking.{IsTableOfProgram, instance_at}
use Rattle.smv_meaning.proofs.NumberLemmas.{qualified_at, SameName, aliases_same, resolve_same}
use Rattle.smv_meaning.proofs.InstanceTableLemmas.{entries_named_is}
use Rattle.smv_meaning.proofs.ValuationLemmas.{get_item}
use Rattle.integrate_treat.specs.Target.{declared_in, is_value, resolves_to_value, resolves_if_of, is_value_slot, called_by_link}

pub some_mapped : {A B : Type 0} (f : A → B) (o : Option A) → is_some (option_map f o) ≡ is_some o
some_mapped f None = refl
some_mapped f (Some a) = refl

-- the declaration that a path resolves to has a slot
has_slot : (table : InstanceTable) (alias : Aliases ℕ) (path : List Name) (row : ℕ) → is_some (and_then (resolve_by (binding_in table) alias row path) (slot_of table)) ≡ is_some (resolve_by (binding_in table) alias row path)
has_slot table alias [] row = refl
has_slot table alias (name ∷ []) row = at (slot_of table (qualified_at row name)) refl
  where
    slotted : (k : ℕ) → slot_of table (qualified_at row name) ≡ Some k → (o : Option Slot) →
        is_some (and_then (and_then (and_then o (λ slot. Some (binding_view slot.binding))) (λ m. Some (qualified_at row name))) (slot_of table)) ≡ is_some (and_then (and_then o (λ slot. Some (binding_view slot.binding))) (λ m. Some (qualified_at row name)))
    slotted k e None = refl
    slotted k e (Some slot) = ap is_some e

    at : (o : Option ℕ) → slot_of table (qualified_at row name) ≡ o →
        is_some (and_then (and_then (and_then o (λ k. and_then (slice_get table.slots k) (λ slot. Some (binding_view slot.binding)))) (λ m. Some (qualified_at row name))) (slot_of table))
        ≡ is_some (and_then (and_then o (λ k. and_then (slice_get table.slots k) (λ slot. Some (binding_view slot.binding)))) (λ m. Some (qualified_at row name)))
    at None e = refl
    at (Some k) e = slotted k e (slice_get table.slots k)
has_slot table alias (name ∷ next ∷ more) row = at (has_slot table alias (next ∷ more)) (alias (qualified_at row name))
  where
    at : ((row : ℕ) → is_some (and_then (resolve_by (binding_in table) alias row (next ∷ more)) (slot_of table)) ≡ is_some (resolve_by (binding_in table) alias row (next ∷ more))) → (o : Option ℕ) →
        is_some (and_then (and_then o (λ p. resolve_by (binding_in table) alias p (next ∷ more))) (slot_of table)) ≡ is_some (and_then o (λ p. resolve_by (binding_in table) alias p (next ∷ more)))
    at h None = refl
    at h (Some p) = h p

-- a declaration is no alias exactly where its slot is none
slot_is_value : (table : InstanceTable) (solution : List (Option ℕ)) → AreAliases table solution → (o : Option (QualifiedName ℕ)) → is_some (and_then o (slot_of table)) ≡ is_some o
    → is_value_slot (entry solution) (and_then o (slot_of table)) ≡ is_value (aliases (binding_in table)) o
slot_is_value table solution are None e = refl
slot_is_value table solution are (Some q) e = at (slot_of table q) refl e
  where
    at : (s : Option ℕ) → slot_of table q ≡ s → is_some s ≡ true → is_value_slot (entry solution) s ≡ not (is_some (aliases (binding_in table) q))
    at None g e = cc
    at (Some k) g e = ap (λ (o : Option ℕ). not (is_some o)) (sym (ap (λ (s : Option ℕ). and_then s (entry solution)) g) ∙ are q)

module _ (program : Program) (table : InstanceTable) (right : IsTableOfProgram program table) where
  -- by number and in the program
  numbered_is : (o : Option (QualifiedName ℕ)) (p : Option (QualifiedName Instance)) → SameName program table right o p → is_value (aliases (binding_in table)) o ≡ is_value (aliases (binding_at program)) p
  numbered_is None p s = ap (is_value (aliases (binding_at program))) s.same
  numbered_is (Some q) p s =
      let a = aliases_same program table right q.instance q.name (s.range q refl) in
      ap not (sym (some_mapped (instance_at table) (aliases (binding_in table) q)) ∙ ap is_some a.same)
      ∙ ap (is_value (aliases (binding_at program))) s.same

  pub value_is : (solution : List (Option ℕ)) (row : ℕ) (path : List Name) → AreAliases table solution → row < length table.rows
      → is_value_slot (entry solution) (resolve_slot table row path) ≡ resolves_to_value program path (instance_at table row)
  value_is solution row path are h =
      slot_is_value table solution are (resolve (binding_in table) row path) (has_slot table (aliases (binding_in table)) path row)
      ∙ numbered_is (resolve (binding_in table) row path) (resolve (binding_at program) (instance_at table row) path) (resolve_same program table right path row h)

  called_next : (ps : List Instance) (link : Option Link) → called_at (instance_of_link ps link) ≡ called_by_link link
  called_next ps None = refl
  called_next ps (Some link) = refl

  -- the module of the instance of a row
  pub called_is : (k : ℕ) (row : Row) → k < length table.rows → row ≡ get_or table.rows k row → called_at (instance_at table k) ≡ called_by_link row.link
  called_is k row h e = ap called_at (right.rows k row (get_item table.rows k row h e)).instance_at ∙ called_next (row_instances table.rows) row.link

  module _ (called : Name) (path : List Name) (k : ℕ) (row : Row) (within : k < length table.rows) (here : row ≡ get_or table.rows k row) where
    by_module : (b : Bool) → bytes_eq (called_by_link row.link) called ≡ b → resolves_if_of program called path (instance_at table k) ≡ (not b || resolves_to_value program path (instance_at table k))
    by_module b e =
        ap (λ (n : Name). not (bytes_eq n called) || resolves_to_value program path (instance_at table k)) (called_is k row within here)
        ∙ ap (λ (b : Bool). not b || resolves_to_value program path (instance_at table k)) e

    -- an instance of the module, and one of another
    pub of_module : bytes_eq (called_by_link row.link) called ≡ true → resolves_if_of program called path (instance_at table k) ≡ resolves_to_value program path (instance_at table k)
    of_module = by_module true

    pub of_another : bytes_eq (called_by_link row.link) called ≡ false → resolves_if_of program called path (instance_at table k) ≡ true
    of_another = by_module false

-- the names of the module of a name
pub declared_is : (program : Program) (called name : Name) (es : List Entry) → es ≡ entries_in (scopes_of program) called → is_some (entity_among es name) ≡ declared_in program called name
declared_is program called name es e = ap (λ (es : List Entry). is_some (entity_among es name)) (e ∙ entries_named_is program.modules called)
