-- Sorts by number are those by instance, over a correct instance table.
use Rattle.std.proofs.Common.{◌≡◌, ℕ, zero, suc, ◌<◌, List, length, Option, Some, None, refl, sym, ap, ◌∙◌}
use Rattle.std.specs.Option.{option_map, is_some}
use mathlib.Core.Path.{fun_ext}
use Rattle.smv_ast.specs.declared.syntax.Expr.{Expr}
use Rattle.smv_ast.specs.declared.program.Program.{Program}
use Rattle.smv_meaning.specs.declared.table.InstanceTable.{InstanceTable}
use Rattle.smv_meaning.specs.Value.{Name, and_then}
use Rattle.fixpoint.specs.Fixpoints.{known, most, entry}
use Rattle.smv_meaning.specs.Paths.{QualifiedName, Binding, Aliases, IsVariable, IsInstance, IsDefine, IsFormal, IsNothing, aliased, aliases, resolve}
use Rattle.smv_meaning.specs.Instances.{Entry, Instance, binding_at, entries, module_at}
use Rattle.smv_meaning.specs.Entries.{entity_among}
use Rattle.smv_meaning.specs.InstanceTable.{entries_at, nth_instance, row_instances, renumbered, InRange, IsTableOf}
use Rattle.smv_meaning.specs.Slots.{slot_of, binding_in, by_slot, AreAliases, resolve_slot}
use Rattle.smv_meaning.proofs.InstanceTableLemmas.{names_at}
use Rattle.smv_meaning.proofs.NumberLemmas.{SameInstance, SameName, qualified_at, same_binding, stood_same, aliases_same, resolve_same}
use Rattle.smv_meaning.proofs.BindingLemmas.{resolve_slot_is}
use Rattle.smv_kinds.specs.declared.sorts.Sort.{Sort}
use Rattle.smv_kinds.specs.Sorts.{defined_sort}
use Rattle.smv_kinds.specs.Facts.{SortEnvironment, facts_of}
use Rattle.smv_kinds.specs.SortsOfNames.{Sorts, variable_sort, symbol_sort, sort_at, sorting_by, sort_by, sort_of, sort_step, sorts_in, target_sort, target_in, variable_at, sorting_in, row_variable, row_sorting, AreSorts}

-- a path that resolves to no slot resolves to no declaration
pub resolve_none : (table : InstanceTable) (row : ℕ) (path : List Name) → resolve_slot table row path ≡ None → resolve (binding_in table) row path ≡ None
resolve_none table row path h = at (resolve (binding_in table) row path) refl h
  where
    at : (o : Option (QualifiedName ℕ)) → resolve (binding_in table) row path ≡ o → and_then o (slot_of table) ≡ None → resolve (binding_in table) row path ≡ None
    at None e g = e
    at (Some qualified) e g = let k = resolve_slot_is table path row qualified e in let n : Some k.0 ≡ None = sym k.1 ∙ g in cc

module _ (program : Program) (table : InstanceTable) (right : IsTableOf program table.rows table.firsts table.slots) where
  abbrev instance_at : ℕ → Instance
  instance_at k = nth_instance (row_instances table.rows) k

  abbrev n : ℕ
  n = length table.rows

  -- ---- the sorts of names

  pub row_names : (r : ℕ) → r < n → entries_at table.rows r ≡ entries (module_at program (instance_at r))
  row_names r h = names_at program table.rows r right.rows h

  pub row_targets : (r : ℕ) → r < n → (name : Name) → target_sort (entity_among (entries_at table.rows r) name) ≡ target_in program (instance_at r) name
  row_targets r h name = ap (λ (es : List Entry). target_sort (entity_among es name)) (row_names r h)

  variable_same : (r : ℕ) (name : Name) → r < n → row_variable table (qualified_at r name) ≡ variable_at program (qualified_at (instance_at r) name)
  variable_same r name h = ap (λ (es : List Entry). variable_sort (entity_among es name)) (row_names r h)

  -- the sort of a name, by number
  abbrev by_number : Sorts ℕ → QualifiedName ℕ → Binding ℕ → Option Sort
  by_number = sort_of (binding_in table) (row_variable table) (symbol_sort program)

  abbrev by_instance : Sorts Instance → QualifiedName Instance → Binding Instance → Option Sort
  by_instance = sort_of (binding_at program) (variable_at program) (symbol_sort program)

  -- the sorts of names agree
  abbrev Sorted : Sorts ℕ → Sorts Instance → Type 0
  Sorted u w = (r : ℕ) (name : Name) → r < n → u (qualified_at r name) ≡ w (qualified_at (instance_at r) name)

  sorting_same : (u : Sorts ℕ) (w : Sorts Instance) → Sorted u w → (r : ℕ) → r < n → sorting_by (binding_in table) (row_variable table) (symbol_sort program) u r ≡ sorting_by (binding_at program) (variable_at program) (symbol_sort program) w (instance_at r)
  sorting_same u w a r h = fun_ext (λ path. at path (resolve (binding_in table) r path) (resolve (binding_at program) (instance_at r) path) (resolve_same program table right path r h))
    where
      at : (path : List Name) (o : Option (QualifiedName ℕ)) (p : Option (QualifiedName Instance)) → SameName program table right o p → sort_at (symbol_sort program) u path o ≡ sort_at (symbol_sort program) w path p
      at path None p s = ap (sort_at (symbol_sort program) w path) s.same
      at path (Some qualified) p s = a qualified.instance qualified.name (s.range qualified refl) ∙ ap (sort_at (symbol_sort program) w path) s.same

  read_same : (u : Sorts ℕ) (w : Sorts Instance) → Sorted u w → (r : ℕ) (e : Expr) → r < n →
      sort_by (binding_in table) (row_variable table) (symbol_sort program) u r e ≡ sort_by (binding_at program) (variable_at program) (symbol_sort program) w (instance_at r) e
  read_same u w a r e h = ap (λ (x : SortEnvironment). (facts_of x e).sort) (sorting_same u w a r h)

  sort_of_same : (u : Sorts ℕ) (w : Sorts Instance) → Sorted u w → (r : ℕ) (name : Name) → r < n → (m : Binding ℕ) → InRange n m → by_number u (qualified_at r name) m ≡ by_instance w (qualified_at (instance_at r) name) (renumbered instance_at m)
  sort_of_same u w a r name h IsVariable g = ap Some (variable_same r name h)
  sort_of_same u w a r name h (IsInstance c) g = refl
  sort_of_same u w a r name h (IsDefine right') g = ap defined_sort (read_same u w a r right' h)
  sort_of_same u w a r name h (IsFormal c actual) g = read_same u w a c actual g
  sort_of_same u w a r name h IsNothing g = refl

  step_same : (u : Sorts ℕ) (w : Sorts Instance) → Sorted u w → Sorted (sort_step (binding_in table) (row_variable table) (symbol_sort program) u) (sort_step (binding_at program) (variable_at program) (symbol_sort program) w)
  step_same u w a r name h = let m = same_binding program table right r name h in at (binding_in table (qualified_at r name)) (binding_at program (qualified_at (instance_at r) name)) m.same m.range
    where
      at : (o : Option (Binding ℕ)) (p : Option (Binding Instance)) → option_map (renumbered instance_at) o ≡ p → ((m : Binding ℕ) → o ≡ Some m → InRange n m) →
          and_then o (by_number u (qualified_at r name)) ≡ and_then p (by_instance w (qualified_at (instance_at r) name))
      at None p e g = ap (λ (q : Option (Binding Instance)). and_then q (by_instance w (qualified_at (instance_at r) name))) e
      at (Some m) p e g = sort_of_same u w a r name h m (g m refl) ∙ ap (λ (q : Option (Binding Instance)). and_then q (by_instance w (qualified_at (instance_at r) name))) e

  sorts_known : (rounds : ℕ) → Sorted (known (sort_step (binding_in table) (row_variable table) (symbol_sort program)) rounds) (known (sort_step (binding_at program) (variable_at program) (symbol_sort program)) rounds)
  sorts_known zero r name h = refl
  sorts_known (suc rounds) r name h =
      step_same (known (sort_step (binding_in table) (row_variable table) (symbol_sort program)) rounds) (known (sort_step (binding_at program) (variable_at program) (symbol_sort program)) rounds) (sorts_known rounds) r name h

  -- the environment of sorts of an instance, by a table of its slots
  pub row_sorting_is : (solution : List (Option Sort)) (r : ℕ) → AreSorts program table solution → r < n → row_sorting program table solution r ≡ sorting_in program (instance_at r)
  row_sorting_is solution r is_of h =
      ap (λ (u : Sorts ℕ). sorting_by (binding_in table) (row_variable table) (symbol_sort program) u r) (fun_ext is_of)
      ∙ sorting_same (sorts_in (binding_in table) (row_variable table) (symbol_sort program)) (sorts_in (binding_at program) (variable_at program) (symbol_sort program)) (sorts_known most) r h

  there : (o : Option ℕ) (p : Option Instance) → SameInstance program table right o p → is_some o ≡ is_some p
  there None p s = ap is_some s.same
  there (Some c) p s = ap is_some s.same

  -- whether an expression denotes an instance, by a table of its slots
  pub instance_of_row : (solution : List (Option ℕ)) (r : ℕ) → AreAliases table solution → r < n → (e : Expr) → is_some (aliased (by_slot table (entry solution)) r e) ≡ is_some (aliased (aliases (binding_at program)) (instance_at r) e)
  instance_of_row solution r is_of h e =
      ap (λ (s : Aliases ℕ). is_some (aliased s r e)) (fun_ext is_of)
      ∙ there (aliased (aliases (binding_in table)) r e) (aliased (aliases (binding_at program)) (instance_at r) e) (stood_same program table right (aliases (binding_in table)) (aliases (binding_at program)) (aliases_same program table right) r e h)
