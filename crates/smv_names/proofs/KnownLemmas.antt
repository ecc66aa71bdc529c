-- Resolution of paths by number, and of single names.
use Rattle.std.proofs.Common.{◌≡◌, ℕ, ◌<◌, Bool, true, false, cond, ◌&&◌, ◌||◌, List, [], ◌∷◌, length, get_or, Option, Some, None, refl, sym, ap, ◌∙◌, subst, arith}
use Rattle.std.proofs.Math.Bool.{or-false}
use Rattle.std.specs.Prelude.{is_some, not, find}
use Rattle.std.specs.List.{list_all, list_any}
use Rattle.std.specs.Str.{bytes_eq}
use Rattle.std.proofs.lemmas.Slice.Eq.{bytes_eq-Decides}
use Rattle.smv_ast.specs.declared.program.Program.{Program}
use Rattle.smv_meaning.specs.declared.table.InstanceTable.{InstanceTable}
use Rattle.smv_meaning.specs.Value.{Name, and_then}
use Rattle.smv_meaning.specs.Paths.{QualifiedName, resolve}
use Rattle.smv_meaning.specs.Instances.{Instance, Entity, Entry, entries, called_at, module_named, module_at, lookup, binding_at, binding_in as renumbered_binding, instances}
use Rattle.smv_meaning.specs.Values.{is_symbol}
use Rattle.smv_meaning.specs.Slots.{slot_of, binding_in, resolve_slot}
use Rattle.smv_meaning.specs.Checking.{IsTableOfProgram, instance_at}
use Rattle.smv_meaning.proofs.NumberLemmas.{qualified_at, resolve_same}
use Rattle.smv_meaning.proofs.BindingLemmas.{some_mapped, resolve_slot_is}
use Rattle.smv_meaning.specs.Entries.{entity_among}
use mathlib.Core.Path.{fun_ext}
use Rattle.std.proofs.Common.{map}
use Rattle.smv_meaning.specs.NameSets.{no_name, and_names}
use Rattle.smv_meaning.proofs.NameSetLemmas.{among}
use Rattle.smv_names.specs.Unknown.{declared_in, resolves_if_of, is_resolved_in_each, is_resolved}

-- ---- instances by number

-- the declaration that a path resolves to has a slot
has_slot : (table : InstanceTable) (path : List Name) (row : ℕ) → is_some (resolve_slot table row path) ≡ is_some (resolve (binding_in table) row path)
has_slot table path row = at (resolve (binding_in table) row path) refl
  where
    at : (o : Option (QualifiedName ℕ)) → resolve (binding_in table) row path ≡ o → is_some (and_then o (slot_of table)) ≡ is_some o
    at None e = refl
    at (Some qualified) e = ap is_some (resolve_slot_is table path row qualified e).1

-- a path resolves by number exactly where it resolves in the program
pub resolve_is : (program : Program) (table : InstanceTable) (row : ℕ) (path : List Name) → IsTableOfProgram program table → row < length table.rows → is_some (resolve_slot table row path) ≡ is_some (resolve (binding_at program) (instance_at table row) path)
resolve_is program table row path right h =
    let s = resolve_same program table right path row h in
    has_slot table path row ∙ (sym (some_mapped (λ qualified. qualified_at (instance_at table qualified.instance) qualified.name) (resolve (binding_in table) row path)) ∙ ap is_some s.same)

-- ---- paths by their length

all_pass : {A : Type 0} (test : A → Bool) → ((a : A) → test a ≡ true) → (xs : List A) → list_all test xs ≡ true
all_pass test h [] = refl
all_pass test h (x ∷ xs) = ap (λ b. b && list_all test xs) (h x) ∙ all_pass test h xs

-- a single name that a module declares resolves in each of its instances
single_resolves : (program : Program) (called name : Name) → declared_in program called name ≡ true → (instance : Instance) → resolves_if_of program called (name ∷ []) instance ≡ true
single_resolves program called name d instance = at (bytes_eq (called_at instance) called) refl
  where
    some : (o : Option Entity) → is_some o ≡ true →
        is_some (and_then (and_then o (λ m. Some (renumbered_binding program instance name m))) (λ m. Some (qualified_at instance name))) ≡ true
    some None e = cc
    some (Some m) e = refl

    at : (b : Bool) → bytes_eq (called_at instance) called ≡ b → (not b || is_some (resolve (binding_at program) instance (name ∷ []))) ≡ true
    at false e = refl
    at true e =
        let same : called_at instance ≡ called = (bytes_eq-Decides (called_at instance) called).0 e in
        some (lookup (module_at program instance) name) (subst (λ (c : Name). is_some (lookup (module_named program c) name) ≡ true) (sym same) d)

one_name : (program : Program) (called name : Name) → is_resolved program called (name ∷ []) ≡ (declared_in program called name || is_symbol program name)
one_name program called name = at (declared_in program called name) refl
  where
    at : (b : Bool) → declared_in program called name ≡ b → ((b && is_resolved_in_each program called (name ∷ [])) || is_symbol program name) ≡ (b || is_symbol program name)
    at false e = refl
    at true e = ap (λ b. b || is_symbol program name) (all_pass (resolves_if_of program called (name ∷ [])) (single_resolves program called name e) (instances program))

-- a path of one name
pub single : (program : Program) (called : Name) (path : List Name) (name : Name) → length path ≡ 1 → name ≡ get_or path 0 name → is_resolved program called path ≡ (declared_in program called name || is_symbol program name)
single program called [] name h e = absurd (omega arith)
single program called (n ∷ []) name h e = let s : name ≡ n = e in ap (λ (x : Name). is_resolved program called (x ∷ [])) (sym s) ∙ one_name program called name
single program called (n ∷ m ∷ path) name h e = absurd (omega arith)

-- a path of more names
pub longer : (program : Program) (called : Name) (path : List Name) (name : Name) → 1 < length path → name ≡ get_or path 0 name → is_resolved program called path ≡ (declared_in program called name && is_resolved_in_each program called path)
longer program called [] name h e = absurd (omega arith)
longer program called (n ∷ []) name h e = absurd (omega arith)
longer program called (n ∷ m ∷ path) name h e = let s : name ≡ n = e in or-false _ ∙ ap (λ (x : Name). declared_in program called x && is_resolved_in_each program called (n ∷ m ∷ path)) (sym s)

-- a path without names
pub nameless : (program : Program) (called : Name) (path : List Name) → length path ≡ 0 → is_resolved program called path ≡ is_resolved_in_each program called path
nameless program called [] h = or-false _
nameless program called (n ∷ path) h = absurd (omega arith)

-- the names of entries are those with an entity
entries_are : (es : List Entry) (name : Name) → and_names no_name (map (λ e. e.name) es) name ≡ is_some (entity_among es name)
entries_are es name = among (map (λ e. e.name) es) no_name name ∙ found es
  where
    found : (es : List Entry) → list_any (λ n. bytes_eq n name) (map (λ e. e.name) es) ≡ is_some (entity_among es name)
    found [] = refl
    found (e ∷ es) = at (found es) (bytes_eq e.name name)
      where
        at : list_any (λ n. bytes_eq n name) (map (λ e. e.name) es) ≡ is_some (entity_among es name) → (b : Bool) →
            (b || list_any (λ n. bytes_eq n name) (map (λ e. e.name) es)) ≡ is_some (and_then (cond b (Some e) (find (λ e. bytes_eq e.name name) es)) (λ e. Some e.entity))
        at h true = refl
        at h false = h

-- the set of the names of a module's entries is the set of the names that it declares
pub declared_are : (program : Program) (called : Name) (es : List Entry) (has : Name → Bool) → es ≡ entries (module_named program called) → has ≡ and_names no_name (map (λ e. e.name) es) → has ≡ declared_in program called
declared_are program called es has e h = h ∙ fun_ext (λ name. entries_are es name ∙ ap (λ (es : List Entry). is_some (entity_among es name)) e)
