-- The entries of a module, as represented by references into the program.
use Rattle.std.specs.Prelude.{ℕ, suc, if◌then◌else◌, List, [], ◌∷◌, map, Option, Some, None, find}
use Rattle.std.specs.Option.{option_map}
use Rattle.std.specs.Str.{bytes_eq}
use Rattle.smv_meaning.specs.declared.entries.Entry.{Entry as Held}
use Rattle.smv_meaning.specs.declared.entries.Entity.{Entity as HeldEntity}
use Rattle.smv_meaning.specs.declared.entries.Entity.TheVariants as held
use Rattle.smv_meaning.specs.Instances.{Entity, Variable, Inner, Defined, Formal, Entry}
use Rattle.smv_meaning.specs.Value.{Name, and_then}

-- the entity that a Rust value represents
abbrev pub entity_view : HeldEntity → Entity
entity_view (held.Variable type) = Variable type.now
entity_view (held.Inner called actuals) = Inner called.now actuals.now
entity_view (held.Defined right) = Defined right.now
entity_view (held.Formal k) = Formal k

-- the entry that a Rust value represents
abbrev pub entry_view : Held → Entry
entry_view e = record { name = e.name.now; entity = entity_view e.entity }

-- the entries that Rust values represent
abbrev pub entries_view : List Held → List Entry
entries_view = map entry_view

-- the index of the first entry of a name
abbrev pub first_index : Name → List Entry → Option ℕ
first_index name [] = None
first_index name (e ∷ more) = if bytes_eq e.name name then Some 0 else option_map suc
    (first_index name more)

-- the entity of a name; of two equal names the first takes precedence
abbrev pub entity_among : List Entry → Name → Option Entity
entity_among es name = and_then (find (λ e. bytes_eq e.name name) es) (λ e. Some e.entity)
