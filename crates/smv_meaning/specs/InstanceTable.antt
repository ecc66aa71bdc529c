-- The instance table, and its correctness.
use Rattle.std.specs.Prelude.{◌≡◌, ℕ, ◌+◌, ◌<◌, ◌≤◌, Bool, if◌then◌else◌, List, [], ◌∷◌, ◌++◌, length, Option, Some, None, slice_get, slice_index_or, IfSome, codes}
use Rattle.std.specs.List.{fold, flat_map}
use Rattle.std.specs.Option.{option_copied}
use Rattle.smv_ast.specs.declared.program.Program.{Program}
use Rattle.smv_meaning.specs.declared.table.Link.{Link}
use Rattle.smv_meaning.specs.declared.table.Row.{Row}
use Rattle.smv_meaning.specs.declared.table.Slot.{Slot}
use Rattle.smv_meaning.specs.declared.table.Binding.{Binding as HeldBinding}
use Rattle.smv_meaning.specs.declared.table.Binding.TheVariants as held
use Rattle.smv_meaning.specs.Value.{Name}
use Rattle.smv_meaning.specs.Paths.{Binding, IsVariable, IsInstance, IsDefine, IsFormal, IsNothing}
use Rattle.smv_meaning.specs.Entries.{entity_among}
use Rattle.smv_meaning.specs.Scopes.{names_found}
use Rattle.smv_meaning.specs.Instances.{Entity, Inner, Entry, Instance, Main, Within, entries, module_at, depth_of, formal_by, binding_by, binding_in, inner_of, instances}

-- the binding that a Rust value represents
abbrev pub binding_view : HeldBinding → Binding ℕ
binding_view held.Variable = IsVariable
binding_view (held.Instance c) = IsInstance c
binding_view (held.Define right) = IsDefine right.now
binding_view (held.Formal outer actual) = IsFormal outer actual.now
binding_view held.Nothing = IsNothing

-- the instance of a number, in the order of the instances
abbrev pub nth_instance : List Instance → ℕ → Instance
nth_instance row_instances k = slice_index_or row_instances k Main

-- the name of the module of an instance with this link
abbrev pub called_of : Option Link → Name
called_of None = codes "main"
called_of (Some link) = link.called.now

-- the instance of a row with this link, after these instances
abbrev pub instance_of_link : List Instance → Option Link → Instance
instance_of_link row_instances None = Main
instance_of_link row_instances (Some link) = Within (nth_instance row_instances link.outer)
    link.name.now link.called.now

-- the instances of the rows
abbrev pub row_instances : List Row → List Instance
row_instances rows = fold (λ ps row. ps ++ instance_of_link ps row.link ∷ []) [] rows

-- the names of a row
abbrev pub row_names : Row → List Entry
row_names row = names_found (option_copied row.names)

-- the names of a row, none where there is no row
abbrev pub entries_of_row : Option Row → List Entry
entries_of_row None = []
entries_of_row (Some row) = row_names row

-- the names of the row with this number
abbrev pub entries_at : List Row → ℕ → List Entry
entries_at rows k = entries_of_row (slice_get rows k)

-- the binding of the k-th formal of an instance with this link
abbrev pub formal_linked : List Row → Link → ℕ → Binding ℕ
formal_linked rows link k = formal_by link.outer
    (entity_among (entries_at rows link.outer) link.name.now) k

-- a binding whose instances are renumbered
abbrev pub renumbered : (ℕ → Instance) → Binding ℕ → Binding Instance
renumbered instance IsVariable = IsVariable
renumbered instance (IsInstance c) = IsInstance (instance c)
renumbered instance (IsDefine right) = IsDefine right
renumbered instance (IsFormal c actual) = IsFormal (instance c) actual
renumbered instance IsNothing = IsNothing

-- the instances of a binding are below a number
abbrev pub InRange : ℕ → Binding ℕ → Type 0
InRange n (IsInstance c) = c < n
InRange n (IsFormal c actual) = c < n
InRange n m = Unit {0}

-- the binding of the k-th formal of an instance that has this link, or is `main`
abbrev pub formal_in : List Row → Option Link → ℕ → Binding ℕ
formal_in rows None k = IsNothing
formal_in rows (Some link) k = formal_linked rows link k

-- the binding of a name in a row, by its entity; `next` is the number of the next instance
abbrev pub binding_in_row : List Row → Row → Bool → ℕ → Entity → Binding ℕ
binding_in_row rows row deeper next m = binding_by deeper (λ called. next) (formal_in rows row.link)
    m

-- a row is correct: its names and its depth are those of its instance, its link is the declaration
-- of that instance, and its outer instance comes before it
pub record IsRowOf (program : Program) (rows : List Row) (k : ℕ) (row : Row) : Type 0 where
  pub names : row_names row ≡ entries (module_at program (nth_instance (row_instances rows) k))
  pub depth : row.depth ≡ depth_of (nth_instance (row_instances rows) k)
  pub outer : IfSome row.link (λ link. link.outer < k)
  pub instance_at : nth_instance (row_instances rows) k ≡ instance_of_link (row_instances rows) row.link

-- each row is correct
abbrev pub AreRowsOfProgram : Program → List Row → Type 0
AreRowsOfProgram program rows = (k : ℕ) (row : Row) → slice_get rows k ≡ Some row
    → IsRowOf program rows k row

-- the slot of an entry of an instance is correct: its instance, its name and its binding
pub record IsSlotOf (program : Program) (rows : List Row) (r : ℕ) (e : Entry) (slot : Slot) : Type 0 where
  pub row : slot.row ≡ r
  pub name : slot.name.now ≡ e.name
  pub binding : renumbered (nth_instance (row_instances rows)) (binding_view slot.binding)
      ≡ binding_in program (nth_instance (row_instances rows) r) e.name e.entity
  pub range : InRange (length rows) (binding_view slot.binding)

-- the second list begins with the rows of the first
abbrev pub Extends : List Row → List Row → Type 0
Extends old new = (more : List Row) × (new ≡ old ++ more)

-- the appended rows are the instances that these names declare
abbrev pub AddsInner : Program → ℕ → List Entry → List Row → List Row → Type 0
AddsInner program r es old new = row_instances new ≡ row_instances old
    ++ flat_map (λ e. inner_of program (nth_instance (row_instances old) r) e.name e.entity) es

-- one correct slot is appended
abbrev pub AddsSlot : Program → List Row → ℕ → Entry → List Slot → List Slot → Type 0
AddsSlot program rows r e old new = (slot : Slot) × (new ≡ old ++ slot ∷ [])
    × IsSlotOf program rows r e slot

-- the entries of an instance from this one up to a number have correct slots
abbrev pub AreSlotsUpTo : Program → List Row → List Slot → ℕ → ℕ → List Entry → ℕ → Type 0
AreSlotsUpTo program rows slots r first es n =
    (k : ℕ) (e : Entry) → k < n → slice_get es k ≡ Some e → (slot : Slot)
    × (slice_get slots (first + k) ≡ Some slot) × IsSlotOf program rows r e slot

-- each instance with a known first slot has all its slots
abbrev pub AreSlotsOf : Program → List Row → List ℕ → List Slot → Type 0
AreSlotsOf program rows firsts slots =
    (r first : ℕ) → slice_get firsts r ≡ Some first
    → AreSlotsUpTo program rows slots r first (entries_at rows r) (length (entries_at rows r))

-- the name of the module of the instance that an entity declares, if instances go deeper
abbrev pub called_by : Bool → Entity → Option Name
called_by deeper (Inner called actuals) = if deeper then Some called else None
called_by deeper m = None

-- so many slots are appended
abbrev pub AppendsSlots : ℕ → List Slot → List Slot → Type 0
AppendsSlots n old new = (more : List Slot) × (new ≡ old ++ more) × (length more ≡ n)

-- the instance table of a program: each row is correct, the first is `main`, and each has all its
-- slots
pub record IsTableOf (program : Program) (rs : List Row) (firsts : List ℕ) (ss : List Slot) : Type 0 where
  pub rows : AreRowsOfProgram program rs
  pub main : nth_instance (row_instances rs) 0 ≡ Main
  pub some : 0 < length rs
  pub count : length firsts ≡ length rs
  pub slots : AreSlotsOf program rs firsts ss

-- there is a row for each instance, and their number is below the limit; without rows the number of
-- instances is the limit or more
abbrev pub Counts : Program → ℕ → Option (List Row) → Type 0
Counts program most (Some rows) = (length rows ≡ length (instances program))
    × (length (instances program) < most)
Counts program most None = most ≤ length (instances program)
