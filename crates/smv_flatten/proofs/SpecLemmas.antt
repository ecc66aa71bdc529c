-- The rows of specs are those of the instances that they are read in.
use Rattle.std.proofs.Common.{◌≡◌, ℕ, suc, ◌<◌, length, subst, sym, List, [], ◌∷◌, ◌++◌, Option, Some, None, map}
use Rattle.std.specs.Prelude.{slice_get, All}
use Rattle.std.specs.List.{flat_map}
use Rattle.std.proofs.lemmas.List.Elements.{All-nil, All-cons, All-head, All-tail, All-append}
use Rattle.smv_ast.specs.declared.feature.OwnedSpec.{OwnedSpec}
use Rattle.smv_ast.specs.declared.program.Section.{Section}
use Rattle.smv_ast.specs.declared.program.Section.TheVariants as section
use Rattle.smv_ast.specs.declared.program.Module.{Module}
use Rattle.smv_ast.specs.declared.program.Program.{Program}
use Rattle.smv_meaning.specs.declared.table.InstanceTable.{InstanceTable}
use Rattle.smv_meaning.specs.Value.{Name, and_then}
use Rattle.smv_meaning.specs.InstanceTable.{called_of}
use Rattle.smv_meaning.specs.ModuleNumbers.{the_module}
use Rattle.smv_meaning.specs.Checking.{AreRows}
use Rattle.smv_flatten.specs.declared.invariants.SpecAt.{SpecAt as HeldSpec}
use Rattle.smv_flatten.specs.Invariants.{SpecAt, spec_view, owner_of, section_specs, specs_from, found_specs, row_specs, specs_at}

-- the row of a spec is one of so many
abbrev IsBelow : ℕ → SpecAt → Type 0
IsBelow n one = one.row < n

module _ (owned : List OwnedSpec) (n : ℕ) where
  section_below : (row : ℕ) (called : Name) (number : ℕ) (s : Section) → row < n → All (IsBelow n) (section_specs owned row called number s)
  section_below row called number (section.InvarSpec e at) h = All-cons (IsBelow n) (record { row = row; owner = owner_of owned called number; expression = e }) [] h (All-nil (IsBelow n))
  section_below row called number (section.Vars a) h = All-nil (IsBelow n)
  section_below row called number (section.Assigns a) h = All-nil (IsBelow n)
  section_below row called number (section.Defines a) h = All-nil (IsBelow n)
  section_below row called number (section.Init e at) h = All-nil (IsBelow n)
  section_below row called number (section.Invar e at) h = All-nil (IsBelow n)
  section_below row called number (section.Trans e at) h = All-nil (IsBelow n)

  sections_below : (row : ℕ) (called : Name) (number : ℕ) (sections : List Section) → row < n → All (IsBelow n) (specs_from owned row called number sections)
  sections_below row called number [] h = All-nil (IsBelow n)
  sections_below row called number (s ∷ more) h = All-append (IsBelow n) (section_specs owned row called number s) (specs_from owned row called (suc number) more) (section_below row called number s h) (sections_below row called (suc number) more h)

  found_below : (row : ℕ) (found : Option Module) → row < n → All (IsBelow n) (found_specs owned row found)
  found_below row None h = All-nil (IsBelow n)
  found_below row (Some m) h = sections_below row m.name 0 m.sections h

rows_below : (program : Program) (owned : List OwnedSpec) (table : InstanceTable) (order : List ℕ) → AreRows table order → All (IsBelow (length table.rows)) (specs_at program owned table order)
rows_below program owned table [] h = All-nil (IsBelow (length table.rows))
rows_below program owned table (row ∷ more) h =
    let n = length table.rows in
    All-append (IsBelow n) (row_specs program owned table row) (specs_at program owned table more)
    (found_below owned n row (and_then (slice_get table.rows row) (λ r. the_module program (called_of r.link))) (All-head (λ k. k < n) row more h))
    (rows_below program owned table more (All-tail (λ k. k < n) row more h))

-- the same of the specs as Rust values
held_below : (n : ℕ) (held : List HeldSpec) → All (IsBelow n) (map spec_view held) → All (λ one. one.row < n) held
held_below n [] h = All-nil (λ (one : HeldSpec). one.row < n)
held_below n (one ∷ more) h = All-cons (λ (one : HeldSpec). one.row < n) one more (All-head (IsBelow n) (spec_view one) (map spec_view more) h) (held_below n more (All-tail (IsBelow n) (spec_view one) (map spec_view more) h))

pub specs_below : (program : Program) (owned : List OwnedSpec) (table : InstanceTable) (order : List ℕ) (held : List HeldSpec) → AreRows table order
    → map spec_view held ≡ specs_at program owned table order → All (λ one. one.row < length table.rows) held
specs_below program owned table order held rows e = held_below (length table.rows) held (subst (All (IsBelow (length table.rows))) (sym e) (rows_below program owned table order rows))
