use Rattle.std.proofs.Common.{◌≡◌, Bool, List, Option, ap, ◌∙◌, subst}
use mathlib.Core.Path.{fun_ext}
use Rattle.smv_ast.specs.declared.fault.Fault.{Fault}
use Rattle.smv_meaning.specs.Entries.{entity_among, entries_view}
use Rattle.smv_meaning.specs.Faults.{ReportsFirst}
use Rattle.smv_meaning.specs.Instances.{Entry}
use Rattle.smv_meaning.specs.Items.{items, items_view}
use Rattle.smv_meaning.specs.Runs.{first_fault}
use Rattle.smv_meaning.specs.Value.{Name}
use Rattle.smv_shape.specs.Assigned as spec
use Rattle.smv_meaning.specs.NameSets.{in_set}
use Rattle.smv_shape.proofs.assigned.check_targets_of.Goals as goal

pub returns : goal.returns
unfolding spec.declares_fixed
returns c =
    let same : (name : Name) → in_set c.in_ok-names.names name ≡ spec.declares_fixed c.args.owner.now name = λ name.
    c.in_ok-names.ensures name ∙ ap (λ (es : List Entry). spec.is_fixed_name (entity_among es name)) (ap entries_view c.as_slice.ensures ∙ c.in_ok-entries.ensures) in
    let first = ap (first_fault (spec.target_fault (in_set c.in_ok-names.names))) (ap items_view c.as_slice-2.ensures ∙ c.in_ok-items.ensures)
    ∙ ap (λ (f : Name → Bool). first_fault (spec.target_fault f) (items c.args.owner.now)) (fun_ext same) in
    subst (λ (o : Option Fault). ReportsFirst {A = Unit {0}} o c.check_items.result) first c.check_items.ensures
