-- An IMPOSE, by the index of the section that it changes.
use Rattle.std.proofs.Common.{◌≡◌, cond, Option, Some, None, sym, ◌∙◌, ap, ℕ}
use Rattle.std.specs.Option.{is_some}
use Rattle.smv_ast.specs.declared.program.Module.{Module}
use Rattle.integrate_impose.specs.declared.assignments.Imposed.{Imposed}
use Rattle.integrate_impose.specs.Lists.{first_index}
use Rattle.integrate_impose.specs.Impose.{assigns, with_guard, with_new, values_of, imposed_in}
use Rattle.integrate_impose.proofs.ListLemmas.{is_some_first_index}

by_index : (i : Imposed) (m : Module) (found : Option ℕ) → first_index (assigns i.left i.name) m.sections ≡ found
    → cond (is_some found) (with_guard i m) (with_new i m (values_of i m)) ≡ imposed_in i m
by_index i m found e = ap (λ b. cond b (with_guard i m) (with_new i m (values_of i m)))
    (sym (ap is_some e) ∙ is_some_first_index (assigns i.left i.name) m.sections)

pub guard_found : (i : Imposed) (m : Module) (at : ℕ) → first_index (assigns i.left i.name) m.sections ≡ Some at → with_guard i m ≡ imposed_in i m
guard_found i m at e = by_index i m (Some at) e

pub none_found : (i : Imposed) (m : Module) → first_index (assigns i.left i.name) m.sections ≡ None → with_new i m (values_of i m) ≡ imposed_in i m
none_found i m e = by_index i m None e
