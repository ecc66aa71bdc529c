use Rattle.std.proofs.Common.{sym, ap, ◌∙◌, Bool, Some, None}
use Rattle.std.specs.Prelude.{if◌then◌else◌}
use Rattle.smv_ast.specs.declared.fault.Fault.TheVariants as fault
use Rattle.smv_meaning.specs.NameSets.{in_set}
use Rattle.smv_names.proofs.unknown.unknown_left.Goals as goal

pub returns-then-contains : goal.returns-then-contains
returns-then-contains c =
    let is = ap (λ has. has c.args.name.now) (sym c.requires.declared) ∙ (ap (in_set c.args.module_scope.now.declared.now) (sym c.as_str.ensures) ∙ (sym c.contains.ensures ∙ c.if-contains.true)) in
    sym (ap (λ (b : Bool). if b then None else Some (fault.UnknownName (Some c.args.at) c.args.name.now)) is)

pub returns : goal.returns
returns c =
    let is = ap (λ has. has c.args.name.now) (sym c.requires.declared) ∙ (ap (in_set c.args.module_scope.now.declared.now) (sym c.as_str.ensures) ∙ (sym c.contains.ensures ∙ c.if-contains.false)) in
    sym (ap (λ (b : Bool). if b then None else Some (fault.UnknownName (Some c.args.at) c.args.name.now)) is ∙ ap (λ t. Some (fault.UnknownName (Some c.args.at) t)) (sym c.in_ok-try_clone.ensures))
