use Rattle.std.proofs.Common.{[], sym, ap, ◌∙◌}
use Rattle.std.specs.Prelude.{is_some}
use Rattle.smv_meaning.specs.Entries.{entity_view, entries_view}
use Rattle.smv_meaning.specs.Scopes.{entries_in}
use Rattle.integrate_treat.proofs.TargetLemmas.{some_mapped, declared_is}
use Rattle.integrate_treat.proofs.target.declares.Goals as goal

pub returns-in-Some : goal.returns-in-Some
returns-in-Some c =
    let names = c.in-Some.ensures ∙ ap (λ scopes. entries_in scopes c.args.called.now) c.requires.scopes in
    c.is_some.ensures ∙ (sym (some_mapped entity_view c.entity_of.result) ∙ (ap is_some c.entity_of.ensures
    ∙ declared_is c.args.program.now c.args.called.now c.args.name.now (entries_view c.in-Some.names.now.entries) names))

pub returns-in-None : goal.returns-in-None
returns-in-None c =
    let names = c.in-None.ensures ∙ ap (λ scopes. entries_in scopes c.args.called.now) c.requires.scopes in
    declared_is c.args.program.now c.args.called.now c.args.name.now [] names
