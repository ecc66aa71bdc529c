use Rattle.std.proofs.Common.{ap, ◌∙◌}
use Rattle.smv_meaning.specs.Entries.{entries_view}
use Rattle.smv_meaning.specs.Scopes.{entries_in}
use Rattle.smv_meaning.proofs.InstanceTableLemmas.{entries_named_is}
use Rattle.smv_meaning.specs.NameSets.{in_set}
use Rattle.smv_names.proofs.KnownLemmas.{declared_are}
use Rattle.smv_names.proofs.known.declared_in.Goals as goal

pub returns : goal.returns
returns c =
    let names = c.entries_found.ensures.entries ∙ (c.names_in.ensures ∙ (ap (λ scopes. entries_in scopes c.args.called.now) c.requires.scopes ∙ entries_named_is c.args.program.now.modules c.args.called.now)) in
    declared_are c.args.program.now c.args.called.now (entries_view c.entries_found.result.now) (in_set c.in_ok-names.names) names c.in_ok-names.ensures
