use Rattle.std.proofs.Common.{◌≡◌, List, ap, ◌∙◌}
use Rattle.smv_meaning.specs.Entries.{entries_view, entity_among}
use Rattle.smv_meaning.specs.Instances.{Entry, entries, module_named}
use Rattle.smv_meaning.specs.Scopes.{entries_in}
use Rattle.smv_meaning.proofs.InstanceTableLemmas.{entries_named_is}
use Rattle.integrate.proofs.lookups.entity_in.Goals as goal

pub returns-in-Some : goal.returns-in-Some
returns-in-Some c =
    let found : entries_view c.in-Some.names.now.entries ≡ entries (module_named c.args.program.now c.args.called.now) =
    c.in-Some.ensures ∙ (ap (λ scopes. entries_in scopes c.args.called.now) c.requires.scopes ∙ entries_named_is c.args.program.now.modules c.args.called.now) in
    c.entity_of.ensures ∙ ap (λ (es : List Entry). entity_among es c.args.name.now) found

pub returns-in-None : goal.returns-in-None
returns-in-None c =
    ap (λ (es : List Entry). entity_among es c.args.name.now)
    (c.in-None.ensures ∙ (ap (λ scopes. entries_in scopes c.args.called.now) c.requires.scopes ∙ entries_named_is c.args.program.now.modules c.args.called.now))
