use Rattle.std.proofs.Common.{ap, ◌∙◌, if◌then◌else◌}
use Rattle.std.specs.Str.{bytes_eq}
use Rattle.smv_meaning.specs.Entries.{entries_view}
use Rattle.smv_meaning.specs.Scopes.{names_by}
use Rattle.smv_meaning.specs.Value.{Name}
use Rattle.smv_meaning.proofs.ScopeLemmas.{after_insert}
use Rattle.smv_meaning.proofs.scope.put.Goals as goal

pub returns : goal.returns
returns c = λ other.
    after_insert c.args.scopes.now c.args.numbers.now c.insert.new.self c.as_str.result c.args.scope.now c.args.k c.requires c.in_ok-insert.ensures.updates other
    ∙ ap (λ (name : Name). if bytes_eq name other then entries_view c.args.scope.now.names.entries else names_by c.args.scopes.now c.args.numbers.now other) c.as_str.ensures
