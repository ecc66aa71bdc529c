use Rattle.std.proofs.Common.{Some, ap, ◌∙◌, if◌then◌else◌}
use Rattle.std.specs.Str.{bytes_eq}
use Rattle.smv_meaning.specs.Value.{Name}
use Rattle.smv_meaning.specs.Written.{value_by}
use Rattle.smv_meaning.proofs.WrittenLemmas.{after_insert}
use Rattle.smv_meaning.proofs.written.put.Goals as goal

pub returns : goal.returns
returns c = λ text.
    after_insert c.args.values.now c.args.numbers.now c.insert.new.self c.as_str.result c.args.named.now c.args.k c.requires c.in_ok-insert.ensures.updates text
    ∙ ap (λ (path : Name). if bytes_eq path text then Some c.args.named.now.value else value_by c.args.values.now c.args.numbers.now text) c.as_str.ensures
