use Rattle.std.proofs.Common.{sym, ap, ◌∙◌, ◌||◌}
use Rattle.smv_meaning.specs.Values.{is_symbol}
use Rattle.smv_meaning.specs.NameSets.{in_set}
use Rattle.smv_names.proofs.known.is_declared_or_symbol.Goals as goal

pub returns-else-contains : goal.returns-else-contains
returns-else-contains c =
    let not_declared = ap (in_set c.args.module_scope.now.declared.now) (sym c.as_str.ensures) ∙ (sym c.contains.ensures ∙ c.if-contains.false) in
    c.contains-else-contains.ensures ∙ (ap (in_set c.args.module_scope.now.known.now.symbols.now) c.as_str-else-contains.ensures
    ∙ (ap (λ has. has c.args.name.now) c.requires.known.symbols ∙ sym (ap (λ b. b || is_symbol c.args.module_scope.now.known.now.program.now c.args.name.now) not_declared)))
