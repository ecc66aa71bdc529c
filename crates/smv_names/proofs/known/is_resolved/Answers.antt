use Rattle.std.proofs.Common.{sym, ap, ◌∙◌, ◌||◌, ◌&&◌, arith}
use Rattle.smv_meaning.specs.Values.{is_symbol}
use Rattle.smv_meaning.specs.NameSets.{in_set}
use Rattle.smv_names.specs.Unknown.{is_resolved_in_each}
use Rattle.smv_names.proofs.KnownLemmas.{single, longer}
use Rattle.smv_names.proofs.known.is_resolved.Goals as goal

pub returns-in-len1 : goal.returns-in-len1
returns-in-len1 c =
    c.is_declared_or_symbol.ensures ∙ (ap (λ has. has c.name-item.result || is_symbol c.args.module_scope.now.known.now.program.now c.name-item.result) c.requires.declared
    ∙ sym (single c.args.module_scope.now.known.now.program.now c.args.module_scope.now.called.now c.args.path.now c.name-item.result (omega (arith, c.in-len1.len_at_least, c.in-len1.len_below)) c.name-item.is))

pub returns-then-begins : goal.returns-then-begins
returns-then-begins c =
    let begins = ap (λ has. has c.first-item.result) (sym c.requires.declared) ∙ (ap (in_set c.args.module_scope.now.declared.now) (sym c.as_str.ensures) ∙ (sym c.contains-begins.ensures ∙ c.if-begins.true)) in
    c.is_resolved_in_each-then-begins.ensures ∙ (sym (ap (λ b. b && is_resolved_in_each c.args.module_scope.now.known.now.program.now c.args.module_scope.now.called.now c.args.path.now) begins)
    ∙ sym (longer c.args.module_scope.now.known.now.program.now c.args.module_scope.now.called.now c.args.path.now c.first-item.result (omega (arith, c.in-len1-up.len_at_least)) c.first-item.is))

pub returns-else-begins : goal.returns-else-begins
returns-else-begins c =
    let begins = ap (λ has. has c.first-item.result) (sym c.requires.declared) ∙ (ap (in_set c.args.module_scope.now.declared.now) (sym c.as_str.ensures) ∙ (sym c.contains-begins.ensures ∙ c.if-begins.false)) in
    c.if-begins.false ∙ (sym (ap (λ b. b && is_resolved_in_each c.args.module_scope.now.known.now.program.now c.args.module_scope.now.called.now c.args.path.now) begins)
    ∙ sym (longer c.args.module_scope.now.known.now.program.now c.args.module_scope.now.called.now c.args.path.now c.first-item.result (omega (arith, c.in-len1-up.len_at_least)) c.first-item.is))
