use Rattle.std.proofs.Common.{◌++◌, sym, ap, ◌∙◌}
use Rattle.std.proofs.lemmas.List.{append-nil}
use Rattle.smv_meaning.specs.ModuleNumbers.{number_of}
use Rattle.smv_names.specs.Recursion.{if_any, called_declared}
use Rattle.smv_names.proofs.recursion.push_declared.Goals as goal

pub returns-in_ok-push-in-Some : goal.returns-in_ok-push-in-Some
returns-in_ok-push-in-Some c =
    let is = ap (number_of c.args.modules.now.program.now) (sym c.as_str.ensures) ∙ (sym c.number_of.ensures ∙ c.in-Some.is) in
    c.in_ok-push-in-Some.ensures.ok ∙ (ap (λ o. c.args.calls.now ++ if_any o) (sym is) ∙ ap (λ w. c.args.calls.now ++ called_declared c.args.modules.now.program.now w) (sym c.in-Instance.is))

pub returns-in-None : goal.returns-in-None
returns-in-None c =
    let is = ap (number_of c.args.modules.now.program.now) (sym c.as_str.ensures) ∙ (sym c.number_of.ensures ∙ c.in-None.is) in
    sym (append-nil c.args.calls.now) ∙ (ap (λ o. c.args.calls.now ++ if_any o) (sym is) ∙ ap (λ w. c.args.calls.now ++ called_declared c.args.modules.now.program.now w) (sym c.in-Instance.is))
