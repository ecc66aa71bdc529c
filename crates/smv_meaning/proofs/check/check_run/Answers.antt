use Rattle.std.proofs.Common.{◌≡◌, ap, ◌∙◌, subst, IfOk}
use Rattle.std.proofs.lemmas.Result.{IfOk-weaker}
use Rattle.smv_meaning.specs.declared.run.RunAnswer.{RunAnswer}
use Rattle.smv_meaning.specs.RunCheck.{written_answer}
use Rattle.smv_meaning.proofs.RunLaw.{run_law}
use Rattle.smv_meaning.proofs.StateLemmas.{answer_same}
use Rattle.smv_meaning.proofs.check.check_run.Goals as goal

pub returns-clause-exact : goal.returns-clause-exact
returns-clause-exact c =
    subst (λ (x : RunAnswer). IfOk c.run_of_program.result (λ a. a ≡ x)) (ap (written_answer c.args.program.now) c.as_slice.ensures ∙ answer_same c.args.program.now c.args.run.now.states) c.run_of_program.ensures

pub returns-clause-law : goal.returns-clause-law
returns-clause-law c =
    IfOk-weaker _ _ _ (λ a e. run_law c.args.program.now c.args.run.now.states a e) (returns-clause-exact c)
