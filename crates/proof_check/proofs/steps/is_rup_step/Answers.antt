use Rattle.std.proofs.Common.{◌≡◌, ◌↔◌, ℕ, Bool, false, length, subst, sym, ap, ◌∙◌}
use Rattle.std.specs.Prelude.{IsTrue}
use Rattle.std.proofs.lemmas.List.{length-replicate}
use Rattle.sat_lits.specs.Steps.{named, negated, Refutes}
use Rattle.proof_check.specs.Marks.{marked, HasRoom}
use Rattle.proof_check.proofs.steps.is_rup_step.Goals as goal

pub refutes-requires : goal.refutes-requires
refutes-requires c =
    let same : length c.insert_negations.new.marks ≡ length c.args.marks.now = c.insert_negations.ensures.length ∙ ap length c.clear.ensures ∙ length-replicate (length c.args.marks.now) false in
    record { room = subst (λ (n : ℕ). HasRoom c.args.axioms.now c.args.lines.now n) (sym same) c.requires.room }

pub returns-clause-right : goal.returns-clause-right
returns-clause-right c =
    let known : marked c.insert_negations.new.marks ≡ negated c.args.lits.now = λ i m. c.insert_negations.ensures.negated m i in
    subst (λ (k : ℕ → Bool). IsTrue c.refutes.result ↔ Refutes (named c.args.axioms.now c.args.lines.now) k c.args.hints.now) known c.refutes.ensures.right
