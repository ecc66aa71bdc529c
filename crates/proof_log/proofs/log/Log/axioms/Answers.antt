use Rattle.std.proofs.Common.{◌≡◌, ◌++◌, ◌<◌, ◌^◌, List, ℕ, arith, length, length-append, ap, ◌∙◌}
use Rattle.proof_log.proofs.StateLemmas.{KeepsTogether-axioms}
use Rattle.proof_log.proofs.log.Log.axioms.Goals as goal

pub invariant_of-self-2 : goal.invariant_of-self-2
invariant_of-self-2 c =
    let axioms = c.self.inside.axioms.items in
    let more = c.args.clauses.now in
    let items : c.append.new.self.items ≡ axioms ++ more = c.in_ok-append.ensures.items ∙ ap (λ (copies : List (List ℕ)). axioms ++ copies) c.in_ok-copies.ensures in
    let small : length axioms < 2 ^ 32 = c.self.invariant.axioms_small in
    rw items (KeepsTogether-axioms axioms more c.self.inside.lines.items c.self.inside.numbers (omega (arith, length-append axioms more)) c.self.invariant)
