use Rattle.std.proofs.Common.{◌≡◌, ◌<◌, ◌+◌, ◌++◌, ◌∷◌, [], ℕ, List, arith, length, get_or, take, subst, sym, ◌∙◌, ap, below_more}
use Rattle.std.specs.Prelude.{All}
use Rattle.std.proofs.lemmas.List.{take_more, get_or_default}
use Rattle.proof_check.proofs.RoomLemmas.{HasRoom-axioms}
use Rattle.proof_check.proofs.checker.copies.Goals as goal

pub loop-clause-preserved : goal.loop-clause-preserved
loop-clause-preserved c =
    let clauses = c.args.clauses.now in
    let i = c.loop-clause.clause-index in
    let here : c.clause-item.result ≡ get_or clauses i [] = c.clause-item.is ∙ get_or_default clauses i c.clause-item.result [] c.loop-clause-test.true in
    record {
      copied =
          c.in_ok-push.ensures.items
          ∙ ap (λ (prefix : List (List ℕ)). prefix ++ c.in_ok-try_clone.field-0 ∷ []) c.loop-clause.invariant.copied
          ∙ ap (λ (copy : List ℕ). take i clauses ++ copy ∷ []) (c.in_ok-try_clone.ensures ∙ here)
          ∙ sym (take_more clauses i [] c.loop-clause-test.true);
      room = below_more (λ (k : ℕ). All (λ m. m + 1 < length c.widen.new.self) (get_or clauses k [])) i
          (λ k below. λ j d within. (let before : get_or (get_or clauses k []) j d + 1 < length c.loop-clause.marks = c.loop-clause.invariant.room k below j d within in omega arith))
          (subst (λ (clause : List ℕ). All (λ m. m + 1 < length c.widen.new.self) clause) (c.lits.ensures.same ∙ here) c.in_ok-widen.ensures.room);
    }

pub returns-clause-room : goal.returns-clause-room
returns-clause-room c = HasRoom-axioms c.args.clauses.now (length c.loop-clause.marks) (λ k within. c.loop-clause.invariant.room k (omega arith))
