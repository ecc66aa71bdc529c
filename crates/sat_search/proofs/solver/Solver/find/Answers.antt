use Rattle.std.proofs.Common.{◌≡◌, ℕ, List, None, Result, Ok, Err, ap, sym, subst, ◌∙◌}
use Rattle.std.specs.Prelude.{IfOk}
use Rattle.std.specs.Option.{option_map}
use Rattle.std.proofs.lemmas.Result.{MatchResult-from_err, on_err_weaker}
use Rattle.proof_log.specs.Logged.{Logged}
use Rattle.sat_arena.specs.Trails.{marked}
use Rattle.sat_arena.specs.TrailState.{TrailState}
use Rattle.sat_search.specs.Assumed.{assumed}
use Rattle.sat_search.specs.Sessions.{Answers, AddsLines}
use Rattle.sat_search.specs.Founds.{HasValues, IsFound, named_by}
use Rattle.sat_search.specs.declared.answer.Answer.{Answer}
use Rattle.sat_search.specs.declared.found.Found.{Found}
use Rattle.sat_search.proofs.RunLemmas.{ContinuesTo-refl}
use Rattle.sat_search.proofs.FoundLemmas.{AddsLines-continues, AddsLines-run, set_clause, Answers-run, HasVariables-run}
use Rattle.sat_search.proofs.solver.Solver.find.Goals as goal

pub returns-in_err-answer-clause-err : goal.returns-in_err-answer-clause-err
returns-in_err-answer-clause-err c =
    MatchResult-from_err _ _ _ c.from_residual.ensures.0 (λ _. AddsLines-continues c.args.assumptions.now c.args.self.now.log c.run.new.self.log c.args.most None c.in_err-answer.ensures.err)

pub returns-clause-variables : goal.returns-clause-variables
returns-clause-variables c =
    HasVariables-run _ c.args.assumptions.now c.args.self.now.log c.run.new.self c.args.most c.in_ok-answer.answer c.in_ok-answer.ensures.ok c.requires.variables

-- an answer with its values
found_ok : (assumptions : List ℕ) (old new : Logged) (most : ℕ) (answer : Answer) (found : Found) → found.answer ≡ answer → Answers new (option_map (λ values. values.items) found.values) assumptions most answer → AddsLines assumptions old new most (named_by answer) → IsFound assumptions old new most found
found_ok assumptions old new most answer found same answers adds = record {
  answers = subst (λ (a : Answer). Answers new (option_map (λ values. values.items) found.values) assumptions most a) (sym same) answers;
  adds = subst (λ (a : Answer). AddsLines assumptions old new most (named_by a)) (sym same) adds;
}

both : {T E : Type 0} (r : Result T E) (P Q R : T → Type 0) → ((x : T) → P x → Q x → R x) → IfOk r P → IfOk r Q → IfOk r R
both (Ok x) P Q R join p q = join x p q
both (Err e) P Q R join p q = tt

pub returns-clause-ok : goal.returns-clause-ok
returns-clause-ok c =
    let lits = c.args.assumptions.now in
    let old = c.args.self.now.log in
    let new = c.run.new.self in
    let answer = c.in_ok-answer.answer in
    let vars : c.args.vars ≡ new.propagator.vars = c.requires.vars ∙ sym c.run.ensures.vars in
    let same : (l : ℕ) → marked c.args.literal_set.now l ≡ assumed lits l = c.requires.literal_set in
    both c.with_values.result (λ (found : Found). found.answer ≡ answer) (λ (found : Found). HasValues new.propagator.entries c.args.vars answer (option_map (λ values. values.items) found.values)) (IsFound lits old new.log c.args.most)
    (λ found is has. found_ok lits old new.log c.args.most answer found is
    (Answers-run c.args.literal_set.now lits same old new c.args.most answer (option_map (λ values. values.items) found.values) c.in_ok-answer.ensures.solver c.in_ok-answer.ensures.ok
    (subst (λ (n : ℕ). HasValues new.propagator.entries n answer (option_map (λ values. values.items) found.values)) vars has))
    (AddsLines-run (marked c.args.literal_set.now) lits (set_clause c.args.literal_set.now lits same) old new c.args.most answer c.in_ok-answer.ensures.ok))
    c.with_values.ensures.answer
    (subst (λ (t : TrailState). IfOk c.with_values.result (λ (found : Found). HasValues t.entries c.args.vars answer (option_map (λ values. values.items) found.values))) c.trail.ensures c.with_values.ensures.values)

pub returns-clause-err : goal.returns-clause-err
returns-clause-err c =
    let lits = c.args.assumptions.now in
    let same : (l : ℕ) → marked c.args.literal_set.now l ≡ assumed lits l = c.requires.literal_set in
    on_err_weaker c.with_values.result
    (λ is. subst (λ (a : Answer). AddsLines lits c.args.self.now.log c.run.new.self.log c.args.most (named_by a)) is
    (AddsLines-run (marked c.args.literal_set.now) lits (set_clause c.args.literal_set.now lits same) c.args.self.now.log c.run.new.self c.args.most c.in_ok-answer.answer c.in_ok-answer.ensures.ok))
    c.with_values.ensures.cause
