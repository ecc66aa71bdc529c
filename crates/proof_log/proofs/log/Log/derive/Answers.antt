use Rattle.std.proofs.Common.{◌≡◌, ◌++◌, ◌∷◌, [], ◌<◌, ◌+◌, ◌^◌, List, Some, None, ℕ, arith, refl, length, sym, ap, ◌∙◌, subst, inr}
use Rattle.fsmv_base.specs.declared.citation.Id.{Id}
use Rattle.sat_lits.specs.Steps.{IsLive}
use Rattle.sat_lits.specs.Table.{number_of, Puts}
use Rattle.proof_log.specs.declared.log.Line.{Line}
use Rattle.proof_log.specs.Logged.{Logged, live_lines}
use Rattle.proof_log.proofs.StateLemmas.{KeepsTogether-derive, added_is_live}
use Rattle.proof_log.proofs.log.Log.derive.Goals as goal

-- a line that stands
abbrev line_of : List ℕ → List Id → Line
line_of clause hints = record { clause = clause; hints = hints; retired = None }

items : (c : goal.After-push_reserved) → c.push_reserved.new.self.items ≡ c.self.inside.lines.items ++ line_of c.args.clause.now c.args.hints.now ∷ []
items c =
    c.push_reserved.ensures.items
    ∙ ap (λ (prefix : List Line). prefix ++ line_of c.in_ok-try_clone.field-0 c.in_ok-from_slice.field-0 ∷ []) c.reserve.ensures.items
    ∙ ap (λ (clause : List ℕ). c.self.inside.lines.items ++ line_of clause c.in_ok-from_slice.field-0 ∷ []) c.in_ok-try_clone.ensures
    ∙ ap (λ (hints : List Id). c.self.inside.lines.items ++ line_of c.args.clause.now hints ∷ []) c.in_ok-from_slice.ensures

absent : (c : goal.After-push_reserved) → number_of c.self.inside.numbers c.args.clause.now ≡ None
absent c = ap (number_of c.self.inside.numbers) (sym c.lits.ensures.same) ∙ sym c.get.ensures ∙ c.in_default.is

fresh : (c : goal.After-push_reserved) → IsLive (live_lines c.self.inside.lines.items) c.args.clause.now → ⊥
fresh c (n, is) =
    let found : number_of c.self.inside.numbers c.args.clause.now ≡ Some n = c.self.invariant.index.finds c.args.clause.now n is in
    let none : number_of c.self.inside.numbers c.args.clause.now ≡ None = absent c in
    cc

pub invariant_of-self-2 : goal.invariant_of-self-2
invariant_of-self-2 c =
    let lines = c.self.inside.lines.items in
    let number : c.len-2.result + 1 ≡ length lines + 1 = omega arith in
    let small : length lines + 1 < 2 ^ 32 = omega arith in
    let puts : Puts c.self.inside.numbers c.insert.new.self c.args.clause.now (Some (length lines + 1))
    = subst (λ (n : ℕ). Puts c.self.inside.numbers c.insert.new.self c.args.clause.now (Some n)) number
    (subst (λ (key : List ℕ). Puts c.self.inside.numbers c.insert.new.self key (Some (c.len-2.result + 1))) (c.in_ok-key.ensures.items ∙ c.lits-2.ensures.same) c.in_ok-insert.ensures.ok) in
    rw (items c)
    (KeepsTogether-derive c.self.inside.axioms.items lines (line_of c.args.clause.now c.args.hints.now) c.self.inside.numbers c.insert.new.self refl
    (rw (← c.self.view_is) at c.requires.right) (absent c) (rw (← c.self.view_is) at c.requires.plain) puts small c.self.invariant)

pub returns-clause-ok : goal.returns-clause-ok
returns-clause-ok c =
    let lines = c.self.inside.lines.items in
    let with_lines : List Line → Logged = λ ls. record { axioms = c.self.inside.axioms.items; lines = ls } in
    let number : c.len-2.result ≡ length lines = omega arith in
    rw (← c.self.view_is) (record {
      number = c.len-2.result + 1;
      answered = refl;
      stands = rw (items c, number) (added_is_live lines (line_of c.args.clause.now c.args.hints.now) refl);
      added = inr (fresh c, ap with_lines (items c));
    })
