use Rattle.std.proofs.Common.{◌≡◌, ◌+◌, ◌++◌, ◌∷◌, [], List, Option, Some, ℕ, arith, length, subst, sym, ap, ◌∙◌}
use Rattle.std.proofs.lemmas.List.{length_push}
use Rattle.sat_lits.specs.Steps.{IsLive}
use Rattle.sat_lits.specs.Table.{Puts}
use Rattle.sat_lits.proofs.IndexLemmas.{Indexes-push, Indexes-absent}
use Rattle.proof_check.proofs.live.LiveLines.push.Goals as goal

pub invariant_of-self-2 : goal.invariant_of-self-2
invariant_of-self-2 c =
    let lines = c.self.inside.clauses.items in
    let clause = c.args.clause.now in
    let items : c.push_reserved.new.self.items ≡ lines ++ Some clause ∷ []
    = c.push_reserved.ensures.items
    ∙ ap (λ (prefix : List (Option (List ℕ))). prefix ++ Some c.in_ok-copy.copy ∷ []) c.reserve.ensures.items
    ∙ ap (λ (copy : List ℕ). lines ++ Some copy ∷ []) c.in_ok-copy.ensures in
    let fresh : IsLive lines clause → ⊥ = subst (λ (ls : List (Option (List ℕ))). IsLive ls clause → ⊥) (sym c.self.view_is) c.requires.new in
    let number : c.len.result + 1 ≡ length lines + 1 = omega arith in
    let puts : Puts c.self.inside.numbers c.insert.new.self clause (Some (length lines + 1))
    = subst (λ (n : ℕ). Puts c.self.inside.numbers c.insert.new.self clause (Some n)) number
    (subst (λ (key : List ℕ). Puts c.self.inside.numbers c.insert.new.self key (Some (c.len.result + 1))) (c.in_ok-key.ensures.items ∙ c.lits.ensures.same) c.in_ok-insert.ensures.ok) in
    let small : length c.args.self.now ≡ length lines = sym (ap length c.self.view_is) in
    rw items (
      Indexes-push c.self.inside.numbers c.insert.new.self lines clause c.self.invariant.0 (Indexes-absent c.self.inside.numbers lines clause c.self.invariant.0 fresh) puts,
      omega (arith, length_push lines (Some clause)),
    )
