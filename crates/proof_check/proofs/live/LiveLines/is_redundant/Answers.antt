use Rattle.std.proofs.Common.{List, Option, ℕ, subst, sym, ◌∙◌, inl, inr, IsSome}
use Rattle.std.proofs.lemmas.Bool.{both_ways}
use Rattle.sat_lits.specs.Table.{number_of, Indexes}
use Rattle.sat_lits.proofs.IndexLemmas.{Indexes-IsLive}
use Rattle.proof_check.proofs.UnitEntryLemmas.{HasUnitEntry-HoldsUnit}
use Rattle.proof_check.proofs.live.LiveLines.is_redundant.Goals as goal

pub returns-then-is_some : goal.returns-then-is_some
returns-then-is_some c =
    let index : Indexes c.self.inside.numbers c.args.self.now = subst (λ (lines : List (Option (List ℕ))). Indexes c.self.inside.numbers lines) c.self.view_is c.self.invariant.0 in
    let some : IsSome (number_of c.self.inside.numbers c.args.lits.now) = subst (λ (number : Option ℕ). IsSome number) c.get.ensures (sym c.is_some.ensures ∙ c.if-is_some.true) in
    (λ _. inr ((Indexes-IsLive _ _ _ index).0 some), λ _. c.if-is_some.true)

pub returns-else-is_some : goal.returns-else-is_some
returns-else-is_some c =
    let index : Indexes c.self.inside.numbers c.args.self.now = subst (λ (lines : List (Option (List ℕ))). Indexes c.self.inside.numbers lines) c.self.view_is c.self.invariant.0 in
    let unit = HasUnitEntry-HoldsUnit c.self.inside.numbers c.args.self.now c.args.lits.now index in (
      λ yes. inl (unit.0 (c.has_unit_entry.ensures.0 yes)),
      λ redundant. elim redundant [
        | inl holds ↦ c.has_unit_entry.ensures.1 (unit.1 holds)
        | inr stands ↦
            let some : IsSome c.get.result = subst (λ (number : Option ℕ). IsSome number) (sym c.get.ensures) ((Indexes-IsLive _ _ _ index).1 stands) in
            absurd (both_ways c.is_some.result c.if-is_some.false (c.is_some.ensures ∙ some))
      ],
    )
