use Rattle.std.proofs.Common.{◌≡◌, ◌≤◌, ◌<◌, ◌-◌, List, Option, Some, None, ℕ, arith, length, subst, ap, ◌∙◌, refl}
use Rattle.std.proofs.lemmas.List.{length-set}
use Rattle.std.proofs.lemmas.Option.{slice_get_read}
use Rattle.sat_lits.specs.Steps.{numbered, HoldsUnit, IsRetirable}
use Rattle.sat_lits.specs.Table.{Puts, Indexes}
use Rattle.sat_lits.proofs.Numbered.{numbered-position, replaced-position}
use Rattle.sat_lits.proofs.IndexLemmas.{Indexes-retire}
use Rattle.proof_check.specs.UnitEntry.{HasUnitEntry}
use Rattle.proof_check.proofs.UnitEntryLemmas.{HasUnitEntry-HoldsUnit}
use Rattle.proof_check.proofs.live.LiveLines.retire.Goals as goal

-- the line that is retired stands
stands : (c : goal.Joined-index_mut) → numbered c.self.inside.clauses.items c.args.number ≡ Some (Some c.in-Some.clause)
stands c =
    let lines = c.self.inside.clauses.items in
    let positive : 1 ≤ c.args.number = omega arith in
    let within : c.args.number - 1 < length lines = omega arith in
    numbered-position lines c.args.number positive
    ∙ slice_get_read lines (length lines) (c.args.number - 1) c.index.result.now refl within c.index.ensures
    ∙ ap Some c.in-Some.is

pub invariant_of-self : goal.invariant_of-self
invariant_of-self c =
    let lines = c.self.inside.clauses.items in
    let positive : 1 ≤ c.args.number = omega arith in
    let puts : Puts c.self.inside.numbers c.remove.new.self c.in-Some.clause None
    = subst (λ (key : List ℕ). Puts c.self.inside.numbers c.remove.new.self key None) c.lits-2.ensures.same c.remove.ensures in (
      subst (λ (ls : List (Option (List ℕ))). Indexes c.remove.new.self ls) (replaced-position lines c.args.number None positive)
          (Indexes-retire c.self.inside.numbers c.remove.new.self lines c.args.number c.in-Some.clause c.self.invariant.0 (stands c) puts),
      rw length-set c.self.invariant.1,
    )

pub returns-clause-retirable : goal.returns-clause-retirable
returns-clause-retirable c =
    let unit : HoldsUnit c.self.inside.clauses.items c.in-Some.clause
    = (HasUnitEntry-HoldsUnit c.self.inside.numbers c.self.inside.clauses.items c.in-Some.clause c.self.invariant.0).0
    (subst (λ (key : List ℕ). HasUnitEntry c.self.inside.numbers key) c.lits.ensures.same (c.has_unit_entry.ensures.0 c.if-not-has_unit_entry.false)) in (
      λ _. subst (λ (ls : List (Option (List ℕ))). IsRetirable ls c.args.number) c.self.view_is (record { clause = c.in-Some.clause; stands = stands c; subsumed = unit }),
      λ _. refl,
    )
