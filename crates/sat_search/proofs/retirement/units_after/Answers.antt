use Rattle.std.proofs.Common.{◌≡◌, ◌+◌, ◌++◌, ◌∷◌, [], List, ℕ, Option, Some, sym, ap, ◌∙◌, subst}
use Rattle.std.specs.Prelude.{All, IfSome}
use Rattle.std.specs.Option.{option_map}
use Rattle.std.proofs.lemmas.List.Elements.{All-push}
use Rattle.sat_arena.specs.ArenaState.{IsUnitOf}
use Rattle.sat_search.specs.Retirements.{IsUnitLine}
use Rattle.sat_search.proofs.retirement.units_after.Goals as goal
use Rattle.sat_search.proofs.retirement.units_after.Goals.{in-Some+in_ok-push, in_default}

pub loop-before-preserved : goal.loop-before-preserved
loop-before-preserved c =
    let lines = c.args.log.now.lines in
    elim c.match-unit_of.branch [
      | in-Some+in_ok-push w ↦
          let unit : c.lits.result.now ≡ w.in-Some.lit ∷ [] = subst (λ (o : Option ℕ). IfSome o (λ l. IsUnitOf l c.lits.result.now)) w.in-Some.is c.unit_of.ensures in
          let here : IsUnitLine lines w.in-Some.lit = (c.loop-before.before + 1, c.clause.ensures ∙ ap Some (sym c.lits.ensures.same ∙ unit)) in
          subst (λ (us : List ℕ). All (IsUnitLine lines) us) (sym (ap (λ v. v.items) w.units-is ∙ w.in_ok-push.ensures.items)) (All-push (IsUnitLine lines) c.loop-before.units.items w.in-Some.lit c.loop-before.invariant here)
      | in_default w ↦ subst (λ (us : List ℕ). All (IsUnitLine lines) us) (sym (ap (λ v. v.items) w.units-is)) c.loop-before.invariant
    ]
