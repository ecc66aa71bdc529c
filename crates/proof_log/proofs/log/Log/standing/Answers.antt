use Rattle.std.proofs.Common.{◌≡◌, ◌≤◌, ◌-◌, List, Option, Some, None, ℕ, arith, refl, length, slice_get, unwrap_or, sym, ap, ◌∙◌, subst}
use Rattle.std.proofs.lemmas.Option.{slice_get_read}
use Rattle.sat_lits.specs.Steps.{numbered, HoldsUnit}
use Rattle.sat_lits.proofs.Numbered.{numbered-position}
use Rattle.proof_log.specs.declared.log.Line.{Line}
use Rattle.proof_log.specs.Logged.{Logged, live_lines}
use Rattle.proof_log.specs.Standing.{IsFirstUnitLine, StandsFor, IsStanding, IsFirstUnit}
use Rattle.proof_log.proofs.StandingLemmas.{StandsFor-first}
use Rattle.proof_log.proofs.log.Log.standing.Goals as goal

stands_retired : (lines : List (Option (List ℕ))) (retired : Option ℕ) (count : ℕ) (clause : List ℕ) (id number : ℕ) → retired ≡ Some count → IsFirstUnitLine lines clause number → StandsFor lines retired clause id number
stands_retired lines retired count clause id number is first = subst (λ (r : Option ℕ). StandsFor lines r clause id number) (sym is) first

pub returns-in-Some : goal.returns-in-Some
returns-in-Some c =
    let lines = c.self.inside.lines.items in
    let line = c.index-line.result.now in
    let inside : lines ≡ c.args.self.now.lines = ap (λ (log : Logged). log.lines) c.self.view_is in
    let positive : 1 ≤ c.args.id = c.requires.numbered in
    let within : c.args.id ≤ length lines = subst (λ (ls : List Line). c.args.id ≤ length ls) (sym inside) c.requires.derived in
    let here : slice_get lines (c.args.id - 1) ≡ Some line = slice_get_read lines (length lines) (c.args.id - 1) line refl (omega arith) c.index-line.ensures in
    let unit : HoldsUnit (live_lines lines) line.clause = (c.self.invariant.sound.retired (c.args.id - 1) c.in-Some.field-0 line here c.in-Some.is).2 in
    let first = StandsFor-first c.self.inside.numbers (live_lines lines) line.clause c.first_unit.result c.args.id c.self.invariant.index unit
    (subst (λ (lits : List ℕ). IsFirstUnit c.self.inside.numbers lits c.first_unit.result) c.lits.ensures.same c.first_unit.ensures) in
    let number : c.unwrap_or.result ≡ first.0 = c.unwrap_or.ensures ∙ ap (λ (o : Option ℕ). unwrap_or o c.args.id) first.1 in
    subst (λ (ls : List Line). IsStanding ls c.args.id c.unwrap_or.result) inside (
      line,
      numbered-position lines c.args.id positive ∙ here,
      stands_retired (live_lines lines) line.retired c.in-Some.field-0 line.clause c.args.id c.unwrap_or.result c.in-Some.is
          (subst (IsFirstUnitLine (live_lines lines) line.clause) (sym number) first.2),
    )
