use Rattle.std.proofs.Common.{◌≡◌, ◌≤◌, ◌-◌, List, Some, None, ℕ, arith, refl, length, set, slice_get, suc, sym, ap, ◌∙◌, subst}
use Rattle.std.proofs.lemmas.List.{length-map}
use Rattle.std.proofs.lemmas.Option.{slice_get_read}
use Rattle.sat_lits.specs.Steps.{IsRetirable}
use Rattle.sat_lits.specs.Table.{Puts}
use Rattle.sat_lits.proofs.Numbered.{numbered_within, numbered-position, replaced-position}
use Rattle.proof_log.specs.declared.log.Line.{Line}
use Rattle.proof_log.specs.Logged.{Logged, live_lines}
use Rattle.proof_log.proofs.LiveLemmas.{status, retired_line, live_line}
use Rattle.proof_log.proofs.StateLemmas.{KeepsTogether-retire}
use Rattle.proof_log.proofs.log.Log.retire.Goals as goal

retirable : (c : goal.After-self-1) → IsRetirable (live_lines c.self.inside.lines.items) c.args.id
retirable c = subst (λ (log : Logged). IsRetirable (live_lines log.lines) c.args.id) (sym c.self.view_is) c.requires

-- the number is one of the log's
within : (c : goal.After-self-1) → (1 ≤ c.args.id) × (c.args.id ≤ length c.self.inside.lines.items)
within c =
    let r = retirable c in
    let both : (1 ≤ c.args.id) × (c.args.id ≤ length (live_lines c.self.inside.lines.items)) = numbered_within (live_lines c.self.inside.lines.items) c.args.id (Some r.clause) r.stands in
    (both.0, subst (λ n. c.args.id ≤ n) (length-map c.self.inside.lines.items status) both.1)

-- the line that is read is the one of the number
read : (c : goal.After-self-1) → slice_get c.self.inside.lines.items (c.args.id - 1) ≡ Some c.index_mut-line.result.now
read c =
    let bounds = within c in
    let positive : 1 ≤ c.args.id = bounds.0 in
    let le : c.args.id ≤ length c.self.inside.lines.items = bounds.1 in
    slice_get_read c.self.inside.lines.items (length c.self.inside.lines.items) (c.args.id - 1) c.index_mut-line.result.now refl (omega arith) c.index_mut-line.ensures.value

pub invariant_of-self : goal.invariant_of-self
invariant_of-self c =
    let lines = c.self.inside.lines.items in
    let line = c.index_mut-line.result.now in
    let bounds = within c in
    let positive : 1 ≤ c.args.id = bounds.0 in
    let next : c.args.id ≡ suc (c.args.id - 1) = omega arith in
    let r : IsRetirable (live_lines lines) (suc (c.args.id - 1)) = subst (IsRetirable (live_lines lines)) next (retirable c) in
    let found = live_line lines (c.args.id - 1) r.clause r.stands in
    let here : slice_get lines (c.args.id - 1) ≡ Some line = read c in
    let there : slice_get lines (c.args.id - 1) ≡ Some found.0 = found.1 in
    let same : found.0 ≡ line = cc in
    let unretired : line.retired ≡ None = ap (λ (l : Line). l.retired) (sym same) ∙ found.2 in
    let puts : Puts c.self.inside.numbers c.remove.new.self line.clause None = subst (λ (key : List ℕ). Puts c.self.inside.numbers c.remove.new.self key None) c.lits.ensures.same c.remove.ensures in
    let count : c.len-count.result ≡ length lines = omega arith in
    rw count (KeepsTogether-retire c.self.inside.axioms.items lines (c.args.id - 1) line c.self.inside.numbers c.remove.new.self here unretired r puts c.self.invariant)

pub returns : goal.returns
returns c =
    let lines = c.self.inside.lines.items in
    let line = c.index_mut-line.result.now in
    let bounds = within c in
    let count : c.len-count.result ≡ length lines = omega arith in
    let with_lines : List Line → Logged = λ ls. record { axioms = c.self.inside.axioms.items; lines = ls } in
    rw (← c.self.view_is) (record {
      line = line;
      was = numbered-position lines c.args.id bounds.0 ∙ read c;
      marked = ap with_lines (ap (λ n. set lines (c.args.id - 1) (retired_line line n)) count ∙ sym (replaced-position lines c.args.id (retired_line line (length lines)) bounds.0));
    })
