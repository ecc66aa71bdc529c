use Rattle.std.proofs.Common.{◌≡◌, ◌<◌, ◌+◌, ℕ, Bool, true, List, length, get_or, subst, sym, ap, ◌∙◌, arith, length-set}
use Rattle.sat_lits.specs.Literals.{variable_of}
use Rattle.sat_analyze.specs.Marked.{IsLowest}
use Rattle.sat_analyze.proofs.MarkLemmas.{MarksFirst, MarksFirst-more}
use Rattle.sat_analyze.proofs.marks.Marks.mark.Goals as goal

pub loop-lit-preserved : goal.loop-lit-preserved
loop-lit-preserved c =
    let old = c.loop-lit.invariant in
    let lit = c.lit-item.result in
    let here : get_or c.args.lits.now c.loop-lit.lit-index lit ≡ lit = sym c.lit-item.is in
    let positions = c.args.positions.now in
    let positioned : (variable_of lit < length positions) × (get_or positions (variable_of lit) 0 < length c.args.self.now.seen.items)
    = subst (λ (l : ℕ). (variable_of l < length positions) × (get_or positions (variable_of l) 0 < length c.args.self.now.seen.items)) here (c.requires.positioned c.loop-lit.lit-index lit c.loop-lit-test.true) in
    let position : ℕ = c.position_of-position.result in
    let at : position ≡ get_or positions (variable_of lit) 0 = c.position_of-position.ensures.position in
    let room : position < length c.loop-lit.self.seen.items = omega (arith, positioned.1, old.sized) in
    record {
      sized = ap length c.mark_position.ensures.seen ∙ length-set c.loop-lit.self.seen.items position true ∙ old.sized;
      start = c.mark_position.ensures.start ∙ old.start;
      lowest = subst (λ (n : ℕ). IsLowest c.mark_position.new.self.seen.items n c.mark_position.new.self.lowest) (sym c.mark_position.ensures.start) c.mark_position.ensures.lowest;
      first = subst (λ (fs : List Bool). MarksFirst c.args.positions.now c.args.lits.now (c.loop-lit.lit-index + 1) c.args.self.now.seen.items fs) (sym c.mark_position.ensures.seen)
          (MarksFirst-more c.args.positions.now c.args.lits.now c.loop-lit.lit-index lit position c.args.self.now.seen.items c.loop-lit.self.seen.items c.loop-lit-test.true here at room old.first);
    }
