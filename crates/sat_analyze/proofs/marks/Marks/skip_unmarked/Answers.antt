use Rattle.std.proofs.Common.{◌-◌, ◌≤◌, arith, inl, inr}
use Rattle.std.proofs.lemmas.Bool.{cases_lt}
use Rattle.sat_analyze.proofs.MarkLemmas.{unmarked_block}
use Rattle.sat_analyze.proofs.marks.Marks.skip_unmarked.Goals as goal

pub loop-at-preserved : goal.loop-at-preserved
loop-at-preserved c =
    let old = c.loop-at.invariant in
    record {
      low = omega (arith, old.low);
      unmarked = λ i from before marked. elim (cases_lt i c.loop-at.at) [
        | inl inside ↦ unmarked_block c.args.self.now.seen.items c.deref.result.now (c.loop-at.at - 64) c.loop-at.at i c.deref.ensures.value (c.has_mark.ensures c.if-not-has_mark.true) from inside marked
        | inr after ↦ old.unmarked i after before marked
      ];
    }
