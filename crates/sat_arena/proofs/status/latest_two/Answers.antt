use Rattle.std.proofs.lemmas.List.{get_or_read}
use Rattle.sat_arena.proofs.LatestLemmas.{AreLatest-at}
use Rattle.sat_arena.proofs.status.latest_two.Goals as goal

pub returns : goal.returns
returns c =
    AreLatest-at c.args.trail.now.entries c.args.lits.now c.first_open_or_any-first.result c.latest_but-second.result c.index-lits-first.result c.index-lits-second.result c.requires.rising
    c.first_open_or_any-first.ensures.within c.latest_but-second.ensures.within c.latest_but-second.ensures.other c.first_open_or_any-first.ensures.all_false c.latest_but-second.ensures.latest
    (get_or_read c.args.lits.now c.first_open_or_any-first.result c.index-lits-first.result c.first_open_or_any-first.ensures.within c.index-lits-first.is 0)
    (get_or_read c.args.lits.now c.latest_but-second.result c.index-lits-second.result c.latest_but-second.ensures.within c.index-lits-second.is 0)
