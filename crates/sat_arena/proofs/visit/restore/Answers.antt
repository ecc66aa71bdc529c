use Rattle.std.proofs.Common.{◌≡◌, ℕ, ◌<◌, ◌-◌, [], List, ap, sym, ◌∙◌, subst, refl, arith, set, get_or}
use Rattle.sat_arena.specs.Links.{AreListed, IsListedFrom}
use Rattle.sat_arena.proofs.VisitLemmas.{suffix, put_listed, shorter, first_linked, first_watched, first_watches, whole, set_same}
use Rattle.sat_arena.proofs.visit.restore.Goals as goal

pub bounds-links-watch : goal.bounds-links-watch
bounds-links-watch c = first_linked c.loop-pending.links c.loop-pending.heads c.loop-pending.watched c.loop-pending.invariant.listed.pending c.args.falsified c.loop-pending.pending c.loop-pending.invariant.listed.listed (omega arith)

pub put_first-requires-clause-watch : goal.put_first-requires-clause-watch
put_first-requires-clause-watch c = first_watched c.loop-pending.links c.loop-pending.heads c.loop-pending.watched c.loop-pending.invariant.listed.pending c.args.falsified c.loop-pending.pending c.loop-pending.invariant.listed.listed (omega arith)

pub put_first-requires-clause-linked : goal.put_first-requires-clause-linked
put_first-requires-clause-linked c = first_linked c.loop-pending.links c.loop-pending.heads c.loop-pending.watched c.loop-pending.invariant.listed.pending c.args.falsified c.loop-pending.pending c.loop-pending.invariant.listed.listed (omega arith)

pub loop-pending-smaller : goal.loop-pending-smaller
loop-pending-smaller c = shorter c.loop-pending.links c.loop-pending.heads c.loop-pending.watched c.loop-pending.invariant.listed.pending c.args.falsified c.loop-pending.pending c.loop-pending.invariant.listed.listed (omega arith) c.put_first.new.links c.put_first.new.heads c.put_first.new.watched c.args.falsified (omega (arith, c.requires.room, c.loop-pending.auto.heads)) c.put_first.ensures.watched c.put_first.ensures.links c.put_first.ensures.heads

pub loop-pending-preserved : goal.loop-pending-preserved
loop-pending-preserved c = record {
  same = c.put_first.ensures.watched ∙ set_same c.loop-pending.watched (c.loop-pending.pending - 1) c.args.falsified
      (first_watches c.loop-pending.links c.loop-pending.heads c.loop-pending.watched c.loop-pending.invariant.listed.pending c.args.falsified c.loop-pending.pending c.loop-pending.invariant.listed.listed (omega arith)) ∙ c.loop-pending.invariant.same;
  listed = record {
    pending = suffix c.loop-pending.links c.loop-pending.heads c.loop-pending.watched c.loop-pending.invariant.listed.pending c.args.falsified c.loop-pending.pending c.loop-pending.invariant.listed.listed (omega arith);
    listed = put_listed c.loop-pending.links c.loop-pending.heads c.loop-pending.watched c.loop-pending.invariant.listed.pending c.args.falsified c.loop-pending.pending c.loop-pending.invariant.listed.listed (omega arith) c.put_first.new.links c.put_first.new.heads c.put_first.new.watched c.args.falsified (omega (arith, c.requires.room, c.loop-pending.auto.heads)) c.put_first.ensures.watched c.put_first.ensures.links c.put_first.ensures.heads;
  };
}

pub returns-clause-listed : goal.returns-clause-listed
returns-clause-listed c = whole c.loop-pending.links c.loop-pending.heads c.loop-pending.watched c.loop-pending.invariant.listed.pending c.args.falsified c.loop-pending.pending c.loop-pending.invariant.listed.listed (omega arith)
