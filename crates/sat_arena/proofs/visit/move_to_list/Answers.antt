use Rattle.std.proofs.Common.{◌≡◌, ◌<◌, ◌-◌, ℕ, Bool, true, false, nat_eq, List, [], ap, sym, ◌∙◌, subst, refl, arith, set, get_or, length, length-set}
use Rattle.std.proofs.lemmas.Bool.{ne_eqb, eq-eqb}
use Rattle.std.proofs.lemmas.List.{get_or_read}
use Rattle.std.proofs.lemmas.List.Elements.{All-get_or}
use Rattle.sat_arena.specs.Links.{AreListed, IsMovedFrom}
use Rattle.sat_arena.proofs.VisitLemmas.{IsMovedFrom-start, IsMovedFrom-step, IsMovedFrom-end, first_linked, first_watched, shorter}
use Rattle.sat_arena.proofs.visit.move_to_list.Goals as goal

pub loop-pending-init : goal.loop-pending-init
loop-pending-init c =
    let from : c.index-watched-watch.result ≡ get_or c.args.watched.now c.args.watch 0 = get_or_read c.args.watched.now c.args.watch c.index-watched-watch.result c.requires.watch c.index-watched-watch.is 0 in
    IsMovedFrom-start c.args.links.now c.args.heads.now c.args.watched.now c.index-watched-watch.result c.code-list.result c.args.watch c.args.to c.requires.listed
    (subst (λ (l : ℕ). l < length c.args.heads.now) (sym from) (c.requires.within c.args.watch 0 c.requires.watch)) c.code-list.ensures.code c.requires.watch (sym from)

pub put_first-requires-clause-watch : goal.put_first-requires-clause-watch
put_first-requires-clause-watch c =
    first_watched c.loop-pending.links c.loop-pending.heads c.loop-pending.watched c.loop-pending.invariant.pending c.index-watched-watch.result c.loop-pending.pending c.loop-pending.invariant.listed (omega arith)

pub put_first-requires-clause-linked : goal.put_first-requires-clause-linked
put_first-requires-clause-linked c =
    first_linked c.loop-pending.links c.loop-pending.heads c.loop-pending.watched c.loop-pending.invariant.pending c.index-watched-watch.result c.loop-pending.pending c.loop-pending.invariant.listed (omega arith)

pub returns-clause-listed : goal.returns-clause-listed
returns-clause-listed c =
    (IsMovedFrom-end c.loop-pending.links c.loop-pending.heads c.args.watched.now c.loop-pending.watched c.index-watched-watch.result c.loop-pending.pending c.args.watch c.args.to c.loop-pending.invariant (omega arith)).0

pub returns-clause-watched : goal.returns-clause-watched
returns-clause-watched c =
    (IsMovedFrom-end c.loop-pending.links c.loop-pending.heads c.args.watched.now c.loop-pending.watched c.index-watched-watch.result c.loop-pending.pending c.args.watch c.args.to c.loop-pending.invariant (omega arith)).1

-- either literal has a list
in_range : (b : Bool) (lit to from room : ℕ) → (b ≡ true → lit ≡ to) → (b ≡ false → lit ≡ from) → to < room → from < room → lit < room
in_range true lit to from room one other p q = (let same : lit ≡ to = one refl in omega arith)
in_range false lit to from room one other p q = (let same : lit ≡ from = other refl in omega arith)

pub put_first-requires-clause-listed : goal.put_first-requires-clause-listed
put_first-requires-clause-listed c =
    let from : c.index-watched-watch.result ≡ get_or c.args.watched.now c.args.watch 0 = get_or_read c.args.watched.now c.args.watch c.index-watched-watch.result c.requires.watch c.index-watched-watch.is 0 in
    let low : c.index-watched-watch.result < length c.args.heads.now = subst (λ (l : ℕ). l < length c.args.heads.now) (sym from) (c.requires.within c.args.watch 0 c.requires.watch) in
    let long : length c.loop-pending.heads ≡ length c.args.heads.now = c.loop-pending.auto.heads ∙ length-set c.args.heads.now c.code-list.result 0 in
    let there : c.pick-lit.result < length c.loop-pending.heads
    = in_range (nat_eq (c.loop-pending.pending - 1) c.args.watch) c.pick-lit.result c.args.to c.index-watched-watch.result (length c.loop-pending.heads) c.pick-lit.ensures.first c.pick-lit.ensures.other (omega (arith, c.requires.room, long)) (omega (arith, low, long)) in
    there

pub loop-pending-smaller : goal.loop-pending-smaller
loop-pending-smaller c =
    let from : c.index-watched-watch.result ≡ get_or c.args.watched.now c.args.watch 0 = get_or_read c.args.watched.now c.args.watch c.index-watched-watch.result c.requires.watch c.index-watched-watch.is 0 in
    let low : c.index-watched-watch.result < length c.args.heads.now = subst (λ (l : ℕ). l < length c.args.heads.now) (sym from) (c.requires.within c.args.watch 0 c.requires.watch) in
    let long : length c.loop-pending.heads ≡ length c.args.heads.now = c.loop-pending.auto.heads ∙ length-set c.args.heads.now c.code-list.result 0 in
    let there : c.pick-lit.result < length c.loop-pending.heads
    = in_range (nat_eq (c.loop-pending.pending - 1) c.args.watch) c.pick-lit.result c.args.to c.index-watched-watch.result (length c.loop-pending.heads) c.pick-lit.ensures.first c.pick-lit.ensures.other (omega (arith, c.requires.room, long)) (omega (arith, low, long)) in
    shorter c.loop-pending.links c.loop-pending.heads c.loop-pending.watched c.loop-pending.invariant.pending c.index-watched-watch.result c.loop-pending.pending c.loop-pending.invariant.listed (omega arith) c.put_first.new.links c.put_first.new.heads c.put_first.new.watched c.pick-lit.result
    there c.put_first.ensures.watched c.put_first.ensures.links c.put_first.ensures.heads

pub loop-pending-preserved : goal.loop-pending-preserved
loop-pending-preserved c =
    let from : c.index-watched-watch.result ≡ get_or c.args.watched.now c.args.watch 0 = get_or_read c.args.watched.now c.args.watch c.index-watched-watch.result c.requires.watch c.index-watched-watch.is 0 in
    let low : c.index-watched-watch.result < length c.args.heads.now = subst (λ (l : ℕ). l < length c.args.heads.now) (sym from) (c.requires.within c.args.watch 0 c.requires.watch) in
    let long : length c.loop-pending.heads ≡ length c.args.heads.now = c.loop-pending.auto.heads ∙ length-set c.args.heads.now c.code-list.result 0 in
    let there : c.pick-lit.result < length c.loop-pending.heads
    = in_range (nat_eq (c.loop-pending.pending - 1) c.args.watch) c.pick-lit.result c.args.to c.index-watched-watch.result (length c.loop-pending.heads) c.pick-lit.ensures.first c.pick-lit.ensures.other (omega (arith, c.requires.room, long)) (omega (arith, low, long)) in
    IsMovedFrom-step c.loop-pending.links c.loop-pending.heads c.args.watched.now c.loop-pending.watched c.put_first.new.links c.put_first.new.heads c.put_first.new.watched c.index-watched-watch.result c.loop-pending.pending c.args.watch c.args.to c.pick-lit.result c.loop-pending.invariant (omega arith) there
    (λ same. c.pick-lit.ensures.first (eq-eqb (c.loop-pending.pending - 1) c.args.watch same)) (λ ne. c.pick-lit.ensures.other (ne_eqb (c.loop-pending.pending - 1) c.args.watch ne))
    c.put_first.ensures.watched c.put_first.ensures.links c.put_first.ensures.heads
