use Rattle.std.proofs.Common.{ℕ, ◌<◌, ◌≤◌, ◌-◌, ◌*◌, ◌/◌, ◌≡◌, [], List, length, get_or, arith, sym, ◌∙◌, ap, subst}
use Rattle.std.proofs.lemmas.Bool.{both_ways}
use Rattle.std.proofs.lemmas.List.{get_or_read, length-map}
use Rattle.sat_lits.specs.Steps.{IsFalsified}
use Rattle.sat_arena.specs.Stored.{Stored}
use Rattle.sat_arena.specs.Trails.{marked}
use Rattle.sat_arena.specs.ArenaState.{clauses_of}
use Rattle.sat_arena.specs.Watches.{clause_of, IsSearching}
use Rattle.sat_arena.proofs.DeducedLemmas.{clause_at}
use Rattle.sat_arena.proofs.SearchLemmas.{IsSearching-start, IsSearching-next, IsSearching-end, searching_linked, searching_shorter}
use Rattle.sat_arena.proofs.falsified.find_in_list.Goals as goal

pub loop-pending-init : goal.loop-pending-init
loop-pending-init c =
    subst (λ (k : ℕ). IsSearching (clauses_of c.args.clauses.now) c.args.links.now c.args.watched.now (IsFalsified (marked c.args.literal_set.now)) c.args.lit k) (sym c.first_of-pending.ensures)
    (IsSearching-start (clauses_of c.args.clauses.now) c.args.links.now c.args.heads.now c.args.watched.now (IsFalsified (marked c.args.literal_set.now)) c.args.lit c.requires.listed c.requires.within)

pub bounds-links-watch : goal.bounds-links-watch
bounds-links-watch c =
    searching_linked (clauses_of c.args.clauses.now) c.args.links.now c.args.watched.now (IsFalsified (marked c.args.literal_set.now)) c.args.lit c.loop-pending.pending c.loop-pending.invariant c.loop-pending-test.true

pub lits-requires : goal.lits-requires
lits-requires c =
    let linked : c.loop-pending.pending - 1 < length c.args.links.now
    = searching_linked (clauses_of c.args.clauses.now) c.args.links.now c.args.watched.now (IsFalsified (marked c.args.literal_set.now)) c.args.lit c.loop-pending.pending c.loop-pending.invariant c.loop-pending-test.true in
    omega (arith, c.requires.listed.long, c.requires.two_each, length-map c.args.clauses.now (λ s. s.clause))

pub returns-then-is_falsified-clause-some : goal.returns-then-is_falsified-clause-some
returns-then-is_falsified-clause-some c =
    let linked : c.loop-pending.pending - 1 < length c.args.links.now
    = searching_linked (clauses_of c.args.clauses.now) c.args.links.now c.args.watched.now (IsFalsified (marked c.args.literal_set.now)) c.args.lit c.loop-pending.pending c.loop-pending.invariant c.loop-pending-test.true in
    let within : (c.loop-pending.pending - 1) / 2 < length c.args.clauses.now = omega (arith, c.requires.listed.long, c.requires.two_each, length-map c.args.clauses.now (λ s. s.clause)) in (
      within,
      subst (λ (xs : List ℕ). IsFalsified (marked c.args.literal_set.now) xs) c.lits.ensures.same
          (c.is_falsified.ensures.0 c.if-is_falsified.true),
    )

pub loop-pending-preserved : goal.loop-pending-preserved
loop-pending-preserved c =
    let linked : c.loop-pending.pending - 1 < length c.args.links.now
    = searching_linked (clauses_of c.args.clauses.now) c.args.links.now c.args.watched.now (IsFalsified (marked c.args.literal_set.now)) c.args.lit c.loop-pending.pending c.loop-pending.invariant c.loop-pending-test.true in
    IsSearching-next (clauses_of c.args.clauses.now) c.args.links.now c.args.watched.now (IsFalsified (marked c.args.literal_set.now)) c.args.lit c.loop-pending.pending c.loop-pending.invariant c.loop-pending-test.true (λ falsified.
    both_ways c.is_falsified.result c.if-is_falsified.false (c.is_falsified.ensures.1
    (subst (λ (xs : List ℕ). IsFalsified (marked c.args.literal_set.now) xs) (sym c.lits.ensures.same) falsified)))

pub loop-pending-smaller : goal.loop-pending-smaller
loop-pending-smaller c =
    searching_shorter (clauses_of c.args.clauses.now) c.args.links.now c.args.watched.now (IsFalsified (marked c.args.literal_set.now)) c.args.lit c.loop-pending.pending c.loop-pending.invariant c.loop-pending-test.true

pub returns-clause-none : goal.returns-clause-none
returns-clause-none c =
    IsSearching-end (clauses_of c.args.clauses.now) c.args.links.now c.args.watched.now (IsFalsified (marked c.args.literal_set.now)) c.args.lit c.loop-pending.pending c.loop-pending.invariant (omega (arith, c.loop-pending-test.false))
