use Rattle.std.proofs.Common.{◌≡◌, ◌<◌, ◌*◌, ◌∙◌, [], Bool, length, get_or, arith, refl}
use Rattle.std.proofs.lemmas.List.{length-map}
use Rattle.fsmv_base.specs.declared.citation.Id.TheVariants.{Axiom}
use Rattle.sat_arena.specs.Stored.{Stored}
use Rattle.sat_arena.specs.Trails.{marked}
use Rattle.sat_arena.specs.ArenaState.{is_satisfied}
use Rattle.sat_arena.proofs.ReclaimLemmas.{AreCopied-next, AreCopied-none, AreCopied-all}
use Rattle.sat_arena.proofs.arena.copy_kept.Goals as goal

pub loop-at-init : goal.loop-at-init
loop-at-init c = record {
  vars = refl;
  copied = AreCopied-none (is_satisfied (marked c.args.literal_set.now)) c.args.arena.now c.args.kept.now c.requires.none c.requires.no_watches c.requires.no_moves;
}

pub loop-at-preserved : goal.loop-at-preserved
loop-at-preserved c =
    let d : Stored = record { clause = []; id = Axiom 0 } in
    let gone : Stored → Bool = is_satisfied (marked c.args.literal_set.now) in
    let source = c.args.arena.now in
    let two : length source.watched ≡ 2 * length source.stored = omega (arith, c.len-at-end.ensures.watches.two_each, length-map source.stored (λ s. s.clause)) in
    let within : c.loop-at.at < length source.stored = omega (arith, c.loop-at-test.true, c.len-at-end.ensures.len) in
    record {
      vars = c.copy_unless_satisfied.ensures.vars ∙ c.loop-at.invariant.vars;
      copied = AreCopied-next gone source c.loop-at.kept c.copy_unless_satisfied.new.kept c.loop-at.at d within two c.loop-at.invariant.copied (c.in_ok-copy_unless_satisfied.ensures.ok d);
    }

pub returns-clause-ok : goal.returns-clause-ok
returns-clause-ok c =
    AreCopied-all (is_satisfied (marked c.args.literal_set.now)) c.args.arena.now c.loop-at.kept c.loop-at.at (omega (arith, c.loop-at-test.false, c.len-at-end.ensures.len)) c.loop-at.invariant.copied
