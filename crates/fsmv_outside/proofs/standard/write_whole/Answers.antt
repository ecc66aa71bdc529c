use Rattle.std.proofs.KnownBytes.{Keeps-refl}
use Rattle.std.proofs.lemmas.Result.{MatchResult-from_err}
use Rattle.fsmv_outside.proofs.KnownBytes.{HasWritten_prefix, HasWritten_more}
use Rattle.fsmv_outside.proofs.standard.write_whole.Goals as goal

pub loop-suffix-preserved : goal.loop-suffix-preserved
loop-suffix-preserved g c =
    HasWritten_more _ _ _ c.args.piece.now c.loop-suffix.suffix.now c.in_ok-count.count c.loop-suffix.invariant c.in_ok-count.ensures.ok

pub returns-in_err-count-clause-refused : goal.returns-in_err-count-clause-refused
returns-in_err-count-clause-refused g c =
    let prefix = HasWritten_prefix _ _ (g.W.Write.contents c.write_some.new.out) c.args.piece.now c.loop-suffix.suffix.now c.loop-suffix.invariant c.in_err-count.ensures.err in
    MatchResult-from_err _ _ _ c.from_residual.ensures.0 (λ _. prefix)

pub returns-then-count-eq0-clause-refused : goal.returns-then-count-eq0-clause-refused
returns-then-count-eq0-clause-refused g c =
    HasWritten_prefix _ _ _ c.args.piece.now _ (HasWritten_more _ _ _ c.args.piece.now c.loop-suffix.suffix.now c.in_ok-count.count c.loop-suffix.invariant c.in_ok-count.ensures.ok) (Keeps-refl _)
