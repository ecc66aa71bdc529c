use Rattle.std.proofs.Common.{◌≡◌, ◌++◌, ◌∙◌, arith}
use Rattle.std.proofs.lemmas.List.{take-append-drop}
use Rattle.std.proofs.lemmas.Result.{MatchResult-from_err}
use Rattle.fsmv_top.proofs.OutputLemmas.{more_left, shorter, line_written, line_refused}
use Rattle.fsmv_top.proofs.output.put_lines.Goals as goal

pub loop-tail-preserved : goal.loop-tail-preserved
loop-tail-preserved g c =
    let text = c.args.text.now in
    let tail = c.loop-tail.tail.now in
    let line = c.split_at.result.0.now in
    let more = c.split_at.result.1.now in
    let cut = take-append-drop c.line_len.result tail in
    let split : tail ≡ line ++ more = cc in
    record {
      shorter = shorter text tail line more c.loop-tail.invariant.left split;
      left = more_left text tail line more c.loop-tail.invariant.left split;
      content = line_written text tail line more c.loop-tail.invariant.left split _ _ _ c.loop-tail.invariant.content c.in_ok-put.ensures.ok;
      given_stays = c.put.ensures.given_stays ∙ c.loop-tail.invariant.given_stays;
      faults = omega arith;
    }

pub returns-in_err-put-clause-refused : goal.returns-in_err-put-clause-refused
returns-in_err-put-clause-refused g c =
    let text = c.args.text.now in
    let tail = c.loop-tail.tail.now in
    let line = c.split_at.result.0.now in
    let more = c.split_at.result.1.now in
    let cut = take-append-drop c.line_len.result tail in
    let split : tail ≡ line ++ more = cc in
    MatchResult-from_err _ _ _ c.from_residual.ensures.0 (λ _. line_refused text tail line more c.loop-tail.invariant.left split _ _ _ c.loop-tail.invariant.content c.in_err-put.ensures.refused)
