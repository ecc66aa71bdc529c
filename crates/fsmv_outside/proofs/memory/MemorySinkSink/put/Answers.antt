use Rattle.std.proofs.Common.{◌≡◌, ◌∙◌, Some, ap}
use Rattle.std.proofs.lemmas.Result.{MatchResult-from_err}
use Rattle.fsmv_outside.proofs.WrittenText.{WritesPrefix_none}
use Rattle.fsmv_outside.proofs.memory.MemorySinkSink.put.Goals as goal

pub returns-in_err-extend_from_slice-clause-refused :
    goal.returns-in_err-extend_from_slice-clause-refused
returns-in_err-extend_from_slice-clause-refused c =
    let unchanged : Some c.extend_from_slice.new.self.items ≡ Some c.args.self.now.content =
    ap Some c.in_err-extend_from_slice.ensures.items ∙ ap (λ sink. Some sink.content) c.self.view_is in
    MatchResult-from_err _ _ _ c.from_residual.ensures.0 (λ _. WritesPrefix_none _ _ _ unchanged)
