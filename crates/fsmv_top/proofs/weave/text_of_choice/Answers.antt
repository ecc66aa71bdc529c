use Rattle.fsmv_top.proofs.TextLemmas.{text_answered}
use Rattle.fsmv_top.proofs.weave.text_of_choice.Goals as goal

pub returns-in-Ok : goal.returns-in-Ok
returns-in-Ok c = text_answered c.args.family.now c.args.list.now c.in-Ok.product c.checked_text.result c.requires.sound c.in-Ok.ensures.ok c.checked_text.ensures
