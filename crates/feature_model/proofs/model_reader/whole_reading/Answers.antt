use Rattle.std.proofs.Common.{refl}
use Rattle.smv_expr.specs.Reading.Outcome.{Read}
use Rattle.feature_model.proofs.ModelAnswers.{read_reported}
use Rattle.feature_model.proofs.model_reader.whole_reading.Goals as goal

pub returns-in-None : goal.returns-in-None
returns-in-None c = read_reported c.args.file c.args.bytes.now c.args.reading c.args.tokens.now c.answer.result c.in-None.is (c.answer.ensures (Read c.args.reading.text c.args.tokens.now) refl)
