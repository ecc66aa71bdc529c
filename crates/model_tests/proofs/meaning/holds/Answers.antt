use Rattle.smv_meaning.proofs.StateLemmas.{main_there}
use Rattle.model_tests.proofs.meaning.holds.Goals as goal

pub spec_holds-requires : goal.spec_holds-requires
spec_holds-requires c = main_there c.args.program.now
