use Rattle.std.proofs.Common.{◌∙◌}
use Rattle.bit_encode.proofs.PlaceLemmas.{all_at_place}
use Rattle.bit_encode.proofs.places.place_test.Goals as goal

pub all-requires : goal.all-requires
all-requires c = all_at_place c.args.gates.now c.args.place c.args.bits.now c.deref.result.now c.requires.made_bits (c.deref.ensures.value ∙ c.in_ok-lits.ensures)
