use Rattle.std.proofs.Common.{ℕ, ◌<◌, ◌+◌, ◌*◌, arith}
use Rattle.sat_search.proofs.literal_set.refill.Goals as goal

pub insert_all-requires-clause-room : goal.insert_all-requires-clause-room
insert_all-requires-clause-room c k d within =
    let grown = c.requires.grown k d within in
    omega (arith, grown.1, c.in_ok-lengthen.ensures.long)
