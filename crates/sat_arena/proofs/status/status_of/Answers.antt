use Rattle.std.proofs.Common.{◌<◌, ◌≢◌, length, arith}
use Rattle.sat_arena.specs.Trails.{true_in}
use Rattle.sat_arena.proofs.SettledLemmas.{settled_by_two}
use Rattle.sat_arena.proofs.status.status_of.Goals as goal

pub returns : goal.returns
returns c =
    let first = c.first_open-first.result in
    let next = c.first_open-next.result in
    let within : first < length c.args.lits.now = omega arith in
    let within_next : next < length c.args.lits.now = omega arith in
    let apart : first ≢ next = omega arith in
    settled_by_two (true_in c.args.trail.now.entries) c.args.lits.now c.requires.rising first next within within_next apart (c.first_open-first.ensures.open within) (c.first_open-next.ensures.open within_next)
