use Rattle.std.proofs.Common.{◌≤◌, ◌+◌, ◌-◌, vec_len}
use Rattle.fsmv_outside.proofs.KnownBytes.{HasRead}
use Rattle.fsmv_outside.proofs.disk.read_to_end.Given as goal

-- the bytes read so far are appended, and within the limit
abbrev pub invariant-loop-count : goal.invariant-loop-count
invariant-loop-count g l =
    HasRead (g.F.Read.remaining l.initial.file) (g.F.Read.remaining l.file) l.initial.into.items l.into.items
    × (vec_len l.into ≤ vec_len l.initial.into + l.most)

-- the number of bytes that may still come, and one beyond the limit
abbrev pub decreases-loop-count : goal.decreases-loop-count
decreases-loop-count g l = vec_len l.initial.into + l.most + 1 - vec_len l.into
