use Rattle.std.proofs.Common.{◌≡◌, drop}
use Rattle.fsmv_outside.specs.Memory.{content_of, listed}
use Rattle.fsmv_outside.proofs.listing.find_file.Given as goal

-- the files so far have other names
abbrev pub invariant-loop-held : goal.invariant-loop-held
invariant-loop-held l =
    content_of (listed (drop l.held-index l.files)) l.name ≡ content_of (listed l.files) l.name
