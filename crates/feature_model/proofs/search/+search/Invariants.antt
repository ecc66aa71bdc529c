use Rattle.std.proofs.Common.{◌+◌, ◌*◌}
use Rattle.feature_model.proofs.SearchLemmas.{room}
use Rattle.feature_model.proofs.search.+search.Given as goal

-- each search within a partial product goes through up to three calls before one more feature is decided
abbrev pub decreases-search : goal.decreases-search
decreases-search l = 3 * room l.partial.chosen l.partial.left_out + 2

abbrev pub decreases-branch : goal.decreases-branch
decreases-branch l = 3 * room l.partial.chosen l.partial.left_out + 1

abbrev pub decreases-search_other : goal.decreases-search_other
decreases-search_other l = 3 * room l.partial.chosen l.partial.left_out
