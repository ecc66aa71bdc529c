-- What propagation had done at each level before the current_level one.
use Rattle.std.specs.Prelude.{ℕ, ◌<◌, List, All}
use Rattle.sat_arena.specs.declared.trail.Assigned.{Assigned}
use Rattle.sat_arena.specs.Trails.{true_in, up_to}
use Rattle.sat_arena.specs.Settled.{IsSettled}

-- at each level below this one, propagation had found nothing more to do
abbrev pub IsSettledBelow : ℕ → List Assigned → List (List ℕ) → Type 0
IsSettledBelow level entries clauses = (k : ℕ) → k < level
    → All (IsSettled (true_in (up_to k entries))) clauses
