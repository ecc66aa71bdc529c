-- Ranks of vertices: a vertex whose rank is higher than those of its successors is on no cycle.
use Rattle.std.specs.Prelude.{◌≡◌, ℕ, ◌-◌, nat_eq, nat_lt, if◌then◌else◌, Bool, true, false, List, [], ◌∷◌, unwrap_or, slice_get}
use Rattle.graph.specs.Graphs.{successors_in}

-- the rank of a vertex, 0 where it has none
abbrev pub rank_of : List ℕ → ℕ → ℕ
rank_of ranks k = unwrap_or (slice_get ranks k) 0

-- none of these vertices has a higher rank than this
abbrev pub are_within : List ℕ → ℕ → List ℕ → Bool
are_within ranks highest [] = true
are_within ranks highest (k ∷ more) = if nat_lt highest (rank_of ranks k) then false else are_within
    ranks highest more

-- no vertex has a lower rank than one of its successors
abbrev pub AreRanks : List (List ℕ) → List ℕ → Type 0
AreRanks graph ranks = (k : ℕ) → are_within ranks (rank_of ranks k) (successors_in graph k) ≡ true

-- the rank of a vertex is higher than those of its successors
abbrev pub is_above : List (List ℕ) → List ℕ → ℕ → Bool
is_above graph ranks k = if nat_eq (rank_of ranks k) 0 then false else are_within ranks
    (rank_of ranks k - 1) (successors_in graph k)
