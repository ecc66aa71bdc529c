-- Directed graphs: which vertices reach which, and cycles. Vertices may be of any kind; each has its successors in order.
use Rattle.std.specs.Prelude.{ℕ, zero, suc, Bool, ◌||◌, ◌&&◌, not, nat_eq, if◌then◌else◌, List, [], ◌∷◌, ◌++◌, Option, Some, None, is_some, unwrap_or, slice_get}
use Rattle.std.specs.List.{list_any, find}
use Rattle.fixpoint.specs.Fixpoints.{fixpoint, most}

-- whether a vertex is among these
abbrev pub among : {K : Type 0} → (K → K → Bool) → List K → K → Bool
among same vertices c = list_any (λ p. same p c) vertices

-- whether a vertex is the goal, or is not avoided and is known to reach the goal
abbrev pub leads : {K : Type 0} → (K → K → Bool) → K → List K → (K → Option (Unit {0})) → K → Bool
leads same goal avoided known_of c = same goal c
    || (not (among same avoided c) && is_some (known_of c))

-- the mark of a vertex, where something was found
abbrev pub if_found : {K : Type 0} → Option K → Option (Unit {0})
if_found None = None
if_found (Some c) = Some tt

-- over the successors of each vertex, and the test whether two vertices are one
module _ {K : Type 0} (successors : K → List K) (same : K → K → Bool) where
  -- over the vertex that is to be reached, and vertices that are not to be passed
  module _ (goal : K) (avoided : List K) where
    -- the first successor of a vertex that leads to the goal, over what is known to reach it
    abbrev pub next_by : (K → Option (Unit {0})) → K → Option K
    next_by known_of k = find (leads same goal avoided known_of) (successors k)

    -- a vertex reaches the goal where one of its successors leads there
    abbrev pub reach_step : (K → Option (Unit {0})) → K → Option (Unit {0})
    reach_step known_of k = if_found (next_by known_of k)

    -- the vertices that reach the goal by one edge or more, past the avoided ones
    abbrev pub reach : K → Option (Unit {0})
    reach = fixpoint reach_step

    -- the first successor of a vertex by which it reaches the goal past the avoided ones
    abbrev pub next_of : K → Option K
    next_of = next_by reach

  -- whether a vertex reaches itself
  abbrev pub is_on_cycle : K → Bool
  is_on_cycle k = is_some (reach k [] k)

  -- the cycle that begins so and comes to this vertex, where that many more may follow. It goes on to the first successor
  -- that leads back past the vertices so far, and ends where that is the goal
  abbrev pub cycle_from : ℕ → K → List K → K → List K
  cycle_from zero goal so_far k = so_far
  cycle_from (suc rounds) goal so_far k =
      elim (next_of goal so_far k) [
        | None ↦ so_far
        | Some c ↦ if same goal c then so_far else cycle_from rounds goal
            (so_far ++ c ∷ []) c
      ]

  -- the cycle of a vertex that reaches itself
  abbrev pub cycle_of : K → List K
  cycle_of goal = cycle_from most goal (goal ∷ []) goal

-- ---- vertices by number

-- the successors of a vertex, none beyond the graph
abbrev pub successors_in : List (List ℕ) → ℕ → List ℕ
successors_in graph k = unwrap_or (slice_get graph k) []

-- whether a vertex reaches itself
abbrev pub on_cycle : List (List ℕ) → ℕ → Bool
on_cycle graph = is_on_cycle (successors_in graph) nat_eq
