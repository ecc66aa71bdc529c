-- Dependency graphs of expressions: heights and cycles. The vertices may be of any kind: qualified
-- names of a program, or numbers of slots.
use Rattle.std.specs.Prelude.{ℕ, suc, ◌+◌, max, Bool, if◌then◌else◌, List, [], ◌∷◌, Option, Some, None}
use Rattle.std.specs.List.{flat_map}
use Rattle.std.specs.Option.{option_to_list}
use Rattle.smv_meaning.specs.Value.{and_then}
use Rattle.fixpoint.specs.Fixpoints.{fixpoint}
use Rattle.graph.specs.Graphs.{is_on_cycle}

-- an edge: the depth of a node in the expression of a vertex, and the vertex that it reads, if it
-- reads one
pub record Edge (K : Type 0) : Type 0 where
  pub above : ℕ
  pub target : Option K

-- ---- heights

-- the height of the vertex that a node reads, 0 where it reads none
abbrev pub height_read : {K : Type 0} → (K → Option ℕ) → Option K → Option ℕ
height_read known_of None = Some 0
height_read known_of (Some c) = known_of c

-- the depth of the tree at a node: its own depth, itself, and the height of the vertex that it
-- reads
abbrev pub height_at : {K : Type 0} → (K → Option ℕ) → Edge K → Option ℕ
height_at known_of e = and_then (height_read known_of e.target) (λ h. Some (suc (e.above + h)))

-- the maximum of this height and of those at the nodes, where all are known
abbrev pub tallest : {K : Type 0} → (K → Option ℕ) → ℕ → List (Edge K) → Option ℕ
tallest known_of so_far [] = Some so_far
tallest known_of so_far (e ∷ more) = and_then (height_at known_of e)
    (λ h. tallest known_of (max so_far h) more)

-- over the edges of the vertices
module _ {K : Type 0} (edges : K → Option (List (Edge K))) where
  -- the transfer function of heights
  abbrev pub height_step : (K → Option ℕ) → K → Option ℕ
  height_step known_of k = and_then (edges k) (tallest known_of 0)

  -- the height of each vertex; a vertex on a cycle has none
  abbrev pub heights : K → Option ℕ
  heights = fixpoint height_step

-- ---- cycles

-- the keys that these nodes read
abbrev pub targets_of : {K : Type 0} → Option (List (Edge K)) → List K
targets_of None = []
targets_of (Some edges) = flat_map (λ e. option_to_list e.target) edges

-- over the edges of each key
module _ {K : Type 0} (edges : K → Option (List (Edge K))) where
  -- the keys that a key reads, in the order of the text
  abbrev pub read_by : K → List K
  read_by k = targets_of (edges k)

  -- a key that reads itself, directly or through others
  abbrev pub own_cycle : (K → K → Bool) → K → Option K
  own_cycle same k = if is_on_cycle read_by same k then Some k else None
