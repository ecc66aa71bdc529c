-- What shows that a way from a vertex back to it is its cycle. Levels are given to vertices: to each vertex of the way its
-- position there, and to each vertex that was left since it reaches the goal through the way alone, how far that had come.
use Rattle.std.specs.Prelude.{◌≡◌, ℕ, ◌+◌, ◌-◌, ◌^◌, ◌<◌, Bool, true, false, not, ◌&&◌, ◌||◌, nat_eq, nat_le, List, [], ◌∷◌, length, Option, Some, None, slice_get, unwrap_or}
use Rattle.fixpoint.specs.Fixpoints.{entry}
use Rattle.graph.specs.Graphs.{successors_in}

-- whether a level is known and not above this one
abbrev pub is_within : ℕ → Option ℕ → Bool
is_within level None = false
is_within level (Some found) = nat_le found level

-- over the levels of vertices, and the vertex to which the way is to lead back
module _ (level_at : ℕ → Option ℕ) (goal : ℕ) where
  -- whether a vertex is not the goal and not above this level
  abbrev pub passes : ℕ → ℕ → Bool
  passes level k = not (nat_eq goal k) && is_within level (level_at k)

  -- whether none of these vertices is the goal or above this level
  abbrev pub all_pass : ℕ → List ℕ → Bool
  all_pass level [] = true
  all_pass level (k ∷ ks) = passes level k && all_pass level ks

  -- whether the next vertex is among these, and those before it pass
  abbrev pub goes_on : ℕ → ℕ → List ℕ → Bool
  goes_on level next [] = false
  goes_on level next (k ∷ ks) = nat_eq next k || (passes level k && goes_on level next ks)

-- whether what was found is this number
abbrev pub is_found : ℕ → Option ℕ → Bool
is_found k None = false
is_found k (Some found) = nat_eq found k

-- the vertex behind a position of the way: the goal behind the last one
abbrev pub next_on : List ℕ → ℕ → ℕ → ℕ
next_on vertices goal position = unwrap_or (slice_get vertices (position + 1)) goal

-- whether a vertex of the way has its position as level, and leads on from there
abbrev pub is_on : List (List ℕ) → ℕ → List ℕ → List (Option ℕ) → ℕ → ℕ → Bool
is_on graph goal vertices levels position k =
    is_found position (entry levels k)
    && goes_on (entry levels) goal position (next_on vertices goal position) (successors_in graph k)

-- whether a vertex of this level is on the way, or leads nowhere but to the way before that
abbrev pub off_by : List (List ℕ) → ℕ → List ℕ → List (Option ℕ) → ℕ → Option ℕ → Bool
off_by graph goal vertices levels k None = true
off_by graph goal vertices levels k (Some level) = is_found k (slice_get vertices level)
    || all_pass (entry levels) goal level (successors_in graph k)

-- the same of a vertex, if it has a level
abbrev pub is_off : List (List ℕ) → ℕ → List ℕ → List (Option ℕ) → ℕ → Bool
is_off graph goal vertices levels k = off_by graph goal vertices levels k (entry levels k)

-- each of the first so many positions of the way is so
abbrev pub AreOn : List (List ℕ) → ℕ → List ℕ → List (Option ℕ) → ℕ → Type 0
AreOn graph goal vertices levels n = (position k : ℕ) → position < n → slice_get vertices position
    ≡ Some k → is_on graph goal vertices levels position k ≡ true

-- each of the first so many vertices is so
abbrev pub AreOff : List (List ℕ) → ℕ → List ℕ → List (Option ℕ) → ℕ → Type 0
AreOff graph goal vertices levels n = (k : ℕ) → k < n → is_off graph goal vertices levels k ≡ true

-- the way is no longer than a cycle may be, it begins at the goal, each of its vertices leads on, and no other vertex that
-- has a level does
pub record IsWay (graph : List (List ℕ)) (goal : ℕ) (vertices : List ℕ) (levels : List (Option ℕ)) : Type 0 where
  pub short : length vertices < 2 ^ 64 - 1
  pub first : slice_get vertices 0 ≡ Some goal
  pub on : AreOn graph goal vertices levels (length vertices)
  pub off : AreOff graph goal vertices levels (length graph)
