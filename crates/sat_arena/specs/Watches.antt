-- Which literals clauses watch.
use Rattle.std.specs.Prelude.{◌≡◌, ℕ, ◌+◌, ◌*◌, ◌/◌, ◌<◌, ◌≤◌, ◌^◌, ◌==◌, ◌&&◌, Bool, true, not, List, [], length, map, slice_index_or, slice_set, nat_lt, if◌then◌else◌, All, Contains, ◌⊎◌}
use Rattle.std.specs.List.{list_any}
use Rattle.sat_lits.specs.Literals.{negation, variable_of}
use Rattle.sat_arena.specs.declared.trail.Assigned.{Assigned}
use Rattle.sat_arena.specs.Stored.{Stored}
use Rattle.sat_arena.specs.Trails.{true_in}
use Rattle.sat_arena.specs.ArenaState.{clauses_of, AreGrown}
use Rattle.sat_arena.specs.Guarded.{IsGuarded}
use Rattle.sat_arena.specs.Links.{IsChain, AreListed}

-- ---- Two literals for each clause

-- the clause that a watch belongs to. The other watch of the clause is `negation n`
abbrev pub clause_of : List (List ℕ) → ℕ → List ℕ
clause_of clauses n = slice_index_or clauses (n / 2) []

-- the literal that it watches
abbrev pub watch_of : List ℕ → ℕ → ℕ
watch_of watched n = slice_index_or watched n 0

-- two different literals of the clause
pub record AreTwoOf (clause : List ℕ) (first second : ℕ) : Type 0 where
  pub holds_first : Contains clause first
  pub holds_second : Contains clause second
  pub differ : first ≡ second → ⊥

-- a literal of the clause, or the first of all literals where it has none
abbrev pub IsAnyOf : List ℕ → ℕ → Type 0
IsAnyOf clause l = Contains clause l ⊎ ((length clause ≡ 0) × (l ≡ 2))

-- each clause has two watches, which watch its literals if it has any, and different ones if it has two or more
pub record AreWatches (clauses : List (List ℕ)) (watched : List ℕ) : Type 0 where
  pub two_each : length watched ≡ 2 * length clauses
  pub holds : (n : ℕ) → n < length watched → 0 < length (clause_of clauses n) → Contains (clause_of clauses n) (watch_of watched n)
  pub differ : (n : ℕ) → n < length watched → 1 < length (clause_of clauses n) → watch_of watched n ≡ watch_of watched (negation n) → ⊥

-- what an arena keeps: room for each position in 32 bits, grown variables, and a list for each literal
pub record IsArena (stored : List Stored) (watched links heads : List ℕ) (vars : ℕ) : Type 0 where
  pub small : length stored < 2 ^ 31
  pub grown : AreGrown vars (clauses_of stored)
  pub room : 0 < vars → 2 * vars + 2 ≤ length heads
  pub within : All (λ l. l < length heads) watched
  pub watches : AreWatches (clauses_of stored) watched
  pub listed : AreListed links heads watched [] 0 0

-- the clause may watch `to`, which it does not watch yet
abbrev pub may_watch : List ℕ → ℕ → ℕ → ℕ → Bool
may_watch clause one two to = nat_lt 1 (length clause) && list_any (λ l. l == to) clause && not (one == to) && not (two == to)

-- the watched literals once the clause at the position watches `to` in the place of `from`
abbrev pub watches_after : List ℕ → List ℕ → ℕ → ℕ → ℕ → List ℕ
watches_after clause watched at from to =
    if may_watch clause (watch_of watched (2 * at)) (watch_of watched (2 * at + 1)) to
    then (if watch_of watched (2 * at) == from then slice_set watched (2 * at) to else if watch_of watched (2 * at + 1) == from then slice_set watched (2 * at + 1) to else watched)
    else watched

-- that happens where the clause at the position moves this watch
pub record MovesWatch (stored : List Stored) (watched : List ℕ) (at from to watch : ℕ) : Type 0 where
  pub within : watch < length watched
  pub grown : Contains (slice_index_or (clauses_of stored) at []) to
  pub moved : watches_after (slice_index_or (clauses_of stored) at []) watched at from to ≡ slice_set watched watch to
  pub two : 1 < length (slice_index_or (clauses_of stored) at [])
  pub of_clause : watch / 2 ≡ at
  pub apart : to ≡ watch_of watched (negation watch) → ⊥

-- ---- Watches under a trail, of which the first `head` entries have left the queue

-- each clause watches literals of its own, one of two or more different ones, and the first `head` entries owe these nothing
pub record KeepsWatches (entries : List Assigned) (head : ℕ) (clauses : List (List ℕ)) (watched : List ℕ) : Type 0 where
  pub two_each : length watched ≡ 2 * length clauses
  pub holds : (n : ℕ) → n < length watched → 0 < length (clause_of clauses n) → Contains (clause_of clauses n) (watch_of watched n)
  pub differ : (n : ℕ) → n < length watched → 1 < length (clause_of clauses n) → watch_of watched n ≡ watch_of watched (negation n) → ⊥
  pub guarded : (n : ℕ) → n < length watched → 1 < length (clause_of clauses n) → IsGuarded entries head (clause_of clauses n) (watch_of watched n)

-- the literal is false, and became so no later than the other one
abbrev pub IsNoLater : List Assigned → ℕ → ℕ → Type 0
IsNoLater entries l other = (true_in entries (negation l) ≡ true) × ((i j : ℕ) (d : Assigned) → i < length entries → j < length entries
    → (slice_index_or entries i d).lit ≡ negation l → (slice_index_or entries j d).lit ≡ negation other → i ≤ j)

-- two literals of a clause: the first is false only where all are, and the second only where all but the first are, and
-- none of them became so later
pub record AreLatest (entries : List Assigned) (clause : List ℕ) (first second : ℕ) : Type 0 where
  pub two : AreTwoOf clause first second
  pub all_false : true_in entries (negation first) ≡ true → (l : ℕ) → Contains clause l → true_in entries (negation l) ≡ true
  pub latest : true_in entries (negation second) ≡ true → (l : ℕ) → Contains clause l → (l ≡ first → ⊥) → IsNoLater entries l second

-- the watches of the literal that became false are pending, or are guarded for one entry more
abbrev pub AreVisited : List Assigned → ℕ → List (List ℕ) → List ℕ → List ℕ → ℕ → Type 0
AreVisited entries head clauses watched pending falsified = (n : ℕ) → n < length watched → 1 < length (clause_of clauses n) → watch_of watched n ≡ falsified
    → Contains pending n ⊎ IsGuarded entries (head + 1) (clause_of clauses n) falsified

-- a clause whose other watch is this one may watch x in place of the literal that became false
pub record MayWatch (entries : List Assigned) (head : ℕ) (clause : List ℕ) (falsified other x : ℕ) : Type 0 where
  pub holds : Contains clause x
  pub apart : x ≡ other → ⊥
  pub guards : IsGuarded entries head clause x
  pub further : x ≡ falsified → IsGuarded entries (head + 1) clause falsified

-- the watches that are linked from the start on are of the literal, and no clause but those of them is wanted and watches
-- that one
pub record IsSearching (clauses : List (List ℕ)) (links watched : List ℕ) (wanted : List ℕ → Type 0) (literal start : ℕ) : Type 0 where
  pub pending : List ℕ
  pub chain : IsChain links watched literal start pending
  pub passed : (n : ℕ) → n < length watched → watch_of watched n ≡ literal → Contains pending n ⊎ (wanted (clause_of clauses n) → ⊥)

-- some watches of the literal that became false are pending, linked from the start on
pub record IsVisiting (entries : List Assigned) (head : ℕ) (clauses : List (List ℕ)) (links heads watched : List ℕ) (falsified start : ℕ) : Type 0 where
  pub pending : List ℕ
  pub listed : AreListed links heads watched pending falsified start
  pub visited : AreVisited entries head clauses watched pending falsified
