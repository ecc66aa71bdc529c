-- What becomes of the clauses of an arena as some are taken out.
use Rattle.std.specs.Prelude.{◌≡◌, ℕ, suc, ◌+◌, ◌*◌, ◌/◌, ◌<◌, Bool, true, false, not, List, [], ◌∷◌, ◌++◌, Option, Some, None, length, filter, slice_index_or, if◌then◌else◌}
use Rattle.sat_arena.specs.Stored.{Stored}
use Rattle.sat_arena.specs.ArenaState.{ArenaState, clauses_of}
use Rattle.sat_arena.specs.Watches.{clause_of, watch_of}

-- where each clause stands once those that pass the test were taken out, where the first that stays gets this position
abbrev pub moves : (Stored → Bool) → ℕ → List Stored → List (Option ℕ)
moves gone next [] = []
moves gone next (s ∷ ss) = if gone s then None ∷ moves gone next ss else (Some next ∷ moves gone (suc next) ss)

-- the clause at the position was added, with what it watches, and its new position was noted
pub record IsCopied (source : ArenaState) (at : ℕ) (old new : ArenaState) : Type 0 where
  pub first : ℕ
  pub second : ℕ
  pub stored : (d : Stored) → new.stored ≡ old.stored ++ slice_index_or source.stored at d ∷ []
  pub watched : new.watched ≡ (old.watched ++ first ∷ []) ++ second ∷ []
  pub moved : new.moved ≡ old.moved ++ Some (length old.stored) ∷ []
  pub same_first : 1 < length (slice_index_or (clauses_of source.stored) at [])
      → first ≡ watch_of source.watched (2 * at)
  pub same_second : 1 < length (slice_index_or (clauses_of source.stored) at [])
      → second ≡ watch_of source.watched (2 * at + 1)

-- that was done, or the clause is gone
abbrev pub HasCopied : ArenaState → ℕ → Bool → ArenaState → ArenaState → Type 0
HasCopied source at true old new = new ≡ record old { moved = old.moved ++ None ∷ [] }
HasCopied source at false old new = IsCopied source at old new

-- each watch of a clause of two or more literals is one of the same clause in the other lists
abbrev pub AreWatchesOf : List (List ℕ) → List ℕ → List (List ℕ) → List ℕ → Type 0
AreWatchesOf clauses watched clauses' watched' = (n : ℕ) → n < length watched'
    → 1 < length (clause_of clauses' n)
    → (m : ℕ) × (m < length watched) × (clause_of clauses' n ≡ clause_of clauses m)
    × (watch_of watched' n ≡ watch_of watched m)

-- of these clauses of the arena those that do not pass the test were copied, with what they watch, and their new
-- positions were noted
pub record AreCopied (gone : Stored → Bool) (passed : List Stored) (source new : ArenaState) : Type 0 where
  pub kept : new.stored ≡ filter (λ s. not (gone s)) passed
  pub moved : new.moved ≡ moves gone 0 passed
  pub two_each : length new.watched ≡ 2 * length new.stored
  pub watches : AreWatchesOf (clauses_of source.stored) source.watched (clauses_of new.stored)
      new.watched
