-- A session, as its callers see it.
use Rattle.std.specs.Prelude.{◌≡◌, ℕ, ◌+◌, ◌≤◌, ◌<◌, Bool, true, List, Option, Some, None, Result, Ok, Err, length, slice_get, All, ◌⊎◌}
use Rattle.fsmv_base.specs.declared.citation.Id.{Id}
use Rattle.fsmv_base.specs.declared.citation.Id.TheVariants.{Derived}
use Rattle.sat_lits.specs.Literals.{literal_true}
use Rattle.sat_lits.specs.Clauses.{Satisfies}
use Rattle.proof_log.specs.declared.log.Line.{Line}
use Rattle.proof_log.specs.Logged.{Logged, live_lines}
use Rattle.sat_arena.specs.Trails.{marked}
use Rattle.sat_arena.specs.Newness.{IsNew}
use Rattle.sat_search.specs.Assumed.{assumed, IsFalsifiedUnder, NoneIsFalsifiedUnder, AreNotFalsifiedUnder}
use Rattle.sat_search.specs.Additions.{present, listed_at, Extends, NoneSubsumes}
use Rattle.sat_search.specs.declared.answer.Answer.{Answer}
use Rattle.sat_search.specs.declared.answer.Answer.TheVariants.{Model, Core, Spent}

-- the log; the greatest variable; how often a solution was asked for; whether the session has ended; and the
-- values of the model that was found last, by the variables' numbers, as long as it stands
pub record Sessioned : Type 0 where
  pub log : Logged
  pub vars : ℕ
  pub asked : ℕ
  pub ended : Bool
  pub model : Option (List Bool)

-- the values make true each axiom, each line that stands and each assumption
pub record IsModel (log : Logged) (assumptions : List ℕ) (values : List Bool) : Type 0 where
  pub axioms : Satisfies (marked values) log.axioms
  pub lines : Satisfies (marked values) (present (live_lines log.lines))
  pub assumed_true : All (λ a. literal_true (marked values) a ≡ true) assumptions

-- what each answer says of the log and the model as they then are
abbrev pub Answers : Logged → Option (List Bool) → List ℕ → ℕ → Answer → Type 0
Answers log model assumptions most Model = (values : List Bool) × (model ≡ Some values)
    × IsModel log assumptions values
Answers log model assumptions most (Core id) = (model ≡ None)
    × IsFalsifiedUnder (assumed assumptions) log id
Answers log model assumptions most Spent = (model ≡ None) × (most ≤ length log.lines)
    × NoneIsFalsifiedUnder (assumed assumptions) log

-- the id that a Core names
abbrev pub core_of : {E : Type 0} → Result Answer E → Option Id
core_of (Ok Model) = None
core_of (Ok (Core id)) = Some id
core_of (Ok Spent) = None
core_of (Err e) = None

-- the log grew by lines alone, up to so many. Each is new to propagation over the axioms and the lines that
-- stood before it; or it is the one that the Core names, none of those held only negated assumptions, and none
-- of them is a subsumer of it
pub record AddsLines (assumptions : List ℕ) (old new : Logged) (most : ℕ) (core : Option Id) : Type 0 where
  pub extends : Extends old new
  pub within : length old.lines < length new.lines → length new.lines ≤ most
  pub news : (i : ℕ) (line : Line) → length old.lines ≤ i → slice_get new.lines i ≡ Some line
      → IsNew (listed_at i new) line.clause
      ⊎ ((core ≡ Some (Derived (i + 1)))
      × AreNotFalsifiedUnder (assumed assumptions) (listed_at i new)
      × NoneSubsumes (listed_at i new) line.clause)
