-- How a search ends under assumptions, and what it adds to its log.
use Rattle.std.specs.Prelude.{◌≡◌, ℕ, ◌+◌, ◌≤◌, ◌<◌, Bool, List, [], ◌∷◌, ◌++◌, None, length, true, false, All, Contains, ◌⊎◌}
use Rattle.fsmv_base.specs.declared.citation.Id.{Id}
use Rattle.fsmv_base.specs.declared.citation.Id.TheVariants.{Derived}
use Rattle.sat_lits.specs.Literals.{negation, variable_of}
use Rattle.sat_lits.specs.Steps.{IsRupStep, IsFalsified}
use Rattle.proof_log.specs.Logged.{Logged, live_lines}
use Rattle.sat_arena.specs.declared.trail.Assigned.{Assigned}
use Rattle.sat_arena.specs.Trails.{true_in, IsGrown, IsOrderly}
use Rattle.sat_arena.specs.ArenaState.{clauses_of}
use Rattle.sat_arena.specs.Deduced.{Deduces}
use Rattle.sat_arena.specs.Justified.{current_level}
use Rattle.sat_arena.specs.Newness.{IsNew}
use Rattle.sat_analyze.specs.Derived.{HasVariable}
use Rattle.sat_search.specs.Orders.{AllAssigned}
use Rattle.sat_search.specs.Assumed.{AllTrue, IsFalsifiedUnder, NoneIsFalsifiedUnder, AreNotFalsifiedUnder}
use Rattle.sat_search.specs.LoopEnds.{AreSettled}
use Rattle.sat_search.specs.Additions.{Appends, AreNewFrom, HasVariables, NoneSubsumes, listed_at}
use Rattle.sat_search.specs.declared.solver.Solver.{Solver}
use Rattle.sat_search.specs.declared.answer.Answer.{Answer}
use Rattle.sat_search.specs.declared.answer.Answer.TheVariants.{Model, Core, Spent}

-- under literals that are assumed, the answer says by the log that no model was found
abbrev pub IsEnd : (ℕ → Bool) → Logged → ℕ → Answer → Type 0
IsEnd assumed log most Model = ⊥
IsEnd assumed log most (Core id) = IsFalsifiedUnder assumed log id
IsEnd assumed log most Spent = (most ≤ length log.lines) × NoneIsFalsifiedUnder assumed log

-- the clause was added to the log as its next line, and under the id of that line to the stored clauses, which may force a
-- literal by it
pub record Records (old new : Solver) (clause : List ℕ) (hints : List Id) (id : Id) : Type 0 where
  pub id_is : id ≡ Derived (length old.log.lines + 1)
  pub log_is : new.log ≡ record old.log
      { lines = old.log.lines ++ record { clause = clause; hints = hints; retired = None } ∷ [] }
  pub stored_is : new.propagator.stored
      ≡ old.propagator.stored ++ record { clause = clause; id = id } ∷ []
  pub vars_is : new.propagator.vars ≡ old.propagator.vars
  pub deduced : Deduces (clauses_of new.propagator.stored) (current_level old.propagator.entries)
      old.propagator.entries new.propagator.entries
  pub orderly : IsOrderly new.propagator.entries new.propagator.vars

-- the log got one more line, which is new to propagation, while it had fewer than are allowed
pub record AddsNewLine (old new : Logged) (most : ℕ) : Type 0 where
  pub clause : List ℕ
  pub hints : List Id
  pub is : new ≡ record old {
    lines = old.lines
        ++ record { clause = clause; hints = hints; retired = None } ∷ [];
  }
  pub is_new : IsNew (listed_at (length old.lines) old) clause
  pub room : length old.lines < most
  pub variables : HasVariables old → HasVariables new

-- where no axiom and no line that stood is false under what is assumed, the log got one more line, which the
-- answer names, and of which none of them is a subsumer
pub record AddsOwnLine (assumed : ℕ → Bool) (old new : Logged) (most : ℕ) (answer : Answer) : Type 0 where
  pub clause : List ℕ
  pub hints : List Id
  pub is : new ≡ record old {
    lines = old.lines
        ++ record { clause = clause; hints = hints; retired = None } ∷ [];
  }
  pub named : answer ≡ Core (Derived (length old.lines + 1))
  pub alone : AreNotFalsifiedUnder assumed (listed_at (length old.lines) old)
  pub none_subsumes : NoneSubsumes (listed_at (length old.lines) old) clause
  pub room : length old.lines < most
  pub variables : HasVariables old → HasVariables new

-- the answer was there, or was made by one more line
pub record EndsBy (assumed : ℕ → Bool) (old new : Logged) (most : ℕ) (answer : Answer) : Type 0 where
  pub is_end : IsEnd assumed new most answer
  pub added : (new ≡ old) ⊎ AddsOwnLine assumed old new most answer

-- a search went on from one log to the other, and each line that it added is new to propagation where it stands
pub record ContinuesTo (old new : Logged) (most : ℕ) : Type 0 where
  pub appends : Appends old new
  pub news : AreNewFrom (length old.lines) new
  pub within : length old.lines < length new.lines → length new.lines ≤ most
  pub variables : HasVariables old → HasVariables new

-- a search found a model without any more lines, or ended without one
abbrev pub Finishes : (ℕ → Bool) → List ℕ → Logged → Solver → ℕ → Answer → Type 0
Finishes negated assumptions old new most Model = (new.log ≡ old) × AreSettled new
    × AllTrue assumptions new.propagator.entries × AllAssigned new.propagator.vars (true_in new.propagator.entries)
Finishes negated assumptions old new most (Core id) = EndsBy negated old new.log most (Core id)
Finishes negated assumptions old new most Spent = EndsBy negated old new.log most Spent

-- a search went on from a log, and then finished with the answer
pub record RunsTo (negated : ℕ → Bool) (assumptions : List ℕ) (old : Logged) (new : Solver) (most : ℕ) (answer : Answer) : Type 0 where
  pub mid : Logged
  pub continues : ContinuesTo old mid most
  pub finishes : Finishes negated assumptions mid new most answer

-- the clause follows by the hints and holds only negated assumptions, and no stored clause holds only such
pub record Refutes (assumed : ℕ → Bool) (solver : Solver) (clause : List ℕ) (hints : List Id) : Type 0 where
  pub right : IsRupStep solver.log.axioms (live_lines solver.log.lines) clause hints
  pub negated : IsFalsified assumed clause
  pub alone : NoneIsFalsifiedUnder assumed solver.log
  pub grown : All (IsGrown solver.propagator.vars) clause
  pub variables : All (λ l. HasVariable (clauses_of solver.propagator.stored) (variable_of l)) clause

-- an assumption is false on a trail on which assumptions alone were decided
pub record IsRefused (assumed : ℕ → Bool) (entries : List Assigned) (lit : ℕ) : Type 0 where
  pub assumes : assumed lit ≡ true
  pub false_there : true_in entries (negation lit) ≡ true
  pub undecided : assumed (negation lit) ≡ false
  pub decided : (entry : Assigned) → Contains entries entry → entry.reason ≡ None
      → assumed entry.lit ≡ true
