-- What a whole search finds.
use Rattle.std.specs.Prelude.{◌≡◌, ℕ, ◌≤◌, Bool, true, List, Option, Some, None}
use Rattle.std.specs.Option.{option_map}
use Rattle.fsmv_base.specs.declared.citation.Id.{Id}
use Rattle.sat_lits.specs.Literals.{literal}
use Rattle.sat_arena.specs.declared.trail.Assigned.{Assigned}
use Rattle.sat_arena.specs.Trails.{true_in, marked}
use Rattle.proof_log.specs.Logged.{Logged}
use Rattle.sat_search.specs.Sessions.{Answers, AddsLines}
use Rattle.sat_search.specs.declared.answer.Answer.{Answer}
use Rattle.sat_search.specs.declared.answer.Answer.TheVariants.{Model, Core, Spent}
use Rattle.sat_search.specs.declared.found.Found.{Found}

-- the id that the answer names
abbrev pub named_by : Answer → Option Id
named_by Model = None
named_by (Core id) = Some id
named_by Spent = None

-- where the answer is a model, these are the values of the variables on the trail, and otherwise there are none
abbrev pub HasValues : List Assigned → ℕ → Answer → Option (List Bool) → Type 0
HasValues entries vars Model found = (values : List Bool) × (found ≡ Some values)
    × ((var : ℕ) → 1 ≤ var → var ≤ vars → marked values var ≡ true_in entries (literal var true))
HasValues entries vars (Core id) found = found ≡ None
HasValues entries vars Spent found = found ≡ None

-- the answer and its values are right at the log as it was left, to which new lines alone were added
pub record IsFound (assumptions : List ℕ) (old new : Logged) (most : ℕ) (found : Found) : Type 0 where
  pub answers : Answers new (option_map (λ values. values.items) found.values) assumptions most
      found.answer
  pub adds : AddsLines assumptions old new most (named_by found.answer)
