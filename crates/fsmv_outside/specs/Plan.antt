-- A plan of faults: the calls that are to fail, and the counts so far.
use Rattle.std.specs.Prelude.{ℕ, Bool, List, if◌then◌else◌, Contains}
use Rattle.fsmv_outside.specs.Count.{counted}

-- a plan of faults
pub record Plan : Type 0 where
  -- the numbers of the calls that are to fail, counted from 1
  pub failing : List ℕ
  -- the number of calls so far
  pub calls : ℕ
  -- the number of failed calls so far
  pub faults : ℕ

-- a plan before the first call
abbrev pub fresh_plan : List ℕ → Plan
fresh_plan failing = record { failing = failing; calls = 0; faults = 0 }

-- the number of the next call
abbrev pub next_call : Plan → ℕ
next_call plan = counted plan.calls

-- the next call is to fail
abbrev pub IsToFail : Plan → Type 0
IsToFail plan = Contains plan.failing (next_call plan)

-- the plan after one more call, which failed or did not
abbrev pub after_call : Plan → Bool → Plan
after_call plan failed = record plan {
  calls = next_call plan;
  faults = if failed then counted plan.faults else plan.faults;
}
