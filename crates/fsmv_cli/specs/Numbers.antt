-- The exit status of the program.
use Rattle.std.specs.Prelude.{ℕ}
use Rattle.fsmv_top.specs.declared.status.Status.{Status}
use Rattle.fsmv_top.specs.declared.status.Status.TheVariants as status

-- reports and texts 0 to 2, refusals 3 and 4, failures of the outside 5 to 7, a report that is not
-- accepted 8
abbrev pub number : Status → ℕ
number status.Good = 0
number status.Failing = 1
number status.Open = 2
number status.Refused = 3
number status.Usage = 4
number status.ReadFault = 5
number status.WriteFault = 6
number status.NoMemory = 7
number status.Rejected = 8
