-- The conditions of each status of a call of fsmv.
use Rattle.std.specs.Prelude.{◌≡◌, ℕ, List, Option, ◌⊎◌}
use Rattle.fsmv_outside.specs.Count.{Rose}
use Rattle.fsmv_outside.specs.Writing.{with_piece, WritesPrefix}
use Rattle.fsmv_top.specs.declared.status.Status.{Status}
use Rattle.fsmv_top.specs.declared.status.Status.TheVariants as status
use Rattle.fsmv_top.specs.Input.{Held}
use Rattle.fsmv_top.specs.Plan.{IsPlan}

-- the text before and after the call, where the sink gives it, and the counts of failed writes
pub record Written : Type 0 where
  pub before : Option (List ℕ)
  pub after : Option (List ℕ)
  pub faults_before : ℕ
  pub faults_after : ℕ

-- the content of the files, where the object gives it, and the counts of failed reads before and
-- after the call
pub record Reads : Type 0 where
  pub held : Held
  pub faults_before : ℕ
  pub faults_after : ℕ

-- exactly the text of the status was written
pub record Wrote (words : List (List ℕ)) (files : Reads) (out : Written) (s : Status) : Type 0 where
  pub text : List ℕ
  pub planned : IsPlan words files.held files.faults_before files.faults_after s text
  pub written : out.after ≡ with_piece out.before text

-- a prefix of the text was written, and nothing else
pub record WrotePrefix (words : List (List ℕ)) (files : Reads) (out : Written) : Type 0 where
  pub status : Status
  pub text : List ℕ
  pub planned : IsPlan words files.held files.faults_before files.faults_after status text
  pub prefix : WritesPrefix out.before out.after text

-- The condition of each status. No call answers Failing, Open or Rejected yet.
abbrev pub IsAnswer : List (List ℕ) → Reads → Written → Status → Type 0
IsAnswer words files out status.Good = Wrote words files out status.Good
IsAnswer words files out status.Refused = Wrote words files out status.Refused
IsAnswer words files out status.Usage = Wrote words files out status.Usage
IsAnswer words files out status.ReadFault = Wrote words files out status.ReadFault
IsAnswer words files out status.WriteFault = WrotePrefix words files out
    × Rose out.faults_before out.faults_after
IsAnswer words files out status.NoMemory = (out.after ≡ out.before) ⊎ WrotePrefix words files out
IsAnswer words files out _ = ⊥
