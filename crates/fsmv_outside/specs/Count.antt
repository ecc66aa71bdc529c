-- Counts that saturate at the end of `u64`.
use Rattle.std.specs.Prelude.{ℕ, ◌+◌, ◌-◌, ◌^◌, ◌≤◌, min}

-- the count after one more
abbrev pub counted : ℕ → ℕ
counted count = min (count + 1) (2 ^ 64 - 1)

-- the count rose from before to after, or is at the end of `u64`
abbrev pub Rose : ℕ → ℕ → Type 0
Rose before after = counted before ≤ after
