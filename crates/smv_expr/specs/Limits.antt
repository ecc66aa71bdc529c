-- Limits of what is read: on numbers, and on the heights of trees.
use Rattle.std.specs.Prelude.{ℕ, ◌-◌, min, Bool, true, false, nat_lt, if◌then◌else◌}

-- No tree is higher than a thousand, and no more than a thousand constructs are open: below this number.
abbrev pub nesting_bound : ℕ
nesting_bound = 1001

-- What limits an expression that is read at some point.
pub data Limit : Type 0 where
  -- its tree may be of any height; the truth value says whether its numerals may be of any size, or have to be within
  -- the limit
  AnyHeight : Bool → Limit
  -- its tree has to be of less than this height, and its numerals within the limit
  Below : ℕ → Limit

-- numerals may be of any size
abbrev pub any_number : Limit → Bool
any_number (AnyHeight any) = any
any_number (Below bound) = false

-- heights past the limit of nesting are not distinguished
abbrev pub capped : ℕ → ℕ
capped height = min height nesting_bound

-- a tree of this height is within the limit
abbrev pub fits : Limit → ℕ → Bool
fits (AnyHeight any) height = true
fits (Below bound) height = nat_lt (capped height) bound

-- the limit of the one part of a node
abbrev pub inside : Limit → Limit
inside (AnyHeight any) = AnyHeight any
inside (Below bound) = Below (bound - 1)

-- the limit of a part of a node that has a part of this height already; where that one is too high, nothing fits
abbrev pub beside : ℕ → Limit → Limit
beside height (AnyHeight any) = AnyHeight any
beside height (Below bound) = Below (if nat_lt (capped height) (bound - 1) then bound - 1 else 0)

-- the limit of an expression of its own, as one in parentheses is
abbrev pub fresh_limit : Limit → Limit
fresh_limit (AnyHeight any) = AnyHeight any
fresh_limit (Below bound) = Below nesting_bound

-- the limit within which whole texts are read
abbrev pub the_limit : Limit
the_limit = Below nesting_bound
