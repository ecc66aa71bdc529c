-- The content of a sink after a write, where the content is given.
use Rattle.std.specs.Prelude.{◌≡◌, ℕ, List, ◌++◌, take, Option, Some, None}

-- the content with the bytes appended
abbrev pub with_piece : Option (List ℕ) → List ℕ → Option (List ℕ)
with_piece None piece = None
with_piece (Some text) piece = Some (text ++ piece)

-- A prefix of the bytes is appended, maybe none or all of them.
pub record WritesPrefix (before after : Option (List ℕ)) (piece : List ℕ) : Type 0 where
  pub count : ℕ
  pub written : after ≡ with_piece before (take count piece)
