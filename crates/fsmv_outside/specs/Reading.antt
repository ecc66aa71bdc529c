-- The bytes after a read of a whole file.
use Rattle.std.specs.Prelude.{◌≡◌, ℕ, ◌≤◌, List, ◌++◌, length, Option, IfSome}

-- A whole file of at most `most` bytes is appended; it has the given content, if any.
pub record AppendsFile (given : Option (List ℕ)) (most : ℕ) (before after : List ℕ) : Type 0 where
  pub content : List ℕ
  pub appended : after ≡ before ++ content
  pub within : length content ≤ most
  pub is_given : IfSome given (λ held. held ≡ content)
