-- Lists of watches that are linked through a table: a link is 0 at the end, and else one more than the next watch.
use Rattle.std.specs.Prelude.{◌≡◌, ℕ, suc, zero, ◌+◌, ◌<◌, ◌≤◌, List, [], ◌∷◌, length, slice_index_or, slice_set, Contains, ◌⊎◌}

-- the watches from the link on, one after the other, each of which watches the literal
abbrev pub IsChain : List ℕ → List ℕ → ℕ → ℕ → List ℕ → Type 0
IsChain links watched literal start [] = start ≡ 0
IsChain links watched literal start (n ∷ ns) =
    (start ≡ n + 1) × (n < length links) × (slice_index_or watched n 0 ≡ literal) × IsChain links watched literal (slice_index_or links n 0) ns

-- the list of the literal has each watch of it, but for those that are pending
pub record IsListed (links heads watched pending : List ℕ) (literal : ℕ) : Type 0 where
  pub watches : List ℕ
  pub chain : IsChain links watched literal (slice_index_or heads literal 0) watches
  pub apart : (n : ℕ) → Contains watches n → Contains pending n → ⊥
  pub all : (n : ℕ) → n < length watched → slice_index_or watched n 0 ≡ literal → Contains pending n ⊎ Contains watches n

-- each literal has its list, and the pending watches, which are of one literal, are linked too
pub record AreListed (links heads watched pending : List ℕ) (literal start : ℕ) : Type 0 where
  pub long : length links ≡ length watched
  pub waits : IsChain links watched literal start pending
  pub lists : (l : ℕ) → l < length heads → IsListed links heads watched pending l

-- some watches are pending, linked from the start on
pub record IsListedFrom (links heads watched : List ℕ) (literal start : ℕ) : Type 0 where
  pub pending : List ℕ
  pub listed : AreListed links heads watched pending literal start

-- some watches of a literal are pending, linked from the start on. This one, which watches `to` in the end, is among them, or
-- was moved
pub record IsMovedFrom (links heads old watched : List ℕ) (literal start watch to : ℕ) : Type 0 where
  pub pending : List ℕ
  pub listed : AreListed links heads watched pending literal start
  pub moves : (Contains pending watch × (watched ≡ old)) ⊎ ((Contains pending watch → ⊥) × (watched ≡ slice_set old watch to))

-- a table that has more places, each with 0
pub record IsLengthened (old new : List ℕ) : Type 0 where
  pub longer : length old ≤ length new
  pub same : (i : ℕ) → slice_index_or new i 0 ≡ slice_index_or old i 0

-- how many watches are linked from the start on, and no more than the fuel
unfoldable pub chain_length : List ℕ → ℕ → ℕ → ℕ
chain_length links zero start = 0
chain_length links (suc fuel) zero = 0
chain_length links (suc fuel) (suc n) = suc (chain_length links fuel (slice_index_or links n 0))
