-- Numbers digit by digit: with more digits they only grow.
use Rattle.std.proofs.Common.{◌≡◌, ℕ, zero, suc, ◌+◌, ◌*◌, ◌-◌, ◌<◌, ◌≤◌, [], ◌∷◌, length, take, fold, Some, None, arith}
use Rattle.std.specs.Prelude.{nat_le, if◌then◌else◌, slice_index}
use Rattle.std.proofs.lemmas.Bool.Decides.{nat_tests}
use Rattle.smv_expr.specs.Lexicon.{Bytes, numeral_value, greatest_number}

-- the number with one digit more
abbrev next_value : ℕ → ℕ → ℕ
next_value n b = 10 * n + (b - 48)

grows : (start : ℕ) (digits : Bytes) → start ≤ fold next_value start digits
grows start [] = omega arith
grows start (b ∷ more) = let more_grow = grows (next_value start b) more in omega (arith, more_grow)

prefix_below : (start : ℕ) (digits : Bytes) (i : ℕ) → i < length digits → next_value (fold next_value start (take i digits)) (slice_index digits i) ≤ fold next_value start digits
prefix_below start [] i h = absurd (omega arith)
prefix_below start (b ∷ more) zero h = grows (next_value start b) more
prefix_below start (b ∷ more) (suc i) h = prefix_below (next_value start b) more i (omega arith)

too_great : (value : ℕ) → greatest_number < value → None ≡ (if nat_le value greatest_number then Some value else None)
too_great value h = grind (arith, nat_tests)

-- where the first digits pass the limit, all do
pub passed_limit : (digits : Bytes) (i value : ℕ) → i < length digits → value ≡ numeral_value (take i digits) → greatest_number < next_value value (slice_index digits i)
    → None ≡ (if nat_le (numeral_value digits) greatest_number then Some (numeral_value digits) else None)
passed_limit digits i value h e over = too_great (numeral_value digits) (omega (arith, prefix_below 0 digits i h, e, over))
