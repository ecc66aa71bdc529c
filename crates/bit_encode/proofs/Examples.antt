-- What the definitions give on small numbers and circuits, worked out by hand. A literal is twice its variable, and one
-- more where it is negative: 4 is variable 2, and 5 its negation.
use Rattle.std.proofs.Common.{◌≡◌, true, false, [], ◌∷◌, pos, negsuc, refl}
use Rattle.std.specs.Int.Count.{count_leading_zeros}
use Rattle.gate_build.specs.Numbering.{simplified, and_of, or_of, xor_of, mux_of, all_of}
use Rattle.bit_encode.specs.Numbers.{half, bits_of, signed}
use Rattle.bit_encode.specs.Widths.{width_of, position_width}
use Rattle.bit_encode.specs.Words.{resized, shifted, constant_word}
use Rattle.bit_encode.specs.Arithmetic.{pairwise_of, carry_of, add_of, subtract_of, less_of, equal_of, reduce_of, division_of, remainder_of}

-- ---- Numbers

-- 5 is 101 in binary
five : bits_of 4 (pos 5) ≡ true ∷ false ∷ true ∷ false ∷ []
unfolding bits_of
five = refl

-- -3 is 101 in three bits of two's complement
minus_three : bits_of 3 (negsuc 2) ≡ true ∷ false ∷ true ∷ []
unfolding bits_of
minus_three = refl

minus_three_read : signed (true ∷ false ∷ true ∷ []) ≡ negsuc 2
minus_three_read = refl

half_of_minus_three : half (negsuc 2) ≡ negsuc 1
half_of_minus_three = refl

-- ---- Widths

-- 0 to 3 takes two bits and a sign
up_to_three : width_of (record { low = pos 0; high = pos 3 }) ≡ 3
unfolding count_leading_zeros
up_to_three = refl

up_to_four : width_of (record { low = pos 0; high = pos 4 }) ≡ 4
unfolding count_leading_zeros
up_to_four = refl

-- -4 to 3 takes two bits and a sign
down_to_minus_four : width_of (record { low = negsuc 3; high = pos 3 }) ≡ 3
unfolding count_leading_zeros
down_to_minus_four = refl

down_to_minus_five : width_of (record { low = negsuc 4; high = pos 3 }) ≡ 4
unfolding count_leading_zeros
down_to_minus_five = refl

only_zero : width_of (record { low = pos 0; high = pos 0 }) ≡ 1
unfolding count_leading_zeros
only_zero = refl

-- one position takes no bit
one_position : position_width 1 ≡ 0
unfolding count_leading_zeros
one_position = refl

four_positions : position_width 4 ≡ 2
unfolding count_leading_zeros
four_positions = refl

-- a variable of five values has three bits
five_positions : position_width 5 ≡ 3
unfolding count_leading_zeros
five_positions = refl

-- ---- Words

widened : resized 4 (4 ∷ 6 ∷ []) ≡ 4 ∷ 6 ∷ 6 ∷ 6 ∷ []
widened = refl

cut : resized 1 (4 ∷ 6 ∷ []) ≡ 4 ∷ []
cut = refl

doubled : shifted 3 (4 ∷ 6 ∷ []) ≡ 3 ∷ 4 ∷ []
doubled = refl

-- 2 is false, true, false
two : constant_word 3 (pos 2) ≡ 3 ∷ 2 ∷ 3 ∷ []
unfolding bits_of
two = refl

-- ---- Circuits

-- the sum of two bits: their xor alone, since the highest bit makes no carry
one_bit_sum : add_of (4 ∷ []) (6 ∷ []) 3 (record { vars = 3; gates = [] })
    ≡ (13 ∷ [], record { vars = 6; gates = ((4, 7), 8) ∷ ((5, 6), 10) ∷ ((9, 11), 12) ∷ [] })
unfolding add_of carry_of xor_of or_of and_of simplified
one_bit_sum = refl

-- the sum of two bits each: xor, no gate for the carry in, the carry, and then the second xor and sum
two_bit_sum : add_of (4 ∷ 6 ∷ []) (8 ∷ 10 ∷ []) 3 (record { vars = 5; gates = [] })
    ≡ (
      17 ∷ 31 ∷ [],
      record {
        vars = 15;
        gates =
            ((4, 9), 12) ∷ ((5, 8), 14) ∷ ((13, 15), 16) ∷ ((4, 8), 18)
            ∷ ((6, 11), 20) ∷ ((7, 10), 22) ∷ ((21, 23), 24) ∷ ((19, 25), 26) ∷ ((18, 24), 28) ∷ ((27, 29), 30) ∷ [];
      },
    )
unfolding add_of carry_of xor_of or_of and_of simplified
two_bit_sum = refl

-- The order of two words of one bit, at two bits: the second bit finds the gates of the first xor.
one_bit_less : less_of (4 ∷ []) (6 ∷ []) (record { vars = 3; gates = [] })
    ≡ (
      23,
      record {
        vars = 11;
        gates =
            ((4, 6), 8) ∷ ((5, 7), 10) ∷ ((9, 11), 12) ∷ ((4, 7), 14) ∷ ((12, 15), 16)
            ∷ ((13, 16), 18) ∷ ((12, 17), 20) ∷ ((19, 21), 22) ∷ [];
      },
    )
unfolding less_of subtract_of add_of carry_of xor_of or_of and_of simplified
one_bit_less = refl

-- two words of one bit are equal where the bits do not differ
one_bit_equal : equal_of (4 ∷ []) (6 ∷ []) (record { vars = 3; gates = [] })
    ≡ (12, record { vars = 6; gates = ((4, 7), 8) ∷ ((5, 6), 10) ∷ ((9, 11), 12) ∷ [] })
unfolding equal_of pairwise_of all_of xor_of or_of and_of simplified
one_bit_equal = refl

-- constants take no gate: 2 - 3 is -1, which is less than 0
constant_difference : subtract_of (3 ∷ 2 ∷ 3 ∷ []) (2 ∷ 2 ∷ 3 ∷ []) (record { vars = 1; gates = [] }) ≡ (2 ∷ 2 ∷ 2 ∷ [], record { vars = 1; gates = [] })
unfolding subtract_of add_of carry_of xor_of or_of and_of simplified
constant_difference = refl

-- 3 leaves 1 after division by 2, at four bits
constant_remainder : remainder_of (2 ∷ 2 ∷ 3 ∷ []) (3 ∷ 2 ∷ 3 ∷ []) (record { vars = 1; gates = [] }) ≡ (2 ∷ 3 ∷ 3 ∷ 3 ∷ [], record { vars = 1; gates = [] })
unfolding remainder_of division_of reduce_of pairwise_of mux_of bits_of subtract_of add_of carry_of xor_of or_of and_of simplified
constant_remainder = refl
