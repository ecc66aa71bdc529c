-- Words bit by bit.
use Rattle.std.proofs.Common.{◌≡◌, ℕ, zero, suc, ◌+◌, ◌-◌, ◌<◌, ◌≤◌, Bool, true, false, List, [], ◌∷◌, ◌++◌, length, get_or, map, ℤ, arith, refl, sym, ◌∙◌, ap, append_assoc, append-nil}
use Rattle.sat_lits.specs.Literals.{literal}
use Rattle.gate_build.specs.Circuits.{constant}
use Rattle.bit_encode.specs.Numbers.{odd, half, bits_of}
use Rattle.bit_encode.specs.Words.{sign_of, shifted, constant_word}

-- the last bit is the sign
pub sign_of-last : (d x : ℕ) (word : List ℕ) → 1 ≤ length word → x ≡ get_or word (length word - 1) x → x ≡ sign_of d word
sign_of-last d x [] some is = absurd (omega arith)
sign_of-last d x (y ∷ []) some is = is
sign_of-last d x (y ∷ z ∷ more) some is =
    let e : length (y ∷ z ∷ more) - 1 ≡ suc (length (z ∷ more) - 1) = omega arith in
    sign_of-last d x (z ∷ more) (omega arith) (is ∙ ap (λ k. get_or (y ∷ z ∷ more) k x) e)

constant-is : (value : Bool) → literal 1 value ≡ constant value
constant-is true = refl
constant-is false = refl

-- one bit more of a number
pub constant_word-next : (front : List ℕ) (w k l : ℕ) (z : ℤ) → k < w → l ≡ literal 1 (odd z) → (front ++ l ∷ []) ++ constant_word (w - (k + 1)) (half z) ≡ front ++ constant_word (w - k) z
unfolding bits_of
constant_word-next front w k l z lt is =
    let e : w - k ≡ suc (w - (k + 1)) = omega arith in
    append_assoc front (l ∷ []) (constant_word (w - (k + 1)) (half z))
    ∙ ap (λ m. front ++ m ∷ constant_word (w - (k + 1)) (half z)) (is ∙ constant-is (odd z))
    ∙ ap (λ n. front ++ constant_word n z) (sym e)

pub constant_word-done : (front word : List ℕ) (w k : ℕ) (z : ℤ) → w ≤ k → front ++ constant_word (w - k) z ≡ word → front ≡ word
unfolding bits_of
constant_word-done front word w k z le is =
    let e : w - k ≡ 0 = omega arith in
    sym (append-nil front) ∙ ap (λ n. front ++ constant_word n z) (sym e) ∙ is

-- ---- Widths

pub length-shifted : (low : ℕ) (word : List ℕ) → length (shifted low word) ≡ length word
length-shifted low [] = refl
length-shifted low (x ∷ word) = ap suc (length-shifted x word)

length-constants : (bits : List Bool) → length (map constant bits) ≡ length bits
length-constants [] = refl
length-constants (b ∷ bits) = ap suc (length-constants bits)

pub length-bits_of : (w : ℕ) (z : ℤ) → length (bits_of w z) ≡ w
unfolding bits_of
length-bits_of zero z = refl
length-bits_of (suc w) z = ap suc (length-bits_of w (half z))

pub length-constant_word : (w : ℕ) (z : ℤ) → length (constant_word w z) ≡ w
length-constant_word w z = length-constants (bits_of w z) ∙ length-bits_of w z
