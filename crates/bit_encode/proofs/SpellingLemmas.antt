-- Words that spell numbers: their widths, and what the sign and the bits tell.
use Rattle.std.proofs.Common.{◌≡◌, ℕ, zero, suc, ◌+◌, ◌-◌, ◌*◌, ◌<◌, ◌≤◌, ◌^◌, Bool, true, false, not, List, [], ◌∷◌, length, ℤ, pos, negsuc, ◌-ℤ◌, int_lt, arith, refl, sym, ◌∙◌, ap, subst}
use Rattle.std.specs.List.{list_all}
use Rattle.std.specs.Ordering.{int_eq}
use Rattle.std.proofs.lemmas.Int.{ints}
use Rattle.std.proofs.lemmas.List.{length-map}
use Rattle.std.proofs.lemmas.Bool.Decides.{nat_tests, Decides-int_eq}
use Rattle.std.proofs.Math.Nat.{pow-suc}
use Rattle.std.proofs.Math.Pow.{pow_mono}
use Rattle.sat_lits.specs.Literals.{literal_true}
use Rattle.gate_build.specs.Meaning.{exclusive}
use Rattle.bit_encode.specs.Numbers.{bits_of, signed, truths_of, FitsBits}
use Rattle.bit_encode.specs.Meaning.{HasLowBits, Spells}
use Rattle.bit_encode.specs.Widths.{greater}
use Rattle.bit_encode.proofs.BitCircuits.{is_negative, widened, paired}
use Rattle.bit_encode.proofs.WordLemmas.{length-bits_of}
use Rattle.bit_encode.proofs.NumberLaws.{signed_bits, widened_bits}

-- a word whose literals are so many of the lowest bits of a number has that width
pub spelled_width : (values : ℕ → Bool) (word : List ℕ) (w : ℕ) (z : ℤ) → truths_of values word ≡ bits_of w z → length word ≡ w
spelled_width values word w z is = sym (length-map word (literal_true values)) ∙ ap length is ∙ length-bits_of w z

pub HasLowBits-from : (values : ℕ → Bool) (word : List ℕ) (w : ℕ) (z : ℤ) → truths_of values word ≡ bits_of w z → HasLowBits values word z
HasLowBits-from values word w z is = record { bits = is ∙ ap (λ n. bits_of n z) (sym (spelled_width values word w z is)) }

pub Spells-from : (values : ℕ → Bool) (word : List ℕ) (w : ℕ) (z : ℤ) → 1 ≤ w → FitsBits w z → truths_of values word ≡ bits_of w z → Spells values word z
Spells-from values word w z some fits is =
    let width : length word ≡ w = spelled_width values word w z is in
    record {
      some = omega (arith, some, width);
      bits = is ∙ ap (λ n. bits_of n z) (sym width);
      fits = subst (λ n. FitsBits n z) (sym width) fits;
    }

-- a word that spells a number, at any width
pub widened_spelled : (values : ℕ → Bool) (word : List ℕ) (z : ℤ) (w : ℕ) → Spells values word z → widened false w (truths_of values word) ≡ bits_of w z
widened_spelled values word z w spells = by (length word) refl
  where
    by : (n : ℕ) → length word ≡ n → widened false w (truths_of values word) ≡ bits_of w z
    by zero is = absurd (omega (arith, spells.some))
    by (suc n) is = ap (widened false w) (spells.bits ∙ ap (λ k. bits_of k z) is) ∙ widened_bits w n z (subst (λ k. FitsBits k z) is spells.fits)

-- ---- How many bits numbers need

pub fits_wider : (m n : ℕ) (z : ℤ) → m ≤ n → FitsBits m z → FitsBits n z
fits_wider m n (pos k) le fits = let p : 2 ^ (m - 1) ≤ 2 ^ (n - 1) = pow_mono (omega arith) in omega arith
fits_wider m n (negsuc k) le fits = let p : 2 ^ (m - 1) ≤ 2 ^ (n - 1) = pow_mono (omega arith) in omega arith

-- the magnitude stays below a bound, that of a negative number less 1
abbrev pub Below : ℕ → ℤ → Type 0
Below b (pos n) = n < b
Below b (negsuc n) = n < b

below_difference : (b : ℕ) (x y z : ℤ) → x -ℤ y ≡ z → Below b x → Below b y → Below (b + b) z
below_difference b (pos m) (pos n) (pos d) e h k = omega (arith, ints)
below_difference b (pos m) (pos n) (negsuc d) e h k = omega (arith, ints)
below_difference b (pos m) (negsuc n) (pos d) e h k = omega (arith, ints)
below_difference b (pos m) (negsuc n) (negsuc d) e h k = omega (arith, ints)
below_difference b (negsuc m) (pos n) (pos d) e h k = omega (arith, ints)
below_difference b (negsuc m) (pos n) (negsuc d) e h k = omega (arith, ints)
below_difference b (negsuc m) (negsuc n) (pos d) e h k = omega (arith, ints)
below_difference b (negsuc m) (negsuc n) (negsuc d) e h k = omega (arith, ints)

pub FitsBits-below : (w b : ℕ) (z : ℤ) → b ≡ 2 ^ (w - 1) → Below b z → FitsBits w z
FitsBits-below w b (pos n) is below = subst (λ k. n < k) is below
FitsBits-below w b (negsuc n) is below = subst (λ k. n < k) is below

pub below-FitsBits : (w b : ℕ) (z : ℤ) → 2 ^ (w - 1) ≡ b → FitsBits w z → Below b z
below-FitsBits w b (pos n) is fits = subst (λ k. n < k) is fits
below-FitsBits w b (negsuc n) is fits = subst (λ k. n < k) is fits

-- a difference has one bit more
pub fits_difference : (w : ℕ) (x y : ℤ) → 1 ≤ w → FitsBits w x → FitsBits w y → FitsBits (suc w) (x -ℤ y)
fits_difference zero x y some fits_x fits_y = absurd (omega arith)
fits_difference (suc v) x y some fits_x fits_y =
    let low : suc v - 1 ≡ v = omega arith in
    let high : suc (suc v) - 1 ≡ suc v = omega arith in
    let e : 2 ^ (suc v - 1) ≡ 2 ^ v = ap (λ n. 2 ^ n) low in
    let two : 2 ^ suc v ≡ 2 ^ v * 2 = pow-suc 2 v in
    let twice : 2 ^ v + 2 ^ v ≡ 2 ^ suc v = omega arith in
    FitsBits-below (suc (suc v)) (2 ^ v + 2 ^ v) (x -ℤ y) (twice ∙ ap (λ n. 2 ^ n) (sym high))
    (below_difference (2 ^ v) x y (x -ℤ y) refl (below-FitsBits (suc v) (2 ^ v) x e fits_x) (below-FitsBits (suc v) (2 ^ v) y e fits_y))

pub greater-left : (m n : ℕ) → m ≤ greater m n
greater-left m n = grind (arith, nat_tests)

pub greater-right : (m n : ℕ) → n ≤ greater m n
greater-right m n = grind (arith, nat_tests)

-- ---- Comparisons

-- the sign of a difference tells which number is less
pub negative_difference : (x y d : ℤ) → x -ℤ y ≡ d → is_negative d ≡ int_lt x y
negative_difference (pos m) (pos n) (pos d) e = let le : n ≤ m = omega (arith, ints) in grind (arith, nat_tests)
negative_difference (pos m) (pos n) (negsuc d) e = let lt : m < n = omega (arith, ints) in grind (arith, nat_tests)
negative_difference (pos m) (negsuc n) (pos d) e = refl
negative_difference (pos m) (negsuc n) (negsuc d) e = absurd (omega (arith, ints))
negative_difference (negsuc m) (pos n) (pos d) e = absurd (omega (arith, ints))
negative_difference (negsuc m) (pos n) (negsuc d) e = refl
negative_difference (negsuc m) (negsuc n) (pos d) e = let le : m ≤ n = omega (arith, ints) in grind (arith, nat_tests)
negative_difference (negsuc m) (negsuc n) (negsuc d) e = let lt : n < m = omega (arith, ints) in grind (arith, nat_tests)

abbrev pub same_bit : Bool → Bool → Bool
same_bit a b = not (exclusive a b)

all_same : (bs : List Bool) → list_all (λ b. b) (paired same_bit bs bs) ≡ true
all_same [] = refl
all_same (true ∷ bs) = all_same bs
all_same (false ∷ bs) = all_same bs

only_same : (ps bs : List Bool) → length ps ≡ length bs → list_all (λ b. b) (paired same_bit ps bs) ≡ true → ps ≡ bs
only_same [] [] len is = refl
only_same [] (b ∷ bs) len is = absurd (omega arith)
only_same (a ∷ ps) [] len is = absurd (omega arith)
only_same (true ∷ ps) (true ∷ bs) len is = ap (λ us. true ∷ us) (only_same ps bs (omega arith) is)
only_same (false ∷ ps) (false ∷ bs) len is = ap (λ us. false ∷ us) (only_same ps bs (omega arith) is)
only_same (true ∷ ps) (false ∷ bs) len is = cc
only_same (false ∷ ps) (true ∷ bs) len is = cc

-- numbers of so many bits are equal exactly where all their bits are the same
pub same_numbers : (w : ℕ) (x y : ℤ) → FitsBits (suc w) x → FitsBits (suc w) y → list_all (λ b. b) (paired same_bit (bits_of (suc w) x) (bits_of (suc w) y)) ≡ int_eq x y
same_numbers w x y fits_x fits_y = by (list_all (λ b. b) (paired same_bit xs ys)) (int_eq x y) refl refl
  where
    xs : List Bool
    xs = bits_of (suc w) x

    ys : List Bool
    ys = bits_of (suc w) y

    by : (p q : Bool) → list_all (λ b. b) (paired same_bit xs ys) ≡ p → int_eq x y ≡ q → list_all (λ b. b) (paired same_bit xs ys) ≡ int_eq x y
    by true true h k = h ∙ sym k
    by false false h k = h ∙ sym k
    by true false h k =
        let len : length xs ≡ length ys = length-bits_of (suc w) x ∙ sym (length-bits_of (suc w) y) in
        let same : x ≡ y = sym (signed_bits w x fits_x) ∙ ap signed (only_same xs ys len h) ∙ signed_bits w y fits_y in
        h ∙ sym ((Decides-int_eq x y).1 same)
    by false true h k =
        let same : x ≡ y = (Decides-int_eq x y).0 k in
        ap (λ z. list_all (λ b. b) (paired same_bit xs (bits_of (suc w) z))) (sym same) ∙ all_same xs ∙ sym k
