use Rattle.std.proofs.Common.{◌≡◌, ℕ, zero, suc, ◌+◌, ◌-◌, ◌*◌, ◌/◌, ◌%◌, ◌<◌, ◌≤◌, ◌^◌, ◌==◌, ◌&&◌, Bool, true, false, not, if◌then◌else◌, List, [], ◌∷◌, map, arith, refl, sym, ◌∙◌, ap, subst, add-zero, ℤ, pos, negsuc, ◌+ℤ◌, ◌-ℤ◌, ◌*ℤ◌}
use Rattle.std.proofs.lemmas.Int.{ints}
use Rattle.std.proofs.Math.Nat.{pow-suc}
use Rattle.std.proofs.lemmas.Nat.{mod-mul-add}
use Rattle.std.proofs.Math.IntN.{zero-*ℤ, suc_ℤ-*ℤ, pred_ℤ-*ℤ, *ℤ_comm, +ℤ_idl, +ℤ_idr}
use Rattle.bit_encode.specs.Numbers.{odd, half, bit, bits_of, signed, FitsBits}
use Rattle.bit_encode.specs.Words.{sign_of}
use Rattle.bit_encode.proofs.BitCircuits.{is_negative, summed, widened, doubled_bits, under, multiplied, negated_bits, less, reduced, rest_of}
use Rattle.bit_encode.proofs.Halves.{half_once, odd_once, halves, summed_bits, parity}

both : {A B C : Type 0} (f : A → B → C) {a a' : A} {b b' : B} → a ≡ a' → b ≡ b' → f a b ≡ f a' b'
both f p q = λ i. f (p i) (q i)

-- a number of one bit
one_bit : (z : ℤ) → FitsBits 1 z → (half z ≡ z) × ((if odd z then negsuc 0 else pos 0) ≡ z)
one_bit (pos zero) h = (refl, refl)
one_bit (pos (suc n)) h = absurd (omega arith)
one_bit (negsuc zero) h = (refl, refl)
one_bit (negsuc (suc n)) h = absurd (omega arith)

halved : (w n : ℕ) → n < 2 ^ (suc (suc w) - 1) → n / 2 < 2 ^ (suc w - 1)
halved w n h =
    let e : suc (suc w) - 1 ≡ suc w = omega arith in
    let f : suc w - 1 ≡ w = omega arith in
    let p : 2 ^ suc w ≡ 2 ^ w * 2 = pow-suc 2 w in
    let g : n < 2 ^ suc w = subst (λ k. n < 2 ^ k) e h in
    let r : n / 2 < 2 ^ w = omega arith in
    subst (λ k. n / 2 < 2 ^ k) (sym f) r

fits_half : (w : ℕ) (z : ℤ) → FitsBits (suc (suc w)) z → FitsBits (suc w) (half z)
fits_half w (pos n) h = halved w n h
fits_half w (negsuc n) h = halved w n h

pub signed_bits : (w : ℕ) (z : ℤ) → FitsBits (suc w) z → signed (bits_of (suc w) z) ≡ z
unfolding bits_of
signed_bits zero z h = (one_bit z h).1
signed_bits (suc w) z h = ap (λ k. k +ℤ k +ℤ bit (odd z)) (signed_bits w (half z) (fits_half w z h)) ∙ sym (halves z)

pub widened_bits : (n w : ℕ) (z : ℤ) → FitsBits (suc w) z → widened false n (bits_of (suc w) z) ≡ bits_of n z
unfolding bits_of
widened_bits zero w z h = refl
widened_bits (suc n) zero z h = ap (λ bs. odd z ∷ bs) (widened_bits n zero z h ∙ ap (bits_of n) (sym (one_bit z h).0))
widened_bits (suc n) (suc w) z h = ap (λ bs. odd z ∷ bs) (widened_bits n w (half z) (fits_half w z h))

sign_bit : (z : ℤ) → FitsBits 1 z → odd z ≡ is_negative z
sign_bit (pos zero) h = refl
sign_bit (pos (suc n)) h = absurd (omega arith)
sign_bit (negsuc zero) h = refl
sign_bit (negsuc (suc n)) h = absurd (omega arith)

negative_half : (z : ℤ) → is_negative (half z) ≡ is_negative z
negative_half (pos n) = refl
negative_half (negsuc n) = refl

pub sign_of_bits : (w : ℕ) (z : ℤ) → FitsBits (suc w) z → sign_of false (bits_of (suc w) z) ≡ is_negative z
unfolding bits_of
sign_of_bits zero z h = sign_bit z h
sign_of_bits (suc w) z h = sign_of_bits w (half z) (fits_half w z h) ∙ negative_half z

turned : (z : ℤ) → (odd (negsuc 0 -ℤ z) ≡ not (odd z)) × (half (negsuc 0 -ℤ z) ≡ negsuc 0 -ℤ half z)
turned z = by (odd z) (halves z)
  where
    by : (b : Bool) → z ≡ half z +ℤ half z +ℤ bit b → (odd (negsuc 0 -ℤ z) ≡ not b) × (half (negsuc 0 -ℤ z) ≡ negsuc 0 -ℤ half z)
    by true h = let e : negsuc 0 -ℤ z ≡ (negsuc 0 -ℤ half z) +ℤ (negsuc 0 -ℤ half z) +ℤ bit false = omega (arith, ints) in
        (odd_once (negsuc 0 -ℤ z) (negsuc 0 -ℤ half z) false e, half_once (negsuc 0 -ℤ z) (negsuc 0 -ℤ half z) false e)
    by false h = let e : negsuc 0 -ℤ z ≡ (negsuc 0 -ℤ half z) +ℤ (negsuc 0 -ℤ half z) +ℤ bit true = omega (arith, ints) in
        (odd_once (negsuc 0 -ℤ z) (negsuc 0 -ℤ half z) true e, half_once (negsuc 0 -ℤ z) (negsuc 0 -ℤ half z) true e)

pub negated_bits_of : (w : ℕ) (z : ℤ) → negated_bits (bits_of w z) ≡ bits_of w (negsuc 0 -ℤ z)
unfolding bits_of
negated_bits_of zero z = refl
negated_bits_of (suc w) z = rw ((turned z).0, (turned z).1) (ap (λ bs. not (odd z) ∷ bs) (negated_bits_of w (half z)))

pub less_bits : (w : ℕ) (x y : ℤ) → less (bits_of w x) (bits_of w y) ≡ bits_of w (x -ℤ y)
less_bits w x y = rw (negated_bits_of w y, summed_bits w x (negsuc 0 -ℤ y) true) (ap (bits_of w) (omega (arith, ints)))

doubled : (z : ℤ) (b : Bool) → (odd (z +ℤ z +ℤ bit b) ≡ b) × (half (z +ℤ z +ℤ bit b) ≡ z)
doubled z b = (odd_once (z +ℤ z +ℤ bit b) z b refl, half_once (z +ℤ z +ℤ bit b) z b refl)

pub doubled_bits_of : (w : ℕ) (z : ℤ) (b : Bool) → doubled_bits b (bits_of w z) ≡ bits_of w (z +ℤ z +ℤ bit b)
unfolding bits_of
doubled_bits_of zero z b = refl
doubled_bits_of (suc w) z b = rw ((doubled z b).0, (doubled z b).1) (ap (λ bs. b ∷ bs) (doubled_bits_of w (half z) (odd z) ∙ ap (bits_of w) (sym (halves z))))

-- products distribute
one_more : (a b c y z : ℤ) → a ≡ b +ℤ c → a +ℤ (y +ℤ z) ≡ (b +ℤ y) +ℤ (c +ℤ z)
one_more a b c y z h = omega (arith, ints)

one_less : (a b c y z : ℤ) → a ≡ b +ℤ c → a -ℤ (y +ℤ z) ≡ (b -ℤ y) +ℤ (c -ℤ z)
one_less a b c y z h = omega (arith, ints)

pub mul_add : (x y z : ℤ) → x *ℤ (y +ℤ z) ≡ x *ℤ y +ℤ x *ℤ z
mul_add (pos zero) y z = rw (zero-*ℤ (y +ℤ z), zero-*ℤ y, zero-*ℤ z) refl
mul_add (pos (suc n)) y z = suc_ℤ-*ℤ (pos n) (y +ℤ z) ∙ one_more (pos n *ℤ (y +ℤ z)) (pos n *ℤ y) (pos n *ℤ z) y z (mul_add (pos n) y z) ∙ sym (both (λ a b. a +ℤ b) (suc_ℤ-*ℤ (pos n) y) (suc_ℤ-*ℤ (pos n) z))
mul_add (negsuc zero) y z = pred_ℤ-*ℤ (pos 0) (y +ℤ z) ∙ one_less (pos 0 *ℤ (y +ℤ z)) (pos 0 *ℤ y) (pos 0 *ℤ z) y z (rw (zero-*ℤ (y +ℤ z), zero-*ℤ y, zero-*ℤ z) refl) ∙ sym (both (λ a b. a +ℤ b) (pred_ℤ-*ℤ (pos 0) y) (pred_ℤ-*ℤ (pos 0) z))
mul_add (negsuc (suc n)) y z = pred_ℤ-*ℤ (negsuc n) (y +ℤ z) ∙ one_less (negsuc n *ℤ (y +ℤ z)) (negsuc n *ℤ y) (negsuc n *ℤ z) y z (mul_add (negsuc n) y z) ∙ sym (both (λ a b. a +ℤ b) (pred_ℤ-*ℤ (negsuc n) y) (pred_ℤ-*ℤ (negsuc n) z))

pub add_mul : (x y z : ℤ) → (x +ℤ y) *ℤ z ≡ x *ℤ z +ℤ y *ℤ z
add_mul x y z = *ℤ_comm (x +ℤ y) z ∙ mul_add z x y ∙ both (λ a b. a +ℤ b) (*ℤ_comm z x) (*ℤ_comm z y)

-- a product's step
linear : (a p q r : ℤ) → a +ℤ ((p +ℤ p) +ℤ q) ≡ (a +ℤ q) +ℤ (p +ℤ p)
linear a p q r = omega (arith, ints)

product_step : (a y h : ℤ) (b : Bool) → a +ℤ (h +ℤ h +ℤ bit b) *ℤ y ≡ (a +ℤ bit b *ℤ y) +ℤ h *ℤ (y +ℤ y)
product_step a y h b = ap (λ p. a +ℤ p) (add_mul (h +ℤ h) (bit b) y ∙ ap (λ p. p +ℤ bit b *ℤ y) (add_mul h h y)) ∙ linear a (h *ℤ y) (bit b *ℤ y) y ∙ ap (λ p. (a +ℤ bit b *ℤ y) +ℤ p) (sym (mul_add h y y))

-- the second operand under a bit
zeros : (w : ℕ) → map (λ y. false && y) (bits_of w (pos 0)) ≡ bits_of w (pos 0)
unfolding bits_of
zeros zero = refl
zeros (suc w) = ap (λ bs. false ∷ bs) (zeros w)

no_bits : (w : ℕ) (z : ℤ) → under false (bits_of w z) ≡ bits_of w (pos 0)
unfolding bits_of
no_bits zero z = refl
no_bits (suc w) z = ap (λ bs. false ∷ bs) (no_bits w (half z))

same_bits : (bs : List Bool) → under true bs ≡ bs
same_bits [] = refl
same_bits (b ∷ bs) = ap (λ cs. b ∷ cs) (same_bits bs)

pub under_bits : (w : ℕ) (b : Bool) (z : ℤ) → under b (bits_of w z) ≡ bits_of w (bit b *ℤ z)
under_bits w true z = same_bits (bits_of w z) ∙ ap (bits_of w) (sym (suc_ℤ-*ℤ (pos 0) z ∙ rw (zero-*ℤ z) (+ℤ_idl z)))
under_bits w false z = no_bits w z ∙ ap (bits_of w) (sym (zero-*ℤ z))

-- z, doubled n times
abbrev pub double : ℕ → ℤ → ℤ
double zero z = z
double (suc n) z = double n (z +ℤ z)

four : (a b : ℤ) → (a +ℤ b) +ℤ (a +ℤ b) ≡ (a +ℤ a) +ℤ (b +ℤ b)
four a b = omega (arith, ints)

double_add : (n : ℕ) (x y : ℤ) → double n (x +ℤ y) ≡ double n x +ℤ double n y
double_add zero x y = refl
double_add (suc n) x y = ap (double n) (four x y) ∙ double_add n (x +ℤ x) (y +ℤ y)

double_mul : (n : ℕ) (x z : ℤ) → x *ℤ double n z ≡ double n (x *ℤ z)
double_mul zero x z = refl
double_mul (suc n) x z = double_mul n x (z +ℤ z) ∙ ap (double n) (mul_add x z z)

regroup : (h d : ℤ) (b : Bool) (a : ℤ) → a ≡ h +ℤ h +ℤ bit b → a +ℤ (d +ℤ d) ≡ (h +ℤ d) +ℤ (h +ℤ d) +ℤ bit b
regroup h d true a e = omega (arith, ints)
regroup h d false a e = omega (arith, ints)

-- what is a multiple of 2 to the width leaves the bits
pub bits_past : (w : ℕ) (a q : ℤ) → bits_of w (a +ℤ double w q) ≡ bits_of w a
unfolding bits_of
bits_past zero a q = refl
bits_past (suc w) a q =
    let d = double w q in
    let e : a +ℤ (d +ℤ d) ≡ (half a +ℤ d) +ℤ (half a +ℤ d) +ℤ bit (odd a) = regroup (half a) d (odd a) a (halves a) in
    rw (double_add w q q, odd_once (a +ℤ (d +ℤ d)) (half a +ℤ d) (odd a) e, half_once (a +ℤ (d +ℤ d)) (half a +ℤ d) (odd a) e)
    (ap (λ bs. odd a ∷ bs) (bits_past w (half a) q))

no_bit : (z : ℤ) → z +ℤ bit false ≡ z
no_bit z = +ℤ_idr z

-- shift and add multiplies
pub multiplied_bits : (k w : ℕ) (a x y q : ℤ) → double k y ≡ double w q → multiplied (bits_of w a) (bits_of w y) (bits_of k x) ≡ bits_of w (a +ℤ x *ℤ y)
unfolding bits_of
multiplied_bits zero w a x y q e = sym (ap (λ z. bits_of w (a +ℤ x *ℤ z)) e ∙ ap (λ z. bits_of w (a +ℤ z)) (double_mul w x q) ∙ bits_past w a (x *ℤ q))
multiplied_bits (suc k) w a x y q e =
    both (λ s t. multiplied s t (bits_of k (half x)))
    (ap (λ u. summed (bits_of w a) u false) (under_bits w (odd x) y) ∙ summed_bits w a (bit (odd x) *ℤ y) false ∙ ap (bits_of w) (no_bit (a +ℤ bit (odd x) *ℤ y)))
    (doubled_bits_of w y false ∙ ap (bits_of w) (no_bit (y +ℤ y)))
    ∙ multiplied_bits k w (a +ℤ bit (odd x) *ℤ y) (half x) (y +ℤ y) q e
    ∙ ap (bits_of w) (sym (ap (λ z. a +ℤ z *ℤ y) (halves x) ∙ product_step a y (half x) (odd x)))

-- a product at a width, from the operands at that width
pub product_bits : (w : ℕ) (x y : ℤ) → multiplied (bits_of w (pos 0)) (bits_of w y) (bits_of w x) ≡ bits_of w (x *ℤ y)
product_bits w x y = multiplied_bits w w (pos 0) x y y refl ∙ ap (bits_of w) (+ℤ_idl (x *ℤ y))

-- the rest of n by m, from the rest of n / 2
rest_step : (n m b : ℕ) → 0 < m → n ≡ n / 2 + n / 2 + b → (n / 2) % m + (n / 2) % m + b < m → n % m ≡ (n / 2) % m + (n / 2) % m + b
rest_step n m b p e lt =
    let q = n / 2 / m in
    let k : n ≡ (n / 2 / m + n / 2 / m) * m + ((n / 2) % m + (n / 2) % m + b) = omega arith in
    ap (λ x. x % m) k ∙ mod-mul-add (n / 2 / m + n / 2 / m) m ((n / 2) % m + (n / 2) % m + b) lt

rest_step-over : (n m b : ℕ) → 0 < m → n ≡ n / 2 + n / 2 + b → b < 2 → m ≤ (n / 2) % m + (n / 2) % m + b → n % m ≡ ((n / 2) % m + (n / 2) % m + b) - m
rest_step-over n m b p e lt le =
    let low : (n / 2) % m < m = omega arith in
    let k : n ≡ (n / 2 / m + n / 2 / m + 1) * m + (((n / 2) % m + (n / 2) % m + b) - m) = omega arith in
    let small : ((n / 2) % m + (n / 2) % m + b) - m < m = omega arith in
    ap (λ x. x % m) k ∙ mod-mul-add (n / 2 / m + n / 2 / m + 1) m (((n / 2) % m + (n / 2) % m + b) - m) small

abbrev one_if : Bool → ℕ
one_if b = if b then 1 else 0

bit_is : (b : Bool) → bit b ≡ pos (one_if b)
bit_is true = refl
bit_is false = refl

one_if-small : (b : Bool) → one_if b < 2
one_if-small true = omega arith
one_if-small false = omega arith

fits_pos : (w n : ℕ) → n < 2 ^ w → FitsBits (suc w) (pos n)
fits_pos w n h = let f : suc w - 1 ≡ w = omega arith in subst (λ k. n < 2 ^ k) (sym f) h

fits_less : (w r m : ℕ) → r < 2 ^ w → m < 2 ^ w → FitsBits (suc w) (pos r -ℤ pos m)
fits_less w r m h k = by (pos r -ℤ pos m) refl
  where
    f : suc w - 1 ≡ w
    f = omega arith

    by : (z : ℤ) → pos r -ℤ pos m ≡ z → FitsBits (suc w) z
    by (pos n) e = let lt : n < 2 ^ w = omega (arith, ints) in subst (λ j. n < 2 ^ j) (sym f) lt
    by (negsuc n) e = let lt : n < 2 ^ w = omega (arith, ints) in subst (λ j. n < 2 ^ j) (sym f) lt

-- one step of the division
pub reduced_bits : (w r m t : ℕ) → r < 2 ^ w → m < 2 ^ w → ((r < m) → t ≡ r) → ((m ≤ r) → t ≡ r - m) → reduced (bits_of (suc w) (pos r)) (bits_of (suc w) (pos m)) ≡ bits_of (suc w) (pos t)
reduced_bits w r m t h k below above =
    ap (λ ds. if sign_of false ds then bits_of (suc w) (pos r) else ds) (less_bits (suc w) (pos r) (pos m))
    ∙ ap (λ b. if b then bits_of (suc w) (pos r) else bits_of (suc w) (pos r -ℤ pos m)) (sign_of_bits w (pos r -ℤ pos m) (fits_less w r m h k))
    ∙ by (pos r -ℤ pos m) refl
  where
    by : (z : ℤ) → pos r -ℤ pos m ≡ z → (if is_negative z then bits_of (suc w) (pos r) else bits_of (suc w) (pos r -ℤ pos m)) ≡ bits_of (suc w) (pos t)
    by (pos n) e =
        let le : m ≤ r = omega (arith, ints) in
        let is : t ≡ r - m = above le in
        ap (bits_of (suc w)) (omega (arith, ints))
    by (negsuc n) e =
        let lt : r < m = omega (arith, ints) in
        ap (λ x. bits_of (suc w) (pos x)) (sym (below lt))

-- restoring division gives the rest
pub rest_bits : (k w n m : ℕ) → n < 2 ^ k → 0 < m → m + m ≤ 2 ^ w → rest_of (suc w) (bits_of k (pos n)) (bits_of (suc w) (pos m)) ≡ bits_of (suc w) (pos (n % m))
unfolding bits_of
rest_bits zero w n m h p le = let z : n ≡ 0 = omega arith in ap (λ x. bits_of (suc w) (pos x)) (let e : 0 ≡ n % m = omega arith in e)
rest_bits (suc k) w n m h p le =
    let b = odd (pos n) in
    let r = (n / 2) % m in
    let halfway : n / 2 < 2 ^ k = let e : 2 ^ suc k ≡ 2 ^ k * 2 = pow-suc 2 k in omega arith in
    ap (λ xs. reduced (doubled_bits b xs) (bits_of (suc w) (pos m))) (rest_bits k w (n / 2) m halfway p le)
    ∙ ap (λ xs. reduced xs (bits_of (suc w) (pos m))) (doubled_bits_of (suc w) (pos r) b ∙ ap (bits_of (suc w)) (ap (λ z. pos r +ℤ pos r +ℤ z) (bit_is b)))
    ∙ (let e : n ≡ n / 2 + n / 2 + one_if b = from_halves n in
    let low : r < m = omega arith in
    let small : one_if b < 2 = one_if-small b in
    reduced_bits w (r + r + one_if b) m (n % m) (omega arith) (omega arith) (λ lt. rest_step n m (one_if b) p e lt) (λ ge. rest_step-over n m (one_if b) p e small ge))
  where
    from_halves : (n : ℕ) → n ≡ n / 2 + n / 2 + one_if (odd (pos n))
    from_halves n = by (n % 2 == 1) refl
      where
        by : (b : Bool) → (n % 2 == 1) ≡ b → n ≡ n / 2 + n / 2 + one_if b
        by true t = (parity n).0 t
        by false t = (parity n).1 t ∙ sym (add-zero (n / 2 + n / 2))
