-- What words of variables mean: the number at the place that the bits number.
use Rattle.std.proofs.Common.{◌≡◌, ℕ, zero, suc, ◌+◌, ◌-◌, ◌*◌, ◌/◌, ◌%◌, ◌<◌, ◌≤◌, ◌^◌, ◌==◌, ◌&&◌, Bool, true, false, not, if◌then◌else◌, List, [], ◌∷◌, ◌++◌, length, get_or, ℤ, pos, arith, refl, sym, ◌∙◌, ap}
use Rattle.std.specs.List.{list_all}
use Rattle.std.proofs.lemmas.Bool.Decides.{nat_tests}
use Rattle.std.proofs.Math.Nat.{pow-suc}
use Rattle.sat_lits.specs.Literals.{negation, literal_true}
use Rattle.sat_lits.proofs.Truth.{literal_true-negation}
use Rattle.gate_build.specs.Circuits.{Circuit}
use Rattle.gate_build.proofs.MeaningLemmas.{Gives, truth-holds, all_of-gives}
use Rattle.bit_encode.specs.declared.pairwise.PairGate.TheVariants.{Choose}
use Rattle.bit_encode.specs.Numbers.{odd, bits_of, truths_of}
use Rattle.bit_encode.specs.Words.{constant_word}
use Rattle.bit_encode.specs.Places.{wanted, at_place, place_test_of, place_tests_of, choose_of}
use Rattle.bit_encode.proofs.BitCircuits.{paired}
use Rattle.bit_encode.proofs.WordLemmas.{length-bits_of}
use Rattle.bit_encode.proofs.TruthLemmas.{GivesBits, both, pairwise_of-gives, truths-constants, paired-chosen}

-- ---- The test of a place

parity_same : (p place : ℕ) (a b : Bool) → (place % 2 == 1) ≡ a → (p % 2 == 1) ≡ b → ((if a then b else not b) && (p / 2 == place / 2)) ≡ (p == place)
parity_same p place true true h k = grind (arith, nat_tests)
parity_same p place true false h k = grind (arith, nat_tests)
parity_same p place false true h k = grind (arith, nat_tests)
parity_same p place false false h k = grind (arith, nat_tests)

wanted-true : (values : ℕ → Bool) (place l : ℕ) (a : Bool) → (place % 2 == 1) ≡ a → literal_true values (wanted place l) ≡ (if a then literal_true values l else not (literal_true values l))
wanted-true values place l true is = ap (λ b. literal_true values (if b then l else negation l)) is
wanted-true values place l false is = ap (λ b. literal_true values (if b then l else negation l)) is ∙ literal_true-negation values l

-- the literals of a place are all true exactly where the bits number it
pub at_place-tests : (values : ℕ → Bool) (bits : List ℕ) (place p : ℕ) → truths_of values bits ≡ bits_of (length bits) (pos p) → p < 2 ^ length bits → place < 2 ^ length bits
    → list_all (literal_true values) (at_place place bits) ≡ (p == place)
unfolding bits_of
at_place-tests values [] place p is small small_place = let e : p ≡ place = omega arith in grind (arith, nat_tests)
at_place-tests values (l ∷ bits) place p is small small_place =
    let two : 2 ^ suc (length bits) ≡ 2 ^ length bits * 2 = pow-suc 2 (length bits) in
    let here : literal_true values l ≡ odd (pos p) = cc in
    let rest : truths_of values bits ≡ bits_of (length bits) (pos (p / 2)) = cc in
    let later = at_place-tests values bits (place / 2) (p / 2) rest (omega arith) (omega arith) in
    both (λ u v. u && v) (wanted-true values place l (place % 2 == 1) refl ∙ ap (λ b. if place % 2 == 1 then b else not b) here) later
    ∙ parity_same p place (place % 2 == 1) (p % 2 == 1) refl refl

pub place_test_of-gives : (values : ℕ → Bool) (place : ℕ) (bits : List ℕ) (circuit : Circuit) → Gives values circuit (place_test_of place bits circuit) (list_all (literal_true values) (at_place place bits))
unfolding place_test_of
place_test_of-gives values place bits circuit hold = all_of-gives values (at_place place bits) circuit hold

-- a test for each of so many places
abbrev pub tested : (ℕ → Bool) → ℕ → ℕ → List Bool
tested test zero place = []
tested test (suc n) place = test place ∷ tested test n (place + 1)

pub place_tests_of-gives : (values : ℕ → Bool) (n place : ℕ) (bits : List ℕ) (circuit : Circuit)
    → GivesBits values circuit (place_tests_of n place bits circuit) (tested (λ k. list_all (literal_true values) (at_place k bits)) n place)
unfolding place_tests_of
place_tests_of-gives values zero place bits circuit hold = (hold, refl)
place_tests_of-gives values (suc n) place bits circuit hold =
    let test = place_test_of place bits circuit in
    let rest = place_tests_of-gives values n (place + 1) bits test.1 hold in
    let here = place_test_of-gives values place bits circuit rest.0 in
    (here.0, both (λ u us. u ∷ us) here.1 rest.1)

-- ---- Choices

abbrev pub chosen_bits : ℕ → List Bool → List ℤ → List Bool
chosen_bits w tests [] = bits_of w (pos 0)
chosen_bits w [] (z ∷ numbers) = bits_of w z
chosen_bits w (t ∷ tests) (z ∷ numbers) = if t then bits_of w z else chosen_bits w tests numbers

length-chosen : (w : ℕ) (tests : List Bool) (numbers : List ℤ) → length (chosen_bits w tests numbers) ≡ w
length-chosen w tests [] = length-bits_of w (pos 0)
length-chosen w [] (z ∷ numbers) = length-bits_of w z
length-chosen w (true ∷ tests) (z ∷ numbers) = length-bits_of w z
length-chosen w (false ∷ tests) (z ∷ numbers) = length-chosen w tests numbers

pub choose_of-gives : (values : ℕ → Bool) (w : ℕ) (tests : List ℕ) (numbers : List ℤ) (circuit : Circuit)
    → GivesBits values circuit (choose_of w tests numbers circuit) (chosen_bits w (truths_of values tests) numbers)
unfolding choose_of
choose_of-gives values w tests [] circuit hold = (hold, truths-constants values (bits_of w (pos 0)) (truth-holds values circuit hold))
choose_of-gives values w [] (z ∷ numbers) circuit hold = (hold, truths-constants values (bits_of w z) (truth-holds values circuit hold))
choose_of-gives values w (t ∷ tests) (z ∷ numbers) circuit hold =
    let rest = choose_of w tests numbers circuit in
    let p = pairwise_of-gives values (Choose t) (constant_word w z) rest.0 rest.1 hold in
    let r = choose_of-gives values w tests numbers circuit p.0 in
    let later = chosen_bits w (truths_of values tests) numbers in (
      r.0,
      p.1
          ∙ both (λ us vs. paired (λ a b. if literal_true values t then a else b) us vs) (truths-constants values (bits_of w z) (truth-holds values circuit r.0)) r.1
          ∙ paired-chosen (literal_true values t) (bits_of w z) later (length-bits_of w z ∙ sym (length-chosen w (truths_of values tests) numbers)),
    )

-- the number at a place is chosen where each test tells its place
pub chosen_at : (w n place p : ℕ) (numbers : List ℤ) → length numbers ≡ n + 1 → place ≤ p → p ≤ place + n
    → chosen_bits w (tested (λ k. p == k) n place) numbers ≡ bits_of w (get_or numbers (p - place) (pos 0))
chosen_at w n place p [] len low high = absurd (omega arith)
chosen_at w zero place p (z ∷ numbers) len low high = let e : 0 ≡ p - place = omega arith in ap (λ i. bits_of w (get_or (z ∷ numbers) i (pos 0))) e
chosen_at w (suc n) place p (z ∷ numbers) len low high = by (p == place) refl (λ above. chosen_at w n (place + 1) p numbers (omega arith) above (omega arith))
  where
    later : List Bool
    later = chosen_bits w (tested (λ k. p == k) n (place + 1)) numbers

    by : (b : Bool) → (p == place) ≡ b → (place + 1 ≤ p → later ≡ bits_of w (get_or numbers (p - (place + 1)) (pos 0))) → (if p == place then bits_of w z else later) ≡ bits_of w (get_or (z ∷ numbers) (p - place) (pos 0))
    by true is more =
        let e : p ≡ place = grind (arith, nat_tests) in
        let f : 0 ≡ p - place = omega arith in
        ap (λ b. if b then bits_of w z else later) is ∙ ap (λ i. bits_of w (get_or (z ∷ numbers) i (pos 0))) f
    by false is more =
        let above : place + 1 ≤ p = grind (arith, nat_tests) in
        let f : suc (p - (place + 1)) ≡ p - place = omega arith in
        ap (λ b. if b then bits_of w z else later) is
        ∙ more above
        ∙ ap (λ i. bits_of w (get_or (z ∷ numbers) i (pos 0))) f

-- ---- Ranges

-- the bits of a place, below a sign that is false
pub place_bits : (n p : ℕ) → p < 2 ^ n → bits_of n (pos p) ++ false ∷ [] ≡ bits_of (suc n) (pos p)
unfolding bits_of
place_bits zero p small = let e : 0 ≡ p = omega arith in ap (λ k. odd (pos k) ∷ []) e
place_bits (suc n) p small =
    let two : 2 ^ suc n ≡ 2 ^ n * 2 = pow-suc 2 n in
    ap (λ us. odd (pos p) ∷ us) (place_bits n (p / 2) (omega arith))
