-- Loops over the places of variables are the runs that the definitions name.
use Rattle.std.proofs.Common.{◌%◌, ◌==◌, Bool, true, false, if◌then◌else◌, All, subst, ◌≡◌, ℕ, suc, ◌+◌, ◌-◌, ◌/◌, ◌<◌, ◌≤◌, List, [], ◌∷◌, ◌++◌, length, get_or, drop, ℤ, arith, sym, ◌∙◌, ap, append_assoc, append-nil, drop-cons, add-one}
use Rattle.std.proofs.lemmas.List.{drop_all}
use Rattle.std.proofs.lemmas.List.Elements.{All-nil, All-cons}
use Rattle.sat_lits.specs.Literals.{negation}
use Rattle.gate_build.specs.Circuits.{IsMade}
use Rattle.gate_build.proofs.OrderLemmas.{IsMade-negation}
use Rattle.bit_encode.specs.Made.{AreMade}
use Rattle.gate_build.specs.Circuits.{Circuit}
use Rattle.bit_encode.specs.declared.pairwise.PairGate.TheVariants.{Choose}
use Rattle.bit_encode.specs.Arithmetic.{pairwise_of}
use Rattle.bit_encode.specs.Words.{constant_word}
use Rattle.bit_encode.specs.Places.{wanted, at_place, place_test_of, place_tests_of, choose_of}
use Rattle.bit_encode.proofs.RunLemmas.{behind, from_index}

-- one bit more
pub at_place-next : (front bits : List ℕ) (i place bit l : ℕ) → i < length bits → bit ≡ get_or bits i bit → l ≡ wanted place bit
    → (front ++ l ∷ []) ++ at_place (place / 2) (drop (i + 1) bits) ≡ front ++ at_place place (drop i bits)
at_place-next front bits i place bit l lt at is =
    append_assoc front (l ∷ []) (at_place (place / 2) (drop (i + 1) bits))
    ∙ ap (λ m. front ++ m ∷ at_place (place / 2) (drop (i + 1) bits)) is
    ∙ ap (λ zs. front ++ at_place place zs) (sym (from_index bits i bit lt at))

pub at_place-done : (front bits made : List ℕ) (i place : ℕ) → length bits ≤ i → front ++ at_place place (drop i bits) ≡ made → front ≡ made
at_place-done front bits made i place le is = sym (append-nil front) ∙ sym (ap (λ zs. front ++ at_place place zs) (drop_all i bits le)) ∙ is

-- one test more
pub place_tests-next : (front bits : List ℕ) (n k l : ℕ) (old new : Circuit) → k < n → (l, new) ≡ place_test_of k bits old
    → behind (front ++ l ∷ []) (place_tests_of (n - (k + 1)) (k + 1) bits new) ≡ behind front (place_tests_of (n - k) k bits old)
unfolding place_tests_of
place_tests-next front bits n k l old new lt ran =
    let e : n - k ≡ suc (n - (k + 1)) = omega arith in
    ap (λ xs. (xs, (place_tests_of (n - (k + 1)) (k + 1) bits new).1)) (append_assoc front (l ∷ []) (place_tests_of (n - (k + 1)) (k + 1) bits new).0)
    ∙ ap (λ (r : ℕ × Circuit). (front ++ r.0 ∷ (place_tests_of (n - (k + 1)) (k + 1) bits r.1).0, (place_tests_of (n - (k + 1)) (k + 1) bits r.1).1)) ran
    ∙ ap (λ m. behind front (place_tests_of m k bits old)) (sym e)

pub place_tests-done : (front bits : List ℕ) (n k : ℕ) (circuit : Circuit) (run : List ℕ × Circuit) → n ≤ k → behind front (place_tests_of (n - k) k bits circuit) ≡ run → (front, circuit) ≡ run
unfolding place_tests_of
place_tests-done front bits n k circuit run le is =
    let e : n - k ≡ 0 = omega arith in
    sym (ap (λ m. behind front (place_tests_of m k bits circuit)) e ∙ ap (λ zs. (zs, circuit)) (append-nil front)) ∙ is

-- ---- Choices, the last one first

from_number : (numbers : List ℤ) (i : ℕ) (z : ℤ) → i < length numbers → z ≡ get_or numbers i z → drop i numbers ≡ z ∷ drop (i + 1) numbers
from_number numbers i z lt is = rw add-one (drop-cons numbers i z lt ∙ ap (λ y. y ∷ drop (suc i) numbers) (sym is))

pub choose-start : (w i : ℕ) (z : ℤ) (tests : List ℕ) (numbers : List ℤ) (word : List ℕ) (circuit : Circuit)
    → i ≡ length tests → i < length numbers → z ≡ get_or numbers i z → word ≡ constant_word w z → (word, circuit) ≡ choose_of w (drop i tests) (drop i numbers) circuit
unfolding choose_of
choose-start w i z tests numbers word circuit end lt at is =
    let le : length tests ≤ i = omega arith in
    ap (λ zs. (zs, circuit)) is
    ∙ sym (ap (λ zs. choose_of w (drop i tests) zs circuit) (from_number numbers i z lt at) ∙ ap (λ ts. choose_of w ts (z ∷ drop (i + 1) numbers) circuit) (drop_all i tests le))

pub choose-next : (w i t : ℕ) (z : ℤ) (tests : List ℕ) (numbers : List ℤ) (word first after : List ℕ) (old one two : Circuit)
    → 0 < i → i ≤ length tests → length tests < length numbers → t ≡ get_or tests (i - 1) t → z ≡ get_or numbers (i - 1) z
    → (word, one) ≡ choose_of w (drop i tests) (drop i numbers) old → first ≡ constant_word w z → (after, two) ≡ pairwise_of (Choose t) first word one
    → (after, two) ≡ choose_of w (drop (i - 1) tests) (drop (i - 1) numbers) old
unfolding choose_of
choose-next w i t z tests numbers word first after old one two above le fewer at_t at_z before is ran =
    let e : i ≡ i - 1 + 1 = omega arith in
    let lt_t : i - 1 < length tests = omega arith in
    let lt_z : i - 1 < length numbers = omega arith in
    ran
    ∙ ap (λ zs. pairwise_of (Choose t) zs word one) is
    ∙ ap (λ (r : List ℕ × Circuit). pairwise_of (Choose t) (constant_word w z) r.0 r.1) (before ∙ ap (λ k. choose_of w (drop k tests) (drop k numbers) old) e)
    ∙ ap (λ zs. choose_of w (t ∷ drop (i - 1 + 1) tests) zs old) (sym (from_number numbers (i - 1) z lt_z at_z))
    ∙ ap (λ ts. choose_of w ts (drop (i - 1) numbers) old) (sym (from_index tests (i - 1) t lt_t at_t))

-- ---- What is made

wanted_made : (circuit : Circuit) (place l : ℕ) → IsMade circuit l → IsMade circuit (wanted place l)
wanted_made circuit place l made = by (place % 2 == 1)
  where
    by : (b : Bool) → IsMade circuit (if b then l else negation l)
    by true = made
    by false = IsMade-negation circuit l made

at_place_made : (circuit : Circuit) (place : ℕ) (bits : List ℕ) → All (IsMade circuit) bits → All (IsMade circuit) (at_place place bits)
at_place_made circuit place [] each = All-nil (IsMade circuit)
at_place_made circuit place (l ∷ bits) each =
    All-cons (IsMade circuit) (wanted place l) (at_place (place / 2) bits) (wanted_made circuit place l (each 0 l (omega arith)))
    (at_place_made circuit (place / 2) bits (λ k d lt. each (suc k) d (omega arith)))

pub all_at_place : (circuit : Circuit) (place : ℕ) (bits made_word : List ℕ) → AreMade circuit bits → made_word ≡ at_place place bits → All (IsMade circuit) made_word
all_at_place circuit place bits made_word made is = subst (λ zs. All (IsMade circuit) zs) (sym is) (at_place_made circuit place bits made.each)
