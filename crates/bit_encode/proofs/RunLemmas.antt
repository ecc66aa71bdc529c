-- Loops over the bits of words are the runs that the definitions name.
use Rattle.std.proofs.Common.{◌≡◌, ℕ, zero, suc, ◌+◌, ◌-◌, ◌<◌, ◌≤◌, ◌==◌, List, [], ◌∷◌, ◌++◌, length, get_or, drop, replicate, pos, arith, refl, sym, ◌∙◌, ap, append_assoc, append-nil, drop-cons, add-one}
use Rattle.std.proofs.lemmas.List.{drop_all, length-append}
use Rattle.std.proofs.lemmas.Bool.Decides.{nat_tests}
use Rattle.gate_build.specs.Circuits.{Circuit, truth, falsity}
use Rattle.gate_build.specs.Numbering.{xor_of, all_of}
use Rattle.bit_encode.specs.declared.pairwise.PairGate.{PairGate}
use Rattle.bit_encode.specs.declared.pairwise.PairGate.TheVariants.{And, Same}
use Rattle.bit_encode.specs.Widths.{greater}
use Rattle.bit_encode.specs.Arithmetic.{pair_of, pairwise_of, carry_of, is_empty, add_of, subtract_of, less_of, equal_of, products_of, reduce_of, division_of, remainder_of}
use Rattle.bit_encode.specs.Words.{sign_of, negated, shifted, resized, constant_word}

-- a run whose word follows bits that are there
abbrev pub behind : List ℕ → List ℕ × Circuit → List ℕ × Circuit
behind front run = (front ++ run.0, run.1)

pub from_index : (xs : List ℕ) (i x : ℕ) → i < length xs → x ≡ get_or xs i x → drop i xs ≡ x ∷ drop (i + 1) xs
from_index xs i x lt is = rw add-one (drop-cons xs i x lt ∙ ap (λ y. y ∷ drop (suc i) xs) (sym is))

pub length-push : (xs pushed : List ℕ) (x n : ℕ) → pushed ≡ xs ++ x ∷ [] → length xs ≡ n → length pushed ≡ n + 1
length-push xs pushed x n is len = rw (is, length-append xs (x ∷ [])) (ap (λ k. k + 1) len)

-- ---- Bit by bit

pairwise-cons : (gate : PairGate) (front more ys : List ℕ) (a b l : ℕ) (old new : Circuit) → (l, new) ≡ pair_of gate a b old
    → behind (front ++ l ∷ []) (pairwise_of gate more ys new) ≡ behind front (pairwise_of gate (a ∷ more) (b ∷ ys) old)
unfolding pairwise_of
pairwise-cons gate front more ys a b l old new ran =
    rw (← ran) (ap (λ xs. (xs, (pairwise_of gate more ys new).1)) (append_assoc front (l ∷ []) (pairwise_of gate more ys new).0))

pub pairwise-next : (gate : PairGate) (front xs ys : List ℕ) (i a b l : ℕ) (old new : Circuit)
    → i < length xs → length xs ≡ length ys → a ≡ get_or xs i a → b ≡ get_or ys i b → (l, new) ≡ pair_of gate a b old
    → behind (front ++ l ∷ []) (pairwise_of gate (drop (i + 1) xs) (drop (i + 1) ys) new) ≡ behind front (pairwise_of gate (drop i xs) (drop i ys) old)
pairwise-next gate front xs ys i a b l old new lt same at_a at_b ran =
    let lt' : i < length ys = omega arith in
    rw (from_index xs i a lt at_a, from_index ys i b lt' at_b) (pairwise-cons gate front (drop (i + 1) xs) (drop (i + 1) ys) a b l old new ran)

pub pairwise-done : (gate : PairGate) (front xs ys : List ℕ) (i : ℕ) (circuit : Circuit) (run : List ℕ × Circuit) → length xs ≤ i
    → behind front (pairwise_of gate (drop i xs) (drop i ys) circuit) ≡ run → (front, circuit) ≡ run
unfolding pairwise_of
pairwise-done gate front xs ys i circuit run le is =
    sym (ap (λ zs. behind front (pairwise_of gate zs (drop i ys) circuit)) (drop_all i xs le) ∙ ap (λ zs. (zs, circuit)) (append-nil front)) ∙ is

-- ---- Sums

last_bit : (xs : List ℕ) (i : ℕ) → i < length xs → is_empty (drop (i + 1) xs) ≡ (i + 1 == length xs)
last_bit [] i lt = absurd (omega arith)
last_bit (x ∷ []) zero lt = refl
last_bit (x ∷ y ∷ ys) zero lt = grind (arith, nat_tests)
last_bit (x ∷ xs) (suc i) lt = rw add-one (let lt' : i < length xs = omega arith in rw add-one at (last_bit xs i lt') ∙ grind (arith, nat_tests))

add-cons : (front more ys : List ℕ) (c a b t sum next : ℕ) (old one two three : Circuit)
    → (t, one) ≡ xor_of a b old → (sum, two) ≡ xor_of t c one → (next, three) ≡ carry_of (is_empty more) a b c t two
    → behind (front ++ sum ∷ []) (add_of more ys next three) ≡ behind front (add_of (a ∷ more) (b ∷ ys) c old)
unfolding add_of
add-cons front more ys c a b t sum next old one two three p q r =
    rw (← p, ← q, ← r) (ap (λ xs. (xs, (add_of more ys next three).1)) (append_assoc front (sum ∷ []) (add_of more ys next three).0))

pub add-next : (front xs ys : List ℕ) (i c a b t sum next : ℕ) (old one two three : Circuit)
    → i < length xs → length xs ≡ length ys → a ≡ get_or xs i a → b ≡ get_or ys i b
    → (t, one) ≡ xor_of a b old → (sum, two) ≡ xor_of t c one → (next, three) ≡ carry_of (i + 1 == length xs) a b c t two
    → behind (front ++ sum ∷ []) (add_of (drop (i + 1) xs) (drop (i + 1) ys) next three) ≡ behind front (add_of (drop i xs) (drop i ys) c old)
add-next front xs ys i c a b t sum next old one two three lt same at_a at_b p q r =
    let lt' : i < length ys = omega arith in
    rw (from_index xs i a lt at_a, from_index ys i b lt' at_b)
    (add-cons front (drop (i + 1) xs) (drop (i + 1) ys) c a b t sum next old one two three p q (r ∙ ap (λ l. carry_of l a b c t two) (sym (last_bit xs i lt))))

pub add-done : (front xs ys : List ℕ) (i c : ℕ) (circuit : Circuit) (run : List ℕ × Circuit) → length xs ≤ i
    → behind front (add_of (drop i xs) (drop i ys) c circuit) ≡ run → (front, circuit) ≡ run
unfolding add_of
add-done front xs ys i c circuit run le is =
    sym (ap (λ zs. behind front (add_of zs (drop i ys) c circuit)) (drop_all i xs le) ∙ ap (λ zs. (zs, circuit)) (append-nil front)) ∙ is

pub subtract_of-run : (xs ys negated_ys : List ℕ) (c : ℕ) (circuit : Circuit) → negated_ys ≡ negated ys → c ≡ truth → add_of xs negated_ys c circuit ≡ subtract_of xs ys circuit
unfolding subtract_of
subtract_of-run xs ys negated_ys c circuit is one = ap (λ zs. add_of xs zs c circuit) is ∙ ap (λ l. add_of xs (negated ys) l circuit) one

-- ---- Comparisons

pub less_of-run : (xs ys wide_xs wide_ys word : List ℕ) (w n l : ℕ) (old new : Circuit) → w ≡ n + 1 → n ≡ greater (length xs) (length ys)
    → wide_xs ≡ resized w xs → wide_ys ≡ resized w ys → (word, new) ≡ subtract_of wide_xs wide_ys old → l ≡ sign_of falsity word → (l, new) ≡ less_of xs ys old
unfolding less_of
less_of-run xs ys wide_xs wide_ys word w n l old new width wider is_x is_y ran is =
    let same : w ≡ suc (greater (length xs) (length ys)) = omega arith in
    ap (λ m. (m, new)) is
    ∙ ap (λ (r : List ℕ × Circuit). (sign_of falsity r.0, r.1))
    (ran ∙ ap (λ zs. subtract_of zs wide_ys old) (is_x ∙ ap (λ k. resized k xs) same) ∙ ap (λ zs. subtract_of (resized (suc (greater (length xs) (length ys))) xs) zs old) (is_y ∙ ap (λ k. resized k ys) same))

pub equal_of-run : (xs ys wide_xs wide_ys word : List ℕ) (w : ℕ) (old new : Circuit) → w ≡ greater (length xs) (length ys)
    → wide_xs ≡ resized w xs → wide_ys ≡ resized w ys → (word, new) ≡ pairwise_of Same wide_xs wide_ys old → all_of word new ≡ equal_of xs ys old
unfolding equal_of
equal_of-run xs ys wide_xs wide_ys word w old new width is_x is_y ran =
    ap (λ (r : List ℕ × Circuit). all_of r.0 r.1)
    (ran ∙ ap (λ zs. pairwise_of Same zs wide_ys old) (is_x ∙ ap (λ k. resized k xs) width) ∙ ap (λ zs. pairwise_of Same (resized (greater (length xs) (length ys)) xs) zs old) (is_y ∙ ap (λ k. resized k ys) width))

-- ---- Products

products-cons : (sum ys more row next doubled : List ℕ) (a : ℕ) (old one two : Circuit) (run : List ℕ × Circuit)
    → (row, one) ≡ pairwise_of And (replicate (length ys) a) ys old → (next, two) ≡ add_of sum row falsity one → doubled ≡ shifted falsity ys
    → products_of sum ys (a ∷ more) old ≡ run → products_of next doubled more two ≡ run
unfolding products_of
products-cons sum ys more row next doubled a old one two run p q is before =
    ap (λ zs. products_of next zs more two) is
    ∙ ap (λ (r : List ℕ × Circuit). products_of r.0 (shifted falsity ys) more r.1) q
    ∙ ap (λ (r : List ℕ × Circuit). products_of (add_of sum r.0 falsity r.1).0 (shifted falsity ys) more (add_of sum r.0 falsity r.1).1) p
    ∙ before

pub products-next : (sum ys xs row next doubled : List ℕ) (i a : ℕ) (old one two : Circuit) (run : List ℕ × Circuit) → i < length xs → a ≡ get_or xs i a
    → (row, one) ≡ pairwise_of And (replicate (length ys) a) ys old → (next, two) ≡ add_of sum row falsity one → doubled ≡ shifted falsity ys
    → products_of sum ys (drop i xs) old ≡ run → products_of next doubled (drop (i + 1) xs) two ≡ run
products-next sum ys xs row next doubled i a old one two run lt at p q is before =
    products-cons sum ys (drop (i + 1) xs) row next doubled a old one two run p q is (sym (ap (λ zs. products_of sum ys zs old) (from_index xs i a lt at)) ∙ before)

pub products-done : (sum ys xs : List ℕ) (i : ℕ) (circuit : Circuit) (run : List ℕ × Circuit) → length xs ≤ i
    → products_of sum ys (drop i xs) circuit ≡ run → (sum, circuit) ≡ run
unfolding products_of
products-done sum ys xs i circuit run le is = sym (ap (λ zs. products_of sum ys zs circuit) (drop_all i xs le)) ∙ is

-- ---- Divisions

pub division-start : (xs ys word : List ℕ) (w : ℕ) (circuit : Circuit) → word ≡ constant_word w (pos 0) → w ≡ length ys → (word, circuit) ≡ division_of (drop (length xs) xs) ys circuit
unfolding division_of
division-start xs ys word w circuit is len =
    ap (λ zs. (zs, circuit)) (is ∙ ap (λ n. constant_word n (pos 0)) len)
    ∙ sym (ap (λ zs. division_of zs ys circuit) (drop_all (length xs) xs (omega arith)))

division-cons : (more ys before doubled after : List ℕ) (a : ℕ) (old one two : Circuit)
    → (before, one) ≡ division_of more ys old → doubled ≡ shifted a before → (after, two) ≡ reduce_of doubled ys one
    → (after, two) ≡ division_of (a ∷ more) ys old
unfolding division_of
division-cons more ys before doubled after a old one two p is q =
    q ∙ ap (λ zs. reduce_of zs ys one) is ∙ ap (λ (r : List ℕ × Circuit). reduce_of (shifted a r.0) ys r.1) p

pub division-next : (xs ys before doubled after : List ℕ) (i a : ℕ) (old one two : Circuit) → 0 < i → i ≤ length xs → a ≡ get_or xs (i - 1) a
    → (before, one) ≡ division_of (drop i xs) ys old → doubled ≡ shifted a before → (after, two) ≡ reduce_of doubled ys one
    → (after, two) ≡ division_of (drop (i - 1) xs) ys old
division-next xs ys before doubled after i a old one two above le at p is q =
    let e : i ≡ i - 1 + 1 = omega arith in
    let lt : i - 1 < length xs = omega arith in
    division-cons (drop (i - 1 + 1) xs) ys before doubled after a old one two (p ∙ ap (λ k. division_of (drop k xs) ys old) e) is q
    ∙ ap (λ zs. division_of zs ys old) (sym (from_index xs (i - 1) a lt at))

pub division-done : (xs ys divisor : List ℕ) (w n i : ℕ) (circuit : Circuit) (run : List ℕ × Circuit) → i ≤ 0 → w ≡ n + 1 → n ≡ greater (length xs) (length ys)
    → divisor ≡ resized w ys → run ≡ division_of (drop i xs) divisor circuit → run ≡ remainder_of xs ys circuit
unfolding remainder_of
division-done xs ys divisor w n i circuit run done width wider is ran =
    let none : i ≡ 0 = omega arith in
    let same : w ≡ suc (greater (length xs) (length ys)) = omega arith in
    ran
    ∙ ap (λ k. division_of (drop k xs) divisor circuit) none
    ∙ ap (λ zs. division_of xs zs circuit) (is ∙ ap (λ k. resized k ys) same)
