-- What the runs over words compute, in truth values.
use Rattle.std.proofs.Common.{◌≡◌, ℕ, zero, suc, ◌-◌, ◌&&◌, ◌||◌, Bool, true, false, not, if◌then◌else◌, List, [], ◌∷◌, ◌++◌, length, take, map, min, replicate, pos, arith, refl, sym, ◌∙◌, ap}
use Rattle.std.proofs.lemmas.List.{length-map, length-take, length-replicate, length-append}
use Rattle.std.specs.List.{list_all}
use Rattle.sat_lits.specs.Literals.{literal_true}
use Rattle.sat_lits.proofs.Truth.{literal_true-negation}
use Rattle.gate_build.specs.Circuits.{Circuit, truth, falsity, constant}
use Rattle.gate_build.specs.Meaning.{Holds, exclusive}
use Rattle.gate_build.specs.Numbering.{and_of, xor_of}
use Rattle.gate_build.proofs.MeaningLemmas.{Gives, truth-holds, and_of-gives, or_of-gives, xor_of-gives, mux_of-gives, all_of-gives}
use Rattle.bit_encode.specs.declared.pairwise.PairGate.{PairGate}
use Rattle.bit_encode.specs.declared.pairwise.PairGate.TheVariants.{And, Same, Choose}
use Rattle.bit_encode.specs.Arithmetic.{pair_of, pairwise_of, carry_of, add_of, subtract_of, less_of, equal_of, products_of, multiply_of, reduce_of, division_of, remainder_of}
use Rattle.bit_encode.specs.Numbers.{bits_of, truths_of}
use Rattle.bit_encode.specs.Widths.{greater}
use Rattle.bit_encode.specs.Words.{sign_of, resized, negated, shifted, constant_word}
use Rattle.bit_encode.proofs.WordLemmas.{length-bits_of}
use Rattle.bit_encode.proofs.BitCircuits.{summed, widened, doubled_bits, under, multiplied, negated_bits, less, reduced, rest_of, paired}

-- A run from a circuit: in each assignment that satisfies the clauses after it, those before it hold, and the
-- literals of its word have these values.
abbrev pub GivesBits : (ℕ → Bool) → Circuit → List ℕ × Circuit → List Bool → Type 0
GivesBits values circuit run bits = Holds values run.1 → Holds values circuit × (truths_of values run.0 ≡ bits)

pub both : {A B C : Type 0} (f : A → B → C) {a a' : A} {b b' : B} → a ≡ a' → b ≡ b' → f a b ≡ f a' b'
both f p q = λ i. f (p i) (q i)

-- ---- Words

truths-negated : (values : ℕ → Bool) (word : List ℕ) → truths_of values (negated word) ≡ negated_bits (truths_of values word)
truths-negated values [] = refl
truths-negated values (l ∷ word) = both (λ u us. u ∷ us) (literal_true-negation values l) (truths-negated values word)

map-shifted : {A B : Type 0} (f : A → B) (low : A) (word : List A) → map f (take (length word) (low ∷ word)) ≡ doubled_bits (f low) (map f word)
map-shifted f low [] = refl
map-shifted f low (x ∷ word) = ap (λ us. f low ∷ us) (map-shifted f x word)

map-sign : {A B : Type 0} (f : A → B) (d : A) (word : List A) → f (sign_of d word) ≡ sign_of (f d) (map f word)
map-sign f d [] = refl
map-sign f d (x ∷ []) = refl
map-sign f d (x ∷ y ∷ word) = map-sign f d (y ∷ word)

widened-nil : (d : Bool) (w : ℕ) → replicate w d ≡ widened d w []
widened-nil d zero = refl
widened-nil d (suc w) = ap (λ us. d ∷ us) (widened-nil d w)

widened-one : (d b : Bool) (w : ℕ) → replicate w b ≡ widened d w (b ∷ [])
widened-one d b zero = refl
widened-one d b (suc w) = ap (λ us. b ∷ us) (widened-one d b w)

map-replicate : {A B : Type 0} (f : A → B) (n : ℕ) (x : A) → map f (replicate n x) ≡ replicate n (f x)
map-replicate f zero x = refl
map-replicate f (suc n) x = ap (λ us. f x ∷ us) (map-replicate f n x)

one_less : (w n : ℕ) → suc w - suc n ≡ w - n
one_less w n = omega arith

less_one : (w : ℕ) → suc w - 1 ≡ w
less_one w = omega arith

map-resized : (f : ℕ → Bool) (d w : ℕ) (word : List ℕ) → map f (take w word ++ replicate (w - length word) (sign_of d word)) ≡ widened (f d) w (map f word)
map-resized f d zero [] = refl
map-resized f d zero (x ∷ word) = let e : 0 - length (x ∷ word) ≡ 0 = omega arith in ap (λ n. map f (replicate n (sign_of d (x ∷ word)))) e
map-resized f d (suc w) [] = let e : suc w - 0 ≡ suc w = omega arith in ap (λ n. map f (replicate n d)) e ∙ map-replicate f (suc w) d ∙ widened-nil (f d) (suc w)
map-resized f d (suc w) (x ∷ []) = ap (λ us. f x ∷ us) (ap (λ n. map f (take w [] ++ replicate n x)) (less_one w) ∙ alone w)
  where
    alone : (n : ℕ) → map f (take n [] ++ replicate n x) ≡ widened (f d) n (f x ∷ [])
    alone zero = refl
    alone (suc n) = map-replicate f (suc n) x ∙ widened-one (f d) (f x) (suc n)
map-resized f d (suc w) (x ∷ y ∷ word) =
    ap (λ us. f x ∷ us) (ap (λ n. map f (take w (y ∷ word) ++ replicate n (sign_of d (y ∷ word)))) (one_less w (length (y ∷ word))) ∙ map-resized f d w (y ∷ word))

pub truths-resized : (values : ℕ → Bool) (w : ℕ) (word : List ℕ) → values 1 ≡ true → truths_of values (resized w word) ≡ widened false w (truths_of values word)
truths-resized values w word one = map-resized (literal_true values) falsity w word ∙ ap (λ b. widened (not b) w (truths_of values word)) one

pub length-resized : (w : ℕ) (word : List ℕ) → length (resized w word) ≡ w
length-resized w word =
    length-append (take w word) (replicate (w - length word) (sign_of falsity word))
    ∙ (let t : length (take w word) ≡ min w (length word) = length-take w word in
    let r : length (replicate (w - length word) (sign_of falsity word)) ≡ w - length word = length-replicate (w - length word) (sign_of falsity word) in
    omega arith)

pub truths-shifted : (values : ℕ → Bool) (low : ℕ) (word : List ℕ) → truths_of values (shifted low word) ≡ doubled_bits (literal_true values low) (truths_of values word)
truths-shifted values low word = map-shifted (literal_true values) low word

pub truths-constants : (values : ℕ → Bool) (bits : List Bool) → values 1 ≡ true → truths_of values (map constant bits) ≡ bits
truths-constants values [] one = refl
truths-constants values (true ∷ bits) one = both (λ u us. u ∷ us) one (truths-constants values bits one)
truths-constants values (false ∷ bits) one = both (λ u us. u ∷ us) (ap not one) (truths-constants values bits one)

-- ---- Bit by bit

-- what a gate over two bits computes
abbrev pub pair_value : (ℕ → Bool) → PairGate → Bool → Bool → Bool
pair_value values And a b = a && b
pair_value values Same a b = not (exclusive a b)
pair_value values (Choose c) a b = if literal_true values c then a else b

pair_of-gives : (values : ℕ → Bool) (gate : PairGate) (a b : ℕ) (circuit : Circuit) → Gives values circuit (pair_of gate a b circuit) (pair_value values gate (literal_true values a) (literal_true values b))
pair_of-gives values And a b circuit hold = and_of-gives values a b circuit hold
pair_of-gives values Same a b circuit hold =
    let differs = xor_of-gives values a b circuit hold in
    (differs.0, literal_true-negation values (xor_of a b circuit).0 ∙ ap not differs.1)
pair_of-gives values (Choose c) a b circuit hold = mux_of-gives values c a b circuit hold

pub pairwise_of-gives : (values : ℕ → Bool) (gate : PairGate) (xs ys : List ℕ) (circuit : Circuit)
    → GivesBits values circuit (pairwise_of gate xs ys circuit) (paired (pair_value values gate) (truths_of values xs) (truths_of values ys))
unfolding pairwise_of
pairwise_of-gives values gate [] ys circuit hold = (hold, refl)
pairwise_of-gives values gate (a ∷ more) [] circuit hold = (hold, refl)
pairwise_of-gives values gate (a ∷ more) (b ∷ ys) circuit hold =
    let first = pair_of gate a b circuit in
    let rest = pairwise_of-gives values gate more ys first.1 hold in
    let here = pair_of-gives values gate a b circuit rest.0 in
    (here.0, both (λ u us. u ∷ us) here.1 rest.1)

-- ---- Sums

carry_of-gives : (values : ℕ → Bool) (a b c t : ℕ) (circuit : Circuit)
    → Gives values circuit (carry_of false a b c t circuit) ((literal_true values a && literal_true values b) || (literal_true values c && literal_true values t))
unfolding carry_of
carry_of-gives values a b c t circuit hold =
    let two = and_of a b circuit in
    let one = and_of c t two.1 in
    let r = or_of-gives values two.0 one.0 one.1 hold in
    let q = and_of-gives values c t two.1 r.0 in
    let p = and_of-gives values a b circuit q.0 in
    (p.0, r.1 ∙ both (λ x y. x || y) p.1 q.1)

pub add_of-gives : (values : ℕ → Bool) (xs ys : List ℕ) (c : ℕ) (circuit : Circuit)
    → GivesBits values circuit (add_of xs ys c circuit) (summed (truths_of values xs) (truths_of values ys) (literal_true values c))
unfolding add_of carry_of
add_of-gives values [] ys c circuit hold = (hold, refl)
add_of-gives values (a ∷ more) [] c circuit hold = (hold, refl)
add_of-gives values (a ∷ []) (b ∷ ys) c circuit hold =
    let t = xor_of a b circuit in
    let q = xor_of-gives values t.0 c t.1 hold in
    let p = xor_of-gives values a b circuit q.0 in
    (p.0, ap (λ x. x ∷ []) (q.1 ∙ ap (λ x. exclusive x (literal_true values c)) p.1))
add_of-gives values (a ∷ x ∷ xs) (b ∷ ys) c circuit hold =
    let t = xor_of a b circuit in
    let sum = xor_of t.0 c t.1 in
    let next = carry_of false a b c t.0 sum.1 in
    let r = add_of-gives values (x ∷ xs) ys next.0 next.1 hold in
    let o = carry_of-gives values a b c t.0 sum.1 r.0 in
    let q = xor_of-gives values t.0 c t.1 o.0 in
    let p = xor_of-gives values a b circuit q.0 in (
      p.0,
      both (λ u us. u ∷ us) (q.1 ∙ ap (λ v. exclusive v (literal_true values c)) p.1)
          (r.1 ∙ ap (summed (truths_of values (x ∷ xs)) (truths_of values ys)) (o.1 ∙ ap (λ v. (literal_true values a && literal_true values b) || (literal_true values c && v)) p.1)),
    )

pub subtract_of-gives : (values : ℕ → Bool) (xs ys : List ℕ) (circuit : Circuit)
    → GivesBits values circuit (subtract_of xs ys circuit) (less (truths_of values xs) (truths_of values ys))
unfolding subtract_of
subtract_of-gives values xs ys circuit hold =
    let sum = add_of-gives values xs (negated ys) truth circuit hold in
    (sum.0, sum.1 ∙ both (λ us b. summed (truths_of values xs) us b) (truths-negated values ys) (truth-holds values circuit sum.0))

-- ---- Comparisons

pub less_of-gives : (values : ℕ → Bool) (xs ys : List ℕ) (circuit : Circuit) (w : ℕ) → w ≡ suc (greater (length xs) (length ys))
    → Gives values circuit (less_of xs ys circuit) (sign_of false (less (widened false w (truths_of values xs)) (widened false w (truths_of values ys))))
unfolding less_of
less_of-gives values xs ys circuit w is hold =
    let v = suc (greater (length xs) (length ys)) in
    let difference = subtract_of (resized v xs) (resized v ys) circuit in
    let d = subtract_of-gives values (resized v xs) (resized v ys) circuit hold in
    let one = truth-holds values circuit d.0 in (
      d.0,
      map-sign (literal_true values) falsity difference.0
          ∙ both (λ b us. sign_of (not b) us) one (d.1 ∙ both less (truths-resized values v xs one) (truths-resized values v ys one))
          ∙ ap (λ n. sign_of false (less (widened false n (truths_of values xs)) (widened false n (truths_of values ys)))) (sym is),
    )

list_all-truths : (values : ℕ → Bool) (word : List ℕ) → list_all (literal_true values) word ≡ list_all (λ b. b) (truths_of values word)
list_all-truths values [] = refl
list_all-truths values (l ∷ word) = ap (λ b. literal_true values l && b) (list_all-truths values word)

pub equal_of-gives : (values : ℕ → Bool) (xs ys : List ℕ) (circuit : Circuit) (w : ℕ) → w ≡ greater (length xs) (length ys)
    → Gives values circuit (equal_of xs ys circuit) (list_all (λ b. b) (paired (λ a b. not (exclusive a b)) (widened false w (truths_of values xs)) (widened false w (truths_of values ys))))
unfolding equal_of
equal_of-gives values xs ys circuit w is hold =
    let v = greater (length xs) (length ys) in
    let same = pairwise_of Same (resized v xs) (resized v ys) circuit in
    let a = all_of-gives values same.0 same.1 hold in
    let p = pairwise_of-gives values Same (resized v xs) (resized v ys) circuit a.0 in
    let one = truth-holds values circuit p.0 in (
      p.0,
      a.1
          ∙ list_all-truths values same.0
          ∙ ap (list_all (λ b. b)) (p.1 ∙ both (paired (pair_value values Same)) (truths-resized values v xs one) (truths-resized values v ys one))
          ∙ ap (λ n. list_all (λ b. b) (paired (λ a b. not (exclusive a b)) (widened false n (truths_of values xs)) (widened false n (truths_of values ys)))) (sym is),
    )

-- ---- Products

paired-row : (values : ℕ → Bool) (a : ℕ) (ys : List ℕ) → paired (pair_value values And) (truths_of values (replicate (length ys) a)) (truths_of values ys) ≡ under (literal_true values a) (truths_of values ys)
paired-row values a [] = refl
paired-row values a (y ∷ ys) = ap (λ us. (literal_true values a && literal_true values y) ∷ us) (paired-row values a ys)

pub products_of-gives : (values : ℕ → Bool) (sum ys xs : List ℕ) (circuit : Circuit)
    → GivesBits values circuit (products_of sum ys xs circuit) (multiplied (truths_of values sum) (truths_of values ys) (truths_of values xs))
unfolding products_of
products_of-gives values sum ys [] circuit hold = (hold, refl)
products_of-gives values sum ys (a ∷ more) circuit hold =
    let row = pairwise_of And (replicate (length ys) a) ys circuit in
    let next = add_of sum row.0 falsity row.1 in
    let rest = products_of-gives values next.0 (shifted falsity ys) more next.1 hold in
    let n = add_of-gives values sum row.0 falsity row.1 rest.0 in
    let r = pairwise_of-gives values And (replicate (length ys) a) ys circuit n.0 in
    let one = truth-holds values circuit r.0 in (
      r.0,
      rest.1
          ∙ both (λ s t. multiplied s t (truths_of values more))
          (n.1 ∙ both (λ t b. summed (truths_of values sum) t (not b)) (r.1 ∙ paired-row values a ys) one)
          (truths-shifted values falsity ys ∙ ap (λ b. doubled_bits (not b) (truths_of values ys)) one),
    )

pub multiply_of-gives : (values : ℕ → Bool) (xs ys : List ℕ) (circuit : Circuit)
    → GivesBits values circuit (multiply_of xs ys circuit) (multiplied (bits_of (length ys) (pos 0)) (truths_of values ys) (truths_of values xs))
unfolding multiply_of
multiply_of-gives values xs ys circuit hold =
    let p = products_of-gives values (constant_word (length ys) (pos 0)) ys xs circuit hold in
    (p.0, p.1 ∙ ap (λ us. multiplied us (truths_of values ys) (truths_of values xs)) (truths-constants values (bits_of (length ys) (pos 0)) (truth-holds values circuit p.0)))

-- ---- Remainders

pub paired-chosen : (s : Bool) (ps bs : List Bool) → length ps ≡ length bs → paired (λ a b. if s then a else b) ps bs ≡ (if s then ps else bs)
paired-chosen true [] bs same = refl
paired-chosen false [] [] same = refl
paired-chosen false [] (b ∷ bs) same = absurd (omega arith)
paired-chosen s (a ∷ ps) [] same = absurd (omega arith)
paired-chosen true (a ∷ ps) (b ∷ bs) same = ap (λ us. a ∷ us) (paired-chosen true ps bs (omega arith))
paired-chosen false (a ∷ ps) (b ∷ bs) same = ap (λ us. b ∷ us) (paired-chosen false ps bs (omega arith))

length-summed : (ps bs : List Bool) (c : Bool) → length ps ≡ length bs → length (summed ps bs c) ≡ length ps
length-summed [] bs c same = refl
length-summed (a ∷ ps) [] c same = absurd (omega arith)
length-summed (a ∷ ps) (b ∷ bs) c same = ap suc (length-summed ps bs _ (omega arith))

length-less : (ps bs : List Bool) → length ps ≡ length bs → length (less ps bs) ≡ length ps
length-less ps bs same = length-summed ps (negated_bits bs) true (same ∙ sym (length-map bs not))

length-reduced : (ps bs : List Bool) → length ps ≡ length bs → length (reduced ps bs) ≡ length ps
length-reduced ps bs same = by (sign_of false (less ps bs))
  where
    by : (s : Bool) → length (if s then ps else less ps bs) ≡ length ps
    by true = refl
    by false = length-less ps bs same

length-doubled : (d : Bool) (bs : List Bool) → length (doubled_bits d bs) ≡ length bs
length-doubled d [] = refl
length-doubled d (b ∷ bs) = ap suc (length-doubled b bs)

length-rest : (w : ℕ) (ps bs : List Bool) → length bs ≡ w → length (rest_of w ps bs) ≡ w
length-rest w [] bs same = length-bits_of w (pos 0)
length-rest w (a ∷ ps) bs same =
    let e : length (doubled_bits a (rest_of w ps bs)) ≡ w = length-doubled a (rest_of w ps bs) ∙ length-rest w ps bs same in
    length-reduced (doubled_bits a (rest_of w ps bs)) bs (e ∙ sym same) ∙ e

pub reduce_of-gives : (values : ℕ → Bool) (xs ys : List ℕ) (circuit : Circuit) → (Holds values circuit → length (truths_of values xs) ≡ length (truths_of values ys))
    → GivesBits values circuit (reduce_of xs ys circuit) (reduced (truths_of values xs) (truths_of values ys))
unfolding reduce_of
reduce_of-gives values xs ys circuit same hold =
    let difference = subtract_of xs ys circuit in
    let p = pairwise_of-gives values (Choose (sign_of falsity difference.0)) xs difference.0 difference.1 hold in
    let d = subtract_of-gives values xs ys circuit p.0 in
    let one = truth-holds values circuit d.0 in
    let ps = truths_of values xs in
    let bs = truths_of values ys in (
      d.0,
      p.1
          ∙ both (λ (s : Bool) us. paired (λ a b. if s then a else b) ps us) (map-sign (literal_true values) falsity difference.0 ∙ both (λ b us. sign_of (not b) us) one d.1) d.1
          ∙ paired-chosen (sign_of false (less ps bs)) ps (less ps bs) (sym (length-less ps bs (same d.0))),
    )

pub division_of-gives : (values : ℕ → Bool) (xs ys : List ℕ) (circuit : Circuit)
    → GivesBits values circuit (division_of xs ys circuit) (rest_of (length ys) (truths_of values xs) (truths_of values ys))
unfolding division_of
division_of-gives values [] ys circuit hold = (hold, truths-constants values (bits_of (length ys) (pos 0)) (truth-holds values circuit hold))
division_of-gives values (a ∷ more) ys circuit hold =
    let higher = division_of more ys circuit in
    let ps = truths_of values more in
    let bs = truths_of values ys in
    let is : Holds values higher.1 → truths_of values (shifted a higher.0) ≡ doubled_bits (literal_true values a) (rest_of (length ys) ps bs) = λ h.
    truths-shifted values a higher.0 ∙ ap (doubled_bits (literal_true values a)) (division_of-gives values more ys circuit h).1 in
    let same : Holds values higher.1 → length (truths_of values (shifted a higher.0)) ≡ length bs = λ h.
    ap length (is h) ∙ length-doubled (literal_true values a) (rest_of (length ys) ps bs) ∙ length-rest (length ys) ps bs (length-map ys (literal_true values)) ∙ sym (length-map ys (literal_true values)) in
    let r = reduce_of-gives values (shifted a higher.0) ys higher.1 same hold in
    ((division_of-gives values more ys circuit r.0).0, r.1 ∙ ap (λ us. reduced us bs) (is r.0))

pub remainder_of-gives : (values : ℕ → Bool) (xs ys : List ℕ) (circuit : Circuit) (w : ℕ) → w ≡ suc (greater (length xs) (length ys))
    → GivesBits values circuit (remainder_of xs ys circuit) (rest_of w (truths_of values xs) (widened false w (truths_of values ys)))
unfolding remainder_of
remainder_of-gives values xs ys circuit w is hold =
    let v = suc (greater (length xs) (length ys)) in
    let d = division_of-gives values xs (resized v ys) circuit hold in (
      d.0,
      d.1
          ∙ both (λ n us. rest_of n (truths_of values xs) us) (length-resized v ys) (truths-resized values v ys (truth-holds values circuit d.0))
          ∙ ap (λ n. rest_of n (truths_of values xs) (widened false n (truths_of values ys))) (sym is),
    )
