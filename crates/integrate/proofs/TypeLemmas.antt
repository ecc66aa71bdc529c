-- Equal types: what their lists of values are.
use Rattle.std.proofs.Common.{◌≡◌, ℕ, zero, suc, ◌+◌, ◌<◌, ◌≤◌, nat_eq, Bool, true, false, ◌&&◌, List, [], ◌∷◌, length, map, drop, get_or, ℤ, pos, negsuc, ◌+ℤ◌, ◌-ℤ◌, ◌≤ℤ◌, Decides, refl, sym, ap, ◌∙◌, subst, arith}
use Rattle.std.proofs.lemmas.Int.{ints}
use Rattle.std.proofs.lemmas.List.{drop_more, drop_all}
use Rattle.std.specs.Ordering.{int_eq}
use Rattle.std.specs.Cmp.{signed_Decides, booleans_Decides}
use Rattle.std.proofs.lemmas.Slice.Eq.{bytes_eq-Decides}
use Rattle.std.proofs.lemmas.Bool.Decides.{same_from_decides}
use Rattle.smv_meaning.proofs.NameSetLemmas.{bytes_eq-swapped}
use Rattle.smv_ast.specs.declared.syntax.SmvType.{SmvType}
use Rattle.smv_meaning.specs.Value.{Name, up_from, count_to, between, all_values}
use Rattle.smv_meaning.specs.declared.value.Value.{Value}
use Rattle.smv_meaning.specs.declared.value.Value.TheVariants.{Boolean, Number, Symbol}
use Rattle.integrate.specs.EqualTypes.{truth_values, equal_values, equal_lists, equal_types}

-- ---- lists of values

both : (a b : Bool) → (a && b) ≡ true → (a ≡ true) × (b ≡ true)
both true true e = (refl, refl)
both true false e = cc
both false b e = cc

equal_itself : (v : Value) → equal_values v v ≡ true
equal_itself (Boolean b) = (booleans_Decides b b).1 refl
equal_itself (Number n) = (signed_Decides n n).1 refl
equal_itself (Symbol name) = (bytes_eq-Decides name name).1 refl

pub equal_lists_itself : (vs : List Value) → equal_lists vs vs ≡ true
equal_lists_itself [] = refl
equal_lists_itself (v ∷ vs) = ap (λ b. b && equal_lists vs vs) (equal_itself v) ∙ equal_lists_itself vs

-- equal lists are equally long
equal_length : (vs ws : List Value) → equal_lists vs ws ≡ true → length vs ≡ length ws
equal_length [] [] e = refl
equal_length [] (w ∷ ws) e = cc
equal_length (v ∷ vs) [] e = cc
equal_length (v ∷ vs) (w ∷ ws) e = ap suc (equal_length vs ws (both (equal_values v w) (equal_lists vs ws) e).1)

pub lengths_differ : (vs ws : List Value) → (length vs ≡ length ws → ⊥) → equal_lists vs ws ≡ false
lengths_differ vs ws h = at (equal_lists vs ws) refl
  where
    at : (b : Bool) → equal_lists vs ws ≡ b → b ≡ false
    at true e = absurd (h (equal_length vs ws e))
    at false e = refl

values_swapped : (v w : Value) → equal_values v w ≡ equal_values w v
values_swapped (Boolean b) (Boolean c) = same_from_decides _ _ (booleans_Decides b c) ((λ e. sym ((booleans_Decides c b).0 e)), (λ e. (booleans_Decides c b).1 (sym e)))
values_swapped (Number m) (Number n) = same_from_decides _ _ (signed_Decides m n) ((λ e. sym ((signed_Decides n m).0 e)), (λ e. (signed_Decides n m).1 (sym e)))
values_swapped (Symbol a) (Symbol b) = bytes_eq-swapped a b
values_swapped (Boolean b) (Number n) = refl
values_swapped (Boolean b) (Symbol n) = refl
values_swapped (Number b) (Boolean n) = refl
values_swapped (Number b) (Symbol n) = refl
values_swapped (Symbol b) (Boolean n) = refl
values_swapped (Symbol b) (Number n) = refl

pub lists_swapped : (vs ws : List Value) → equal_lists vs ws ≡ equal_lists ws vs
lists_swapped [] [] = refl
lists_swapped [] (w ∷ ws) = refl
lists_swapped (v ∷ vs) [] = refl
lists_swapped (v ∷ vs) (w ∷ ws) = ap (λ b. b && equal_lists vs ws) (values_swapped v w) ∙ ap (λ b. equal_values w v && b) (lists_swapped vs ws)

not_equal : (m n : ℤ) → (m ≡ n → ⊥) → int_eq m n ≡ false
not_equal m n h = at (int_eq m n) refl
  where
    at : (b : Bool) → int_eq m n ≡ b → b ≡ false
    at true e = absurd (h ((signed_Decides m n).0 e))
    at false e = refl

-- ---- ranges

up_length : (low : ℤ) (n : ℕ) → length (up_from low n) ≡ n
up_length low zero = refl
up_length low (suc n) = ap suc (up_length (low +ℤ pos 1) n)

none_by : (low high d : ℤ) → high -ℤ low ≡ d → (low ≤ℤ high → ⊥) → up_from low (count_to d) ≡ []
none_by low high (pos n) e h = absurd (h (omega (arith, ints)))
none_by low high (negsuc n) e h = refl

-- a range whose end is below its begin is empty
pub empty_range : (low high : ℤ) → (low ≤ℤ high → ⊥) → between low high ≡ []
empty_range low high h = none_by low high (high -ℤ low) refl h

one_more_by : (low high d r : ℤ) → high -ℤ low ≡ d → high -ℤ (low +ℤ pos 1) ≡ r → low ≤ℤ high → up_from low (count_to d) ≡ Number low ∷ up_from (low +ℤ pos 1) (count_to r)
one_more_by low high (negsuc n) r e k h = absurd (omega (arith, ints))
one_more_by low high (pos n) (pos m) e k h = let c : n ≡ suc m = omega (arith, ints) in ap (λ (c : ℕ). Number low ∷ up_from (low +ℤ pos 1) c) c
one_more_by low high (pos n) (negsuc m) e k h = let c : n ≡ 0 = omega (arith, ints) in ap (λ (c : ℕ). Number low ∷ up_from (low +ℤ pos 1) c) c

-- any other range begins with its begin
pub full_range : (low high : ℤ) → low ≤ℤ high → between low high ≡ Number low ∷ between (low +ℤ pos 1) high
full_range low high h = one_more_by low high (high -ℤ low) (high -ℤ (low +ℤ pos 1)) refl refl h

-- ranges that begin with different numbers
starts_by : (low other : ℤ) (more : List Value) (d : ℤ) → (low ≡ other → ⊥) → equal_lists (Number low ∷ more) (up_from other (count_to d)) ≡ false
starts_by low other more (negsuc n) h = refl
starts_by low other more (pos n) h = ap (λ b. b && equal_lists more (up_from (other +ℤ pos 1) n)) (not_equal low other h)

pub starts_differ : (low high other other_high : ℤ) → low ≤ℤ high → (low ≡ other → ⊥) → equal_lists (between low high) (between other other_high) ≡ false
starts_differ low high other other_high h k = ap (λ vs. equal_lists vs (between other other_high)) (full_range low high h) ∙ starts_by low other (between (low +ℤ pos 1) high) (other_high -ℤ other) k

ends_by : (low high other d r : ℤ) → high -ℤ low ≡ d → other -ℤ low ≡ r → low ≤ℤ high → (high ≡ other → ⊥) → (count_to d ≡ count_to r → ⊥)
ends_by low high other (negsuc n) r e k h differ same = absurd (omega (arith, ints))
ends_by low high other (pos n) (negsuc m) e k h differ same = cc
ends_by low high other (pos n) (pos m) e k h differ same = differ (let c : n ≡ m = omega (arith, same) in omega (arith, ints))

-- ranges of one begin and different ends
pub ends_differ : (low high other : ℤ) → low ≤ℤ high → (high ≡ other → ⊥) → equal_lists (between low high) (between low other) ≡ false
ends_differ low high other h k = lengths_differ (between low high) (between low other)
    (λ e. ends_by low high other (high -ℤ low) (other -ℤ low) refl refl h k (sym (up_length low (count_to (high -ℤ low))) ∙ (e ∙ up_length low (count_to (other -ℤ low)))))

-- ---- runs of numbers

module _ (at high : ℤ) (ns : List ℤ) (i : ℕ) where
  -- the numbers from an index on
  abbrev rest : List Value
  rest = map (λ n. Number n) (drop i ns)

  -- the numbers after that index
  abbrev later : List Value
  later = map (λ n. Number n) (drop (i + 1) ns)

  -- the range has ended, and numbers are left
  pub run_ended : i < length ns → (at ≤ℤ high → ⊥) → equal_lists (between at high) rest ≡ false
  run_ended h k = ap (λ vs. equal_lists vs rest) (empty_range at high k) ∙ ap (λ ms. equal_lists [] (map (λ n. Number n) ms)) (drop_more ns i at h)

  next_numbers : (d : ℤ) → i < length ns → at ≤ℤ high → equal_lists (between at high) rest ≡ (int_eq at (get_or ns i d) && equal_lists (between (at +ℤ pos 1) high) later)
  next_numbers d h k = ap (λ vs. equal_lists vs rest) (full_range at high k) ∙ ap (λ ms. equal_lists (Number at ∷ between (at +ℤ pos 1) high) (map (λ n. Number n) ms)) (drop_more ns i d h)

  -- the next number is not that of the range
  pub run_differs : (d : ℤ) → i < length ns → at ≤ℤ high → (at ≡ get_or ns i d → ⊥) → equal_lists (between at high) rest ≡ false
  run_differs d h k differ = next_numbers d h k ∙ ap (λ b. b && equal_lists (between (at +ℤ pos 1) high) later) (not_equal at (get_or ns i d) differ)

  -- the next number is that of the range
  pub run_goes_on : (d : ℤ) → i < length ns → at ≤ℤ high → at ≡ get_or ns i d → equal_lists (between at high) rest ≡ equal_lists (between (at +ℤ pos 1) high) later
  run_goes_on d h k same = next_numbers d h k ∙ ap (λ b. b && equal_lists (between (at +ℤ pos 1) high) later) ((signed_Decides at (get_or ns i d)).1 same)

  -- both have ended
  pub run_done : length ns ≤ i → (at ≤ℤ high → ⊥) → equal_lists (between at high) rest ≡ true
  run_done h k = ap (λ vs. equal_lists vs rest) (empty_range at high k) ∙ ap (λ ms. equal_lists [] (map (λ n. Number n) ms)) (drop_all i ns h)

-- ---- types of different kinds

truths_by : (low : ℤ) (n : ℕ) → equal_lists truth_values (up_from low n) ≡ false
truths_by low zero = refl
truths_by low (suc n) = refl

pub truths_range : (low high : ℤ) → equal_lists truth_values (between low high) ≡ false
truths_range low high = truths_by low (count_to (high -ℤ low))

pub range_truths : (low high : ℤ) → equal_lists (between low high) truth_values ≡ false
range_truths low high = lists_swapped (between low high) truth_values ∙ truths_range low high

pub truths_numbers : (ns : List ℤ) → equal_lists truth_values (map Number ns) ≡ false
truths_numbers [] = refl
truths_numbers (n ∷ ns) = refl

pub numbers_truths : (ns : List ℤ) → equal_lists (map Number ns) truth_values ≡ false
numbers_truths ns = lists_swapped (map Number ns) truth_values ∙ truths_numbers ns

pub truths_symbols : (names : List Name) → equal_lists truth_values (map Symbol names) ≡ false
truths_symbols [] = refl
truths_symbols (n ∷ names) = refl

pub symbols_truths : (names : List Name) → equal_lists (map Symbol names) truth_values ≡ false
symbols_truths names = lists_swapped (map Symbol names) truth_values ∙ truths_symbols names

none_long : {A : Type 0} (a : A) (xs : List A) → nat_eq (length (a ∷ xs)) 0 ≡ false
none_long a xs = grind arith

and_none : {A : Type 0} (b : Bool) (a : A) (xs : List A) → (b && nat_eq (length (a ∷ xs)) 0) ≡ false
and_none true a xs = none_long a xs
and_none false a xs = refl

and_no : (b : Bool) → b ≡ (b && true)
and_no true = refl
and_no false = refl

range_by : (low : ℤ) (n : ℕ) (name : Name) (names : List Name) → equal_lists (up_from low n) (map Symbol (name ∷ names)) ≡ false
range_by low zero name names = refl
range_by low (suc n) name names = refl

pub range_symbols : (low high : ℤ) (names : List Name) → equal_lists (between low high) (map Symbol names) ≡ (equal_lists (between low high) [] && nat_eq (length names) 0)
range_symbols low high [] = and_no (equal_lists (between low high) [])
range_symbols low high (name ∷ names) = range_by low (count_to (high -ℤ low)) name names ∙ sym (and_none (equal_lists (between low high) []) name names)

pub symbols_range : (low high : ℤ) (names : List Name) → equal_lists (map Symbol names) (between low high) ≡ (equal_lists (between low high) [] && nat_eq (length names) 0)
symbols_range low high names = lists_swapped (map Symbol names) (between low high) ∙ range_symbols low high names

pub numbers_symbols : (ns : List ℤ) (names : List Name) → equal_lists (map Number ns) (map Symbol names) ≡ (nat_eq (length ns) 0 && nat_eq (length names) 0)
numbers_symbols [] [] = refl
numbers_symbols [] (name ∷ names) = sym (none_long name names)
numbers_symbols (n ∷ ns) [] = sym (ap (λ b. b && true) (none_long n ns))
numbers_symbols (n ∷ ns) (name ∷ names) = sym (ap (λ b. b && nat_eq (length (name ∷ names)) 0) (none_long n ns))

pub symbols_numbers : (ns : List ℤ) (names : List Name) → equal_lists (map Symbol names) (map Number ns) ≡ (nat_eq (length ns) 0 && nat_eq (length names) 0)
symbols_numbers ns names = lists_swapped (map Symbol names) (map Number ns) ∙ numbers_symbols ns names

-- ---- the law

values_are : (v w : Value) → equal_values v w ≡ true → v ≡ w
values_are (Boolean b) (Boolean c) e = ap (λ (b : Bool). Boolean b) ((booleans_Decides b c).0 e)
values_are (Number m) (Number n) e = ap (λ (m : ℤ). Number m) ((signed_Decides m n).0 e)
values_are (Symbol a) (Symbol b) e = ap (λ (a : Name). Symbol a) ((bytes_eq-Decides a b).0 e)
values_are (Boolean b) (Number n) e = cc
values_are (Boolean b) (Symbol n) e = cc
values_are (Number b) (Boolean n) e = cc
values_are (Number b) (Symbol n) e = cc
values_are (Symbol b) (Boolean n) e = cc
values_are (Symbol b) (Number n) e = cc

lists_are : (vs ws : List Value) → equal_lists vs ws ≡ true → vs ≡ ws
lists_are [] [] e = refl
lists_are [] (w ∷ ws) e = cc
lists_are (v ∷ vs) [] e = cc
lists_are (v ∷ vs) (w ∷ ws) e =
    let h = both (equal_values v w) (equal_lists vs ws) e in
    ap (λ (v : Value). v ∷ vs) (values_are v w h.0) ∙ ap (λ (vs : List Value). w ∷ vs) (lists_are vs ws h.1)

-- types are equal exactly where they are the same list of values
pub equal_types-law : (t u : SmvType) → Decides (equal_types t u) (all_values t ≡ all_values u)
equal_types-law t u = (lists_are (all_values t) (all_values u), λ e. subst (λ vs. equal_lists (all_values t) vs ≡ true) e (equal_lists_itself (all_values t)))
