-- The numbers of variables lie in their intervals.
use Rattle.std.proofs.Common.{Bool, true, ◌&&◌, ◌≡◌, ℕ, zero, suc, ◌-◌, ◌<◌, List, [], ◌∷◌, length, get_or, refl, sym, ◌∙◌, ap, subst, arith, Some, ℤ, pos}
use Rattle.std.specs.Prelude.{◌≢◌, ◌+ℤ◌, neg_ℤ, int_le, All, AllPairs, slice_get, slice_index}
use Rattle.std.proofs.lemmas.Bool.{and_parts}
use Rattle.std.proofs.lemmas.List.Elements.{All-nil, All-from_recursion}
use Rattle.std.specs.List.{fold}
use Rattle.std.proofs.lemmas.Int.{ints, clamps}
use Rattle.std.proofs.lemmas.Option.{slice_get_within, get_or_from_slice_get}
use Rattle.flat_model.specs.declared.variables.Values.{Values}
use Rattle.flat_model.specs.declared.variables.Values.TheVariants.{Boolean, Range, Table}
use Rattle.flat_model.specs.declared.variables.FlatVar.{FlatVar}
use Rattle.flat_model.specs.declared.intervals.Interval.{Interval}
use Rattle.flat_model.specs.Numbers.{limit, IsWithinLimit}
use Rattle.flat_model.specs.Variables.{row, listed, IsSoundVariable, number_at, number_in, ArePositions}
use Rattle.flat_model.specs.Intervals.{IsIn, hull, alone, holding, of_values, of_variable}

pub get_or-row : (low : ℤ) (n k : ℕ) (d : ℤ) → k < n → get_or (row low n) k d ≡ low +ℤ pos k
get_or-row low zero k d h = absurd (omega arith)
get_or-row low (suc n) zero d h = omega (arith, ints)
get_or-row low (suc n) (suc k) d h = get_or-row (low +ℤ pos 1) n k d (omega arith) ∙ omega (arith, ints)

pub length-row : (low : ℤ) (n : ℕ) → length (row low n) ≡ n
length-row low zero = refl
length-row low (suc n) = ap suc (length-row (low +ℤ pos 1) n)

-- the hull of an interval and some numbers holds what the interval holds
held_stays : (held : Interval) (numbers : List ℤ) (z : ℤ) → IsIn held z → IsIn (fold (λ h n. hull h (alone n)) held numbers) z
held_stays held [] z h = h
held_stays held (n ∷ numbers) z h = held_stays (hull held (alone n)) numbers z (record { above = omega (arith, ints, clamps, h.above); below = omega (arith, ints, clamps, h.below) })

-- and each of the numbers
numbers_held : (held : Interval) (numbers : List ℤ) (k : ℕ) (d : ℤ) → k < length numbers → IsIn (fold (λ h n. hull h (alone n)) held numbers) (get_or numbers k d)
numbers_held held [] k d h = absurd (omega arith)
numbers_held held (n ∷ numbers) zero d h = held_stays (hull held (alone n)) numbers n (record { above = omega (arith, ints, clamps); below = omega (arith, ints, clamps) })
numbers_held held (n ∷ numbers) (suc k) d h = numbers_held (hull held (alone n)) numbers k d (omega arith)

pub IsIn-holding : (numbers : List ℤ) (k : ℕ) (d : ℤ) → k < length numbers → IsIn (holding numbers) (get_or numbers k d)
IsIn-holding [] k d h = absurd (omega arith)
IsIn-holding (n ∷ numbers) zero d h = held_stays (alone n) numbers n (record { above = omega (arith, ints); below = omega (arith, ints) })
IsIn-holding (n ∷ numbers) (suc k) d h = numbers_held (alone n) numbers k d (omega arith)

-- the number at a position is the one that the list has there
pub number_at-listed : (values : Values) (count position : ℕ) → length (listed values count) ≡ count → position < count → get_or (listed values count) position (pos 0) ≡ number_at values position
number_at-listed Boolean count zero e h = refl
number_at-listed Boolean count (suc zero) e h = refl
number_at-listed Boolean count (suc (suc position)) e h = absurd (omega arith)
number_at-listed (Range low) count position e h = get_or-row low count position (pos 0) h
number_at-listed (Table numbers) count position e h = refl

in_values : (values : Values) (count position : ℕ) → length (listed values count) ≡ count → position < count → IsIn (of_values values count) (number_at values position)
in_values Boolean count position e h = record { above = omega (arith, ints); below = omega (arith, ints) }
in_values (Range low) count position e h = record { above = omega (arith, ints); below = omega (arith, ints) }
in_values (Table numbers) count position e h = IsIn-holding numbers position (pos 0) (omega arith)

-- the number of a sound variable lies in its interval
pub number_in_interval : (vars : List FlatVar) (positions : List ℕ) (v : ℕ) (var : FlatVar) → All IsSoundVariable vars → ArePositions vars positions → slice_get vars v ≡ Some var → IsIn (of_variable (slice_get vars v)) (number_in vars positions v)
number_in_interval vars positions v var sound at e =
    let own : IsSoundVariable var = subst IsSoundVariable (get_or_from_slice_get vars v var var e) (sound v var (slice_get_within vars v var e)) in
    rw e (in_values var.values var.count (slice_index positions v) own.counted (at.within v var e))

-- ---- Variables that are sound

-- a number within the limit, by a test that computes
abbrev pub is_within_limit : ℤ → Bool
is_within_limit z = int_le (neg_ℤ limit) z && int_le z limit

pub IsWithinLimit-from_test : (z : ℤ) → is_within_limit z ≡ true → IsWithinLimit z
IsWithinLimit-from_test z h =
    let parts = and_parts (int_le (neg_ℤ limit) z) (int_le z limit) h in
    (omega (arith, ints, parts.0), omega (arith, ints, parts.1))

-- elements that differ from each later one
pub AllPairs-cons : {X : Type 0} (R : X → X → Type 0) (x : X) (xs : List X) → All (R x) xs → AllPairs R xs → AllPairs R (x ∷ xs)
AllPairs-cons R x xs first more zero zero d h k = absurd (omega arith)
AllPairs-cons R x xs first more zero (suc j) d h k = first j d (omega arith)
AllPairs-cons R x xs first more (suc i) zero d h k = absurd (omega arith)
AllPairs-cons R x xs first more (suc i) (suc j) d h k = more i j d (omega arith) (omega arith)

pub AllPairs-nil : {X : Type 0} (R : X → X → Type 0) → AllPairs R []
AllPairs-nil R i j d h k = absurd (omega arith)

pub row-distinct : (low : ℤ) (n : ℕ) → AllPairs (λ a b. a ≢ b) (row low n)
row-distinct low n i j d h k e =
    absurd (omega (arith, ints, length-row low n, get_or-row low n i d (omega (arith, length-row low n)), get_or-row low n j d (omega (arith, length-row low n)), e))

pub row-limited : (low : ℤ) (n : ℕ) → IsWithinLimit low → IsWithinLimit (low +ℤ pos (n - 1)) → All IsWithinLimit (row low n)
row-limited low n first last k d h =
    let is : get_or (row low n) k d ≡ low +ℤ pos k = get_or-row low n k d (omega (arith, length-row low n)) in
    rw is (omega (arith, ints, first.0), omega (arith, ints, last.1, length-row low n))

zero_not_one : pos 0 ≢ pos 1
zero_not_one e = absurd (omega (arith, ints, e))

pub IsSoundVariable-boolean : (var : FlatVar) → var.values ≡ Boolean → var.count ≡ 2 → IsSoundVariable var
IsSoundVariable-boolean var e c = record {
  some = omega arith;
  counted = ap (λ values. length (listed values var.count)) e ∙ sym c;
  distinct = subst (λ (values : Values). AllPairs (λ a b. a ≢ b) (listed values var.count)) (sym e)
      (AllPairs-cons (λ (a b : ℤ). a ≢ b) (pos 0) (pos 1 ∷ []) (All-from_recursion (λ (z : ℤ). pos 0 ≢ z) (pos 1 ∷ []) (zero_not_one, tt))
      (AllPairs-cons (λ (a b : ℤ). a ≢ b) (pos 1) [] (All-nil (λ (z : ℤ). pos 1 ≢ z)) (AllPairs-nil (λ (a b : ℤ). a ≢ b))));
  limited = subst (λ (values : Values). All IsWithinLimit (listed values var.count)) (sym e)
      (All-from_recursion IsWithinLimit (pos 0 ∷ pos 1 ∷ []) (IsWithinLimit-from_test (pos 0) refl, (IsWithinLimit-from_test (pos 1) refl, tt)));
}

pub IsSoundVariable-range : (var : FlatVar) (low : ℤ) → var.values ≡ Range low → 0 < var.count → IsWithinLimit low → IsWithinLimit (low +ℤ pos (var.count - 1)) → IsSoundVariable var
IsSoundVariable-range var low e some first last = record {
  some = some;
  counted = ap (λ values. length (listed values var.count)) e ∙ length-row low var.count;
  distinct = subst (λ (values : Values). AllPairs (λ a b. a ≢ b) (listed values var.count)) (sym e) (row-distinct low var.count);
  limited = subst (λ (values : Values). All IsWithinLimit (listed values var.count)) (sym e) (row-limited low var.count first last);
}
