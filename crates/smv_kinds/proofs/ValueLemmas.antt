-- The result of an operator on values of two sorts has the result sort.
use Rattle.std.proofs.Common.{◌≡◌, zero, suc, Bool, true, false, not, ◌&&◌, ◌||◌, cond, Option, Some, None, refl, sym, ap, ◌∙◌, subst, arith}
use Rattle.std.proofs.lemmas.Bool.{and_parts}
use Rattle.std.specs.Prelude.{ℤ, pos, negsuc, neg_ℤ, ◌+ℤ◌, ◌-ℤ◌, ◌*ℤ◌, ◌≤ℤ◌, int_le, int_lt, ◌%◌}
use Rattle.std.proofs.lemmas.Int.{ints}
use Rattle.std.proofs.lemmas.Slice.Eq.{bytes_eq-Decides}
use Rattle.smv_ast.specs.declared.syntax.Op.{Op}
use Rattle.smv_ast.specs.declared.syntax.Op.TheVariants as op
use Rattle.smv_meaning.specs.declared.value.Value.{Value}
use Rattle.smv_meaning.specs.declared.value.Value.TheVariants.{Boolean as Truth, Number as Whole, Symbol as Word}
use Rattle.smv_meaning.specs.Value.{truth, whole, fits, remainder, operate, negated, logical_not, same, bool_eq, int_eq}
use Rattle.smv_kinds.specs.declared.intervals.Interval.{Interval}
use Rattle.smv_kinds.specs.declared.sorts.Sort.{Sort}
use Rattle.smv_kinds.specs.declared.sorts.Sort.TheVariants.{Boolean, Number, Symbol, Alias, Nothing}
use Rattle.smv_kinds.specs.declared.facts.Facts.{Facts}
use Rattle.smv_kinds.specs.Intervals as intervals
use Rattle.smv_kinds.specs.Intervals.{limit, is_within, saturated, between, alone, is_narrow, hull}
use Rattle.smv_kinds.specs.Sorts.{is_number, is_small, binary_sort, result_sort, negated_sort, truth_sort, divides}
use Rattle.smv_kinds.specs.Facts.{binary_rule, mod_rule}
use Rattle.smv_kinds.specs.Soundness.{IsCount, Fits, FitsKnown, IsOf}
use Rattle.smv_kinds.proofs.IntervalLemmas.{le_then, same_le, within_of, of_within, low_end, high_end}
use Rattle.smv_kinds.proofs.ProductLemmas.{low_of, high_of, low_below, high_above, low_under, high_over, product_between}

-- ---- numbers

fits_within : (n : ℤ) → is_within n ≡ true → fits n ≡ true
unfolding is_within
fits_within (pos n) h = let b = (and_parts (int_le (neg_ℤ limit) (pos n)) (int_le (pos n) limit) h).1 in grind (arith, ints)
fits_within (negsuc n) h = let b = (and_parts (int_le (neg_ℤ limit) (negsuc n)) (int_le (negsuc n) limit) h).0 in grind (arith, ints)

pub whole_is : (n : ℤ) → is_within n ≡ true → whole n ≡ Some (Whole n)
whole_is n h = ap (λ (b : Bool). cond b (Some (Whole n)) None) (fits_within n h)

-- a number between the ends of an interval within the limit
pub count_in : (i : Interval) (n : ℤ) → is_narrow i ≡ true → i.low ≤ℤ n → n ≤ℤ i.high → IsCount i (Whole n) × (is_within n ≡ true)
count_in i n h a b =
    let e = and_parts (is_within i.low) (is_within i.high) h in
    let l = (within_of i.low e.0).above in
    let u = (within_of i.high e.1).below in
    let w = of_within n (record { above = le_then (neg_ℤ limit) i.low n l a; below = le_then n i.high limit b u }) in
    (record { number = n; is = refl; above = a; below = b; within = w }, w)

-- a number between two ends, where their interval is within the limit
pub count_is : (low high n : ℤ) → is_small (Some (Number (between low high))) ≡ true → low ≤ℤ n → n ≤ℤ high → Fits (Number (between low high)) (Whole n) × (is_within n ≡ true)
count_is low high n h a b =
    let e = and_parts (is_within (saturated low)) (is_within (saturated high)) h in
    let l = low_end low (saturated low) (within_of (saturated low) e.0) (same_le (saturated low)) in
    let u = high_end high (saturated high) (within_of (saturated high) e.1) (same_le (saturated high)) in
    count_in (between low high) n h (le_then (saturated low) low n l a) (le_then n high (saturated high) b u)

pub count_made : (low high n : ℤ) → is_small (Some (Number (between low high))) ≡ true → low ≤ℤ n → n ≤ℤ high → (u : Value) × (whole n ≡ Some u) × Fits (Number (between low high)) u
count_made low high n h a b = let c = count_is low high n h a b in (Whole n, whole_is n c.1, c.0)

-- a number between the least and the greatest of four products
product_made : (p q r s n : ℤ) → is_narrow (hull (hull (alone p) (alone q)) (hull (alone r) (alone s))) ≡ true → low_of p q r s ≤ℤ n → n ≤ℤ high_of p q r s →
    (u : Value) × (whole n ≡ Some u) × IsCount (hull (hull (alone p) (alone q)) (hull (alone r) (alone s))) u
unfolding hull
product_made p q r s n h a b =
    let i : Interval = hull (hull (alone p) (alone q)) (hull (alone r) (alone s)) in
    let e = and_parts (is_within i.low) (is_within i.high) h in
    let l = within_of i.low e.0 in
    let u = within_of i.high e.1 in
    let f = low_below (saturated p) (saturated q) (saturated r) (saturated s) in
    let g = high_above (saturated p) (saturated q) (saturated r) (saturated s) in
    let low = low_under (saturated p) (saturated q) (saturated r) (saturated s) p q r s (low_end p i.low l f.0) (low_end q i.low l f.1) (low_end r i.low l f.2) (low_end s i.low l f.3) in
    let high = high_over (saturated p) (saturated q) (saturated r) (saturated s) p q r s (high_end p i.high u g.0) (high_end q i.high u g.1) (high_end r i.high u g.2) (high_end s i.high u g.3) in
    let c = count_in i n h (le_then i.low (low_of p q r s) n low a) (le_then n (high_of p q r s) i.high b high) in
    (Whole n, whole_is n c.1, c.0)

mod_made : (x y high : ℤ) → is_small (Some (Number (between (pos 0) (high -ℤ pos 1)))) ≡ true → pos 0 ≤ℤ x → int_lt (pos 0) y ≡ true → y ≤ℤ high → (u : Value) × (remainder x y ≡ Some u) × Fits (Number (between (pos 0) (high -ℤ pos 1))) u
mod_made (negsuc x) y high h a b c = absurd (omega (arith, ints))
mod_made (pos x) (negsuc y) high h a b c = cc
mod_made (pos x) (pos zero) high h a b c = cc
mod_made (pos x) (pos (suc y)) high h a b c =
    let g = count_is (pos 0) (high -ℤ pos 1) (pos (x % suc y)) h (omega (arith, ints)) (omega (arith, ints)) in (Whole (pos (x % suc y)), refl, g.0)

-- ---- sorts

-- a number of a sort
pub record Counted (o : Option Sort) (v : Value) : Type 0 where
  pub interval : Interval
  pub is : o ≡ Some (Number interval)
  pub count : IsCount interval v

pub counted : (o : Option Sort) (v : Value) → is_number o ≡ true → FitsKnown o v → Counted o v
counted None v e h = cc
counted (Some Boolean) v e h = cc
counted (Some (Number i)) v e h = record { interval = i; is = refl; count = h }
counted (Some Symbol) v e h = cc
counted (Some Alias) v e h = cc
counted (Some Nothing) v e h = cc

-- the result of arithmetic has the result sort
abbrev Transfers : Op → Option Sort → Option Sort → Value → Value → Type 0
Transfers o s t v w = (u : Value) × (operate o v w ≡ Some u) × FitsKnown (binary_sort o s t) u

add_transfer : (i j : Interval) (v w : Value) → is_small (Some (Number (intervals.sum i j))) ≡ true → IsCount i v → IsCount j w → Transfers op.Add (Some (Number i)) (Some (Number j)) v w
add_transfer i j v w small a b =
    let p = a.above in let q = a.below in let r = b.above in let s = b.below in
    rw (a.is, b.is) (count_made (i.low +ℤ j.low) (i.high +ℤ j.high) (a.number +ℤ b.number) small (omega (arith, ints)) (omega (arith, ints)))

sub_transfer : (i j : Interval) (v w : Value) → is_small (Some (Number (intervals.difference i j))) ≡ true → IsCount i v → IsCount j w → Transfers op.Sub (Some (Number i)) (Some (Number j)) v w
sub_transfer i j v w small a b =
    let p = a.above in let q = a.below in let r = b.above in let s = b.below in
    rw (a.is, b.is) (count_made (i.low -ℤ j.high) (i.high -ℤ j.low) (a.number -ℤ b.number) small (omega (arith, ints)) (omega (arith, ints)))

mul_transfer : (i j : Interval) (v w : Value) → is_small (Some (Number (intervals.product i j))) ≡ true → IsCount i v → IsCount j w → Transfers op.Mul (Some (Number i)) (Some (Number j)) v w
mul_transfer i j v w small a b =
    let p = product_between i.low i.high j.low j.high a.number b.number a.above a.below b.above b.below in
    rw (a.is, b.is) (product_made (i.low *ℤ j.low) (i.low *ℤ j.high) (i.high *ℤ j.low) (i.high *ℤ j.high) (a.number *ℤ b.number) small p.0 p.1)

mod_transfer : (i j : Interval) (v w : Value) → is_small (Some (Number (intervals.remainder j))) ≡ true → divides (Some (Number i)) (Some (Number j)) ≡ true → IsCount i v → IsCount j w → Transfers op.Mod (Some (Number i)) (Some (Number j)) v w
mod_transfer i j v w small d a b =
    let e = and_parts (int_le (pos 0) i.low) (int_lt (pos 0) j.low) d in
    let p = a.above in let q = b.above in
    let f = e.0 in let g = e.1 in
    let positive : int_lt (pos 0) b.number ≡ true = grind (arith, ints) in
    rw (a.is, b.is) (mod_made a.number b.number j.high small (omega (arith, ints)) positive b.below)

compared : (o : Option Sort) (q : Option Sort) (p : Op) (v w : Value) (b : Bool) → FitsKnown o v → FitsKnown q w → ((s t : Sort) → result_sort p s t ≡ Boolean) → operate p v w ≡ Some (Truth b) → Transfers p o q v w
compared None q p v w b h k is e = absurd h
compared (Some s) None p v w b h k is e = absurd k
compared (Some s) (Some t) p v w b h k is e = (Truth b, e, rw (is s t) (b, refl))

ordered : (p : Op) (s t : Option Sort) (v w : Value) → ((m n : ℤ) → (b : Bool) × (operate p (Whole m) (Whole n) ≡ Some (Truth b))) → ((s t : Sort) → result_sort p s t ≡ Boolean) → is_number s && is_number t ≡ true → FitsKnown s v → FitsKnown t w → Transfers p s t v w
ordered p s t v w at is rule h k =
    let n = and_parts (is_number s) (is_number t) rule in
    let x = counted s v n.0 h in
    let y = counted t w n.1 k in
    let r = at x.count.number y.count.number in
    compared s t p v w r.0 h k is (ap (λ (z : Value). operate p z w) x.count.is ∙ (ap (operate p (Whole x.count.number)) y.count.is ∙ r.1))

logical : (p : Op) (a b : Facts) (v w : Value) → ((c d : Bool) → (r : Bool) × ((v w : Value) → truth v ≡ Some c → truth w ≡ Some d → operate p v w ≡ Some (Truth r))) → ((s t : Sort) → result_sort p s t ≡ Boolean) → a.fits && b.fits ≡ true → IsOf a v → IsOf b w → Transfers p a.sort b.sort v w
logical p a b v w at is rule h k =
    let n = and_parts a.fits b.fits rule in
    let x = h.serves n.0 in
    let y = k.serves n.1 in
    let r = at x.0 y.0 in
    compared a.sort b.sort p v w r.0 h.sort k.sort is (r.1 v w x.1 y.1)

arithmetic : (p : Op) (s t : Option Sort) (v w : Value) → is_number s && is_number t ≡ true → is_small (binary_sort p s t) ≡ true → FitsKnown s v → FitsKnown t w →
    ((i j : Interval) → is_small (binary_sort p (Some (Number i)) (Some (Number j))) ≡ true → s ≡ Some (Number i) → t ≡ Some (Number j) → IsCount i v → IsCount j w → Transfers p (Some (Number i)) (Some (Number j)) v w) → Transfers p s t v w
arithmetic p s t v w rule small h k go =
    let n = and_parts (is_number s) (is_number t) rule in
    let x = counted s v n.0 h in
    let y = counted t w n.1 k in
    let l : is_small (binary_sort p (Some (Number x.interval)) (Some (Number y.interval))) ≡ true =
    subst (λ (q : Option Sort). is_small (binary_sort p (Some (Number x.interval)) q) ≡ true) y.is (subst (λ (o : Option Sort). is_small (binary_sort p o t) ≡ true) x.is small) in
    subst (λ (o : Option Sort). Transfers p o t v w) (sym x.is) (subst (λ (q : Option Sort). Transfers p (Some (Number x.interval)) q v w) (sym y.is) (go x.interval y.interval l x.is y.is x.count y.count))

pub operator_transfer : (p : Op) (a b : Facts) (v w : Value) → binary_rule p a b ≡ true → mod_rule p a b ≡ true → is_small (binary_sort p a.sort b.sort) ≡ true → IsOf a v → IsOf b w → Transfers p a.sort b.sort v w
operator_transfer op.Add a b v w rule mods small h k = arithmetic op.Add a.sort b.sort v w rule small h.sort k.sort (λ i j l e f x y. add_transfer i j v w l x y)
operator_transfer op.Sub a b v w rule mods small h k = arithmetic op.Sub a.sort b.sort v w rule small h.sort k.sort (λ i j l e f x y. sub_transfer i j v w l x y)
operator_transfer op.Mul a b v w rule mods small h k = arithmetic op.Mul a.sort b.sort v w rule small h.sort k.sort (λ i j l e f x y. mul_transfer i j v w l x y)
operator_transfer op.Mod a b v w rule mods small h k = arithmetic op.Mod a.sort b.sort v w rule small h.sort k.sort (λ i j l e f x y. mod_transfer i j v w l (rw (e, f) at mods) x y)
operator_transfer op.Eq a b v w rule mods small h k = compared a.sort b.sort op.Eq v w (same v w) h.sort k.sort (λ s t. refl) refl
operator_transfer op.Ne a b v w rule mods small h k = compared a.sort b.sort op.Ne v w (not (same v w)) h.sort k.sort (λ s t. refl) refl
operator_transfer op.Lt a b v w rule mods small h k = ordered op.Lt a.sort b.sort v w (λ m n. (int_lt m n, refl)) (λ s t. refl) rule h.sort k.sort
operator_transfer op.Gt a b v w rule mods small h k = ordered op.Gt a.sort b.sort v w (λ m n. (int_lt n m, refl)) (λ s t. refl) rule h.sort k.sort
operator_transfer op.Le a b v w rule mods small h k = ordered op.Le a.sort b.sort v w (λ m n. (int_le m n, refl)) (λ s t. refl) rule h.sort k.sort
operator_transfer op.Ge a b v w rule mods small h k = ordered op.Ge a.sort b.sort v w (λ m n. (int_le n m, refl)) (λ s t. refl) rule h.sort k.sort
operator_transfer op.And a b v w rule mods small h k = logical op.And a b v w (λ c d. (c && d, λ v w e f. rw (e, f) refl)) (λ s t. refl) rule h k
operator_transfer op.Or a b v w rule mods small h k = logical op.Or a b v w (λ c d. (c || d, λ v w e f. rw (e, f) refl)) (λ s t. refl) rule h k
operator_transfer op.Xor a b v w rule mods small h k = logical op.Xor a b v w (λ c d. (not (bool_eq c d), λ v w e f. rw (e, f) refl)) (λ s t. refl) rule h k
operator_transfer op.Xnor a b v w rule mods small h k = logical op.Xnor a b v w (λ c d. (bool_eq c d, λ v w e f. rw (e, f) refl)) (λ s t. refl) rule h k
operator_transfer op.Iff a b v w rule mods small h k = logical op.Iff a b v w (λ c d. (bool_eq c d, λ v w e f. rw (e, f) refl)) (λ s t. refl) rule h k
operator_transfer op.Implies a b v w rule mods small h k = logical op.Implies a b v w (λ c d. (not c || d, λ v w e f. rw (e, f) refl)) (λ s t. refl) rule h k

-- a number with the opposite sign
pub negation_transfer : (s : Option Sort) (v : Value) → is_number s ≡ true → is_small (negated_sort s) ≡ true → FitsKnown s v → (u : Value) × (negated v ≡ Some u) × FitsKnown (negated_sort s) u
negation_transfer None v e small h = cc
negation_transfer (Some Boolean) v e small h = cc
negation_transfer (Some (Number i)) v e small h =
    let p = h.above in let q = h.below in
    rw h.is (count_made (neg_ℤ i.high) (neg_ℤ i.low) (neg_ℤ h.number) small (omega (arith, ints)) (omega (arith, ints)))
negation_transfer (Some Symbol) v e small h = cc
negation_transfer (Some Alias) v e small h = cc
negation_transfer (Some Nothing) v e small h = cc

pub truth_known : (s : Option Sort) (v : Value) (b : Bool) → FitsKnown s v → FitsKnown (truth_sort s) (Truth b)
truth_known None v b h = absurd h
truth_known (Some s) v b h = (b, refl)

pub not_transfer : (a : Facts) (v : Value) → a.fits ≡ true → IsOf a v → (u : Value) × (logical_not v ≡ Some u) × FitsKnown (truth_sort a.sort) u
not_transfer a v e h = let t = h.serves e in rw t.1 (Truth (not t.0), refl, truth_known a.sort v (not t.0) h.sort)

-- each value equals itself
same_bool : (b : Bool) → bool_eq b b ≡ true
same_bool true = refl
same_bool false = refl

same_int : (n : ℤ) → int_eq n n ≡ true
same_int n = let e : int_le n n ≡ true = grind (arith, ints) in ap (λ (b : Bool). b && b) e

pub same_value : (v : Value) → same v v ≡ true
same_value (Truth b) = same_bool b
same_value (Whole n) = same_int n
same_value (Word name) = (bytes_eq-Decides name name).1 refl
