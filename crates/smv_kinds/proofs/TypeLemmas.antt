-- The values of a type are of its sort.
use Rattle.std.proofs.Common.{◌≡◌, ℕ, zero, suc, inl, inr, true, false, List, [], ◌∷◌, Some, refl, sym, subst, arith}
use Rattle.std.proofs.lemmas.Bool.{and_parts}
use Rattle.std.specs.Prelude.{ℤ, pos, negsuc, ◌+ℤ◌, ◌-ℤ◌, ◌≤ℤ◌}
use Rattle.std.specs.List.{fold}
use Rattle.std.proofs.lemmas.Int.{ints}
use Rattle.smv_ast.specs.declared.syntax.SmvType.{SmvType}
use Rattle.smv_ast.specs.declared.syntax.SmvType.TheVariants as type
use Rattle.smv_meaning.specs.declared.value.Value.{Value}
use Rattle.smv_meaning.specs.declared.value.Value.TheVariants.{Number as Whole, Symbol as Word}
use Rattle.smv_meaning.specs.Value.{up_from, count_to, all_values}
use Rattle.smv_kinds.specs.declared.intervals.Interval.{Interval}
use Rattle.smv_kinds.specs.declared.sorts.Sort.TheVariants.{Number}
use Rattle.smv_kinds.specs.Intervals.{is_within, saturated, between, alone, is_narrow, hull, first_alone, holding}
use Rattle.smv_kinds.specs.Sorts.{is_small, type_sort}
use Rattle.smv_kinds.specs.Soundness.{IsTruth, IsCount, Fits}
use Rattle.smv_kinds.proofs.IntervalLemmas.{le_then, within_of, low_end, high_end}
use Rattle.smv_kinds.proofs.ValueLemmas.{count_in, count_is}
use Rattle.smv_kinds.proofs.PartLemmas.{Inside, inside_self, hull_inside}
use Rattle.smv_meaning.proofs.MemberLemmas.{In, from_map}

-- a number of a range
pub record IsBetween (low high : ℤ) (v : Value) : Type 0 where
  pub number : ℤ
  pub is : v ≡ Whole number
  pub above : low ≤ℤ number
  pub below : number ≤ℤ high

up_is : (low : ℤ) (n : ℕ) (v : Value) → In v (up_from low n) → IsBetween low ((low +ℤ pos n) -ℤ pos 1) v
up_is low zero v i = absurd i
up_is low (suc n) v (inl e) = record { number = low; is = sym e; above = omega (arith, ints); below = omega (arith, ints) }
up_is low (suc n) v (inr i) =
    let r = up_is (low +ℤ pos 1) n v i in
    let a = r.above in
    let b = r.below in
    record { number = r.number; is = r.is; above = omega (arith, ints); below = omega (arith, ints) }

between_is : (low high d : ℤ) (v : Value) → high -ℤ low ≡ d → In v (up_from low (count_to d)) → IsBetween low high v
between_is low high (pos n) v e i =
    let r = up_is low (suc n) v i in
    let a = r.above in
    let b = r.below in
    record { number = r.number; is = r.is; above = a; below = omega (arith, ints) }
between_is low high (negsuc n) v e i = absurd i

-- an interval that contains all of these contains each
fold_inside : (ns : List ℤ) (o i : Interval) (n : ℤ) → Inside (fold (λ j m. hull j (alone m)) o ns) i → Inside o i × (In n ns → Inside (alone n) i)
fold_inside [] o i n h = (h, λ k. absurd k)
fold_inside (m ∷ ns) o i n h =
    let r = fold_inside ns (hull o (alone m)) i n h in
    let w = hull_inside o (alone m) i r.0 in
    (w.0, λ k. elim k [ inl e ↦ subst (λ (x : ℤ). Inside (alone x) i) e w.1 | inr j ↦ r.1 j ])

numbers_fit : (ns : List ℤ) (n : ℤ) → is_narrow (holding ns) ≡ true → In n ns → IsCount (holding ns) (Whole n)
numbers_fit ns n s k =
    let i : Interval = holding ns in
    let h = (fold_inside ns (first_alone ns) i n (inside_self i)).1 k in
    let e = and_parts (is_within i.low) (is_within i.high) s in
    let l = low_end n i.low (within_of i.low e.0) h.low in
    let u = high_end n i.high (within_of i.high e.1) h.high in
    (count_in i n s (le_then i.low (saturated n) n h.low l) (le_then n (saturated n) i.high u h.high)).0

pub type_fits : (t : SmvType) (v : Value) → is_small (Some (type_sort t)) ≡ true → In v (all_values t) → Fits (type_sort t) v
type_fits type.Boolean v s (inl e) = subst IsTruth e (false, refl)
type_fits type.Boolean v s (inr (inl e)) = subst IsTruth e (true, refl)
type_fits type.Boolean v s (inr (inr i)) = absurd i
type_fits (type.Range low high) v s i =
    let r = between_is low high (high -ℤ low) v refl i in
    subst (Fits (Number (between low high))) (sym r.is) (count_is low high r.number s r.above r.below).0
type_fits (type.Numbers numbers) v s i =
    let r = from_map Whole numbers v i in
    subst (Fits (Number (holding numbers))) r.2 (numbers_fit numbers r.0 s r.1)
type_fits (type.Symbols names) v s i = let r = from_map Word names v i in (r.0, sym r.2)
