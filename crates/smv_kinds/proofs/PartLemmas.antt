-- A value of one part agrees with the facts of the whole set.
use Rattle.std.proofs.Common.{◌≡◌, Bool, true, false, ◌&&◌, ◌||◌, ◌⊎◌, inl, inr, List, [], ◌∷◌, Option, Some, None, refl, sym, subst, arith}
use Rattle.std.proofs.lemmas.Bool.{and_parts}
use Rattle.std.specs.Prelude.{◌≤ℤ◌}
use Rattle.std.specs.List.{fold, list_all, AllByRecursion}
use Rattle.std.proofs.lemmas.Int.{ints, clamps}
use Rattle.smv_meaning.specs.declared.value.Value.{Value}
use Rattle.smv_kinds.specs.declared.intervals.Interval.{Interval}
use Rattle.smv_kinds.specs.declared.sorts.Sort.{Sort}
use Rattle.smv_kinds.specs.declared.sorts.Sort.TheVariants.{Boolean, Number, Symbol, Alias, Nothing}
use Rattle.smv_kinds.specs.declared.facts.Facts.{Facts}
use Rattle.smv_kinds.specs.Intervals.{hull}
use Rattle.smv_kinds.specs.Sorts.{is_boolean, is_same_kind, has_kind, is_small, join_both}
use Rattle.smv_kinds.specs.Facts.{node, suits, parts_sort, all_fit, all_suit, all_kinds, all_small, all_mods, parts_facts}
use Rattle.smv_kinds.specs.Soundness.{IsTruth, IsCount, Fits, FitsKnown, IsOf, IsKept}

-- an interval within another
pub record Inside (j i : Interval) : Type 0 where
  pub low : i.low ≤ℤ j.low
  pub high : j.high ≤ℤ i.high

pub inside_self : (i : Interval) → Inside i i
inside_self i = record { low = omega (arith, ints); high = omega (arith, ints) }

-- an interval that contains two contains each
pub hull_inside : (a b i : Interval) → Inside (hull a b) i → Inside a i × Inside b i
unfolding hull
hull_inside a b i h =
    let m = h.low in
    let n = h.high in (
      record { low = omega (arith, ints, clamps); high = omega (arith, ints, clamps) },
      record { low = omega (arith, ints, clamps); high = omega (arith, ints, clamps) },
    )

-- a number, of an interval within another
record IntervalWithin (i : Interval) (o : Option Sort) : Type 0 where
  inner : Interval
  is : o ≡ Some (Number inner)
  inside : Inside inner i

-- the interval of a number within another
abbrev Covers : Interval → Option Sort → Type 0
Covers i (Some (Number j)) = Inside j i
Covers i o = Unit {0}

record Joined (i : Interval) (o q : Option Sort) : Type 0 where
  left : IntervalWithin i o
  right : Covers i q

joined : (i : Interval) (o q : Option Sort) → IntervalWithin i (join_both o q) → Joined i o q
joined i None q h = let e = h.is in cc
joined i (Some Boolean) None h = let e = h.is in cc
joined i (Some Boolean) (Some Boolean) h = let e = h.is in cc
joined i (Some Boolean) (Some (Number b)) h = let e = h.is in cc
joined i (Some Boolean) (Some Symbol) h = let e = h.is in cc
joined i (Some Boolean) (Some Alias) h = let e = h.is in cc
joined i (Some Boolean) (Some Nothing) h = let e = h.is in cc
joined i (Some Symbol) None h = let e = h.is in cc
joined i (Some Symbol) (Some Boolean) h = let e = h.is in cc
joined i (Some Symbol) (Some (Number b)) h = let e = h.is in cc
joined i (Some Symbol) (Some Symbol) h = let e = h.is in cc
joined i (Some Symbol) (Some Alias) h = let e = h.is in cc
joined i (Some Symbol) (Some Nothing) h = let e = h.is in cc
joined i (Some Alias) None h = let e = h.is in cc
joined i (Some Alias) (Some Boolean) h = let e = h.is in cc
joined i (Some Alias) (Some (Number b)) h = let e = h.is in cc
joined i (Some Alias) (Some Symbol) h = let e = h.is in cc
joined i (Some Alias) (Some Alias) h = let e = h.is in cc
joined i (Some Alias) (Some Nothing) h = let e = h.is in cc
joined i (Some Nothing) None h = let e = h.is in cc
joined i (Some Nothing) (Some Boolean) h = let e = h.is in cc
joined i (Some Nothing) (Some (Number b)) h = let e = h.is in cc
joined i (Some Nothing) (Some Symbol) h = let e = h.is in cc
joined i (Some Nothing) (Some Alias) h = let e = h.is in cc
joined i (Some Nothing) (Some Nothing) h = let e = h.is in cc
joined i (Some (Number a)) None h = let e = h.is in cc
joined i (Some (Number a)) (Some Boolean) h = let e = h.is in cc
joined i (Some (Number a)) (Some (Number b)) h =
    let e : hull a b ≡ h.inner = (let g = h.is in cc) in
    let w = hull_inside a b i (subst (λ (x : Interval). Inside x i) (sym e) h.inside) in
    record { left = record { inner = a; is = refl; inside = w.0 }; right = w.1 }
joined i (Some (Number a)) (Some Symbol) h = record { left = record { inner = h.inner; is = h.is; inside = h.inside }; right = tt }
joined i (Some (Number a)) (Some Alias) h = record { left = record { inner = h.inner; is = h.is; inside = h.inside }; right = tt }
joined i (Some (Number a)) (Some Nothing) h = record { left = record { inner = h.inner; is = h.is; inside = h.inside }; right = tt }

pub each_all : {A : Type 0} (f : A → Bool) (xs : List A) → list_all f xs ≡ true → AllByRecursion (λ x. f x ≡ true) xs
each_all f [] h = tt
each_all f (x ∷ xs) h = let b = and_parts (f x) (list_all f xs) h in (b.0, each_all f xs b.1)

pub each_both : {A : Type 0} (P Q R : A → Type 0) → ((x : A) → P x → Q x → R x) → (xs : List A) → AllByRecursion P xs → AllByRecursion Q xs → AllByRecursion R xs
each_both P Q R transfer [] p q = tt
each_both P Q R transfer (x ∷ xs) p q = (transfer x p.0 q.0, each_both P Q R transfer xs p.1 q.1)

held_tail : (i : Interval) (parts : List Facts) (o : Option Sort) → IntervalWithin i (fold (λ s a. join_both s a.sort) o parts) → IntervalWithin i o × AllByRecursion (λ x. Covers i x.sort) parts
held_tail i [] o h = (h, tt)
held_tail i (x ∷ xs) o h =
    let r = held_tail i xs (join_both o x.sort) h in
    let j = joined i o x.sort r.0 in
    (j.left, (j.right, r.1))

-- the sort of one of all covers the sort of each
abbrev CoversBy : Option Sort → Option Sort → Type 0
CoversBy (Some (Number i)) o = Covers i o
CoversBy s o = Unit {0}

each_unit : {A : Type 0} (xs : List A) → AllByRecursion (λ x. Unit {0}) xs
each_unit [] = tt
each_unit (x ∷ xs) = (tt, each_unit xs)

each_if : (b : Bool) (xs : List Facts) → (b ≡ true → AllByRecursion (λ x. x.fits ≡ true) xs) → AllByRecursion (λ x. (b ≡ true → x.fits ≡ true)) xs
each_if b [] h = tt
each_if b (x ∷ xs) h = (λ e. (h e).0, each_if b xs (λ e. (h e).1))

covers_each : (s : Option Sort) (parts : List Facts) → parts_sort parts ≡ s → AllByRecursion (λ x. CoversBy s x.sort) parts
covers_each s [] e = tt
covers_each (Some (Number i)) (x ∷ xs) e = (held_tail i (x ∷ xs) x.sort (record { inner = i; is = e; inside = inside_self i })).1
covers_each None (x ∷ xs) e = each_unit (x ∷ xs)
covers_each (Some Boolean) (x ∷ xs) e = each_unit (x ∷ xs)
covers_each (Some Symbol) (x ∷ xs) e = each_unit (x ∷ xs)
covers_each (Some Alias) (x ∷ xs) e = each_unit (x ∷ xs)
covers_each (Some Nothing) (x ∷ xs) e = each_unit (x ∷ xs)

in_hull : (i : Interval) (o : Option Sort) (v : Value) → is_same_kind (Some (Number i)) o ≡ true → Covers i o → FitsKnown o v → IsCount i v
in_hull i None v e c h = absurd h
in_hull i (Some Boolean) v e c h = cc
in_hull i (Some (Number j)) v e c h =
    let l = c.low in
    let u = c.high in
    let p = h.above in
    let q = h.below in
    record { number = h.number; is = h.is; above = omega (arith, ints); below = omega (arith, ints); within = h.within }
in_hull i (Some Symbol) v e c h = cc
in_hull i (Some Alias) v e c h = cc
in_hull i (Some Nothing) v e c h = cc

a_symbol : (o : Option Sort) (v : Value) → is_same_kind (Some Symbol) o ≡ true → FitsKnown o v → Fits Symbol v
a_symbol None v e h = cc
a_symbol (Some Boolean) v e h = cc
a_symbol (Some (Number j)) v e h = cc
a_symbol (Some Symbol) v e h = h
a_symbol (Some Alias) v e h = cc
a_symbol (Some Nothing) v e h = cc

no_alias : (o : Option Sort) → is_same_kind (Some Alias) o ≡ true → ⊥
no_alias None e = cc
no_alias (Some Boolean) e = cc
no_alias (Some (Number j)) e = cc
no_alias (Some Symbol) e = cc
no_alias (Some Alias) e = cc
no_alias (Some Nothing) e = cc

one_fits : (s : Option Sort) (x : Facts) (v : Value) → has_kind s ≡ true → is_small s ≡ true → suits s x ≡ true → CoversBy s x.sort → IsOf x v → FitsKnown s v
one_fits None x v k m u c h = cc
one_fits (Some Boolean) x v k m u c h = h.serves u
one_fits (Some (Number i)) x v k m u c h = in_hull i x.sort v u c h.sort
one_fits (Some Symbol) x v k m u c h = a_symbol x.sort v u h.sort
one_fits (Some Alias) x v k m u c h = absurd (no_alias x.sort u)
one_fits (Some Nothing) x v k m u c h = cc

-- the rules that a part of an expression keeps
pub record Node (s : Option Sort) (kinds small mods : Bool) : Type 0 where
  pub kinds_kept : kinds ≡ true
  pub small_kept : small ≡ true
  pub mods_kept : mods ≡ true
  pub kind : has_kind s ≡ true
  pub narrow : is_small s ≡ true

pub node_kept : (s : Option Sort) (fits kinds small mods : Bool) → IsKept (node s fits kinds small mods) → Node s kinds small mods
node_kept s fits kinds small mods h =
    let a = and_parts kinds (has_kind s) h.kinds in
    let b = and_parts small (is_small s) h.small in
    record { kinds_kept = a.0; small_kept = b.0; mods_kept = h.mods; kind = a.1; narrow = b.1 }

pub as_boolean : (s : Option Sort) (v : Value) → is_boolean s ≡ true → FitsKnown s v → IsTruth v
as_boolean None v e h = absurd h
as_boolean (Some Boolean) v e h = h
as_boolean (Some (Number j)) v e h = cc
as_boolean (Some Symbol) v e h = cc
as_boolean (Some Alias) v e h = cc
as_boolean (Some Nothing) v e h = cc

pub either_true : (p q : Bool) → p || q ≡ true → (p ≡ true) ⊎ (q ≡ true)
either_true true q h = inl refl
either_true false q h = inr h

-- the value of a part agrees with the facts of the whole set
pub part_of : (parts : List Facts) → IsKept (parts_facts parts) → AllByRecursion (λ x. (v : Value) → IsOf x v → IsOf (parts_facts parts) v) parts
part_of parts kept =
    let s = parts_sort parts in
    let n = node_kept s (is_boolean s || all_fit parts) (all_kinds parts && all_suit s parts) (all_small parts) (all_mods parts) kept in
    let k = and_parts (all_kinds parts) (all_suit s parts) n.kinds_kept in
    let suit = each_all (suits s) parts k.1 in
    let sorted = each_both (λ x. suits s x ≡ true) (λ x. CoversBy s x.sort) (λ x. (v : Value) → IsOf x v → FitsKnown s v) (λ x u c v h. one_fits s x v n.kind n.narrow u c h) parts suit (covers_each s parts refl) in
    each_both (λ x. (v : Value) → IsOf x v → FitsKnown s v) (λ x. (all_fit parts ≡ true → x.fits ≡ true)) (λ x. (v : Value) → IsOf x v → IsOf (parts_facts parts) v)
    (λ x fit all v h. record {
      sort = fit v h;
      serves = λ e. elim (either_true (is_boolean s) (all_fit parts) e) [ inl b ↦ as_boolean s v b (fit v h) | inr b ↦ h.serves (all b) ];
    }) parts sorted (each_if (all_fit parts) parts (λ e. each_all (λ x. x.fits) parts e))
