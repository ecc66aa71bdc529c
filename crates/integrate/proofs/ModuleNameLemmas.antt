-- Sets of names in modules: insertions, and what is in the sets of a list of names.
use Rattle.std.proofs.Common.{◌≡◌, ℕ, ◌+◌, List, [], ◌∷◌, Bool, true, false, ◌||◌, ◌&&◌, cond, refl, sym, ap, ◌∙◌, nat_lt, arith}
use Rattle.std.specs.Str.{bytes_eq}
use Rattle.std.specs.HashSet.{Updates, IsEmpty}
use Rattle.std.specs.List.{list_any, count_by}
use Rattle.std.proofs.Math.Bool.{or_assoc}
use Rattle.std.proofs.lemmas.List.Sums.{sum_by-cons}
use Rattle.std.proofs.lemmas.Slice.Eq.{bytes_eq-Decides}
use mathlib.Core.Path.{fun_ext}
use Rattle.smv_meaning.specs.Value.{Name}
use Rattle.smv_meaning.proofs.NameSetLemmas.{bytes_eq-swapped}
use Rattle.integrate.specs.Introductions.{ModuleName, is_name_in, is_among, is_repeated}
use Rattle.integrate.specs.ModuleNames.{Held, NameSet, in_names, name_view, no_name, and_name, and_names, Met, met_again, and_met, all_met}

-- ---- insertions

either_way : (b c x : Bool) → b ≡ c → cond b true x ≡ (x || c)
either_way true c true e = refl
either_way true c false e = e
either_way false c true e = refl
either_way false c false e = e

both_swapped : (n : Held) (called name : Name) → (bytes_eq n.0.now called && bytes_eq n.1.now name) ≡ (bytes_eq called n.0.now && bytes_eq name n.1.now)
both_swapped n called name = ap (λ b. b && bytes_eq n.1.now name) (bytes_eq-swapped n.0.now called) ∙ ap (λ b. bytes_eq called n.0.now && b) (bytes_eq-swapped n.1.now name)

-- a set with one more name
pub in_names_inserted : (s n : NameSet) (k : Held) → Updates (λ x y. bytes_eq x.0.now y.0.now && bytes_eq x.1.now y.1.now) s n k true → in_names n ≡ and_name (in_names s) (name_view k)
in_names_inserted s n k h = fun_ext (λ called. fun_ext (λ name. h.0 (record { ref_ptr = (0, 0); now = called }, record { ref_ptr = (0, 0); now = name }) ∙ either_way _ _ _ (both_swapped k called name)))

-- an empty set has no name
pub in_names_empty : (s : NameSet) → IsEmpty s → in_names s ≡ no_name
in_names_empty s h = fun_ext (λ called. fun_ext (λ name. ap (λ (ks : List Held). list_any (λ n. bytes_eq called n.0.now && bytes_eq name n.1.now) ks) h))

-- ---- all names of a list

or_false : (b : Bool) → b ≡ (b || false)
or_false true = refl
or_false false = refl

among : (names : List ModuleName) (has : Name → Name → Bool) (called name : Name) → and_names has names called name ≡ (has called name || is_among names called name)
among [] has called name = or_false (has called name)
among (n ∷ names) has called name = among names (and_name has n) called name ∙ or_assoc (has called name) (is_name_in called name n) (is_among names called name)

-- the set of all names of a list has those that stand in it
pub all_among : (names : List ModuleName) → and_names no_name names ≡ is_among names
all_among names = fun_ext (λ called. fun_ext (λ name. among names no_name called name))

-- ---- names that stand in a list more than once

-- the number of a truth value
abbrev bit : Bool → ℕ
bit b = cond b 1 0

same_name : (called name : Name) (n : ModuleName) → is_name_in called name n ≡ true → (called ≡ n.0) × (name ≡ n.1)
same_name called name n e = at (bytes_eq called n.0) (bytes_eq name n.1) refl refl e
  where
    at : (b c : Bool) → bytes_eq called n.0 ≡ b → bytes_eq name n.1 ≡ c → (b && c) ≡ true → (called ≡ n.0) × (name ≡ n.1)
    at true true h k e = ((bytes_eq-Decides called n.0).0 h, (bytes_eq-Decides name n.1).0 k)
    at true false h k e = cc
    at false c h k e = cc

-- another name leaves what is known of this one
other_name : (met : Met) (n : ModuleName) (called name : Name) → is_name_in called name n ≡ false → met_again met n called name ≡ met.1 called name
other_name met n called name e = at (met.0 n.0 n.1)
  where
    at : (b : Bool) → (cond b (and_name met.1 n) met.1) called name ≡ met.1 called name
    at true = ap (λ b. met.1 called name || b) e ∙ sym (or_false (met.1 called name))
    at false = refl

-- the same name was met again where it was met before
this_name : (met : Met) (n : ModuleName) (called name : Name) → is_name_in called name n ≡ true → met_again met n called name ≡ (met.1 called name || met.0 called name)
this_name met n called name e =
    let same = same_name called name n e in
    at (met.0 n.0 n.1) ∙ ap (λ (b : Bool). met.1 called name || b) (ap (λ (c : Name). met.0 c n.1) (sym same.0) ∙ ap (met.0 called) (sym same.1))
  where
    at : (b : Bool) → (cond b (and_name met.1 n) met.1) called name ≡ (met.1 called name || b)
    at true = ap (λ b. met.1 called name || b) e
    at false = or_false (met.1 called name)

or_true : (b : Bool) → (b || true) ≡ true
or_true true = refl
or_true false = refl

many : (k : ℕ) → nat_lt 1 (1 + (1 + k)) ≡ true
many k = grind arith

-- one more occurrence
one_more : (again met : Bool) (k : ℕ) → ((again || met) || nat_lt 1 (bit (met || true) + k)) ≡ (again || nat_lt 1 (bit met + (1 + k)))
one_more true met k = refl
one_more false true k = sym (many k)
one_more false false k = ap (nat_lt 1) (omega arith)

none_more : (again met : Bool) (k : ℕ) → (again || nat_lt 1 (bit (met || false) + k)) ≡ (again || nat_lt 1 (bit met + (0 + k)))
none_more again true k = ap (λ m. again || nat_lt 1 (1 + m)) (omega arith)
none_more again false k = ap (λ m. again || nat_lt 1 m) (omega arith)

met_counts : (names : List ModuleName) (met : Met) (called name : Name) → (all_met met names).1 called name ≡ (met.1 called name || nat_lt 1 (bit (met.0 called name) + count_by (is_name_in called name) names))
met_counts [] met called name = at (met.0 called name)
  where
    at : (b : Bool) → met.1 called name ≡ (met.1 called name || nat_lt 1 (bit b + 0))
    at true = or_false (met.1 called name)
    at false = or_false (met.1 called name)
met_counts (n ∷ names) met called name =
    met_counts names (and_met met n) called name ∙ (at (is_name_in called name n) refl
    ∙ ap (λ (m : ℕ). met.1 called name || nat_lt 1 (bit (met.0 called name) + m)) (sym (sum_by-cons (λ m. cond (is_name_in called name m) 1 0) n names)))
  where
    k : ℕ
    k = count_by (is_name_in called name) names

    at : (b : Bool) → is_name_in called name n ≡ b → (met_again met n called name || nat_lt 1 (bit (met.0 called name || is_name_in called name n) + k)) ≡ (met.1 called name || nat_lt 1 (bit (met.0 called name) + (cond (is_name_in called name n) 1 0 + k)))
    at true e = ap (λ (b : Bool). b || nat_lt 1 (bit (met.0 called name || is_name_in called name n) + k)) (this_name met n called name e)
        ∙ (ap (λ (b : Bool). (met.1 called name || met.0 called name) || nat_lt 1 (bit (met.0 called name || b) + k)) e
        ∙ (one_more (met.1 called name) (met.0 called name) k
        ∙ ap (λ (b : Bool). met.1 called name || nat_lt 1 (bit (met.0 called name) + (cond b 1 0 + k))) (sym e)))
    at false e = ap (λ (b : Bool). b || nat_lt 1 (bit (met.0 called name || is_name_in called name n) + k)) (other_name met n called name e)
        ∙ (ap (λ (b : Bool). met.1 called name || nat_lt 1 (bit (met.0 called name || b) + k)) e
        ∙ (none_more (met.1 called name) (met.0 called name) k
        ∙ ap (λ (b : Bool). met.1 called name || nat_lt 1 (bit (met.0 called name) + (cond b 1 0 + k))) (sym e)))

-- the names that were met again stand in the list more than once
pub repeated : (names : List ModuleName) → (all_met (no_name, no_name) names).1 ≡ is_repeated names
repeated names = fun_ext (λ called. fun_ext (λ name. met_counts names (no_name, no_name) called name ∙ ap (nat_lt 1) (omega arith)))
