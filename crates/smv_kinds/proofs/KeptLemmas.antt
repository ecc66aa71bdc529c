-- The parts of an expression that keeps the rules keep them.
use Rattle.std.proofs.Common.{◌≡◌, true, false, ◌&&◌, ◌||◌, List, [], ◌∷◌, Some, refl}
use Rattle.std.proofs.lemmas.Bool.{and_parts}
use Rattle.smv_ast.specs.declared.syntax.Op.{Op}
use Rattle.smv_kinds.specs.declared.facts.Facts.{Facts}
use Rattle.smv_kinds.specs.Sorts.{is_boolean, is_number, has_kind, is_small, binary_sort, truth_sort, if_known, negated_sort, interval_sort}
use Rattle.smv_kinds.specs.Facts.{negation_facts, not_facts, next_facts, binary_facts, binary_rule, mod_rule, parts_sort, parts_facts, case_facts, within_choice, all_kinds, all_small, all_mods, all_fit, all_suit, all_agree, ChoiceFacts, Parts, Between, pick_facts}
use Rattle.smv_kinds.specs.Soundness.{IsKept}
use Rattle.smv_kinds.proofs.PartLemmas.{node_kept}

-- ---- parts of a set

-- each of these keeps the rules
pub record AllKept (fs : List Facts) : Type 0 where
  pub kinds : all_kinds fs ≡ true
  pub small : all_small fs ≡ true
  pub mods : all_mods fs ≡ true

pub first_kept : (f : Facts) (fs : List Facts) → AllKept (f ∷ fs) → IsKept f × AllKept fs
first_kept f fs h =
    let a = and_parts f.kinds (all_kinds fs) h.kinds in
    let b = and_parts f.small (all_small fs) h.small in
    let c = and_parts f.mods (all_mods fs) h.mods in
    (record { kinds = a.0; small = b.0; mods = c.0 }, record { kinds = a.1; small = b.1; mods = c.1 })

pub parts_kept : (fs : List Facts) → IsKept (parts_facts fs) → AllKept fs
parts_kept fs h =
    let n = node_kept (parts_sort fs) (is_boolean (parts_sort fs) || all_fit fs) (all_kinds fs && all_suit (parts_sort fs) fs) (all_small fs) (all_mods fs) h in
    record { kinds = (and_parts (all_kinds fs) (all_suit (parts_sort fs) fs) n.kinds_kept).0; small = n.small_kept; mods = n.mods_kept }

-- the list is not empty
abbrev pub HasOne : {A : Type 0} → List A → Type 0
HasOne [] = ⊥
HasOne (x ∷ xs) = Unit {0}

has_one : (fs : List Facts) → has_kind (parts_sort fs) ≡ true → HasOne fs
has_one [] h = cc
has_one (f ∷ fs) h = tt

-- ---- a case

-- the conditions and the values of a case keep the rules, and there is a branch
pub record CaseKept (conds values : List Facts) : Type 0 where
  pub set : IsKept (parts_facts values)
  pub conds_kept : AllKept conds
  pub fit : all_fit conds ≡ true
  pub one : HasOne values

pub case_kept : (conds values : List Facts) → IsKept (case_facts conds values) → CaseKept conds values
case_kept conds values k =
    let set = parts_facts values in
    let b = and_parts (set.kinds && all_kinds conds) (all_fit conds) k.kinds in
    let a = and_parts set.kinds (all_kinds conds) b.0 in
    let c = and_parts set.small (all_small conds) k.small in
    let d = and_parts set.mods (all_mods conds) k.mods in
    let e = and_parts (all_kinds values && all_suit (parts_sort values) values) (has_kind (parts_sort values)) a.0 in
    record {
      set = record { kinds = a.0; small = c.0; mods = d.0 };
      conds_kept = record { kinds = a.1; small = c.1; mods = d.1 };
      fit = b.1;
      one = has_one values e.1;
    }

-- ---- operators

pub negation_kept : (a : Facts) → IsKept (negation_facts a) → IsKept a × (is_number a.sort ≡ true) × (is_small (negated_sort a.sort) ≡ true)
negation_kept a k =
    let d = node_kept (negated_sort a.sort) false (a.kinds && is_number a.sort) a.small a.mods k in
    let e = and_parts a.kinds (is_number a.sort) d.kinds_kept in
    (record { kinds = e.0; small = d.small_kept; mods = d.mods_kept }, e.1, d.narrow)

pub not_kept : (a : Facts) → IsKept (not_facts a) → IsKept a × (a.fits ≡ true)
not_kept a k =
    let d = node_kept (truth_sort a.sort) true (a.kinds && a.fits) a.small a.mods k in
    let e = and_parts a.kinds a.fits d.kinds_kept in
    (record { kinds = e.0; small = d.small_kept; mods = d.mods_kept }, e.1)

pub next_kept : (a : Facts) → IsKept (next_facts a) → IsKept a
next_kept a k =
    let d = node_kept a.sort (is_boolean a.sort) a.kinds a.small a.mods k in
    record { kinds = d.kinds_kept; small = d.small_kept; mods = d.mods_kept }

-- the requirements of an operator on its operands
pub record BinaryKept (p : Op) (a b : Facts) : Type 0 where
  pub left : IsKept a
  pub right : IsKept b
  pub rule : binary_rule p a b ≡ true
  pub divides : mod_rule p a b ≡ true
  pub narrow : is_small (binary_sort p a.sort b.sort) ≡ true

pub binary_kept : (p : Op) (a b : Facts) → IsKept (binary_facts p a b) → BinaryKept p a b
binary_kept p a b k =
    let s = binary_sort p a.sort b.sort in
    let d = node_kept s (is_boolean s) (a.kinds && b.kinds && binary_rule p a b) (a.small && b.small) (a.mods && b.mods && mod_rule p a b) k in
    let e = and_parts (a.kinds && b.kinds) (binary_rule p a b) d.kinds_kept in
    let f = and_parts a.kinds b.kinds e.0 in
    let g = and_parts a.small b.small d.small_kept in
    let h = and_parts (a.mods && b.mods) (mod_rule p a b) d.mods_kept in
    let i = and_parts a.mods b.mods h.0 in
    record {
      left = record { kinds = f.0; small = g.0; mods = i.0 };
      right = record { kinds = f.1; small = g.1; mods = i.1 };
      rule = e.1;
      divides = h.1;
      narrow = d.narrow;
    }

-- the two sides of `in`
pub within_kept : (a : Facts) (c : ChoiceFacts) → IsKept (within_choice a c) → IsKept a × IsKept (pick_facts c)
within_kept a (Parts parts) k =
    let set = parts_facts parts in
    let d = node_kept (if_known a.sort (truth_sort set.sort)) true (a.kinds && set.kinds && all_agree a parts) (a.small && set.small) (a.mods && set.mods) k in
    let e = and_parts (a.kinds && set.kinds) (all_agree a parts) d.kinds_kept in
    let f = and_parts a.kinds set.kinds e.0 in
    let g = and_parts a.small set.small d.small_kept in
    let i = and_parts a.mods set.mods d.mods_kept in
    (record { kinds = f.0; small = g.0; mods = i.0 }, record { kinds = f.1; small = g.1; mods = i.1 })
within_kept a (Between low high) k =
    let d = node_kept (truth_sort a.sort) true (a.kinds && is_number a.sort) (a.small && is_small (Some (interval_sort low high))) a.mods k in
    let e = and_parts a.kinds (is_number a.sort) d.kinds_kept in
    let g = and_parts a.small (is_small (Some (interval_sort low high))) d.small_kept in
    (record { kinds = e.0; small = g.0; mods = d.mods_kept }, record { kinds = refl; small = g.1; mods = refl })
