-- Marks, one more at a time.
use Rattle.std.proofs.Common.{◌≡◌, ◌↔◌, ◌⊎◌, ℕ, ◌-◌, drop, ◌+◌, ◌<◌, ◌≤◌, Bool, true, false, List, ◌∷◌, ◌++◌, [], length, set, get_or, take, min, arith, inl, inr, sym, ◌∙◌, ap, subst}
use Rattle.std.specs.Prelude.{Contains}
use Rattle.std.proofs.lemmas.Bool.{cases_eq, both_ways}
use Rattle.std.specs.List.{slice_range}
use Rattle.std.proofs.lemmas.List.{get_or-take, get_or-drop, get_or-set_same, get_or-set_other, length-set, take_more, get_or_default}
use Rattle.std.proofs.lemmas.List.Elements.{Contains-push, Contains-push_cases, Contains-append_left}
use Rattle.sat_lits.specs.Literals.{variable_of}
use Rattle.sat_analyze.specs.Marked.{IsMarked, IsPositionOf, IsLowest}

IsMarked-set : (seen : List Bool) (p i : ℕ) → p < length seen → IsMarked (set seen p true) i → IsMarked seen i ⊎ (i ≡ p)
IsMarked-set seen p i room marked = elim (cases_eq i p) [
  | inl same ↦ inr same
  | inr differ ↦ inl (sym (get_or-set_other seen p i true false differ) ∙ marked)
]

IsMarked-stays : (seen : List Bool) (p i : ℕ) → p < length seen → IsMarked seen i → IsMarked (set seen p true) i
IsMarked-stays seen p i room marked = elim (cases_eq i p) [
  | inl same ↦ ap (λ n. get_or (set seen p true) n false) same ∙ get_or-set_same seen p true false room
  | inr differ ↦ get_or-set_other seen p i true false differ ∙ marked
]

IsMarked-new : (seen : List Bool) (p : ℕ) → p < length seen → IsMarked (set seen p true) p
IsMarked-new seen p room = get_or-set_same seen p true false room

-- ---- The positions of the first literals

pub record MarksFirst (positions lits : List ℕ) (k : ℕ) (before after : List Bool) : Type 0 where
  pub exact : (i : ℕ) → IsMarked after i ↔ (IsMarked before i ⊎ IsPositionOf positions (take k lits) i)

IsPositionOf-more : (positions lits : List ℕ) (lit i : ℕ) → IsPositionOf positions lits i → IsPositionOf positions (lits ++ lit ∷ []) i
IsPositionOf-more positions lits lit i old = record { literal = old.literal; holds = Contains-append_left lits (lit ∷ []) old.literal old.holds; there = old.there }

pub MarksFirst-none : (positions lits : List ℕ) (seen : List Bool) → MarksFirst positions lits 0 seen seen
MarksFirst-none positions lits seen = record { exact = λ i. (λ marked. inl marked, λ either. elim either [ inl marked ↦ marked | inr none ↦ absurd (omega (arith, none.holds.1)) ]) }

pub MarksFirst-more : (positions lits : List ℕ) (k lit p : ℕ) (before after : List Bool) → k < length lits → get_or lits k lit ≡ lit → p ≡ get_or positions (variable_of lit) 0 → p < length after → MarksFirst positions lits k before after → MarksFirst positions lits (k + 1) before (set after p true)
MarksFirst-more positions lits k lit p before after within here there room first = record {
  exact = λ i.
      let more : take (k + 1) lits ≡ take k lits ++ lit ∷ [] = take_more lits k lit within ∙ ap (λ l. take k lits ++ l ∷ []) here in (
        λ marked. subst (λ (ls : List ℕ). IsMarked before i ⊎ IsPositionOf positions ls i) (sym more) (elim (IsMarked-set after p i room marked) [
          | inl old ↦ elim ((first.exact i).0 old) [ inl was ↦ inl was | inr position ↦ inr (IsPositionOf-more positions (take k lits) lit i position) ]
          | inr same ↦ inr (record { literal = lit; holds = Contains-push (take k lits) lit; there = sym there ∙ sym same })
        ]),
        λ either. elim either [
          | inl was ↦ IsMarked-stays after p i room ((first.exact i).1 (inl was))
          | inr position ↦
              elim (Contains-push_cases (take k lits) lit position.literal (subst (λ (ls : List ℕ). Contains ls position.literal) more position.holds)) [
                | inl old ↦ IsMarked-stays after p i room ((first.exact i).1 (inr (record { literal = position.literal; holds = old; there = position.there })))
                | inr same ↦ subst (IsMarked (set after p true)) (there ∙ ap (λ l. get_or positions (variable_of l) 0) same ∙ position.there) (IsMarked-new after p room)
              ]
        ],
      );
}

-- ---- The lowest mark

pub IsLowest-lower : (seen : List Bool) (start lowest p : ℕ) → p < length seen → start ≤ p → IsLowest seen start lowest → IsLowest (set seen p true) start (min lowest p)
IsLowest-lower seen start lowest p room from low = record {
  least = λ i after marked. elim (IsMarked-set seen p i room marked) [
    | inl old ↦ (let least : lowest ≤ i = low.least i after old in omega arith)
    | inr same ↦ omega arith
  ];
  within = (let long : length (set seen p true) ≡ length seen = length-set seen p true in omega arith);
  reached = λ inside. elim (cases_eq (min lowest p) p) [
    | inl same ↦ (subst (IsMarked (set seen p true)) (sym same) (IsMarked-new seen p room), omega arith)
    | inr differ ↦
        let is : min lowest p ≡ lowest = omega arith in
        let old = low.reached (omega arith) in
        (subst (IsMarked (set seen p true)) (sym is) (IsMarked-stays seen p lowest room old.0), omega (arith, old.1))
  ];
}

pub IsLowest-stays : (seen : List Bool) (start lowest p : ℕ) → p < length seen → p < start → IsLowest seen start lowest → IsLowest (set seen p true) start lowest
IsLowest-stays seen start lowest p room before low = record {
  least = λ i after marked. elim (IsMarked-set seen p i room marked) [
    | inl old ↦ low.least i after old
    | inr same ↦ absurd (omega arith)
  ];
  within = (let long : length (set seen p true) ≡ length seen = length-set seen p true in let within = low.within in omega arith);
  reached = λ inside.
      let long : length (set seen p true) ≡ length seen = length-set seen p true in
      let old = low.reached (omega arith) in (IsMarked-stays seen p lowest room old.0, old.1);
}

-- ---- Marks as they are read

pub marked_read : (seen : List Bool) (p : ℕ) (read : Bool) → p < length seen → read ≡ get_or seen p read → read ≡ true → IsMarked seen p
marked_read seen p read within is true_there = get_or_default seen p false read within ∙ sym is ∙ true_there

pub unmarked_read : (seen : List Bool) (p : ℕ) (read : Bool) → p < length seen → read ≡ get_or seen p read → read ≡ false → IsMarked seen p → ⊥
unmarked_read seen p read within is false_there marked = both_ways read false_there (is ∙ get_or_default seen p read false within ∙ marked)

-- where a block has no mark, none of its positions has one
pub unmarked_block : (seen read : List Bool) (from to i : ℕ) → read ≡ seen → ((k : ℕ) → IsMarked (slice_range read from to) k → ⊥) → from ≤ i → i < to → IsMarked seen i → ⊥
unmarked_block seen read from to i same none low high marked =
    none (i - from)
    (get_or-take (to - from) (drop from read) (i - from) false (omega arith)
    ∙ get_or-drop from read (i - from) false
    ∙ ap (λ k. get_or read k false) (omega arith)
    ∙ ap (λ fs. get_or fs i false) same
    ∙ marked)
