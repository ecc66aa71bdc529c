-- Going back to a level.
use Rattle.std.proofs.Common.{◌≡◌, ℕ, ◌==◌, ◌||◌, ◌&&◌, ◌≤◌, ◌<◌, ◌+◌, ◌-◌, ◌*◌, Bool, true, false, not, cond, List, [], ◌∷◌, ◌++◌, length, get_or, take, drop, arith, inl, inr, sym, ◌∙◌, ap, subst, refl, append-nil, length-drop}
use Rattle.std.specs.Prelude.{All, nat_le}
use Rattle.std.specs.List.{AllPairs, Any}
use Rattle.std.proofs.lemmas.Bool.{cases_eq, le-leb, lt-leb, eqb-true}
use Rattle.std.proofs.lemmas.List.{take-append-drop, get_or_default, get_or-take, get_or-drop, length-take-le}
use Rattle.std.proofs.lemmas.List.Folds.{list_any-append, Any-from_list_any}
use Rattle.std.proofs.lemmas.List.Elements.{All-head, All-tail, All-filter, All-from_get_or, filter_more}
use Rattle.std.proofs.lemmas.List.Kept.{AllPairs-filter}
use Rattle.sat_lits.specs.Literals.{variable_of}
use Rattle.sat_arena.specs.declared.trail.Assigned.{Assigned}
use Rattle.sat_arena.specs.Trails.{true_in, up_to, marked, IsGrown, IsOrderly, KeepsTogether}
use Rattle.sat_arena.proofs.TrailLemmas.{HaveTwoVariables}

pub IsOrderly-up_to : (level : ℕ) (entries : List Assigned) (vars : ℕ) → IsOrderly entries vars → IsOrderly (up_to level entries) vars
IsOrderly-up_to level entries vars orderly = record {
  apart = AllPairs-filter HaveTwoVariables (λ e. nat_le e.level level) entries orderly.apart;
  rising = AllPairs-filter (λ e f. e.level ≤ f.level) (λ e. nat_le e.level level) entries orderly.rising;
  within = All-filter (λ e. nat_le e.level level) (λ e. IsGrown vars e.lit) entries orderly.within;
}

-- entries that are all of these levels
pub up_to-all : (level : ℕ) (entries : List Assigned) → All (λ e. e.level ≤ level) entries → up_to level entries ≡ entries
up_to-all level [] low = refl
up_to-all level (e ∷ es) low =
    ap (λ b. cond b (e ∷ up_to level es) (up_to level es)) (le-leb e.level level (All-head (λ (f : Assigned). f.level ≤ level) e es low))
    ∙ ap (λ xs. e ∷ xs) (up_to-all level es (All-tail (λ (f : Assigned). f.level ≤ level) e es low))

-- the last of the first entries stands above the level
pub up_to-fewer : (level : ℕ) (entries : List Assigned) (i : ℕ) (d : Assigned) → i < length entries → level < (get_or entries i d).level → up_to level (take (i + 1) entries) ≡ up_to level (take i entries)
up_to-fewer level entries i d within above =
    filter_more (λ e. nat_le e.level level) entries i d within
    ∙ ap (λ b. up_to level (take i entries) ++ cond b (get_or entries i d ∷ []) []) (lt-leb (get_or entries i d).level level above)
    ∙ append-nil (up_to level (take i entries))

-- the first entries stand up to the level where the last of them does
pub up_to-prefix : (level : ℕ) (entries : List Assigned) (n : ℕ) (d : Assigned) → AllPairs (λ e f. e.level ≤ f.level) entries → 0 < n → n ≤ length entries → (get_or entries (n - 1) d).level ≤ level → up_to level (take n entries) ≡ take n entries
up_to-prefix level entries n d rising some within last =
    up_to-all level (take n entries) (All-from_get_or (λ (e : Assigned). e.level ≤ level) (take n entries) d (λ i h.
    let short : length (take n entries) ≡ n = length-take-le n entries within in
    let at : get_or (take n entries) i d ≡ get_or entries i d = get_or-take n entries i d (omega arith) in
    subst (λ (e : Assigned). e.level ≤ level) (sym at) (elim (cases_eq i (n - 1)) [
      | inl e ↦ subst (λ (k : ℕ). (get_or entries k d).level ≤ level) (sym e) last
      | inr ne ↦ (let order : (get_or entries i d).level ≤ (get_or entries (n - 1) d).level = rising i (n - 1) d (omega arith) (omega arith) in omega arith)
    ])))

-- what was true before a position is not true from there on
prefix_only : (entries : List Assigned) (n : ℕ) → n ≤ length entries → AllPairs HaveTwoVariables entries → (l : ℕ) → true_in (take n entries) l ≡ true → true_in (drop n entries) l ≡ true → ⊥
prefix_only entries n within apart l p q =
    let first : Any (λ (e : Assigned). (e.lit == l) ≡ true) (take n entries) = Any-from_list_any (λ (e : Assigned). e.lit == l) (take n entries) p in
    let second : Any (λ (e : Assigned). (e.lit == l) ≡ true) (drop n entries) = Any-from_list_any (λ (e : Assigned). e.lit == l) (drop n entries) q in
    let d = first.1 in
    let short : length (take n entries) ≡ n = length-take-le n entries within in
    let long : length (drop n entries) ≡ length entries - n = length-drop n entries in
    let at_first : get_or entries first.0 d ≡ first.1 = sym (get_or-take n entries first.0 d (omega (arith, first.2))) ∙ first.3 in
    let at_second : get_or entries (n + second.0) d ≡ second.1 = sym (get_or-drop n entries second.0 d) ∙ get_or_default (drop n entries) second.0 d second.1 second.2 ∙ second.3 in
    let same : (get_or entries first.0 d).lit ≡ (get_or entries (n + second.0) d).lit
    = ap (λ e. e.lit) at_first ∙ eqb-true first.1.lit l first.4 ∙ sym (eqb-true second.1.lit l second.4) ∙ sym (ap (λ e. e.lit) at_second) in
    apart first.0 (n + second.0) d (omega (arith, first.2)) (omega (arith, second.2)) (ap variable_of same)

prefix_alone : (a b : Bool) → (a ≡ true → b ≡ true → ⊥) → ((a || b) && not b) ≡ a
prefix_alone true true apart = absurd (apart refl refl)
prefix_alone true false apart = refl
prefix_alone false true apart = refl
prefix_alone false false apart = refl

-- a trail that was cut after a level, with the literals of the suffix taken out
pub KeepsTogether-back : (entries : List Assigned) (truth truth' : List Bool) (positions : List ℕ) (vars capacity capacity' level n : ℕ) → KeepsTogether entries truth positions vars capacity → n ≤ length entries → take n entries ≡ up_to level entries → length truth' ≡ length truth → ((l : ℕ) → marked truth' l ≡ (marked truth l && not (true_in (drop n entries) l))) → capacity ≤ capacity' → KeepsTogether (take n entries) truth' positions vars capacity'
KeepsTogether-back entries truth truth' positions vars capacity capacity' level n kept within is long cleared more = record {
  orderly = subst (λ (es : List Assigned). IsOrderly es vars) (sym is) (IsOrderly-up_to level entries vars kept.orderly);
  literal_set = λ l.
      cleared l
      ∙ ap (λ b. b && not (true_in (drop n entries) l))
      (kept.literal_set l ∙ ap (λ es. true_in es l) (sym (take-append-drop n entries)) ∙ list_any-append (λ e. e.lit == l) (take n entries) (drop n entries))
      ∙ prefix_alone (true_in (take n entries) l) (true_in (drop n entries) l) (prefix_only entries n within kept.orderly.apart l);
  positions_are = λ i d h.
      let short : length (take n entries) ≡ n = length-take-le n entries within in
      ap (λ (e : Assigned). get_or positions (variable_of e.lit) 0) (get_or-take n entries i d (omega arith)) ∙ kept.positions_are i d (omega arith);
  positions_room = kept.positions_room;
  set_fits = omega (arith, kept.set_fits);
  set_room = λ some. (let room : 2 * vars + 2 ≤ length truth = kept.set_room some in omega arith);
  reserved = λ some. (let room : vars + 1 ≤ capacity = kept.reserved some in omega arith);
}

-- the code of each literal on the trail lies within the set
pub has_member : (entries : List Assigned) (truth : List Bool) (positions : List ℕ) (vars capacity : ℕ) → KeepsTogether entries truth positions vars capacity → All (λ e. e.lit < length truth) entries
has_member entries truth positions vars capacity kept k d within =
    let grown : IsGrown vars (get_or entries k d).lit = kept.orderly.within k d within in
    let some : 0 < vars = omega (arith, grown.0, grown.1) in
    let room : 2 * vars + 2 ≤ length truth = kept.set_room some in
    omega (arith, grown.1)
