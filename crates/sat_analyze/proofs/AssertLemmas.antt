-- The learnt clause, from the walk that found it.
use Rattle.std.proofs.Common.{◌≡◌, ◌⊎◌, ℕ, ◌<◌, ◌≤◌, List, [], ◌∷◌, length, get_or, arith, inl, inr, sym, ◌∙◌, ap, subst, refl}
use Rattle.std.specs.Prelude.{Contains}
use Rattle.std.proofs.lemmas.Bool.{cases_eq}
use Rattle.std.proofs.lemmas.List.Elements.{Contains-get_or}
use Rattle.sat_lits.specs.Literals.{negation, variable_of}
use Rattle.sat_arena.specs.declared.trail.Assigned.{Assigned}
use Rattle.sat_arena.specs.Stored.{Stored}
use Rattle.sat_arena.specs.ArenaState.{clauses_of}
use Rattle.sat_arena.specs.Trails.{IsOrderly}
use Rattle.sat_arena.specs.Justified.{current_level, IsEntryAt, IsTrueAt, HasPositions}
use Rattle.sat_analyze.specs.declared.walk.Walk.{Walk}
use Rattle.sat_analyze.specs.declared.walk.Keeping.TheVariants.{Needed}
use Rattle.sat_analyze.specs.declared.learnt.Learnt.{Learnt}
use Rattle.sat_analyze.specs.Derived.{HasVariable}
use Rattle.sat_analyze.specs.Marked.{IsMarked}
use Rattle.sat_analyze.specs.Walked.{IsStart, IsWalk, Meets, IsFresh, KeepsPoint, IsKept, KeepsMore}
use Rattle.sat_analyze.specs.Learnt.{IsNewlyFalse, Asserts, IsLearnt, IsLeft}
use Rattle.sat_analyze.proofs.BeforeLemmas.{variable_of-negation}
use Rattle.sat_analyze.proofs.PositionLemmas.{current_level_most}
use Rattle.sat_analyze.proofs.ClauseLemmas.{negation-negation}
use Rattle.sat_analyze.proofs.LearntLemmas.{clause_holds, kept_holds, empty_clause, right_clause, one_entry, true_in_from_entry, level_of}

-- all that is known where learning ends: the walk down to the point, the suffix of it, and what is left
pub record HasLearnt (stored : List Stored) (entries : List Assigned) (vars : ℕ) (met point suffix : Walk) (learnt : Learnt) : Type 0 where
  pub orderly : IsOrderly entries vars
  pub start : IsStart entries met.marks.start
  pub marked : 0 < current_level entries → met.marks.lowest < length entries
  pub points : KeepsPoint stored entries met point
  pub walk : IsWalk stored entries 0 suffix
  pub more : KeepsMore entries Needed point.marks.lowest point.kept.items suffix
  pub same_start : suffix.marks.start ≡ point.marks.start
  pub apart : point.marks.lowest ≤ point.marks.lowest → point.marks.lowest ≤ suffix.marks.lowest
  pub left : IsLeft suffix learnt

-- the entry of a kept literal
pub record HasEntry (stored : List Stored) (entries : List Assigned) (m : ℕ) : Type 0 where
  pub position : ℕ
  pub entry : Assigned
  pub stands : IsEntryAt entries position entry
  pub of_literal : entry.lit ≡ m
  pub above : 0 < entry.level
  pub variable : HasVariable (clauses_of stored) (variable_of m)

-- the point, where there is one
pub record IsPoint (stored : List Stored) (entries : List Assigned) (point : Walk) (entry : Assigned) : Type 0 where
  pub stands : IsEntryAt entries point.marks.lowest entry
  pub kept : point.kept.items ≡ entry.lit ∷ []
  pub level : entry.level ≡ current_level entries
  pub above : 0 < current_level entries
  pub variable : HasVariable (clauses_of stored) (variable_of entry.lit)

pub only_one : (ks : List ℕ) (l m : ℕ) → ks ≡ l ∷ [] → Contains ks m → m ≡ l
only_one ks l m is holds =
    let there : Contains (l ∷ []) m = subst (λ (xs : List ℕ). Contains xs m) is holds in
    let first : there.0 ≡ 0 = omega (arith, there.1) in
    sym there.2 ∙ ap (λ k. get_or (l ∷ []) k m) first

point_of : (stored : List Stored) (entries : List Assigned) (met point : Walk) (entry : Assigned) → IsStart entries met.marks.start → KeepsPoint stored entries met point → IsEntryAt entries point.marks.lowest entry → point.kept.items ≡ entry.lit ∷ [] → IsPoint stored entries point entry
point_of stored entries met point entry start points at kept =
    let sized : length point.marks.seen.items ≡ length entries = points.walk.marks.sized in
    let reached = points.walk.marks.lowest.reached (omega (arith, at.0)) in
    let same : point.marks.start ≡ met.marks.start = points.start in
    let level = start.after point.marks.lowest entry at (omega (arith, reached.1)) in
    record { stands = at; kept = kept; level = level.0; above = level.1; variable = points.walk.listed point.marks.lowest entry at reached.0 }

entry_of : (stored : List Stored) (entries : List Assigned) (vars : ℕ) (met point suffix : Walk) (learnt : Learnt) → HasLearnt stored entries vars met point suffix learnt → (m : ℕ) → Contains suffix.kept.items m → HasEntry stored entries m
entry_of stored entries vars met point suffix learnt has m holds = elim (has.more.added m holds) [
  | inr kept ↦ record {
    position = kept.position;
    entry = kept.entry;
    stands = kept.stands;
    of_literal = kept.of_literal;
    above = kept.above;
    variable = subst (λ (n : ℕ). HasVariable (clauses_of stored) (variable_of n)) kept.of_literal (has.walk.listed kept.position kept.entry kept.stands kept.is_marked);
  }
  | inl old ↦ elim has.points.point [
    | inl none ↦ absurd (let inside : old.0 < length point.kept.items = old.1 in let empty : length point.kept.items ≡ 0 = ap length none.0 in omega arith)
    | inr one ↦
        let is = point_of stored entries met point one.0 has.start has.points one.1 one.2 in
        let same : m ≡ one.0.lit = only_one point.kept.items one.0.lit m one.2 old in
        record {
          position = point.marks.lowest;
          entry = one.0;
          stands = one.1;
          of_literal = sym same;
          above = (let level = is.level in let above = is.above in omega arith);
          variable = subst (λ (n : ℕ). HasVariable (clauses_of stored) (variable_of n)) (sym same) is.variable;
        }
  ]
]

-- ---- The clause at a level above 0

asserts_at : (stored : List Stored) (entries : List Assigned) (positions : List ℕ) (table : HasPositions entries positions) (vars : ℕ) (met point suffix : Walk) (learnt : Learnt) → HasLearnt stored entries vars met point suffix learnt → (entry : Assigned) → IsPoint stored entries point entry → Asserts entries learnt.clause learnt.level
asserts_at stored entries positions table vars met point suffix learnt has entry is = record {
  literal = negation entry.lit;
  holds = clause_holds suffix.kept.items learnt.clause entry.lit has.left.clause kept_point;
  at_current = subst (λ (n : ℕ). IsTrueAt entries n (current_level entries)) (sym (negation-negation entry.lit))
      (record { entry = entry; stands = (point.marks.lowest, is.stands.0, is.stands.1); of_literal = refl; at_level = is.level });
  alone = alone;
  back = record { within = within; reached = λ some. let r = reached some in (r.0, r.1, r.2, r.3) };
  below = below;
}
  where
    kept_point : Contains suffix.kept.items entry.lit
    kept_point = has.more.stay entry.lit (subst (λ (ks : List ℕ). Contains ks entry.lit) (sym is.kept) (0, omega arith, refl))

    -- a kept literal is the point's, or one of a lower position
    kept_cases : (m : ℕ) → Contains suffix.kept.items m → (m ≡ entry.lit) ⊎ IsKept entries Needed point.marks.lowest suffix.marks.seen.items suffix.level m
    kept_cases m holds = elim (has.more.added m holds) [ inl old ↦ inl (only_one point.kept.items entry.lit m is.kept old) | inr new ↦ inr new ]

    -- none of a lower position is of the current_level level
    lower : (m : ℕ) → IsKept entries Needed point.marks.lowest suffix.marks.seen.items suffix.level m → IsTrueAt entries m (current_level entries) → ⊥
    lower m kept there =
        let level : kept.entry.level ≡ current_level entries = level_of entries positions kept.position kept.entry m (current_level entries) table kept.stands kept.of_literal there in
        let from : met.marks.start ≤ kept.position = has.start.before kept.position kept.entry kept.stands is.above level in
        let first : suffix.marks.start ≡ point.marks.start = has.same_start in
        let second : point.marks.start ≡ met.marks.start = has.points.start in
        let least : suffix.marks.lowest ≤ kept.position = has.walk.marks.lowest.least kept.position (omega arith) kept.is_marked in
        let apart : point.marks.lowest ≤ suffix.marks.lowest = has.apart (omega arith) in
        let before = kept.before in
        omega arith

    flipped : (l : ℕ) → negation l ≡ entry.lit → l ≡ negation entry.lit
    flipped l same = sym (negation-negation l) ∙ ap negation same

    alone : (other : ℕ) → Contains learnt.clause other → IsTrueAt entries (negation other) (current_level entries) → other ≡ negation entry.lit
    alone other holds there = elim (kept_cases (negation other) (kept_holds suffix.kept.items learnt.clause other has.left.clause holds)) [
      | inl same ↦ flipped other same
      | inr kept ↦ absurd (lower (negation other) kept there)
    ]

    within : (other at : ℕ) → Contains learnt.clause other → (other ≡ negation entry.lit → ⊥) → IsTrueAt entries (negation other) at → at ≤ learnt.level
    within other at holds differ there = elim (kept_cases (negation other) (kept_holds suffix.kept.items learnt.clause other has.left.clause holds)) [
      | inl same ↦ absurd (differ (flipped other same))
      | inr kept ↦
          let level : kept.entry.level ≡ at = level_of entries positions kept.position kept.entry (negation other) at table kept.stands kept.of_literal there in
          let low = kept.low in
          let left : learnt.level ≡ suffix.level = has.left.level in
          omega arith
    ]

    reached : 0 < learnt.level → (other : ℕ) × Contains learnt.clause other × (other ≡ negation entry.lit → ⊥) × IsTrueAt entries (negation other) learnt.level
    reached some =
        let left : learnt.level ≡ suffix.level = has.left.level in
        let old = has.more.reached (omega arith) in
        let m = old.0 in (
          negation m,
          clause_holds suffix.kept.items learnt.clause m has.left.clause old.1,
          (λ same.
              let one : m ≡ entry.lit = sym (negation-negation m) ∙ ap negation same ∙ negation-negation entry.lit in
              let there = one_entry entries positions old.2.position point.marks.lowest old.2.entry entry table old.2.stands is.stands (ap variable_of (old.2.of_literal ∙ one)) in
              let before = old.2.before in
              omega (arith, there.0)),
          subst (λ (n : ℕ). IsTrueAt entries n learnt.level) (sym (negation-negation m))
              (record { entry = old.2.entry; stands = (old.2.position, old.2.stands.0, old.2.stands.1); of_literal = old.2.of_literal; at_level = old.2.at_level ∙ sym left }),
        )

    below : learnt.level < current_level entries
    below = elim (cases_eq learnt.level 0) [
      | inl none ↦ (let above = is.above in omega arith)
      | inr some ↦
          let old = reached (omega arith) in
          let there = old.3 in
          let most : there.entry.level ≤ current_level entries = current_level_most entries there.stands.0 there.entry has.orderly.rising (there.stands.1, there.stands.2) in
          let level : there.entry.level ≡ learnt.level = there.at_level in
          elim (cases_eq learnt.level (current_level entries)) [
            | inl same ↦ absurd (old.2 (alone old.0 old.1 (subst (IsTrueAt entries (negation old.0)) same there)))
            | inr differ ↦ omega arith
          ]
    ]

-- ---- What is learnt

pub learnt_is : (stored : List Stored) (entries : List Assigned) (positions : List ℕ) (table : HasPositions entries positions) (vars : ℕ) (met point suffix : Walk) (learnt : Learnt) → HasLearnt stored entries vars met point suffix learnt → IsLearnt stored entries learnt
learnt_is stored entries positions table vars met point suffix learnt has = record {
  falsified = λ k d within.
      let l = get_or learnt.clause k d in
      let entry = entry_of stored entries vars met point suffix learnt has (negation l) (kept_holds suffix.kept.items learnt.clause l has.left.clause (Contains-get_or learnt.clause k d within)) in
      true_in_from_entry entries entry.position entry.entry (negation l) entry.stands entry.of_literal;
  above_level_zero = λ l holds there.
      let entry = entry_of stored entries vars met point suffix learnt has (negation l) (kept_holds suffix.kept.items learnt.clause l has.left.clause holds) in
      let level : entry.entry.level ≡ 0 = level_of entries positions entry.position entry.entry (negation l) 0 table entry.stands entry.of_literal there in
      let above = entry.above in
      omega arith;
  asserts = λ above. elim has.points.point [
    | inl none ↦ absurd (let inside : met.marks.lowest < length entries = has.marked above in let outside : met.marks.lowest ≡ length entries = none.2 in omega arith)
    | inr one ↦ asserts_at stored entries positions table vars met point suffix learnt has one.0 (point_of stored entries met point one.0 has.start has.points one.1 one.2)
  ];
  refutes = λ root. (
    empty_clause learnt.clause (λ l holds.
        let entry = entry_of stored entries vars met point suffix learnt has (negation l) (kept_holds suffix.kept.items learnt.clause l has.left.clause holds) in
        nothing_above root entry.position entry.entry entry.stands entry.above),
    elim (cases_eq learnt.level 0) [
      | inl none ↦ none
      | inr some ↦ absurd (let left : learnt.level ≡ suffix.level = has.left.level in let old = has.more.reached (omega arith) in
          let level : old.2.entry.level ≡ suffix.level = old.2.at_level in
          nothing_above root old.2.position old.2.entry old.2.stands (omega arith))
    ],
  );
  variables = λ k d within.
      let l = get_or learnt.clause k d in
      let entry = entry_of stored entries vars met point suffix learnt has (negation l) (kept_holds suffix.kept.items learnt.clause l has.left.clause (Contains-get_or learnt.clause k d within)) in
      subst (HasVariable (clauses_of stored)) (variable_of-negation l) entry.variable;
  right = right_clause stored entries suffix learnt has.walk has.left;
}
  where
    nothing_above : current_level entries ≡ 0 → (i : ℕ) (e : Assigned) → IsEntryAt entries i e → 0 < e.level → ⊥
    nothing_above root i e at above = let most : e.level ≤ current_level entries = current_level_most entries i e has.orderly.rising at in omega arith

-- where a literal is false since the current_level level, a position of it is marked
pub newly_marked : (stored : List Stored) (entries : List Assigned) (positions : List ℕ) (table : HasPositions entries positions) (conflict : ℕ) (fresh met : Walk) → IsFresh entries fresh → (meets : Meets stored positions conflict fresh met) → (0 < current_level entries → IsNewlyFalse entries meets.met.clause) → 0 < current_level entries → met.marks.lowest < length entries
newly_marked stored entries positions table conflict fresh met is meets newly above =
    let new = newly above in
    let entry = new.at_current.entry in
    let at : IsEntryAt entries new.at_current.stands.0 entry = (new.at_current.stands.1, new.at_current.stands.2) in
    let from : fresh.marks.start ≤ new.at_current.stands.0 = is.start.before new.at_current.stands.0 entry at above new.at_current.at_level in
    let same : met.marks.start ≡ fresh.marks.start = meets.start in
    let variable : variable_of entry.lit ≡ variable_of new.literal = ap variable_of new.at_current.of_literal ∙ variable_of-negation new.literal in
    let marked : IsMarked met.marks.seen.items new.at_current.stands.0
    = (meets.exact new.at_current.stands.0).1 (inr (record { literal = new.literal; holds = new.holds; there = ap (λ v. get_or positions v 0) (sym variable) ∙ (table new.at_current.stands.0 entry at).1 })) in
    let least : met.marks.lowest ≤ new.at_current.stands.0 = meets.lowest.least new.at_current.stands.0 (omega arith) marked in
    omega (arith, at.0)
