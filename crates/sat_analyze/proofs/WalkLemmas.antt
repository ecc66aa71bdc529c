-- A walk, from one position to the one before.
use Rattle.std.proofs.Common.{◌≡◌, ◌≢◌, ◌⊎◌, ℕ, ◌+◌, ◌<◌, ◌≤◌, Bool, true, List, [], ◌∷◌, ◌++◌, Option, Some, None, length, map, min, get_or, take, arith, inl, inr, sym, ◌∙◌, ap, subst, refl, zero, suc}
use Rattle.std.specs.Prelude.{Contains, IfSome}
use Rattle.std.specs.List.{AllPairs}
use Rattle.std.proofs.lemmas.Bool.{cases_eq, cases_lt, both_ways}
use Rattle.std.proofs.lemmas.List.{length-map, length-take, get_or-take, get_or-map, map-append, get_or_default}
use Rattle.std.proofs.lemmas.List.Elements.{Contains-get_or, Contains-push, Contains-push_cases, Contains-append_left}
use Rattle.std.proofs.lemmas.List.Quantifiers.{all_pairs_push}
use Rattle.fsmv_base.specs.declared.citation.Id.{Id}
use Rattle.sat_lits.specs.Literals.{negation, variable_of}
use Rattle.sat_arena.specs.declared.trail.Assigned.{Assigned}
use Rattle.sat_arena.specs.Stored.{Stored}
use Rattle.sat_arena.specs.ArenaState.{clauses_of}
use Rattle.sat_arena.specs.Trails.{true_in}
use Rattle.sat_arena.specs.Justified.{current_level, IsEntryAt, IsReason, BeginsLevel, IsJustified, HasPositions}
use Rattle.sat_arena.proofs.DeducedLemmas.{clause_at}
use Rattle.sat_analyze.specs.declared.walk.Walk.{Walk}
use Rattle.sat_analyze.specs.declared.walk.Keeping.{Keeping}
use Rattle.sat_analyze.specs.declared.walk.Keeping.TheVariants.{Decisions}
use Rattle.sat_analyze.specs.declared.marks.Marks.{Marks}
use Rattle.sat_analyze.specs.Derived.{HasVariable}
use Rattle.sat_analyze.specs.Marked.{IsMarked, IsLowest, ArePositioned}
use Rattle.sat_analyze.specs.Walked.{IsStart, RefutesFrom, IsLate, AreMarks, HaveOwnVariables, IsWalk, Meets, Keeps, KeepsLit, KeepsPoint, Resolves, IsKept, IsReached, KeepsMore, Steps}
use Rattle.sat_analyze.proofs.BeforeLemmas.{IsAssigned, assigned_reason, true_in_here}
use Rattle.sat_analyze.proofs.PositionLemmas.{one_at}
use Rattle.sat_analyze.proofs.RefuteLemmas.{RefutesFrom-skip, RefutesFrom-keep, RefutesFrom-resolve, IsLate-next, IsLate-keep}

-- ---- The clause that is met

-- the clause at a position is that of what is stored there
pub met_clause : (stored : List Stored) (position : ℕ) (met : Stored) → position < length stored → get_or stored position met ≡ met → get_or (clauses_of stored) position [] ≡ met.clause
met_clause stored position met within there = clause_at stored position met within ∙ ap (λ (s : Stored). s.clause) there

pub few_clauses : (stored : List Stored) (position : ℕ) → position < length (clauses_of stored) → position < length stored
few_clauses stored position within = let same : length (clauses_of stored) ≡ length stored = length-map stored (λ s. s.clause) in omega arith

-- each literal of an assigned clause has its position in the table
pub have_positions : (entries : List Assigned) (positions : List ℕ) (table : HasPositions entries positions) (marks : Marks) (top : ℕ) (clause : List ℕ) → AreMarks entries marks → ((l : ℕ) → Contains clause l → IsAssigned entries top l) → ArePositioned positions (length marks.seen.items) clause
have_positions entries positions table marks top clause are assigned k d within =
    let l = get_or clause k d in
    let entry = assigned l (Contains-get_or clause k d within) in
    let has = table entry.at entry.entry entry.stands in
    let inside : entry.at < length entries = entry.stands.0 in
    let sized : length marks.seen.items ≡ length entries = are.sized in
    let there : get_or positions (variable_of l) 0 ≡ entry.at = ap (λ v. get_or positions v 0) (sym entry.of_variable) ∙ has.1 in
    (subst (λ (v : ℕ). v < length positions) entry.of_variable has.0, omega arith)

-- the position of a literal of the met clause is that of the entry of its variable
pub record MarksOf (entries : List Assigned) (top : ℕ) (clause : List ℕ) (seen flags' : List Bool) : Type 0 where
  pub more : (i : ℕ) → IsMarked seen i → IsMarked flags' i
  pub others : (l j : ℕ) (e : Assigned) → Contains clause l → IsEntryAt entries j e → variable_of e.lit ≡ variable_of l → IsMarked flags' j
  pub only : (i : ℕ) → IsMarked flags' i → IsMarked seen i ⊎ ((l : ℕ) × Contains clause l × (i < top) × ((e : Assigned) → IsEntryAt entries i e → variable_of e.lit ≡ variable_of l))

pub marks_of : (stored : List Stored) (entries : List Assigned) (positions : List ℕ) (table : HasPositions entries positions) (position top : ℕ) (before after : Walk) → AreMarks entries before.marks → (meets : Meets stored positions position before after) → ((l : ℕ) → Contains meets.met.clause l → IsAssigned entries top l) → MarksOf entries top meets.met.clause before.marks.seen.items after.marks.seen.items
marks_of stored entries positions table position top before after are meets assigned = record {
  more = λ i marked. (meets.exact i).1 (inl marked);
  others = λ l j e holds at same. (meets.exact j).1 (inr (record {
    literal = l;
    holds = holds;
    there = ap (λ v. get_or positions v 0) (sym same) ∙ (table j e at).1;
  }));
  only = λ i marked. elim ((meets.exact i).0 marked) [
    | inl old ↦ inl old
    | inr here ↦
        let entry = assigned here.literal here.holds in
        let has = table entry.at entry.entry entry.stands in
        let same : i ≡ entry.at = sym here.there ∙ ap (λ v. get_or positions v 0) (sym entry.of_variable) ∙ has.1 in
        inr (
          here.literal,
          here.holds,
          (let low = entry.before in omega arith),
          λ e at. ap (λ (f : Assigned). variable_of f.lit) (one_at entries i entry.at e entry.entry at entry.stands same) ∙ entry.of_variable,
        )
  ];
}

pub AreMarks-met : (stored : List Stored) (entries : List Assigned) (positions : List ℕ) (table : HasPositions entries positions) (position : ℕ) (before after : Walk) → AreMarks entries before.marks → Meets stored positions position before after → AreMarks entries after.marks
AreMarks-met stored entries positions table position before after are meets = record {
  sized = meets.sized ∙ are.sized;
  lowest = meets.lowest;
}

pub listed_met : (stored : List Stored) (entries : List Assigned) (position top : ℕ) (met : Stored) (seen flags' : List Bool) → position < length stored → get_or stored position met ≡ met
    → ((i : ℕ) (e : Assigned) → IsEntryAt entries i e → IsMarked seen i → HasVariable (clauses_of stored) (variable_of e.lit))
    → MarksOf entries top met.clause seen flags'
    → (i : ℕ) (e : Assigned) → IsEntryAt entries i e → IsMarked flags' i → HasVariable (clauses_of stored) (variable_of e.lit)
listed_met stored entries position top met seen flags' within there old of i e at marked = elim (of.only i marked) [
  | inl was ↦ old i e at was
  | inr new ↦ record {
    clause = met.clause;
    listed = subst (λ (c : List ℕ). Contains (clauses_of stored) c) (met_clause stored position met within there)
        (Contains-get_or (clauses_of stored) position [] (let same : length (clauses_of stored) ≡ length stored = length-map stored (λ s. s.clause) in omega arith));
    literal = new.0;
    holds = new.1;
    of_variable = sym (new.3 e at);
  }
]

-- ---- One position back

pub IsWalk-skip : (stored : List Stored) (entries : List Assigned) (i : ℕ) (here : Assigned) (walk : Walk) → IsEntryAt entries i here → (IsMarked walk.marks.seen.items i → ⊥) → IsWalk stored entries (i + 1) walk → IsWalk stored entries i walk
IsWalk-skip stored entries i here walk at unmarked is = record {
  within = (let within = is.within in omega arith);
  marks = is.marks;
  listed = is.listed;
  late = IsLate-next entries i walk.kept.items is.late;
  apart = is.apart;
  refutes = RefutesFrom-skip stored entries i here walk.marks.seen.items walk.kept.items walk.hints.items at unmarked is.refutes;
}

-- positions that are not marked are stepped over at once
pub IsWalk-skips : (stored : List Stored) (entries : List Assigned) (from to : ℕ) (walk : Walk) → to ≤ from → ((i : ℕ) → to ≤ i → i < from → IsMarked walk.marks.seen.items i → ⊥) → IsWalk stored entries from walk → IsWalk stored entries to walk
IsWalk-skips stored entries zero to walk low unmarked is = subst (λ (n : ℕ). IsWalk stored entries n walk) (omega arith) is
IsWalk-skips stored entries (suc k) to walk low unmarked is = elim (cases_eq to (suc k)) [
  | inl same ↦ subst (λ (n : ℕ). IsWalk stored entries n walk) (sym same) is
  | inr differ ↦
      let next : suc k ≡ k + 1 = omega arith in
      let within : k < length entries = omega (arith, is.within) in
      let other : Assigned = record { lit = 0; level = 0; reason = None } in
      let here : Assigned = get_or entries k other in
      IsWalk-skips stored entries k to walk (omega arith) (λ i from before. unmarked i from (omega arith))
      (IsWalk-skip stored entries k here walk (within, get_or_default entries k here other within) (unmarked k (omega arith) (omega arith))
      (subst (λ (n : ℕ). IsWalk stored entries n walk) next is))
]

-- what a reason's clause has for a reason
pub record HasReason (stored : List Stored) (entries : List Assigned) (i : ℕ) (here : Assigned) (reason : ℕ) : Type 0 where
  pub within : reason < length stored
  pub why : IsReason (true_in (take i entries)) (get_or (clauses_of stored) reason []) here.lit

pub has_reason : (stored : List Stored) (entries : List Assigned) (i : ℕ) (here : Assigned) (reason : ℕ) → IsJustified (clauses_of stored) entries → IsEntryAt entries i here → here.reason ≡ Some reason → HasReason stored entries i here reason
has_reason stored entries i here reason justified at is =
    let both = justified.reasons i reason here at is in
    record { within = few_clauses stored reason both.0; why = both.1 }

pub reason_positions : (stored : List Stored) (entries : List Assigned) (positions : List ℕ) (table : HasPositions entries positions) (i : ℕ) (here : Assigned) (reason : ℕ) (marks : Marks) → AreMarks entries marks → IsEntryAt entries i here → HasReason stored entries i here reason → ArePositioned positions (length marks.seen.items) (get_or (clauses_of stored) reason [])
reason_positions stored entries positions table i here reason marks are at has = have_positions entries positions table marks (i + 1) (get_or (clauses_of stored) reason []) are (assigned_reason entries i here (get_or (clauses_of stored) reason []) at has.why)

pub reason_marks : (stored : List Stored) (entries : List Assigned) (positions : List ℕ) (table : HasPositions entries positions) (i : ℕ) (here : Assigned) (reason : ℕ) (before after : Walk) → AreMarks entries before.marks → IsEntryAt entries i here → HasReason stored entries i here reason → (meets : Meets stored positions reason before after) → MarksOf entries (i + 1) meets.met.clause before.marks.seen.items after.marks.seen.items
reason_marks stored entries positions table i here reason before after are at has meets =
    marks_of stored entries positions table reason (i + 1) before after are meets
    (assigned_reason entries i here meets.met.clause at (subst (λ (c : List ℕ). IsReason (true_in (take i entries)) c here.lit) (met_clause stored reason meets.met meets.within meets.there) has.why))

pub IsWalk-resolve : (stored : List Stored) (entries : List Assigned) (positions : List ℕ) (table : HasPositions entries positions) (i : ℕ) (here : Assigned) (reason : ℕ) (before after : Walk) → IsEntryAt entries i here → HasReason stored entries i here reason → IsWalk stored entries (i + 1) before → Meets stored positions reason before after → IsWalk stored entries i after
IsWalk-resolve stored entries positions table i here reason before after at has is meets =
    let of = reason_marks stored entries positions table i here reason before after is.marks at has meets in
    let why = subst (λ (c : List ℕ). IsReason (true_in (take i entries)) c here.lit) (met_clause stored reason meets.met meets.within meets.there) has.why in
    let kept : after.kept.items ≡ before.kept.items = ap (λ v. v.items) meets.kept in
    record {
      within = (let within = is.within in omega arith);
      marks = AreMarks-met stored entries positions table reason before after is.marks meets;
      listed = listed_met stored entries reason (i + 1) meets.met before.marks.seen.items after.marks.seen.items meets.within meets.there is.listed of;
      late = subst (IsLate entries i) (sym kept) (IsLate-next entries i before.kept.items is.late);
      apart = subst HaveOwnVariables (sym kept) is.apart;
      refutes = subst (λ (ks : List ℕ). RefutesFrom stored entries i after.marks.seen.items ks after.hints.items) (sym kept)
          (subst (λ (hs : List Id). RefutesFrom stored entries i after.marks.seen.items before.kept.items hs) (sym meets.hints)
          (RefutesFrom-resolve stored entries positions i here before.marks.seen.items after.marks.seen.items before.kept.items before.hints.items meets.met
          table at is.late (reason, meets.within, meets.there) why of.more of.others is.refutes));
    }

same_variable : (a b : ℕ) → variable_of a ≡ variable_of b → (a ≡ b → ⊥) → (a ≡ negation b → ⊥) → ⊥
same_variable a b e ne ne' = omega arith

-- a literal that is new to the kept ones has a variable of its own
HaveOwnVariables-push : (entries : List Assigned) (i : ℕ) (here : Assigned) (kept : List ℕ) → IsEntryAt entries i here → IsLate entries (i + 1) kept → HaveOwnVariables kept → HaveOwnVariables (kept ++ here.lit ∷ [])
HaveOwnVariables-push entries i here kept at late own =
    subst (λ (vs : List ℕ). AllPairs (λ v w. v ≢ w) vs) (sym (map-append variable_of kept (here.lit ∷ [])))
    (all_pairs_push (λ v w. v ≢ w) (map variable_of kept) (variable_of here.lit) own (λ k d within.
    let long : length (map variable_of kept) ≡ length kept = length-map kept variable_of in
    let m = get_or kept k 0 in
    let is : get_or (map variable_of kept) k d ≡ variable_of m = get_or-map variable_of kept k 0 d (omega arith) in
    let holds : Contains kept m = Contains-get_or kept k 0 (omega arith) in
    λ same. same_variable here.lit m (sym same ∙ is)
    (λ one. both_ways (true_in (take (i + 1) entries) m) (late m holds).0 (subst (λ (n : ℕ). true_in (take (i + 1) entries) n ≡ true) one (true_in_here entries i here at)))
    (λ other. both_ways (true_in (take (i + 1) entries) (negation m)) (late m holds).1 (subst (λ (n : ℕ). true_in (take (i + 1) entries) n ≡ true) other (true_in_here entries i here at)))))

-- the same marks, and one more kept literal
pub IsWalk-keep : (stored : List Stored) (entries : List Assigned) (positions : List ℕ) (table : HasPositions entries positions) (i : ℕ) (here : Assigned) (before after : Walk) → IsEntryAt entries i here → IsWalk stored entries (i + 1) before → after.marks ≡ before.marks → after.hints ≡ before.hints → after.kept.items ≡ before.kept.items ++ here.lit ∷ [] → IsWalk stored entries i after
IsWalk-keep stored entries positions table i here before after at is marks hints kept = record {
  within = (let within = is.within in omega arith);
  marks = subst (AreMarks entries) (sym marks) is.marks;
  listed = subst (λ (ms : Marks). (j : ℕ) (e : Assigned) → IsEntryAt entries j e → IsMarked ms.seen.items j → HasVariable (clauses_of stored) (variable_of e.lit)) (sym marks) is.listed;
  late = subst (IsLate entries i) (sym kept) (IsLate-keep entries positions i here before.kept.items table at is.late);
  apart = subst HaveOwnVariables (sym kept) (HaveOwnVariables-push entries i here before.kept.items at is.late is.apart);
  refutes = subst (λ (ms : Marks). RefutesFrom stored entries i ms.seen.items after.kept.items after.hints.items) (sym marks)
      (subst (λ (ks : List ℕ). RefutesFrom stored entries i before.marks.seen.items ks after.hints.items) (sym kept)
      (subst (λ (hs : List Id). RefutesFrom stored entries i before.marks.seen.items (before.kept.items ++ here.lit ∷ []) hs) (sym (ap (λ v. v.items) hints))
      (RefutesFrom-keep stored entries i here before.marks.seen.items before.kept.items before.hints.items at is.refutes)));
}

-- ---- What is kept

-- the lowest mark does not rise where marks are added
pub lowest_lower : (seen flags' : List Bool) (start lowest lowest' : ℕ) → IsLowest seen start lowest → IsLowest flags' start lowest' → ((i : ℕ) → IsMarked seen i → IsMarked flags' i) → lowest < length seen → lowest' ≤ lowest
lowest_lower seen flags' start lowest lowest' old new more inside =
    let reached = old.reached inside in new.least lowest reached.1 (more lowest reached.0)

-- the reason of an entry before a position adds no mark between `start` and the position, where there was none
pub lowest_apart : (seen flags' : List Bool) (start lowest lowest' i from : ℕ) → IsLowest seen start lowest → IsLowest flags' start lowest' → length flags' ≡ length seen → ((j : ℕ) → IsMarked flags' j → IsMarked seen j ⊎ (j < i + 1)) → IsMarked seen i → i < from → from ≤ lowest → from ≤ lowest'
lowest_apart seen flags' start lowest lowest' i from old new sized only marked low apart = elim (cases_lt lowest' (length flags')) [
  | inr none ↦ (let within = old.within in omega arith)
  | inl inside ↦
      let reached = new.reached inside in
      elim (only lowest' reached.0) [
        | inl was ↦ (let least : lowest ≤ lowest' = old.least lowest' reached.1 was in omega arith)
        | inr below ↦ (let here : lowest ≤ i = old.least i (let from_start = reached.1 in omega arith) marked in absurd (omega arith))
      ]
]

IsKept-more : (entries : List Assigned) (keeping : Keeping) (from : ℕ) (seen flags' : List Bool) (level level' m : ℕ) → ((i : ℕ) → IsMarked seen i → IsMarked flags' i) → level ≤ level' → IsKept entries keeping from seen level m → IsKept entries keeping from flags' level' m
IsKept-more entries keeping from seen flags' level level' m more up kept = record {
  position = kept.position;
  entry = kept.entry;
  stands = kept.stands;
  before = kept.before;
  is_marked = more kept.position kept.is_marked;
  of_literal = kept.of_literal;
  above = kept.above;
  low = (let low = kept.low in omega arith);
  decided = kept.decided;
}

pub KeepsMore-resolved : (entries : List Assigned) (keeping : Keeping) (from : ℕ) (kept : List ℕ) (before after : Walk) → after.kept ≡ before.kept → after.level ≡ before.level → ((i : ℕ) → IsMarked before.marks.seen.items i → IsMarked after.marks.seen.items i) → KeepsMore entries keeping from kept before → KeepsMore entries keeping from kept after
KeepsMore-resolved entries keeping from kept before after same level more keeps =
    let items : after.kept.items ≡ before.kept.items = ap (λ v. v.items) same in
    record {
      stay = λ m holds. subst (λ (ks : List ℕ). Contains ks m) (sym items) (keeps.stay m holds);
      added = λ m holds. elim (keeps.added m (subst (λ (ks : List ℕ). Contains ks m) items holds)) [
        | inl old ↦ inl old
        | inr new ↦ inr (IsKept-more entries keeping from before.marks.seen.items after.marks.seen.items before.level after.level m more (omega arith) new)
      ];
      reached = λ some. let old = keeps.reached (omega arith) in
          (old.0, subst (λ (ks : List ℕ). Contains ks old.0) (sym items) old.1, subst (λ (n : ℕ). IsReached entries from n old.0) (sym level) old.2);
    }

pub KeepsMore-kept : (entries : List Assigned) (keeping : Keeping) (from : ℕ) (kept : List ℕ) (i : ℕ) (here : Assigned) (before after : Walk) → IsEntryAt entries i here → i < from → IsMarked before.marks.seen.items i → 0 < here.level → (keeping ≡ Decisions → here.reason ≡ None) → Keeps here before after → KeepsMore entries keeping from kept before → KeepsMore entries keeping from kept after
KeepsMore-kept entries keeping from kept i here before after at low marked above decided new keeps =
    let level = new.level in
    record {
      stay = λ m holds. subst (λ (ks : List ℕ). Contains ks m) (sym new.kept) (Contains-append_left before.kept.items (here.lit ∷ []) m (keeps.stay m holds));
      added = λ m holds. elim (Contains-push_cases before.kept.items here.lit m (subst (λ (ks : List ℕ). Contains ks m) new.kept holds)) [
        | inl old ↦ elim (keeps.added m old) [
          | inl first ↦ inl first
          | inr one ↦ inr (IsKept-more entries keeping from before.marks.seen.items after.marks.seen.items before.level after.level m (λ j is. subst (λ (ms : Marks). IsMarked ms.seen.items j) (sym new.marks) is) (omega arith) one)
        ]
        | inr same ↦ inr (record {
          position = i;
          entry = here;
          stands = at;
          before = low;
          is_marked = subst (λ (ms : Marks). IsMarked ms.seen.items i) (sym new.marks) marked;
          of_literal = same;
          above = above;
          low = omega arith;
          decided = decided;
        })
      ];
      reached = λ some. elim (cases_lt before.level here.level) [
        | inl higher ↦ (
          here.lit,
          subst (λ (ks : List ℕ). Contains ks here.lit) (sym new.kept) (Contains-push before.kept.items here.lit),
          record { position = i; entry = here; stands = at; before = low; of_literal = refl; at_level = omega arith },
        )
        | inr lower ↦
            let old = keeps.reached (omega arith) in
            let same : after.level ≡ before.level = omega arith in
            (old.0, subst (λ (ks : List ℕ). Contains ks old.0) (sym new.kept) (Contains-append_left before.kept.items (here.lit ∷ []) old.0 old.1), subst (λ (n : ℕ). IsReached entries from n old.0) (sym same) old.2)
      ];
    }

-- ---- Steps

pub Resolves-met : (stored : List Stored) (entries : List Assigned) (positions : List ℕ) (table : HasPositions entries positions) (i : ℕ) (here : Assigned) (reason : ℕ) (before after : Walk) → IsEntryAt entries i here → HasReason stored entries i here reason → IsWalk stored entries (i + 1) before → Meets stored positions reason before after → Resolves stored entries i before after
Resolves-met stored entries positions table i here reason before after at has is meets = record {
  walk = IsWalk-resolve stored entries positions table i here reason before after at has is meets;
  kept = meets.kept;
  level = meets.level;
  start = meets.start;
  lower = λ inside.
      let sized : length before.marks.seen.items ≡ length entries = is.marks.sized in
      lowest_lower before.marks.seen.items after.marks.seen.items before.marks.start before.marks.lowest after.marks.lowest is.marks.lowest
      (subst (λ (n : ℕ). IsLowest after.marks.seen.items n after.marks.lowest) meets.start meets.lowest)
      (reason_marks stored entries positions table i here reason before after is.marks at has meets).more (omega arith);
}

pub Resolves-skip : (stored : List Stored) (entries : List Assigned) (i : ℕ) (here : Assigned) (walk : Walk) → IsEntryAt entries i here → (IsMarked walk.marks.seen.items i → ⊥) → IsWalk stored entries (i + 1) walk → Resolves stored entries i walk walk
Resolves-skip stored entries i here walk at unmarked is = record {
  walk = IsWalk-skip stored entries i here walk at unmarked is;
  kept = refl;
  level = refl;
  start = refl;
  lower = λ inside. omega arith;
}

pub Steps-skip : (stored : List Stored) (entries : List Assigned) (i : ℕ) (here : Assigned) (keeping : Keeping) (walk : Walk) → IsEntryAt entries i here → (IsMarked walk.marks.seen.items i → ⊥) → IsWalk stored entries (i + 1) walk → Steps stored entries i keeping walk walk
Steps-skip stored entries i here keeping walk at unmarked is = record {
  walk = IsWalk-skip stored entries i here walk at unmarked is;
  more = λ from kept low keeps. keeps;
  apart = λ from low apart. apart;
  start = refl;
}

pub Steps-met : (stored : List Stored) (entries : List Assigned) (positions : List ℕ) (table : HasPositions entries positions) (i : ℕ) (here : Assigned) (keeping : Keeping) (reason : ℕ) (before after : Walk) → IsEntryAt entries i here → HasReason stored entries i here reason → IsMarked before.marks.seen.items i → IsWalk stored entries (i + 1) before → Meets stored positions reason before after → Steps stored entries i keeping before after
Steps-met stored entries positions table i here keeping reason before after at has marked is meets =
    let of = reason_marks stored entries positions table i here reason before after is.marks at has meets in
    record {
      walk = IsWalk-resolve stored entries positions table i here reason before after at has is meets;
      more = λ from kept low keeps. KeepsMore-resolved entries keeping from kept before after meets.kept meets.level of.more keeps;
      apart = λ from low apart.
          lowest_apart before.marks.seen.items after.marks.seen.items before.marks.start before.marks.lowest after.marks.lowest i from is.marks.lowest
          (subst (λ (n : ℕ). IsLowest after.marks.seen.items n after.marks.lowest) meets.start meets.lowest) meets.sized
          (λ j new. elim (of.only j new) [ inl was ↦ inl was | inr here ↦ inr here.2 ]) marked low apart;
      start = meets.start;
    }

pub Steps-kept : (stored : List Stored) (entries : List Assigned) (positions : List ℕ) (table : HasPositions entries positions) (i : ℕ) (here : Assigned) (keeping : Keeping) (before after : Walk) → IsJustified (clauses_of stored) entries → IsEntryAt entries i here → IsMarked before.marks.seen.items i → (keeping ≡ Decisions → here.reason ≡ None) → (here.level ≡ 0 → here.reason ≡ None) → IsWalk stored entries (i + 1) before → Keeps here before after → Steps stored entries i keeping before after
Steps-kept stored entries positions table i here keeping before after justified at marked decided root is new =
    let above : 0 < here.level = elim (cases_eq here.level 0) [
      | inl zero_level ↦ ((justified.decisions i here at).0 (root zero_level)).0
      | inr other ↦ omega arith
    ] in
    record {
      walk = IsWalk-keep stored entries positions table i here before after at is new.marks new.hints new.kept;
      more = λ from kept low keeps. KeepsMore-kept entries keeping from kept i here before after at low marked above decided new keeps;
      apart = λ from low apart. subst (λ (ms : Marks). from ≤ ms.lowest) (sym new.marks) apart;
      start = ap (λ m. m.start) new.marks;
    }

-- ---- Above the lowest mark

-- an entry of the current_level level after another one has a reason
pub forced_above : (stored : List Stored) (entries : List Assigned) (i : ℕ) (start lowest : ℕ) (seen : List Bool) → IsJustified (clauses_of stored) entries → IsStart entries start → IsLowest seen start lowest → lowest < length seen → length seen ≡ length entries → lowest < i → (here : Assigned) → IsEntryAt entries i here → here.reason ≡ None → ⊥
forced_above stored entries i start lowest seen justified from low inside sized above here at none =
    let reached = low.reached inside in
    let first = get_or entries lowest here in
    let there : IsEntryAt entries lowest first = (omega arith, get_or_default entries lowest first here (omega arith)) in
    let level : first.level ≡ current_level entries = (from.after lowest first there reached.1).0 in
    let level' : here.level ≡ current_level entries = (from.after i here at (let after = reached.1 in omega arith)).0 in
    let begins : BeginsLevel (take i entries) here = (justified.decisions i here at).0 none in
    let short : length (take i entries) ≡ min i (length entries) = length-take i entries in
    let lower : (get_or (take i entries) lowest here).level < here.level = begins.1 lowest here (omega (arith, at.0)) in
    let same : get_or (take i entries) lowest here ≡ first = get_or-take i entries lowest here above in
    let lower' : first.level < here.level = subst (λ (e : Assigned). e.level < here.level) same lower in
    omega arith

-- what a walk down to the lowest mark keeps
pub record ComesDown (stored : List Stored) (entries : List Assigned) (position : ℕ) (before down : Walk) : Type 0 where
  pub walk : IsWalk stored entries position down
  pub kept : down.kept ≡ before.kept
  pub level : down.level ≡ before.level
  pub start : down.marks.start ≡ before.marks.start
  pub below : down.marks.lowest < length entries → down.marks.lowest < position
  pub lower : before.marks.lowest < length entries → down.marks.lowest < length entries
  pub still : length entries ≤ before.marks.lowest → (down.marks.lowest ≡ before.marks.lowest) × (position ≡ length entries)

pub KeepsPoint-kept : (stored : List Stored) (entries : List Assigned) (positions : List ℕ) (table : HasPositions entries positions) (position : ℕ) (here : Assigned) (before walk after : Walk) → before.kept.items ≡ [] → ComesDown stored entries position before walk → walk.marks.lowest < position → position ≤ walk.marks.lowest + 1 → IsEntryAt entries walk.marks.lowest here → KeepsLit here.lit walk after → KeepsPoint stored entries before after
KeepsPoint-kept stored entries positions table position here before walk after none down above near at new =
    let lowest : after.marks.lowest ≡ walk.marks.lowest = ap (λ m. m.lowest) new.marks in
    let kept : after.kept.items ≡ here.lit ∷ [] = new.kept ∙ ap (λ (ks : List ℕ). ks ++ here.lit ∷ []) (ap (λ v. v.items) down.kept ∙ none) in
    let next : position ≡ walk.marks.lowest + 1 = omega arith in
    record {
      walk = subst (λ (n : ℕ). IsWalk stored entries n after) (sym lowest)
          (IsWalk-keep stored entries positions table walk.marks.lowest here walk after at (subst (λ (n : ℕ). IsWalk stored entries n walk) next down.walk) new.marks new.hints new.kept);
      level = new.level ∙ down.level;
      start = ap (λ m. m.start) new.marks ∙ down.start;
      point = inr (
        here,
        subst (λ (n : ℕ). IsEntryAt entries n here) (sym lowest) at,
        kept,
        elim (cases_lt before.marks.lowest (length entries)) [
          | inl inside ↦ inside
          | inr none_marked ↦ (let still = down.still none_marked in absurd (omega (arith, at.0, still.0)))
        ],
      );
    }

pub KeepsPoint-none : (stored : List Stored) (entries : List Assigned) (position : ℕ) (before walk : Walk) → before.kept.items ≡ [] → ComesDown stored entries position before walk → position ≤ walk.marks.lowest → KeepsPoint stored entries before walk
KeepsPoint-none stored entries position before walk none down low =
    let within : walk.marks.lowest ≤ length entries = omega (arith, down.walk.marks.lowest.within, down.walk.marks.sized) in
    let outside : length entries ≤ walk.marks.lowest = elim (cases_lt walk.marks.lowest (length entries)) [
      | inl inside ↦ (let below = down.below inside in absurd (omega arith))
      | inr out ↦ out
    ] in
    let first : length entries ≤ before.marks.lowest = elim (cases_lt before.marks.lowest (length entries)) [
      | inl inside ↦ (let lower = down.lower inside in absurd (omega arith))
      | inr out ↦ out
    ] in
    let still = down.still first in
    record {
      walk = subst (λ (n : ℕ). IsWalk stored entries n walk) (omega (arith, still.0, still.1)) down.walk;
      level = down.level;
      start = down.start;
      point = inl (ap (λ v. v.items) down.kept ∙ none, still.0, omega (arith, still.0));
    }

-- ---- Reads

pub if_some : (o : Option ℕ) (P : ℕ → Type 0) → ((r : ℕ) → o ≡ Some r → P r) → IfSome o P
if_some None P from = tt
if_some (Some r) P from = from r refl
