-- What a walk that has ended says of the clause that it leaves.
use Rattle.std.proofs.Common.{◌≡◌, ◌⊎◌, ℕ, ◌==◌, ◌<◌, ◌≤◌, true, List, [], ◌∷◌, ◌++◌, length, map, get_or, take, arith, inl, inr, sym, ◌∙◌, ap, subst, refl}
use Rattle.std.specs.Prelude.{Contains}
use Rattle.std.specs.List.{Any}
use Rattle.std.specs.List.Sorted.{IsPermutation}
use Rattle.std.proofs.lemmas.Bool.{eqb-true, eq-eqb}
use Rattle.std.proofs.lemmas.List.{length-map, get_or-map, take_all}
use Rattle.std.proofs.lemmas.List.Folds.{Any-from_list_any, list_any-from_Any}
use Rattle.std.proofs.lemmas.List.Elements.{All-contains, Contains-get_or}
use Rattle.std.proofs.lemmas.List.Sorted.{Contains-permutation, IsPermutation-sym}
use Rattle.fsmv_base.specs.declared.citation.Id.{Id}
use Rattle.sat_lits.specs.Literals.{negation, variable_of}
use Rattle.sat_lits.specs.Steps.{negated, IsFalsified, IsRupStep}
use Rattle.sat_arena.specs.declared.trail.Assigned.{Assigned}
use Rattle.sat_arena.specs.Stored.{Stored}
use Rattle.sat_arena.specs.ArenaState.{clauses_of}
use Rattle.sat_arena.specs.Trails.{true_in}
use Rattle.sat_arena.specs.Deduced.{IsConflict}
use Rattle.sat_arena.specs.Justified.{IsEntryAt, IsTrueAt, HasPositions}
use Rattle.sat_analyze.specs.declared.walk.Walk.{Walk}
use Rattle.sat_analyze.specs.declared.learnt.Learnt.{Learnt}
use Rattle.sat_analyze.specs.Derived.{IsRupStepOver}
use Rattle.sat_analyze.specs.Marked.{IsMarked, ArePositioned}
use Rattle.sat_analyze.specs.Walked.{IsStart, RefutesFrom, IsLate, AreMarks, HaveOwnVariables, IsFresh, IsWalk, Meets}
use Rattle.sat_analyze.specs.Learnt.{IsLeft}
use Rattle.sat_analyze.proofs.BeforeLemmas.{IsAssigned, assigned_from_true_in}
use Rattle.sat_analyze.proofs.PositionLemmas.{one_at}
use Rattle.sat_analyze.proofs.ClauseLemmas.{negation-negation}
use Rattle.sat_analyze.proofs.RefuteLemmas.{RefutesFrom-begin}
use Rattle.sat_analyze.proofs.WalkLemmas.{met_clause, have_positions, marks_of, AreMarks-met, listed_met}

-- ---- The clause against the kept literals

pub clause_holds : (kept clause : List ℕ) (m : ℕ) → IsPermutation (map negation kept) clause → Contains kept m → Contains clause (negation m)
clause_holds kept clause m moved holds =
    let at : get_or (map negation kept) holds.0 (negation m) ≡ negation m = get_or-map negation kept holds.0 m (negation m) holds.1 ∙ ap negation holds.2 in
    let long : length (map negation kept) ≡ length kept = length-map kept negation in
    Contains-permutation (map negation kept) clause (negation m) moved (holds.0, omega (arith, holds.1), at)

pub kept_holds : (kept clause : List ℕ) (l : ℕ) → IsPermutation (map negation kept) clause → Contains clause l → Contains kept (negation l)
kept_holds kept clause l moved holds =
    let back : Contains (map negation kept) l = Contains-permutation clause (map negation kept) l (IsPermutation-sym (map negation kept) clause moved) holds in
    let long : length (map negation kept) ≡ length kept = length-map kept negation in
    let inside : back.0 < length kept = omega (arith, back.1) in
    let m = get_or kept back.0 (negation l) in
    let is : l ≡ negation m = sym back.2 ∙ get_or-map negation kept back.0 (negation l) l inside in
    let same : m ≡ negation l = sym (ap negation is ∙ negation-negation m) in
    subst (Contains kept) same (Contains-get_or kept back.0 (negation l) inside)

pub empty_clause : (clause : List ℕ) → ((l : ℕ) → Contains clause l → ⊥) → clause ≡ []
empty_clause [] none = refl
empty_clause (l ∷ ls) none = absurd (none l (0, omega arith, refl))

pub right_clause : (stored : List Stored) (entries : List Assigned) (walk : Walk) (learnt : Learnt) → IsWalk stored entries 0 walk → IsLeft walk learnt → IsRupStepOver stored learnt.clause learnt.hints
right_clause stored entries walk learnt is left axioms lines names =
    subst (IsRupStep axioms lines learnt.clause) (sym left.hints) (is.refutes.refutes axioms lines (negated learnt.clause) names (record {
      marked = λ i e low at marked. absurd (omega arith);
      kept_known = λ m holds.
          let there = clause_holds walk.kept.items learnt.clause m left.clause holds in
          list_any-from_Any (λ l. negation l == m) learnt.clause (there.0, negation m, there.1, there.2, eq-eqb (negation (negation m)) m (negation-negation m));
      within = λ m is_falsified.
          let found : Any (λ l. (negation l == m) ≡ true) learnt.clause = Any-from_list_any (λ l. negation l == m) learnt.clause is_falsified in
          inr (subst (Contains walk.kept.items) (eqb-true (negation found.1) m found.4)
          (kept_holds walk.kept.items learnt.clause found.1 left.clause (found.0, found.2, found.3)));
    }))

-- ---- One entry for a literal

pub one_entry : (entries : List Assigned) (positions : List ℕ) (i j : ℕ) (e f : Assigned) → HasPositions entries positions → IsEntryAt entries i e → IsEntryAt entries j f → variable_of e.lit ≡ variable_of f.lit → (i ≡ j) × (e ≡ f)
one_entry entries positions i j e f has at there same =
    let one : i ≡ j = sym (has i e at).1 ∙ ap (λ v. get_or positions v 0) same ∙ (has j f there).1 in
    (one, one_at entries i j e f at there one)

pub true_in_from_entry : (entries : List Assigned) (i : ℕ) (e : Assigned) (m : ℕ) → IsEntryAt entries i e → e.lit ≡ m → true_in entries m ≡ true
true_in_from_entry entries i e m at is =
    list_any-from_Any (λ (f : Assigned). f.lit == m) entries (i, e, at.0, at.1, eq-eqb e.lit m is)

-- the level of a kept literal is that of its entry
pub level_of : (entries : List Assigned) (positions : List ℕ) (i : ℕ) (e : Assigned) (m level : ℕ) → HasPositions entries positions → IsEntryAt entries i e → e.lit ≡ m → IsTrueAt entries m level → e.level ≡ level
level_of entries positions i e m level has at is there =
    ap (λ (f : Assigned). f.level) (one_entry entries positions i there.stands.0 e there.entry has at (there.stands.1, there.stands.2) (ap variable_of (is ∙ sym there.of_literal))).1 ∙ there.at_level

-- ---- What a walk began with

pub begin_walk : (stored : List Stored) (entries : List Assigned) (positions : List ℕ) (table : HasPositions entries positions) (position at top : ℕ) (fresh met walk : Walk) → IsFresh entries fresh → position ≤ length entries → (meets : Meets stored positions at fresh met)
    → ((l : ℕ) → Contains meets.met.clause l → IsAssigned entries top l)
    → ((l : ℕ) → Contains meets.met.clause l → (true_in (take position entries) (negation l) ≡ true) ⊎ Contains walk.kept.items (negation l))
    → IsLate entries position walk.kept.items → HaveOwnVariables walk.kept.items
    → walk.marks ≡ met.marks → walk.hints ≡ met.hints → IsWalk stored entries position walk
begin_walk stored entries positions table position at top fresh met walk is within meets assigned false_there late apart marks hints =
    let of = marks_of stored entries positions table at top fresh met is.marks meets assigned in
    let hint : walk.hints.items ≡ meets.met.id ∷ [] = ap (λ v. v.items) hints ∙ meets.hints ∙ ap (λ hs. hs ++ meets.met.id ∷ []) is.hints in
    record {
      within = within;
      marks = subst (AreMarks entries) (sym marks) (AreMarks-met stored entries positions table at fresh met is.marks meets);
      listed = λ i e there marked. listed_met stored entries at top meets.met fresh.marks.seen.items met.marks.seen.items meets.within meets.there
          (λ j f here old. absurd (is.unmarked j old)) of i e there (subst (λ ms. IsMarked ms.seen.items i) marks marked);
      late = late;
      apart = apart;
      refutes = subst (λ (hs : List Id). RefutesFrom stored entries position walk.marks.seen.items walk.kept.items hs) (sym hint)
          (subst (λ ms. RefutesFrom stored entries position ms.seen.items walk.kept.items (meets.met.id ∷ [])) (sym marks)
          (RefutesFrom-begin stored entries position met.marks.seen.items walk.kept.items meets.met (at, meets.within, meets.there) false_there of.others));
    }

none_late : (entries : List Assigned) (position : ℕ) (kept : List ℕ) → kept ≡ [] → IsLate entries position kept
none_late entries position kept none m holds = absurd (let inside : holds.0 < length kept = holds.1 in let empty : length kept ≡ 0 = ap length none in omega arith)

pub few_own : (kept : List ℕ) → length kept ≤ 1 → HaveOwnVariables kept
few_own kept few i j d order within = absurd (let long : length (map variable_of kept) ≡ length kept = length-map kept variable_of in omega arith)

-- each literal of a falsified clause is assigned
pub assigned_conflict : (entries : List Assigned) (clause : List ℕ) → IsFalsified (true_in entries) clause → (l : ℕ) → Contains clause l → IsAssigned entries (length entries) l
assigned_conflict entries clause falsified l holds =
    assigned_from_true_in entries (length entries) l
    (ap (λ es. true_in es (negation l)) (take_all (length entries) entries (omega arith)) ∙ All-contains (λ m. true_in entries (negation m) ≡ true) clause l falsified holds)

pub conflict_positions : (stored : List Stored) (entries : List Assigned) (positions : List ℕ) (table : HasPositions entries positions) (conflict : ℕ) (fresh : Walk) → IsFresh entries fresh → IsConflict (clauses_of stored) entries conflict → ArePositioned positions (length fresh.marks.seen.items) (get_or (clauses_of stored) conflict [])
conflict_positions stored entries positions table conflict fresh is met =
    have_positions entries positions table fresh.marks (length entries) (get_or (clauses_of stored) conflict []) is.marks (assigned_conflict entries (get_or (clauses_of stored) conflict []) met.1)

pub begin_learning : (stored : List Stored) (entries : List Assigned) (positions : List ℕ) (table : HasPositions entries positions) (conflict : ℕ) (fresh walk : Walk) → IsFresh entries fresh → IsConflict (clauses_of stored) entries conflict → Meets stored positions conflict fresh walk → IsWalk stored entries (length entries) walk × (walk.kept.items ≡ []) × IsStart entries walk.marks.start × (walk.level ≡ 0)
begin_learning stored entries positions table conflict fresh walk is against meets =
    let none : walk.kept.items ≡ [] = ap (λ v. v.items) meets.kept ∙ is.kept in
    let falsified : IsFalsified (true_in entries) meets.met.clause = subst (IsFalsified (true_in entries)) (met_clause stored conflict meets.met meets.within meets.there) against.1 in (
      begin_walk stored entries positions table (length entries) conflict (length entries) fresh walk walk is (omega arith) meets (assigned_conflict entries meets.met.clause falsified)
          (λ l holds. inl (ap (λ es. true_in es (negation l)) (take_all (length entries) entries (omega arith)) ∙ All-contains (λ m. true_in entries (negation m) ≡ true) meets.met.clause l falsified holds))
          (none_late entries (length entries) walk.kept.items none) (few_own walk.kept.items (omega (arith, ap length none))) refl refl,
      none,
      subst (IsStart entries) (sym meets.start) is.start,
      meets.level ∙ is.level,
    )
