-- The clause of a false literal, from the walk that found it.
use Rattle.std.proofs.Common.{◌≡◌, ℕ, ◌+◌, ◌<◌, true, List, [], ◌∷◌, ◌++◌, Option, Some, None, length, get_or, take, arith, inl, inr, sym, ◌∙◌, ap, subst, refl}
use Rattle.std.specs.Prelude.{Contains, IsSome}
use Rattle.std.proofs.lemmas.Bool.{cases_eq}
use Rattle.std.proofs.lemmas.List.{take_all, length-map}
use Rattle.std.proofs.lemmas.List.Elements.{All-contains, Contains-get_or}
use Rattle.sat_lits.specs.Literals.{negation, variable_of}
use Rattle.sat_arena.specs.declared.trail.Assigned.{Assigned}
use Rattle.sat_arena.specs.Stored.{Stored}
use Rattle.sat_arena.specs.ArenaState.{clauses_of}
use Rattle.sat_arena.specs.Trails.{true_in}
use Rattle.sat_arena.specs.Justified.{IsEntryAt, IsTrueAt, IsDecision, IsReason, HasPositions}
use Rattle.sat_analyze.specs.declared.walk.Walk.{Walk}
use Rattle.sat_analyze.specs.declared.walk.Keeping.TheVariants.{Decisions}
use Rattle.sat_analyze.specs.declared.learnt.Learnt.{Learnt}
use Rattle.sat_analyze.specs.Derived.{HasVariable}
use Rattle.sat_analyze.specs.Walked.{IsFresh, IsWalk, Meets, KeepsLit, IsKept, KeepsMore}
use Rattle.sat_analyze.specs.Learnt.{IsFinal, IsLeft}
use Rattle.sat_analyze.proofs.BeforeLemmas.{before_from_true_in, none_before, assigned_reason, variable_of-negation}
use Rattle.sat_analyze.proofs.ClauseLemmas.{negation-negation}
use Rattle.sat_analyze.proofs.PositionLemmas.{one_at}
use Rattle.sat_analyze.proofs.WalkLemmas.{met_clause, HasReason}
use Rattle.sat_analyze.proofs.LearntLemmas.{clause_holds, kept_holds, right_clause, one_entry, level_of, begin_walk, few_own}
use Rattle.sat_analyze.proofs.AssertLemmas.{only_one}

-- ---- The entry that made the literal false

pub record IsFalseBy (entries : List Assigned) (positions : List ℕ) (lit : ℕ) (entry : Assigned) : Type 0 where
  pub within : variable_of lit < length positions
  pub stands : IsEntryAt entries (get_or positions (variable_of lit) 0) entry
  pub of_literal : entry.lit ≡ negation lit

pub false_by : (entries : List Assigned) (positions : List ℕ) (lit : ℕ) → HasPositions entries positions → true_in entries (negation lit) ≡ true → (entry : Assigned) × IsFalseBy entries positions lit entry
false_by entries positions lit has is =
    let before = before_from_true_in entries (length entries) (negation lit) (ap (λ es. true_in es (negation lit)) (take_all (length entries) entries (omega arith)) ∙ is) in
    let variable : variable_of before.entry.lit ≡ variable_of lit = ap variable_of before.of_literal ∙ variable_of-negation lit in
    let there = has before.at before.entry before.stands in
    let at : before.at ≡ get_or positions (variable_of lit) 0 = sym there.1 ∙ ap (λ v. get_or positions v 0) variable in (
      before.entry,
      record {
        within = subst (λ (v : ℕ). v < length positions) variable there.0;
        stands = subst (λ (n : ℕ). IsEntryAt entries n before.entry) at before.stands;
        of_literal = before.of_literal;
      },
    )

-- the entry as it is read
pub record IsReadAt (entries : List Assigned) (lit position : ℕ) (here : Assigned) : Type 0 where
  pub stands : IsEntryAt entries position here
  pub of_literal : here.lit ≡ negation lit

pub read_at : (entries read : List Assigned) (positions : List ℕ) (lit position : ℕ) (here : Assigned) → read ≡ entries → HasPositions entries positions → true_in entries (negation lit) ≡ true → position ≡ get_or positions (variable_of lit) 0 → here ≡ get_or read position here → IsReadAt entries lit position here
read_at entries read positions lit position here same has is there at =
    let by = false_by entries positions lit has is in
    let stands : IsEntryAt entries position by.0 = subst (λ (n : ℕ). IsEntryAt entries n by.0) (sym there) by.1.stands in
    let here_is_live : IsEntryAt entries position here = (stands.0, sym (at ∙ ap (λ es. get_or es position here) same)) in
    record { stands = here_is_live; of_literal = ap (λ (e : Assigned). e.lit) (one_at entries position position here by.0 here_is_live stands refl) ∙ by.1.of_literal }

is_some_unless : (o : Option ℕ) → (o ≡ None → ⊥) → IsSome o
is_some_unless None some = absurd (some refl)
is_some_unless (Some x) some = refl

pub has_some_reason : (entries : List Assigned) (lit position : ℕ) (here : Assigned) → IsReadAt entries lit position here → (IsDecision entries (negation lit) → ⊥) → IsSome here.reason
has_some_reason entries lit position here read undecided =
    is_some_unless here.reason (λ none. undecided (record { entry = here; stands = (position, read.stands.0, read.stands.1); of_literal = read.of_literal; decided = none }))

-- ---- Where the walk begins

pub begin_final : (stored : List Stored) (entries : List Assigned) (positions : List ℕ) (table : HasPositions entries positions) (lit position : ℕ) (entry : Assigned) (reason : ℕ) (fresh met walk : Walk) → IsFresh entries fresh → IsEntryAt entries position entry → entry.lit ≡ negation lit → HasReason stored entries position entry reason → Meets stored positions reason fresh met → KeepsLit lit met walk → IsWalk stored entries position walk × (walk.kept.items ≡ lit ∷ [])
begin_final stored entries positions table lit position entry reason fresh met walk is at of_literal has meets new =
    let none : met.kept.items ≡ [] = ap (λ v. v.items) meets.kept ∙ is.kept in
    let one : walk.kept.items ≡ lit ∷ [] = new.kept ∙ ap (λ (ks : List ℕ). ks ++ lit ∷ []) none in
    let why : IsReason (true_in (take position entries)) meets.met.clause entry.lit = subst (λ (c : List ℕ). IsReason (true_in (take position entries)) c entry.lit) (met_clause stored reason meets.met meets.within meets.there) has.why in
    let variable : variable_of lit ≡ variable_of entry.lit = sym (ap variable_of of_literal ∙ variable_of-negation lit) in (
      begin_walk stored entries positions table position reason (position + 1) fresh met walk is (omega (arith, at.0)) meets (assigned_reason entries position entry meets.met.clause at why)
          (λ l holds. elim (cases_eq l entry.lit) [
            | inl same ↦ inr (subst (λ (ks : List ℕ). Contains ks (negation l)) (sym one) (0, omega arith, sym (ap negation (same ∙ of_literal) ∙ negation-negation lit)))
            | inr differ ↦ inl (All-contains (λ m. (m ≡ entry.lit → ⊥) → true_in (take position entries) (negation m) ≡ true) meets.met.clause l why.others holds differ)
          ])
          (λ m holds.
          let same : m ≡ lit = only_one walk.kept.items lit m one holds in (
            none_before entries positions position entry m table at (ap variable_of same ∙ variable),
            none_before entries positions position entry (negation m) table at (variable_of-negation m ∙ ap variable_of same ∙ variable),
          ))
          (few_own walk.kept.items (omega (arith, ap length one))) new.marks new.hints,
      one,
    )

-- ---- What is left

pub record HasFinal (stored : List Stored) (entries : List Assigned) (lit position : ℕ) (entry : Assigned) (reason : ℕ) (begun suffix : Walk) (learnt : Learnt) : Type 0 where
  pub stands : IsEntryAt entries position entry
  pub of_literal : entry.lit ≡ negation lit
  pub has : HasReason stored entries position entry reason
  pub kept : begun.kept.items ≡ lit ∷ []
  pub walk : IsWalk stored entries 0 suffix
  pub more : KeepsMore entries Decisions position begun.kept.items suffix
  pub left : IsLeft suffix learnt

pub final_is : (stored : List Stored) (entries : List Assigned) (positions : List ℕ) (table : HasPositions entries positions) (lit position : ℕ) (entry : Assigned) (reason : ℕ) (begun suffix : Walk) (learnt : Learnt) → HasFinal stored entries lit position entry reason begun suffix learnt → IsFinal stored entries lit learnt
final_is stored entries positions table lit position entry reason begun suffix learnt final = record {
  holds = clause_holds suffix.kept.items learnt.clause lit final.left.clause (final.more.stay lit (subst (λ (ks : List ℕ). Contains ks lit) (sym final.kept) (0, omega arith, refl)));
  decisions = λ other holds differ.
      let kept = other_kept other holds differ in
      record { entry = kept.entry; stands = (kept.position, kept.stands.0, kept.stands.1); of_literal = kept.of_literal; decided = kept.decided refl };
  back = record {
    within = λ other at holds differ there.
        let kept = other_kept other holds differ in
        let level : kept.entry.level ≡ at = level_of entries positions kept.position kept.entry (negation other) at table kept.stands kept.of_literal there in
        let low = kept.low in
        let left : learnt.level ≡ suffix.level = final.left.level in
        omega arith;
    reached = λ some.
        let left : learnt.level ≡ suffix.level = final.left.level in
        let old = final.more.reached (omega arith) in
        let m = old.0 in (
          negation m,
          clause_holds suffix.kept.items learnt.clause m final.left.clause old.1,
          (λ same.
              let one : m ≡ lit = sym (negation-negation m) ∙ ap negation same ∙ negation-negation lit in
              let variable : variable_of old.2.entry.lit ≡ variable_of entry.lit = ap variable_of (old.2.of_literal ∙ one) ∙ sym (ap variable_of final.of_literal ∙ variable_of-negation lit) in
              let there = one_entry entries positions old.2.position position old.2.entry entry table old.2.stands final.stands variable in
              let before = old.2.before in
              omega (arith, there.0)),
          subst (λ (n : ℕ). IsTrueAt entries n learnt.level) (sym (negation-negation m))
              (record { entry = old.2.entry; stands = (old.2.position, old.2.stands.0, old.2.stands.1); of_literal = old.2.of_literal; at_level = old.2.at_level ∙ sym left }),
        );
  };
  variables = λ k d within.
      let l = get_or learnt.clause k d in
      let holds = Contains-get_or learnt.clause k d within in
      elim (cases_eq l (negation lit)) [
        | inl same ↦ subst (HasVariable (clauses_of stored)) (ap variable_of (final.of_literal ∙ sym same)) own_variable
        | inr differ ↦
            let kept = other_kept l holds differ in
            subst (HasVariable (clauses_of stored)) (ap variable_of kept.of_literal ∙ variable_of-negation l) (final.walk.listed kept.position kept.entry kept.stands kept.is_marked)
      ];
  right = right_clause stored entries suffix learnt final.walk final.left;
}
  where
    other_kept : (other : ℕ) → Contains learnt.clause other → (other ≡ negation lit → ⊥) → IsKept entries Decisions position suffix.marks.seen.items suffix.level (negation other)
    other_kept other holds differ = elim (final.more.added (negation other) (kept_holds suffix.kept.items learnt.clause other final.left.clause holds)) [
      | inr kept ↦ kept
      | inl old ↦ absurd (differ (sym (negation-negation other) ∙ ap negation (only_one begun.kept.items lit (negation other) final.kept old)))
    ]

    own_variable : HasVariable (clauses_of stored) (variable_of entry.lit)
    own_variable = record {
      clause = get_or (clauses_of stored) reason [];
      listed = Contains-get_or (clauses_of stored) reason [] (let same : length (clauses_of stored) ≡ length stored = length-map stored (λ s. s.clause) in let within = final.has.within in omega arith);
      literal = entry.lit;
      holds = final.has.why.holds;
      of_variable = refl;
    }
