-- What a search keeps, as its trail changes.
use Rattle.std.proofs.Common.{◌≡◌, ◌<◌, ◌≤◌, ◌+◌, ◌-◌, ℕ, Some, None, List, [], ◌∷◌, ◌++◌, arith, subst, sym, ap, ◌∙◌, refl, inl, inr, ◌⊎◌, get_or, true}
use Rattle.std.specs.Prelude.{All, Contains}
use Rattle.std.proofs.lemmas.Bool.{both_ways}
use Rattle.std.proofs.lemmas.List.Elements.{All-contains, All-get_or}
use Rattle.sat_lits.specs.Literals.{negation}
use Rattle.sat_arena.specs.declared.trail.Assigned.{Assigned}
use Rattle.sat_arena.specs.PropagatorState.{PropagatorState}
use Rattle.sat_arena.specs.Stored.{Stored}
use Rattle.sat_arena.specs.ArenaState.{clauses_of, AreGrown}
use Rattle.sat_arena.specs.Settled.{IsSettled}
use Rattle.sat_arena.specs.Trails.{true_in, up_to, IsOrderly}
use Rattle.sat_arena.specs.Deduced.{Deduces, nothing, one_more, IsConflict}
use Rattle.sat_arena.specs.Justified.{current_level}
use Rattle.sat_arena.proofs.LevelLemmas.{up_to-all, IsOrderly-up_to}
use Rattle.sat_arena.proofs.TrailLemmas.{consistent}
use Rattle.sat_arena.proofs.JustifiedLemmas.{IsJustified-decided, IsJustified-deduced, IsJustified-back, in_push, in_prefix, up_to-is_prefix}
use Rattle.sat_analyze.specs.Learnt.{IsNewlyFalse}
use Rattle.sat_search.specs.Solvers.{KeepsLog, IsReady, IsSolver}
use Rattle.sat_search.specs.Assumed.{AllTrue, AssumesFirst}
use Rattle.sat_search.specs.declared.solver.Solver.{Solver}
use Rattle.sat_arena.proofs.LevelLaws.{current_level-push, current_level_is_greatest, current_level_has_begun, current_level-deduced, IsSettledBelow-next, IsSettledBelow-push, IsSettledBelow-deduced, IsSettledBelow-back, up_to_is_low}
use Rattle.sat_arena.specs.Levels.{IsSettledBelow}
use Rattle.sat_arena.proofs.TrueInLemmas.{true_in_or_later, true_in_from_up_to}

-- ---- The trail

pub IsReady-deduced : (clauses : List (List ℕ)) (before after : List Assigned) (vars : ℕ) → IsReady clauses before vars → Deduces clauses (current_level before) before after → IsOrderly after vars → IsReady clauses after vars
IsReady-deduced clauses before after vars ready deduced orderly = record {
  orderly = orderly;
  justified = (IsJustified-deduced clauses (current_level before) before after deduced (current_level_has_begun before) ready.justified).0;
  settled = subst (λ (level : ℕ). IsSettledBelow level after clauses) (sym (current_level-deduced clauses (current_level before) before after deduced refl))
      (IsSettledBelow-deduced (current_level before) clauses before after deduced ready.settled);
}

pub IsReady-decided : (clauses : List (List ℕ)) (entries : List Assigned) (entry : Assigned) (vars : ℕ) → IsReady clauses entries vars → All (IsSettled (true_in entries)) clauses → entry.level ≡ current_level entries + 1 → entry.reason ≡ None → IsOrderly (entries ++ entry ∷ []) vars → IsReady clauses (entries ++ entry ∷ []) vars
IsReady-decided clauses entries entry vars ready settled level none orderly =
    let low = current_level_is_greatest entries ready.orderly.rising in
    record {
      orderly = orderly;
      justified = IsJustified-decided clauses entries entry ready.justified none (omega arith) (λ i d h. (let e : (get_or entries i d).level ≤ current_level entries = low i d h in omega arith));
      settled = subst (λ (n : ℕ). IsSettledBelow n (entries ++ entry ∷ []) clauses) (sym (current_level-push entries entry ∙ level))
          (IsSettledBelow-push (current_level entries + 1) entries clauses entry (omega arith)
          (IsSettledBelow-next (current_level entries) entries clauses (up_to-all (current_level entries) entries low) ready.settled settled));
    }

pub IsReady-back : (clauses : List (List ℕ)) (entries : List Assigned) (vars level : ℕ) → IsReady clauses entries vars → IsReady clauses (up_to level entries) vars
IsReady-back clauses entries vars level ready = record {
  orderly = IsOrderly-up_to level entries vars ready.orderly;
  justified = IsJustified-back clauses entries level ready.orderly.rising ready.justified;
  settled = IsSettledBelow-back level entries clauses ready.orderly.rising ready.settled;
}

-- a clause that propagation made false has a literal that became false at the current_level level
pub newly_false : (clauses : List (List ℕ)) (entries : List Assigned) (vars position : ℕ) → IsReady clauses entries vars → IsConflict clauses entries position → 0 < current_level entries → IsNewlyFalse entries (get_or clauses position [])
newly_false clauses entries vars position ready conflict above =
    let clause = get_or clauses position [] in
    let k = current_level entries - 1 in
    let lower = true_in (up_to k entries) in
    let false_now : (l : ℕ) → Contains clause l → true_in entries (negation l) ≡ true = λ l holds. All-contains (λ l. true_in entries (negation l) ≡ true) clause l conflict.1 holds in
    let was : IsSettled lower clause = All-get_or (IsSettled lower) clauses position [] conflict.0 (ready.settled k (omega arith)) in
    elim was [
      | inl has ↦ absurd (consistent entries vars ready.orderly has.literal (true_in_from_up_to k entries has.literal has.is_true) (false_now has.literal has.holds))
      | inr two ↦ elim (true_in_or_later k entries (negation two.first) (false_now two.first two.holds_first)) [
        | inl before ↦ absurd (both_ways (lower (negation two.first)) two.first_open before)
        | inr later ↦ record {
          literal = two.first;
          holds = two.holds_first;
          at_current = record {
            entry = later.0;
            stands = later.1;
            of_literal = later.2;
            at_level = (let low : later.0.level ≤ current_level entries = All-contains (λ (e : Assigned). e.level ≤ current_level entries) entries later.0 (current_level_is_greatest entries ready.orderly.rising) later.1 in omega (arith, later.3));
          };
        }
      ]
    ]

-- ---- The parts of a solver

-- another trail over the same clauses
pub IsSolver-moved : (solver : Solver) (propagator : PropagatorState) (order : ℕ) → IsSolver solver → order ≡ solver.order → propagator.stored ≡ solver.propagator.stored → propagator.vars ≡ solver.propagator.vars → IsReady (clauses_of solver.propagator.stored) propagator.entries solver.propagator.vars → IsSolver (record { log = solver.log; propagator = propagator; order = order })
IsSolver-moved solver propagator order old order_is stored_is vars_is ready = record {
  keeps = subst (λ (stored : List Stored). KeepsLog solver.log stored) (sym stored_is) old.keeps;
  ready = subst (λ (stored : List Stored). IsReady (clauses_of stored) propagator.entries propagator.vars) (sym stored_is)
      (subst (λ (n : ℕ). IsReady (clauses_of solver.propagator.stored) propagator.entries n) (sym vars_is) ready);
  order_vars = order_is ∙ old.order_vars ∙ sym vars_is;
  grown = subst (λ (stored : List Stored). AreGrown propagator.vars (clauses_of stored)) (sym stored_is)
      (subst (λ (n : ℕ). AreGrown n (clauses_of solver.propagator.stored)) (sym vars_is) old.grown);
}

pub IsSolver-decided : (solver : Solver) (propagator : PropagatorState) (entry : Assigned) → IsSolver solver → All (IsSettled (true_in solver.propagator.entries)) (clauses_of solver.propagator.stored) → entry.level ≡ current_level solver.propagator.entries + 1 → entry.reason ≡ None → propagator ≡ record solver.propagator { entries = solver.propagator.entries ++ entry ∷ [] } → IsOrderly propagator.entries propagator.vars → IsSolver (record { log = solver.log; propagator = propagator; order = solver.order })
IsSolver-decided solver propagator entry old settled level none is orderly =
    subst (λ (p : PropagatorState). IsOrderly p.entries p.vars → IsSolver (record { log = solver.log; propagator = p; order = solver.order })) (sym is)
    (λ in_order. IsSolver-moved solver (record solver.propagator { entries = solver.propagator.entries ++ entry ∷ [] }) solver.order old refl refl refl
    (IsReady-decided (clauses_of solver.propagator.stored) solver.propagator.entries entry solver.propagator.vars old.ready settled level none in_order)) orderly

pub IsSolver-deduced : (solver : Solver) (propagator : PropagatorState) → IsSolver solver → propagator.stored ≡ solver.propagator.stored → propagator.vars ≡ solver.propagator.vars → Deduces (clauses_of solver.propagator.stored) (current_level solver.propagator.entries) solver.propagator.entries propagator.entries → IsOrderly propagator.entries propagator.vars → IsSolver (record { log = solver.log; propagator = propagator; order = solver.order })
IsSolver-deduced solver propagator old stored_is vars_is deduced orderly =
    IsSolver-moved solver propagator solver.order old refl stored_is vars_is
    (IsReady-deduced (clauses_of solver.propagator.stored) solver.propagator.entries propagator.entries solver.propagator.vars old.ready deduced
    (subst (λ (n : ℕ). IsOrderly propagator.entries n) vars_is orderly))

pub IsSolver-back : (solver : Solver) (propagator : PropagatorState) (order level head : ℕ) → IsSolver solver → order ≡ solver.order → propagator ≡ record solver.propagator { entries = up_to level solver.propagator.entries; head = head } → IsSolver (record { log = solver.log; propagator = propagator; order = order })
IsSolver-back solver propagator order level head old order_is is =
    subst (λ (p : PropagatorState). IsSolver (record { log = solver.log; propagator = p; order = order })) (sym is)
    (IsSolver-moved solver (record solver.propagator { entries = up_to level solver.propagator.entries; head = head }) order old order_is refl refl
    (IsReady-back (clauses_of solver.propagator.stored) solver.propagator.entries solver.propagator.vars level old.ready))

-- ---- Assumptions before other decisions

pub AssumesFirst-push : (assumptions : List ℕ) (entries : List Assigned) (new : Assigned) → AssumesFirst assumptions entries → (new.reason ≡ None → Contains assumptions new.lit ⊎ AllTrue assumptions entries) → AssumesFirst assumptions (entries ++ new ∷ [])
AssumesFirst-push assumptions entries new old now = record {
  first = λ i entry at none. elim (in_push entries new i entry at) [
    | inl before ↦ subst (λ (es : List Assigned). Contains assumptions entry.lit ⊎ AllTrue assumptions es) (sym before.1) (old.first i entry before.0 none)
    | inr here ↦ subst (λ (es : List Assigned). Contains assumptions entry.lit ⊎ AllTrue assumptions es) (sym here.1)
        (subst (λ (e : Assigned). Contains assumptions e.lit ⊎ AllTrue assumptions entries) (sym here.0) (now (sym (ap (λ (e : Assigned). e.reason) here.0) ∙ none)))
  ];
}

pub AssumesFirst-deduced : (assumptions : List ℕ) (clauses : List (List ℕ)) (level : ℕ) (before after : List Assigned) → Deduces clauses level before after → AssumesFirst assumptions before → AssumesFirst assumptions after
AssumesFirst-deduced assumptions clauses level before after nothing first = first
AssumesFirst-deduced assumptions clauses level before after (one_more entries entry position deduced at reason within forces) first =
    AssumesFirst-push assumptions entries entry (AssumesFirst-deduced assumptions clauses level before entries deduced first)
    (λ none. absurd (let e : None ≡ Some position = sym none ∙ reason in cc))

pub AssumesFirst-back : (assumptions : List ℕ) (clauses : List (List ℕ)) (entries : List Assigned) (vars level : ℕ) → IsReady clauses entries vars → AssumesFirst assumptions entries → AssumesFirst assumptions (up_to level entries)
AssumesFirst-back assumptions clauses entries vars level ready old =
    let prefix = up_to-is_prefix level entries ready.orderly.rising in
    subst (AssumesFirst assumptions) (sym prefix.1) (record {
      first = λ i entry at none.
          let before = in_prefix entries prefix.0 i entry at in
          subst (λ (es : List Assigned). Contains assumptions entry.lit ⊎ AllTrue assumptions es) (sym before.1) (old.first i entry before.0 none);
    })

-- at level 0 nothing is decided
pub AssumesFirst-root : (assumptions : List ℕ) (clauses : List (List ℕ)) (entries : List Assigned) (vars : ℕ) → IsReady clauses entries vars → AssumesFirst assumptions (up_to 0 entries)
AssumesFirst-root assumptions clauses entries vars ready = record {
  first = λ i entry at none.
      let root = IsReady-back clauses entries vars 0 ready in
      let begins = (root.justified.decisions i entry at).0 none in
      let low : entry.level ≤ 0 = All-contains (λ (e : Assigned). e.level ≤ 0) (up_to 0 entries) entry (up_to_is_low 0 entries) (i, at.0, at.1) in
      absurd (omega (arith, begins.0));
}
