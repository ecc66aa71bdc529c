-- A search that ends by one more line, and one that learns.
use Rattle.std.proofs.Common.{◌≡◌, ◌<◌, ◌≤◌, ℕ, List, [], ◌∷◌, ◌++◌, Some, Bool, true, arith, subst, sym, ap, ◌∙◌, inr, get_or, length}
use Rattle.std.specs.Prelude.{All, Contains}
use Rattle.std.proofs.lemmas.Bool.{both_ways}
use Rattle.std.proofs.lemmas.List.{map-append}
use Rattle.std.proofs.lemmas.List.Elements.{All-nil, All-cons, All-contains, All-push, Contains-push}
use Rattle.fsmv_base.specs.declared.citation.Id.{Id}
use Rattle.fsmv_base.specs.declared.citation.Id.TheVariants.{Derived}
use Rattle.sat_lits.specs.Literals.{negation, variable_of}
use Rattle.sat_lits.specs.Steps.{IsFalsified, IsRupStep, HoldsUnit, IsLive, named}
use Rattle.proof_log.specs.Logged.{Logged, live_lines}
use Rattle.proof_log.specs.IsSound.{IsSound}
use Rattle.sat_arena.specs.declared.trail.Assigned.{Assigned}
use Rattle.sat_arena.specs.Stored.{Stored}
use Rattle.sat_arena.specs.ArenaState.{clauses_of, AreGrown}
use Rattle.sat_arena.specs.Settled.{HasTwo}
use Rattle.sat_arena.specs.Trails.{true_in, up_to, IsGrown, IsOrderly}
use Rattle.sat_arena.specs.Justified.{current_level}
use Rattle.sat_analyze.specs.declared.learnt.Learnt.{Learnt}
use Rattle.sat_analyze.specs.Derived.{HasVariable}
use Rattle.sat_analyze.specs.Learnt.{IsLearnt}
use Rattle.sat_search.specs.Assumed.{AreNotFalsifiedUnder, NoneIsFalsifiedUnder}
use Rattle.sat_search.specs.Additions.{NoneSubsumes, listed_at, HasVariables}
use Rattle.sat_search.specs.Solvers.{KeepsLog, IsReady, IsSolver}
use Rattle.sat_search.specs.Endings.{Records, Refutes, EndsBy, AddsNewLine}
use Rattle.sat_search.specs.declared.solver.Solver.{Solver}
use Rattle.sat_search.specs.declared.answer.Answer.TheVariants.{Core}
use Rattle.sat_search.proofs.ReadyLemmas.{IsReady-deduced}
use Rattle.sat_search.proofs.KeepsLemmas.{with_line, derived_named, covered_unit, listed_has_name, listed_is_covered, KeepsLog-record, HasVariables-record}
use Rattle.sat_arena.proofs.LevelLaws.{current_level-up_to, up_to-up_to}
use Rattle.sat_search.proofs.LearntLemmas.{IsReady-add, not_yet, grown_if_false, learnt_is_new, learnt_is_not_covered, learnt_has_no_unit, learnt_has_two}

-- ---- A clause of negated assumptions, where none was known

pub falsified_has_no_unit : (negated : ℕ → Bool) (log : Logged) (clause : List ℕ) → NoneIsFalsifiedUnder negated log → IsFalsified negated clause → HoldsUnit (live_lines log.lines) clause → ⊥
falsified_has_no_unit negated log clause alone false_there unit =
    alone (Derived unit.stands.0) (unit.literal ∷ []) (derived_named log.axioms (live_lines log.lines) unit.stands.0 (unit.literal ∷ []) unit.stands.1)
    (All-cons (λ (l : ℕ). negated (negation l) ≡ true) unit.literal []
    (All-contains (λ (l : ℕ). negated (negation l) ≡ true) clause unit.literal false_there unit.holds) (All-nil (λ (l : ℕ). negated (negation l) ≡ true)))

pub falsified_is_fresh : (negated : ℕ → Bool) (log : Logged) (clause : List ℕ) → NoneIsFalsifiedUnder negated log → IsFalsified negated clause → IsLive (live_lines log.lines) clause → ⊥
falsified_is_fresh negated log clause alone false_there stands =
    alone (Derived stands.0) clause (derived_named log.axioms (live_lines log.lines) stands.0 clause stands.1) false_there

nothing_listed_is_falsified : (negated : ℕ → Bool) (log : Logged) → IsSound log → NoneIsFalsifiedUnder negated log → AreNotFalsifiedUnder negated (listed_at (length log.lines) log)
nothing_listed_is_falsified negated log sound alone clause listed false_there =
    let at = listed_has_name log (λ i count line is retired. (sound.retired i count line is retired).1) clause listed in
    alone at.0 clause at.1 false_there

none_subsumes_falsified : (negated : ℕ → Bool) (log : Logged) (clause : List ℕ) → IsSound log → NoneIsFalsifiedUnder negated log → IsFalsified negated clause → NoneSubsumes (listed_at (length log.lines) log) clause
none_subsumes_falsified negated log clause sound alone false_there subsumer listed inside =
    let at = listed_has_name log (λ i count line is retired. (sound.retired i count line is retired).1) subsumer listed in
    alone at.0 subsumer at.1 (λ k d within. All-contains (λ (l : ℕ). negated (negation l) ≡ true) clause (get_or subsumer k d) false_there (inside k d within))

-- ---- One more line, in the log and in the arena

pub IsSolver-record : (old new : Solver) (clause : List ℕ) (hints : List Id) (id : Id) → IsSolver old → new ≡ record old { log = new.log; propagator = new.propagator } → Records old new clause hints id → All (IsGrown old.propagator.vars) clause → All (λ l. HasVariable (clauses_of old.propagator.stored) (variable_of l)) clause → ((k : ℕ) → k < current_level old.propagator.entries → HasTwo (true_in (up_to k old.propagator.entries)) clause) → IsSolver new
IsSolver-record old new clause hints id solver others records grown variables two =
    let stored = old.propagator.stored in
    let entries = old.propagator.entries in
    let vars = old.propagator.vars in
    let after = new.propagator in
    let added : Stored = record { clause = clause; id = id } in
    let all : clauses_of after.stored ≡ clauses_of stored ++ clause ∷ [] = ap clauses_of records.stored_is ∙ map-append (λ (s : Stored). s.clause) stored (added ∷ []) in
    let before : IsReady (clauses_of after.stored) entries vars = subst (λ (cs : List (List ℕ)). IsReady cs entries vars) (sym all) (IsReady-add (clauses_of stored) entries vars clause solver.ready two) in
    record {
      keeps = subst (λ (l : Logged). KeepsLog l after.stored) (sym records.log_is) (subst (λ (ss : List Stored). KeepsLog (with_line old.log clause hints) ss) (sym records.stored_is) (KeepsLog-record old.log stored clause hints id solver.keeps variables records.id_is));
      ready = subst (λ (n : ℕ). IsReady (clauses_of after.stored) after.entries n) (sym records.vars_is)
          (IsReady-deduced (clauses_of after.stored) entries after.entries vars before records.deduced (subst (λ (n : ℕ). IsOrderly after.entries n) records.vars_is records.orderly));
      order_vars = ap (λ (s : Solver). s.order) others ∙ solver.order_vars ∙ sym records.vars_is;
      grown = subst (λ (n : ℕ). AreGrown n (clauses_of after.stored)) (sym records.vars_is)
          (subst (λ (cs : List (List ℕ)). AreGrown vars cs) (sym all) (All-push (λ (c : List ℕ). All (IsGrown vars) c) (clauses_of stored) clause solver.grown grown));
    }

-- the answer that names the line
pub EndsBy-record : (negated : ℕ → Bool) (old new : Solver) (clause : List ℕ) (hints : List Id) (id : Id) (most : ℕ) → IsSolver old → IsSolver new → Records old new clause hints id → IsSound old.log → Refutes negated old clause hints → length old.log.lines < most → EndsBy negated old.log new.log most (Core id)
EndsBy-record negated old new clause hints id most solver solver' records sound refutes room =
    let added : Stored = record { clause = clause; id = id } in
    let last : Contains new.propagator.stored added = subst (λ (stored : List Stored). Contains stored added) (sym records.stored_is) (Contains-push old.propagator.stored added) in
    record {
      is_end = record {
        clause = clause;
        names = All-contains (λ (s : Stored). named new.log.axioms (live_lines new.log.lines) s.id ≡ Some s.clause) new.propagator.stored added solver'.keeps.names last;
        false_there = refutes.negated;
      };
      added = inr (record {
        clause = clause;
        hints = hints;
        is = records.log_is;
        named = ap Core records.id_is;
        alone = nothing_listed_is_falsified negated old.log sound refutes.alone;
        none_subsumes = none_subsumes_falsified negated old.log clause sound refutes.alone refutes.negated;
        room = room;
        variables = λ before. subst HasVariables (sym records.log_is) (HasVariables-record old.log old.propagator.stored clause hints solver.keeps refutes.variables before);
      });
    }

-- ---- The clause of a refused assumption

-- ---- The empty clause

-- ---- Going back before the line is added

pub Refutes-back : (negated : ℕ → Bool) (old mid : Solver) (entries : List Assigned) (head : ℕ) (clause : List ℕ) (hints hints' : List Id) → mid ≡ record old { propagator = record old.propagator { entries = entries; head = head } } → hints' ≡ hints → Refutes negated old clause hints → Refutes negated mid clause hints'
Refutes-back negated old mid entries head clause hints hints' mid_is hints_are refutes =
    subst (λ (s : Solver). Refutes negated s clause hints') (sym mid_is) (subst (λ (h : List Id). Refutes negated (record old { propagator = record old.propagator { entries = entries; head = head } }) clause h) (sym hints_are) (record {
      right = refutes.right;
      negated = refutes.negated;
      alone = refutes.alone;
      grown = refutes.grown;
      variables = refutes.variables;
    }))

-- at level 0 there is no level below
pub none_below_level_zero : (clause : List ℕ) (entries : List Assigned) (k : ℕ) → k < current_level (up_to 0 entries) → HasTwo (true_in (up_to k (up_to 0 entries))) clause
none_below_level_zero clause entries k below = absurd (let low : current_level (up_to 0 entries) ≤ 0 = current_level-up_to 0 entries in omega arith)

-- ---- A learnt clause

module _ (old : Solver) (learnt : Learnt) (solver : IsSolver old) (above : 0 < current_level old.propagator.entries) (is : IsLearnt old.propagator.stored old.propagator.entries learnt) where
  pub learnt_right : IsRupStep old.log.axioms (live_lines old.log.lines) learnt.clause learnt.hints
  learnt_right = is.right old.log.axioms (live_lines old.log.lines) solver.keeps.names

  pub learnt_grown : All (IsGrown old.propagator.vars) learnt.clause
  learnt_grown = grown_if_false old.propagator.entries old.propagator.vars learnt.clause solver.ready.orderly is.falsified

  pub learnt_plain : HoldsUnit (live_lines old.log.lines) learnt.clause → ⊥
  learnt_plain unit =
      learnt_has_no_unit (clauses_of old.propagator.stored) old.propagator.entries old.propagator.vars solver.ready above learnt.clause learnt.level is.falsified (is.asserts above) unit.literal
      (covered_unit (clauses_of old.propagator.stored) unit.literal (solver.keeps.listed (Derived unit.stands.0) (unit.literal ∷ []) (derived_named old.log.axioms (live_lines old.log.lines) unit.stands.0 (unit.literal ∷ []) unit.stands.1))) unit.holds

  pub learnt_fresh : IsLive (live_lines old.log.lines) learnt.clause → ⊥
  learnt_fresh stands =
      learnt_is_not_covered (clauses_of old.propagator.stored) old.propagator.entries old.propagator.vars solver.ready above learnt.clause learnt.level is.falsified (is.asserts above)
      (solver.keeps.listed (Derived stands.0) learnt.clause (derived_named old.log.axioms (live_lines old.log.lines) stands.0 learnt.clause stands.1))

  pub learnt_two : (level k : ℕ) → level ≤ learnt.level → k < current_level (up_to level old.propagator.entries) → HasTwo (true_in (up_to k (up_to level old.propagator.entries))) learnt.clause
  learnt_two level k low below =
      let top : current_level (up_to level old.propagator.entries) ≤ level = current_level-up_to level old.propagator.entries in
      subst (λ (es : List Assigned). HasTwo (true_in es) learnt.clause) (sym (up_to-up_to k level (omega arith) old.propagator.entries))
      (learnt_has_two (clauses_of old.propagator.stored) old.propagator.entries old.propagator.vars solver.ready above learnt.clause learnt.level is.falsified (is.asserts above) k (omega arith))

  -- once the search has gone back, its literal of the level that was left is not false
  pub learnt_open : (level : ℕ) → level ≤ learnt.level → IsFalsified (true_in (up_to level old.propagator.entries)) learnt.clause → ⊥
  learnt_open level low falsified =
      let asserts = is.asserts above in
      both_ways (true_in (up_to level old.propagator.entries) (negation asserts.literal))
      (not_yet old.propagator.entries old.propagator.vars (negation asserts.literal) (current_level old.propagator.entries) level solver.ready.orderly asserts.at_current (omega (arith, asserts.below)))
      (All-contains (λ (l : ℕ). true_in (up_to level old.propagator.entries) (negation l) ≡ true) learnt.clause asserts.literal falsified asserts.holds)

  pub learnt_adds : (new : Logged) (hints : List Id) (most : ℕ) → IsSound old.log → new ≡ with_line old.log learnt.clause hints → length old.log.lines < most → AddsNewLine old.log new most
  learnt_adds new hints most sound new_is room = record {
    clause = learnt.clause;
    hints = hints;
    is = new_is;
    is_new = learnt_is_new (clauses_of old.propagator.stored) old.propagator.entries old.propagator.vars solver.ready above learnt.clause learnt.level is.falsified (is.asserts above) (listed_at (length old.log.lines) old.log)
        (listed_is_covered old.log old.propagator.stored solver.keeps (λ i count line at retired. (sound.retired i count line at retired).1));
    room = room;
    variables = λ before. subst HasVariables (sym new_is) (HasVariables-record old.log old.propagator.stored learnt.clause hints solver.keeps is.variables before);
  }
