-- What a whole search finds, and what it adds to the log.
use Rattle.std.proofs.Common.{◌≡◌, ◌<◌, ◌≤◌, ◌+◌, ℕ, List, [], ◌∷◌, Option, Some, None, Bool, true, arith, subst, sym, ap, ◌∙◌, inl, inr, get_or, length}
use Rattle.std.specs.Prelude.{All, Contains}
use Rattle.std.specs.List.{Any}
use Rattle.std.proofs.lemmas.List.{length_push}
use Rattle.std.proofs.lemmas.List.Folds.{Any-from_list_any, list_any_at}
use Rattle.std.proofs.lemmas.List.Elements.{All-contains, All-weaker, Contains-get_or}
use Rattle.fsmv_base.specs.declared.citation.Id.{Id}
use Rattle.fsmv_base.specs.declared.citation.Id.TheVariants.{Derived}
use Rattle.sat_lits.specs.Literals.{negation, literal, literal_true}
use Rattle.sat_lits.specs.Clauses.{clause_true}
use Rattle.sat_lits.specs.Steps.{IsFalsified}
use Rattle.sat_lits.proofs.Numbered.{slice_get-push}
use Rattle.proof_log.specs.declared.log.Line.{Line}
use Rattle.proof_log.specs.Logged.{Logged, live_lines}
use Rattle.sat_arena.specs.ArenaState.{clauses_of}
use Rattle.sat_arena.specs.Settled.{IsSettled}
use Rattle.sat_arena.specs.Trails.{true_in, marked, IsGrown}
use Rattle.sat_arena.specs.Newness.{IsNew}
use Rattle.sat_arena.proofs.TrailLemmas.{consistent}
use Rattle.sat_search.specs.Orders.{AllAssigned}
use Rattle.sat_search.specs.Assumed.{AreNotFalsifiedUnder, assumed, AllTrue}
use Rattle.sat_search.specs.Additions.{present, listed_at, NoneSubsumes, HasVariables}
use Rattle.sat_search.specs.Solvers.{IsCovered, IsSolver}
use Rattle.sat_search.specs.LoopEnds.{AreSettled}
use Rattle.sat_search.specs.Endings.{ContinuesTo, EndsBy, AddsOwnLine, RunsTo}
use Rattle.sat_search.specs.Sessions.{IsModel, Answers, AddsLines}
use Rattle.sat_search.specs.Founds.{HasValues, named_by}
use Rattle.sat_search.specs.declared.solver.Solver.{Solver}
use Rattle.sat_search.specs.declared.answer.Answer.{Answer}
use Rattle.sat_search.specs.declared.answer.Answer.TheVariants.{Model, Core, Spent}
use Rattle.sat_search.proofs.KeepsLemmas.{only, with_line, line_of, slice_get_within, present_named, axiom_named, derived_named, listed_at-record, Appends-record}
use Rattle.sat_search.proofs.RetireLemmas.{Extends-appends}
use Rattle.sat_search.proofs.ModelLemmas.{literal_true-known, clause_true-settled}
use Rattle.sat_search.proofs.LearntLemmas.{grown_if_true}

-- ---- Lines

pub AddsLines-continues : (assumptions : List ℕ) (old new : Logged) (most : ℕ) (core : Option Id) → ContinuesTo old new most → AddsLines assumptions old new most core
AddsLines-continues assumptions old new most core continues = record {
  extends = Extends-appends old new continues.appends;
  within = continues.within;
  news = λ i line from is. inl (continues.news i line from is);
}

AddsLines-own : (negated : ℕ → Bool) (assumptions : List ℕ) (search_round : (clause : List ℕ) → IsFalsified (assumed assumptions) clause → IsFalsified negated clause) (old mid new : Logged) (most : ℕ) (id : Id) → ContinuesTo old mid most → AddsOwnLine negated mid new most (Core id) → AddsLines assumptions old new most (Some id)
AddsLines-own negated assumptions search_round old mid new most id before own =
    let long : length (with_line mid own.clause own.hints).lines ≡ length mid.lines + 1 = length_push mid.lines (line_of own.clause own.hints) in
    let room : length mid.lines < most = own.room in
    let name : Core id ≡ Core (Derived (length mid.lines + 1)) = own.named in
    subst (λ (log : Logged). AddsLines assumptions old log most (Some id)) (sym own.is) (record {
      extends = Extends-appends old (with_line mid own.clause own.hints) (Appends-record old mid own.clause own.hints before.appends);
      within = λ _. omega arith;
      news = λ i line from is. elim (slice_get-push mid.lines (line_of own.clause own.hints) line i is) [
        | inl earlier ↦ inl (subst (λ (listed : List (List ℕ)). IsNew listed line.clause)
            (sym (listed_at-record mid own.clause own.hints i (let inside : i < length mid.lines = slice_get_within mid.lines i line earlier in omega arith))) (before.news i line from earlier))
        | inr last ↦ inr (
          (let e : i ≡ length mid.lines = last.0 in let f : Some id ≡ Some (Derived (length mid.lines + 1)) = cc in f ∙ ap (λ n. Some (Derived (n + 1))) (sym e)),
          subst (λ (n : ℕ). AreNotFalsifiedUnder (assumed assumptions) (listed_at n (with_line mid own.clause own.hints))) (sym last.0)
              (subst (λ (listed : List (List ℕ)). AreNotFalsifiedUnder (assumed assumptions) listed) (sym (listed_at-record mid own.clause own.hints (length mid.lines) (omega arith)))
              (λ clause listed false_there. own.alone clause listed (search_round clause false_there))),
          subst (λ (x : Line). NoneSubsumes (listed_at i (with_line mid own.clause own.hints)) x.clause) last.1
              (subst (λ (n : ℕ). NoneSubsumes (listed_at n (with_line mid own.clause own.hints)) own.clause) (sym last.0)
              (subst (λ (listed : List (List ℕ)). NoneSubsumes listed own.clause) (sym (listed_at-record mid own.clause own.hints (length mid.lines) (omega arith))) own.none_subsumes)),
        )
      ];
    })

AddsLines-ends : (negated : ℕ → Bool) (assumptions : List ℕ) (search_round : (clause : List ℕ) → IsFalsified (assumed assumptions) clause → IsFalsified negated clause) (old mid new : Logged) (most : ℕ) (id : Id) → ContinuesTo old mid most → EndsBy negated mid new most (Core id) → AddsLines assumptions old new most (Some id)
AddsLines-ends negated assumptions search_round old mid new most id before ends = elim ends.added [
  | inl same ↦ subst (λ (log : Logged). AddsLines assumptions old log most (Some id)) (sym same) (AddsLines-continues assumptions old mid most (Some id) before)
  | inr own ↦ AddsLines-own negated assumptions search_round old mid new most id before own
]

AddsLines-spent : (negated : ℕ → Bool) (assumptions : List ℕ) (old mid new : Logged) (most : ℕ) → ContinuesTo old mid most → EndsBy negated mid new most Spent → AddsLines assumptions old new most None
AddsLines-spent negated assumptions old mid new most before ends = elim ends.added [
  | inl same ↦ subst (λ (log : Logged). AddsLines assumptions old log most None) (sym same) (AddsLines-continues assumptions old mid most None before)
  | inr own ↦ absurd (let e : Spent ≡ Core (Derived (length mid.lines + 1)) = own.named in cc)
]

-- the variables of the lines, after each answer
variables_after : (negated : ℕ → Bool) (old mid new : Logged) (most : ℕ) (answer : Answer) → ContinuesTo old mid most → EndsBy negated mid new most answer → HasVariables old → HasVariables new
variables_after negated old mid new most answer before ends first = elim ends.added [
  | inl same ↦ subst HasVariables (sym same) (before.variables first)
  | inr own ↦ own.variables (before.variables first)
]

pub HasVariables-run : (negated : ℕ → Bool) (assumptions : List ℕ) (old : Logged) (new : Solver) (most : ℕ) (answer : Answer) → RunsTo negated assumptions old new most answer → HasVariables old → HasVariables new.log
HasVariables-run negated assumptions old new most Model runs first = subst HasVariables (sym runs.finishes.0) (runs.continues.variables first)
HasVariables-run negated assumptions old new most (Core id) runs first = variables_after negated old runs.mid new.log most (Core id) runs.continues runs.finishes first
HasVariables-run negated assumptions old new most Spent runs first = variables_after negated old runs.mid new.log most Spent runs.continues runs.finishes first

-- ---- The answers

-- where the clauses are true, so is each that they cover
covered_is_true : (values : ℕ → Bool) (clauses : List (List ℕ)) (clause : List ℕ) → ((c : List ℕ) → Contains clauses c → clause_true values c ≡ true) → IsCovered clauses clause → clause_true values clause ≡ true
covered_is_true values clauses clause all covered = elim covered [
  | inl listed ↦ all clause listed
  | inr unit ↦
      let some : Any (λ l. literal_true values l ≡ true) (unit.0 ∷ []) = Any-from_list_any (literal_true values) (unit.0 ∷ []) (all (unit.0 ∷ []) unit.2) in
      let same : some.1 ≡ unit.0 = only unit.0 some.1 (some.0, some.2, some.3) in
      list_any_at (literal_true values) clause unit.1.0 unit.0 unit.1.1 (subst (λ (l : ℕ). literal_true values l ≡ true) (sym unit.1.2) (subst (λ (l : ℕ). literal_true values l ≡ true) same some.4))
]

IsModel-found : (solver : Solver) (assumptions : List ℕ) (values : List Bool) → IsSolver solver → AreSettled solver → AllTrue assumptions solver.propagator.entries → AllAssigned solver.propagator.vars (true_in solver.propagator.entries) → ((var : ℕ) → 1 ≤ var → var ≤ solver.propagator.vars → marked values var ≡ true_in solver.propagator.entries (literal var true)) → IsModel solver.log assumptions values
IsModel-found solver assumptions values keeps settled all_true assigned read =
    let known = true_in solver.propagator.entries in
    let vars = solver.propagator.vars in
    let agree = consistent solver.propagator.entries vars keeps.ready.orderly in
    let stored_true : (clause : List ℕ) → Contains (clauses_of solver.propagator.stored) clause → clause_true (marked values) clause ≡ true
    = λ clause holds. clause_true-settled known (marked values) vars agree assigned read clause
    (All-contains (λ (c : List ℕ). All (IsGrown vars) c) (clauses_of solver.propagator.stored) clause keeps.grown holds)
    (All-contains (IsSettled known) (clauses_of solver.propagator.stored) clause settled.settled holds) in
    let covered_true : (clause : List ℕ) → IsCovered (clauses_of solver.propagator.stored) clause → clause_true (marked values) clause ≡ true
    = λ clause covered. covered_is_true (marked values) (clauses_of solver.propagator.stored) clause stored_true covered in
    record {
      axioms = λ k d within.
          let clause = get_or solver.log.axioms k d in
          let at = axiom_named solver.log.axioms (live_lines solver.log.lines) clause (Contains-get_or solver.log.axioms k d within) in
          covered_true clause (keeps.keeps.listed at.0 clause at.1);
      lines = λ k d within.
          let clause = get_or (present (live_lines solver.log.lines)) k d in
          let at = present_named (live_lines solver.log.lines) clause (Contains-get_or (present (live_lines solver.log.lines)) k d within) in
          covered_true clause (keeps.keeps.listed (Derived at.0) clause (derived_named solver.log.axioms (live_lines solver.log.lines) at.0 clause at.1));
      assumed_true = λ k d within.
          let a = get_or assumptions k d in
          literal_true-known known (marked values) vars agree assigned read a (grown_if_true solver.propagator.entries vars a keeps.ready.orderly (all_true k d within)) (all_true k d within);
    }

module _ (literal_set : List Bool) (assumptions : List ℕ) (same : (l : ℕ) → marked literal_set l ≡ assumed assumptions l) where
  falsified_clause : (clause : List ℕ) → IsFalsified (marked literal_set) clause → IsFalsified (assumed assumptions) clause
  falsified_clause clause all = All-weaker (λ (l : ℕ). marked literal_set (negation l) ≡ true) (λ (l : ℕ). assumed assumptions (negation l) ≡ true) (λ l is. sym (same (negation l)) ∙ is) clause all

  pub set_clause : (clause : List ℕ) → IsFalsified (assumed assumptions) clause → IsFalsified (marked literal_set) clause
  set_clause clause all = All-weaker (λ (l : ℕ). assumed assumptions (negation l) ≡ true) (λ (l : ℕ). marked literal_set (negation l) ≡ true) (λ l is. same (negation l) ∙ is) clause all

  pub Answers-run : (old : Logged) (new : Solver) (most : ℕ) (answer : Answer) (values : Option (List Bool)) → IsSolver new → RunsTo (marked literal_set) assumptions old new most answer → HasValues new.propagator.entries new.propagator.vars answer values → Answers new.log values assumptions most answer
  Answers-run old new most Model values keeps runs has = (has.0, has.1, IsModel-found new assumptions has.0 keeps runs.finishes.1 runs.finishes.2 runs.finishes.3 has.2)
  Answers-run old new most (Core id) values keeps runs has = (
    has,
    record {
      clause = runs.finishes.is_end.clause;
      names = runs.finishes.is_end.names;
      false_there = falsified_clause runs.finishes.is_end.clause runs.finishes.is_end.false_there;
    },
  )
  Answers-run old new most Spent values keeps runs has = (has, runs.finishes.is_end.0, λ id clause is negated. runs.finishes.is_end.1 id clause is (set_clause clause negated))

pub AddsLines-run : (negated : ℕ → Bool) (assumptions : List ℕ) (search_round : (clause : List ℕ) → IsFalsified (assumed assumptions) clause → IsFalsified negated clause) (old : Logged) (new : Solver) (most : ℕ) (answer : Answer) → RunsTo negated assumptions old new most answer → AddsLines assumptions old new.log most (named_by answer)
AddsLines-run negated assumptions search_round old new most Model runs = subst (λ (log : Logged). AddsLines assumptions old log most None) (sym runs.finishes.0) (AddsLines-continues assumptions old runs.mid most None runs.continues)
AddsLines-run negated assumptions search_round old new most (Core id) runs = AddsLines-ends negated assumptions search_round old runs.mid new.log most id runs.continues runs.finishes
AddsLines-run negated assumptions search_round old new most Spent runs = AddsLines-spent negated assumptions old runs.mid new.log most runs.continues runs.finishes
