-- Lines and clauses that are taken out as a search begins.
use Rattle.std.proofs.Common.{◌≡◌, ◌↔◌, ◌<◌, ◌≤◌, ◌+◌, ◌-◌, ℕ, suc, zero, Bool, true, false, not, cond, List, [], ◌∷◌, ◌++◌, Option, Some, None, arith, refl, subst, sym, ap, ◌∙◌, inl, inr, ◌⊎◌, get_or, length, slice_get, take, set}
use Rattle.std.specs.Prelude.{All, Contains, map, nat_lt, ◌||◌, ◌&&◌, ◌==◌}
use Rattle.std.specs.List.{list_any, Any}
use Rattle.std.specs.Option.{option_map}
use Rattle.std.proofs.lemmas.Bool.{cases_Bool, cases_lt, cases_eq, and_parts, both_ways, eqb-true}
use Rattle.std.proofs.lemmas.Bool.Decides.{nat_tests}
use Rattle.std.proofs.lemmas.List.{length-map, length-set, get_or_default}
use Rattle.std.proofs.lemmas.List.Folds.{Any-from_list_any, list_any_at}
use Rattle.std.proofs.lemmas.List.Elements.{All-contains, All-nil, All-cons, All-head, All-tail, Contains-get_or}
use Rattle.std.proofs.lemmas.Option.{slice_get-map, slice_get_within, slice_get-get_or, slice_get_past}
use Rattle.fsmv_base.specs.declared.citation.Id.{Id}
use Rattle.fsmv_base.specs.declared.citation.Id.TheVariants.{Axiom, Derived}
use Rattle.sat_lits.specs.Literals.{negation, variable_of}
use Rattle.sat_lits.specs.Steps.{numbered, replaced, named, IsLive, HoldsUnit, IsRetirable}
use Rattle.sat_lits.proofs.Numbered.{slice_get-set_same, slice_get-set_other, slice_get-map_from, numbered_within, numbered-position, replaced-position}
use Rattle.proof_log.specs.declared.log.Line.{Line}
use Rattle.proof_log.specs.Logged.{Logged, live_lines, unless_retired, Retires}
use Rattle.proof_log.specs.IsSound.{IsSound, clauses}
use Rattle.proof_log.proofs.LiveLemmas.{live_line, line_is_live}
use Rattle.proof_log.proofs.SoundLemmas.{unit_is_live}
use Rattle.sat_arena.specs.declared.trail.Assigned.{Assigned}
use Rattle.sat_arena.specs.Stored.{Stored}
use Rattle.sat_arena.specs.ArenaState.{clauses_of, among, clause_satisfied, is_satisfied, AreGrown}
use Rattle.sat_arena.specs.Trails.{true_in, IsGrown, IsOrderly}
use Rattle.sat_arena.specs.Justified.{current_level, IsEntryAt, IsReason, BeginsLevel, IsJustified}
use Rattle.sat_arena.specs.PropagatorState.{PropagatorState}
use Rattle.sat_arena.specs.Moved.{KeepsReason, Reclaims}
use Rattle.sat_arena.proofs.LevelLaws.{current_level_is_greatest}
use Rattle.sat_arena.proofs.AlikeLemmas.{AreAlike, AreAlike-take, true_same, IsOrderly-alike}
use Rattle.sat_arena.proofs.ReclaimLemmas.{staying}
use Rattle.sat_arena.proofs.MovedLemmas.{All-staying, stays, unit_stays, current_level-alike}
use Rattle.sat_analyze.specs.Derived.{AreNamed, HasVariable}
use Rattle.sat_search.specs.Additions.{retired_by, retire_if, retire_all, Appends, Extends, HasVariables}
use Rattle.sat_search.specs.Retirements.{IsUnitLine, RetiresLine, RetiresSome}
use Rattle.sat_search.specs.Solvers.{IsCovered, KeepsLog, IsReady, IsSolver}
use Rattle.sat_search.specs.Sessions.{AddsLines}
use Rattle.sat_search.specs.declared.solver.Solver.{Solver}
use Rattle.sat_search.proofs.KeepsLemmas.{named_derived, derived_named, covered_unit}

-- ---- A log of which nothing or twice something was retired

retire_nothing : (count : ℕ) (lines : List Line) → map (retire_if (λ clause. false) count) lines ≡ lines
retire_nothing count [] = refl
retire_nothing count (line ∷ lines) = ap (λ ls. line ∷ ls) (retire_nothing count lines)

pub Extends-appends : (old new : Logged) → Appends old new → Extends old new
Extends-appends old new appends = record {
  axioms = appends.axioms;
  gone = λ clause. false;
  more = appends.more;
  lines = appends.lines ∙ ap (λ ls. ls ++ appends.more) (sym (retire_nothing (length old.lines) old.lines));
}

pub RetiresSome-none : (log : Logged) → RetiresSome log log
RetiresSome-none log = record {
  gone = λ clause. false;
  is = ap (λ (ls : List Line). record log { lines = ls }) (sym (retire_nothing (length log.lines) log.lines));
}

retire_twice : (gone other : List ℕ → Bool) (count : ℕ) (line : Line) → retire_if other count (retire_if gone count line) ≡ retire_if (λ clause. gone clause || other clause) count line
retire_twice gone other count line = elim (gone line.clause) as (λ b. retire_if other count (cond b (record line { retired = retired_by count line.retired }) line) ≡ cond (b || other line.clause) (record line { retired = retired_by count line.retired }) line) [
  | true ↦ elim (other line.clause) as (λ b. cond b (record line { retired = retired_by count (retired_by count line.retired) }) (record line { retired = retired_by count line.retired }) ≡ record line { retired = retired_by count line.retired }) [
    | true ↦ ap (λ (r : Option ℕ). record line { retired = r }) (twice line.retired)
    | false ↦ refl
  ]
  | false ↦ refl
]
  where
    twice : (r : Option ℕ) → retired_by count (retired_by count r) ≡ retired_by count r
    twice None = refl
    twice (Some before) = refl

map_twice : (gone other : List ℕ → Bool) (count : ℕ) (lines : List Line) → map (retire_if other count) (map (retire_if gone count) lines) ≡ map (retire_if (λ clause. gone clause || other clause) count) lines
map_twice gone other count [] = refl
map_twice gone other count (line ∷ lines) =
    ap (λ (l : Line). l ∷ map (retire_if other count) (map (retire_if gone count) lines)) (retire_twice gone other count line)
    ∙ ap (λ ls. retire_if (λ clause. gone clause || other clause) count line ∷ ls) (map_twice gone other count lines)

Extends-retired : (old new : Logged) (gone : List ℕ → Bool) → Extends (record old { lines = retire_all gone old.lines }) new → Extends old new
Extends-retired old new gone extends = record {
  axioms = extends.axioms;
  gone = λ clause. gone clause || extends.gone clause;
  more = extends.more;
  lines = extends.lines ∙ ap (λ ls. ls ++ extends.more)
      (ap (λ n. map (retire_if extends.gone n) (retire_all gone old.lines)) (length-map old.lines (retire_if gone (length old.lines))) ∙ map_twice gone extends.gone (length old.lines) old.lines);
}

pub AddsLines-retired : (assumptions : List ℕ) (old mid new : Logged) (most : ℕ) (core : Option Id) → RetiresSome old mid → AddsLines assumptions mid new most core → AddsLines assumptions old new most core
AddsLines-retired assumptions old mid new most core retires adds =
    let long : length mid.lines ≡ length old.lines = ap (λ (log : Logged). length log.lines) retires.is ∙ length-map old.lines (retire_if retires.gone (length old.lines)) in
    record {
      extends = Extends-retired old new retires.gone (subst (λ (log : Logged). Extends log new) retires.is adds.extends);
      within = λ more. adds.within (omega arith);
      news = λ i line from is. adds.news i line (omega arith) is;
    }

clause_kept : (gone : List ℕ → Bool) (count : ℕ) (line : Line) → (retire_if gone count line).clause ≡ line.clause
clause_kept gone count line = elim (gone line.clause) as (λ b. (cond b (record line { retired = retired_by count line.retired }) line).clause ≡ line.clause) [ true ↦ refl | false ↦ refl ]

pub HasVariables-retired : (old mid : Logged) → RetiresSome old mid → HasVariables old → HasVariables mid
HasVariables-retired old mid retires has = subst HasVariables (sym retires.is) (λ i line is.
    let from = slice_get-map_from (retire_if retires.gone (length old.lines)) old.lines i line is in
    let same : line.clause ≡ from.0.clause = ap (λ (l : Line). l.clause) (sym from.2) ∙ clause_kept retires.gone (length old.lines) from.0 in
    subst (λ (clause : List ℕ). All (λ l. HasVariable old.axioms (variable_of l)) clause) (sym same) (has i from.0 from.1))

-- ---- Unit clauses

pub unit_line_live : (log : Logged) (l : ℕ) → IsSound log → IsUnitLine log.lines l → IsLive (live_lines log.lines) (l ∷ [])
unit_line_live log l sound (zero, is) = absurd (let e : None ≡ Some (l ∷ []) = is in cc)
unit_line_live log l sound (suc i, is) = unit_is_live log.axioms log.lines i l sound (slice_get-map (λ (line : Line). line.clause) log.lines i ∙ is)

pub units_stored : (solver : Solver) (root : List ℕ) → IsSolver solver → IsSound solver.log → All (IsUnitLine solver.log.lines) root → All (λ l. Contains (clauses_of solver.propagator.stored) (l ∷ [])) root
units_stored solver root is_solver sound units k d within =
    let l = get_or root k d in
    let live = unit_line_live solver.log l sound (units k d within) in
    covered_unit (clauses_of solver.propagator.stored) l (is_solver.keeps.listed (Derived live.0) (l ∷ []) (derived_named solver.log.axioms (live_lines solver.log.lines) live.0 (l ∷ []) live.1))

pub units_grown : (solver : Solver) (root : List ℕ) → IsSolver solver → IsSound solver.log → All (IsUnitLine solver.log.lines) root → All (IsGrown solver.propagator.vars) root
units_grown solver root is_solver sound units k d within =
    All-head (IsGrown solver.propagator.vars) (get_or root k d) []
    (All-contains (λ (c : List ℕ). All (IsGrown solver.propagator.vars) c) (clauses_of solver.propagator.stored) (get_or root k d ∷ []) is_solver.grown (units_stored solver root is_solver sound units k d within))

-- ---- The log that is left, and the clauses that are

-- a line that stands after that stood before, and one that does not pass the test still stands
live_before : (gone : List ℕ → Bool) (count : ℕ) (line : Line) → (retire_if gone count line).retired ≡ None → line.retired ≡ None
live_before gone count line = elim (gone line.clause) as (λ b. (cond b (record line { retired = retired_by count line.retired }) line).retired ≡ None → line.retired ≡ None) [
  | true ↦ (λ none. absurd (never line.retired none))
  | false ↦ (λ none. none)
]
  where
    never : (r : Option ℕ) → retired_by count r ≡ None → ⊥
    never None e = cc
    never (Some before) e = cc

live_after : (gone : List ℕ → Bool) (count : ℕ) (line : Line) → gone line.clause ≡ false → retire_if gone count line ≡ line
live_after gone count line fine = ap (λ b. cond b (record line { retired = retired_by count line.retired }) line) fine

module _ (gone : List ℕ → Bool) (lines : List Line) where
  abbrev f : Line → Line
  f = retire_if gone (length lines)

  numbered_before : (n : ℕ) (clause : List ℕ) → numbered (live_lines (retire_all gone lines)) n ≡ Some (Some clause) → numbered (live_lines lines) n ≡ Some (Some clause)
  numbered_before zero clause is = absurd (let e : None ≡ Some (Some clause) = is in cc)
  numbered_before (suc i) clause is =
      let found = live_line (retire_all gone lines) i clause is in
      let from = slice_get-map_from f lines i found.0 found.1 in
      let none : from.0.retired ≡ None = live_before gone (length lines) from.0 (ap (λ (l : Line). l.retired) from.2 ∙ found.2) in
      let same : from.0.clause ≡ clause = sym (clause_kept gone (length lines) from.0) ∙ ap (λ (l : Line). l.clause) from.2 ∙ found.3 in
      line_is_live lines i from.0 from.1 none ∙ ap (λ (c : List ℕ). Some (Some c)) same

  numbered_after : (n : ℕ) (clause : List ℕ) → gone clause ≡ false → numbered (live_lines lines) n ≡ Some (Some clause) → numbered (live_lines (retire_all gone lines)) n ≡ Some (Some clause)
  numbered_after zero clause fine is = absurd (let e : None ≡ Some (Some clause) = is in cc)
  numbered_after (suc i) clause fine is =
      let found = live_line lines i clause is in
      let same : f found.0 ≡ found.0 = live_after gone (length lines) found.0 (ap gone found.3 ∙ fine) in
      let at : slice_get (retire_all gone lines) i ≡ Some found.0 = slice_get-map f lines i ∙ ap (option_map f) found.1 ∙ ap Some same in
      line_is_live (retire_all gone lines) i found.0 at found.2 ∙ ap (λ (c : List ℕ). Some (Some c)) found.3

  named_before : (axioms : List (List ℕ)) (id : Id) (clause : List ℕ) → named axioms (live_lines (retire_all gone lines)) id ≡ Some clause → named axioms (live_lines lines) id ≡ Some clause
  named_before axioms (Axiom n) clause is = is
  named_before axioms (Derived n) clause is = derived_named axioms (live_lines lines) n clause (numbered_before n clause (named_derived axioms (live_lines (retire_all gone lines)) n clause is))

  named_after : (axioms : List (List ℕ)) (id : Id) (clause : List ℕ) → gone clause ≡ false → named axioms (live_lines lines) id ≡ Some clause → named axioms (live_lines (retire_all gone lines)) id ≡ Some clause
  named_after axioms (Axiom n) clause fine is = is
  named_after axioms (Derived n) clause fine is = derived_named axioms (live_lines (retire_all gone lines)) n clause (numbered_after n clause fine (named_derived axioms (live_lines lines) n clause is))

names_after : (known : ℕ → Bool) (axioms : List (List ℕ)) (lines : List Line) (stored : List Stored) → AreNamed axioms (live_lines lines) stored → AreNamed axioms (live_lines (retire_all (clause_satisfied known) lines)) (staying (is_satisfied known) stored)
names_after known axioms lines [] names = All-nil (λ (t : Stored). named axioms (live_lines (retire_all (clause_satisfied known) lines)) t.id ≡ Some t.clause)
names_after known axioms lines (s ∷ ss) names =
    let rest = names_after known axioms lines ss (All-tail (λ (t : Stored). named axioms (live_lines lines) t.id ≡ Some t.clause) s ss names) in
    at (clause_satisfied known s.clause) refl rest
  where
    at : (b : Bool) → clause_satisfied known s.clause ≡ b → AreNamed axioms (live_lines (retire_all (clause_satisfied known) lines)) (staying (is_satisfied known) ss) → AreNamed axioms (live_lines (retire_all (clause_satisfied known) lines)) (cond (not b) (s ∷ staying (is_satisfied known) ss) (staying (is_satisfied known) ss))
    at true is rest = rest
    at false is rest = All-cons (λ (t : Stored). named axioms (live_lines (retire_all (clause_satisfied known) lines)) t.id ≡ Some t.clause) s (staying (is_satisfied known) ss)
        (named_after (clause_satisfied known) lines axioms s.id s.clause is (All-head (λ (t : Stored). named axioms (live_lines lines) t.id ≡ Some t.clause) s ss names)) rest

-- a clause that passes the test holds a root literal, whose unit clause is stored
covered_after : (root : List ℕ) (stored : List Stored) (clause : List ℕ) → All (λ l. Contains (clauses_of stored) (l ∷ [])) root → IsCovered (clauses_of stored) clause → IsCovered (clauses_of (staying (is_satisfied (among root)) stored)) clause
covered_after root stored clause units covered = elim covered [
  | inr unit ↦ inr (unit.0, unit.1, unit_stays (among root) stored unit.0 unit.2)
  | inl listed ↦ elim (cases_Bool (clause_satisfied (among root) clause)) [
    | inr fine ↦ inl (stays (is_satisfied (among root)) stored clause (λ s is. ap (clause_satisfied (among root)) is ∙ fine) listed)
    | inl out ↦
        let parts = and_parts (nat_lt 1 (length clause)) (list_any (among root) clause) out in
        let some : Any (λ l. among root l ≡ true) clause = Any-from_list_any (among root) clause parts.1 in
        let rooted : Any (λ r. (r == some.1) ≡ true) root = Any-from_list_any (λ r. r == some.1) root some.4 in
        let is_root : get_or root rooted.0 rooted.1 ≡ some.1 = rooted.3 ∙ eqb-true rooted.1 some.1 rooted.4 in
        let unit : Contains (clauses_of stored) (some.1 ∷ []) = subst (λ (x : ℕ). Contains (clauses_of stored) (x ∷ [])) is_root (units rooted.0 rooted.1 rooted.2) in
        inr (some.1, (some.0, some.2, some.3), unit_stays (among root) stored some.1 unit)
  ]
]

KeepsLog-retired : (root : List ℕ) (log : Logged) (stored : List Stored) → All (λ l. Contains (clauses_of stored) (l ∷ [])) root → KeepsLog log stored → KeepsLog (record log { lines = retire_all (clause_satisfied (among root)) log.lines }) (staying (is_satisfied (among root)) stored)
KeepsLog-retired root log stored units keeps = record {
  names = names_after (among root) log.axioms log.lines stored keeps.names;
  listed = λ id clause is. covered_after root stored clause units (keeps.listed id clause (named_before (clause_satisfied (among root)) log.lines log.axioms id clause is));
  variables = All-staying (λ (c : List ℕ). All (λ l. HasVariable log.axioms (variable_of l)) c) (is_satisfied (among root)) stored keeps.variables;
}

-- ---- The trail

alike : (root : List ℕ) (old new : PropagatorState) (count : ℕ) → Reclaims root old new count → AreAlike old.entries new.entries
alike root old new count reclaims = record {
  long = reclaims.long;
  lit = λ i d within. (reclaims.entries i d within).lit;
  level = λ i d within. (reclaims.entries i d within).level;
}

some_cases : (o : Option ℕ) → (o ≡ None) ⊎ ((n : ℕ) × (o ≡ Some n))
some_cases None = inl refl
some_cases (Some n) = inr (n, refl)

none_apart : (o : Option ℕ) (n : ℕ) → o ≡ None → o ≡ Some n → ⊥
none_apart o n none some = cc

some_same : (o : Option ℕ) (m n : ℕ) → o ≡ Some m → o ≡ Some n → m ≡ n
some_same o m n one other = cc

-- at level 0 each entry has a reason, which is where its clause stands now, or the unit clause of its literal
IsJustified-reclaimed : (root : List ℕ) (old new : PropagatorState) (count : ℕ) → current_level old.entries ≡ 0 → IsReady (clauses_of old.stored) old.entries old.vars → Reclaims root old new count → IsJustified (clauses_of new.stored) new.entries
IsJustified-reclaimed root old new count level ready reclaims = record {
  reasons = λ i position entry at is.
      let inside : i < length old.entries = omega (arith, at.0, reclaims.long) in
      let before : Assigned = get_or old.entries i entry in
      let kept : KeepsReason (clauses_of old.stored) (clauses_of new.stored) before entry = subst (KeepsReason (clauses_of old.stored) (clauses_of new.stored) before) at.1 (reclaims.entries i entry inside) in
      elim (some_cases before.reason) [
        | inl none ↦ absurd (none_apart entry.reason position (kept.decided none) is)
        | inr some ↦
            let now = kept.reason some.0 some.1 in
            let same : now.0 ≡ position = some_same entry.reason now.0 position now.1 is in
            let within : position < length (clauses_of new.stored) = omega (arith, now.2, same) in
            let why : IsReason (true_in (take i old.entries)) (get_or (clauses_of old.stored) some.0 []) before.lit = (ready.justified.reasons i some.0 before (inside, get_or_default old.entries i before entry inside) some.1).1 in
            let known : true_in (take i new.entries) ≡ true_in (take i old.entries) = true_same (take i old.entries) (take i new.entries) (AreAlike-take i old.entries new.entries (alike root old new count reclaims)) in (
              within,
              subst (λ (n : ℕ). IsReason (true_in (take i new.entries)) (get_or (clauses_of new.stored) n []) entry.lit) same
                  (subst (λ (l : ℕ). IsReason (true_in (take i new.entries)) (get_or (clauses_of new.stored) now.0 []) l) (sym kept.lit)
                  (elim now.3 [
                    | inl clause ↦ subst (λ (c : List ℕ). IsReason (true_in (take i new.entries)) c before.lit) (sym clause) (subst (λ (k : ℕ → Bool). IsReason k (get_or (clauses_of old.stored) some.0 []) before.lit) (sym known) why)
                    | inr unit ↦ subst (λ (c : List ℕ). IsReason (true_in (take i new.entries)) c before.lit) (sym unit) (IsReason-unit (true_in (take i new.entries)) before.lit)
                  ])),
            )
      ];
  decisions = λ i entry at.
      let inside : i < length old.entries = omega (arith, at.0, reclaims.long) in
      let before : Assigned = get_or old.entries i entry in
      let kept : KeepsReason (clauses_of old.stored) (clauses_of new.stored) before entry = subst (KeepsReason (clauses_of old.stored) (clauses_of new.stored) before) at.1 (reclaims.entries i entry inside) in
      let here : IsEntryAt old.entries i before = (inside, get_or_default old.entries i before entry inside) in
      let low : before.level ≤ current_level old.entries = current_level_is_greatest old.entries ready.orderly.rising i entry inside in (
        λ none. elim (some_cases before.reason) [
          | inl none_before ↦ (let begins = (ready.justified.decisions i before here).0 none_before in absurd (omega (arith, begins.0)))
          | inr some ↦ absurd (let now = kept.reason some.0 some.1 in none_apart entry.reason now.0 none now.1)
        ],
        λ begins. absurd (omega (arith, begins.0, kept.level)),
      );
}
  where
    IsReason-unit : (known : ℕ → Bool) (l : ℕ) → IsReason known (l ∷ []) l
    IsReason-unit known l = record {
      holds = (0, omega arith, refl);
      others = alone;
    }
      where
        alone : All (λ m. (m ≡ l → ⊥) → known (negation m) ≡ true) (l ∷ [])
        alone zero d within ne = absurd (ne refl)
        alone (suc k) d within ne = absurd (omega arith)

pub IsSolver-retired : (solver : Solver) (log : Logged) (propagator : PropagatorState) (root : List ℕ) (count : ℕ) → IsSolver solver → current_level solver.propagator.entries ≡ 0 → All (λ l. Contains (clauses_of solver.propagator.stored) (l ∷ [])) root → Reclaims root solver.propagator propagator count → log ≡ record solver.log { lines = retire_all (clause_satisfied (among root)) solver.log.lines } → IsSolver (record { log = log; propagator = propagator; order = solver.order })
IsSolver-retired solver log propagator root count old level units reclaims log_is =
    let vars = solver.propagator.vars in
    record {
      keeps = subst (λ (l : Logged). KeepsLog l propagator.stored) (sym log_is)
          (subst (λ (ss : List Stored). KeepsLog (record solver.log { lines = retire_all (clause_satisfied (among root)) solver.log.lines }) ss) (sym reclaims.stored) (KeepsLog-retired root solver.log solver.propagator.stored units old.keeps));
      ready = record {
        orderly = subst (λ (n : ℕ). IsOrderly propagator.entries n) (sym reclaims.vars) (IsOrderly-alike solver.propagator.entries propagator.entries vars (alike root solver.propagator propagator count reclaims) old.ready.orderly);
        justified = IsJustified-reclaimed root solver.propagator propagator count level old.ready reclaims;
        settled = λ k below. absurd (let same : current_level propagator.entries ≡ 0 = current_level-alike solver.propagator.entries propagator.entries (alike root solver.propagator propagator count reclaims) ∙ level in omega arith);
      };
      order_vars = old.order_vars ∙ sym reclaims.vars;
      grown = subst (λ (n : ℕ). AreGrown n (clauses_of propagator.stored)) (sym reclaims.vars)
          (subst (λ (ss : List Stored). AreGrown vars (clauses_of ss)) (sym reclaims.stored) (All-staying (λ (c : List ℕ). All (IsGrown vars) c) (is_satisfied (among root)) solver.propagator.stored old.grown));
    }

-- ---- Line after line

-- two lists with the same items are one
same_lists : (xs ys : List Line) → ((i : ℕ) → slice_get xs i ≡ slice_get ys i) → xs ≡ ys
same_lists [] [] same = refl
same_lists [] (y ∷ ys) same = absurd (let e : None ≡ Some y = same 0 in cc)
same_lists (x ∷ xs) [] same = absurd (let e : Some x ≡ None = same 0 in cc)
same_lists (x ∷ xs) (y ∷ ys) same =
    let head : Some x ≡ Some y = same 0 in
    let tail : xs ≡ ys = same_lists xs ys (λ i. same (suc i)) in
    let e : x ≡ y = cc in
    ap (λ z. z ∷ xs) e ∙ ap (λ zs. y ∷ zs) tail

-- the first lines were retired where they pass the test, and the others are as they were
pub record HasRetired (gone : List ℕ → Bool) (old new : List Line) (at : ℕ) : Type 0 where
  pub long : length new ≡ length old
  pub passed : (i : ℕ) → i < at → slice_get new i ≡ option_map (retire_if gone (length old)) (slice_get old i)
  pub waiting : (i : ℕ) → at ≤ i → slice_get new i ≡ slice_get old i

pub HasRetired-none : (gone : List ℕ → Bool) (lines : List Line) → HasRetired gone lines lines 0
HasRetired-none gone lines = record { long = refl; passed = λ i below. absurd (omega arith); waiting = λ i above. refl }

pub HasRetired-all : (gone : List ℕ → Bool) (old new : List Line) (at : ℕ) → length old ≤ at → HasRetired gone old new at → new ≡ retire_all gone old
HasRetired-all gone old new at all retired = same_lists new (retire_all gone old) (λ i. elim (cases_lt i at) [
  | inl below ↦ retired.passed i below ∙ sym (slice_get-map (retire_if gone (length old)) old i)
  | inr above ↦ retired.waiting i above ∙ past i above ∙ sym (slice_get-map (retire_if gone (length old)) old i ∙ ap (option_map (retire_if gone (length old))) (past i above))
])
  where
    past : (i : ℕ) → at ≤ i → slice_get old i ≡ None
    past i above = slice_get_past old i (omega arith)

pub HasRetired-next : (gone : List ℕ → Bool) (old mid : List Line) (log new : Logged) (at : ℕ) → at < length old → mid ≡ log.lines → HasRetired gone old mid at → RetiresLine gone (at + 1) log new → HasRetired gone old new.lines (at + 1)
HasRetired-next gone old mid log new at within mid_is retired retires =
    let line : Line = get_or mid at (record { clause = []; hints = none_cited; retired = None }) in
    let inside : at < length mid = omega (arith, retired.long) in
    let here : slice_get mid at ≡ Some line = slice_get-get_or mid at (record { clause = []; hints = none_cited; retired = None }) inside in
    let there : numbered log.lines (at + 1) ≡ Some line = ap (λ (ls : List Line). numbered ls (at + 1)) (sym mid_is) ∙ ap (numbered mid) (next at) ∙ here in
    let changed : Line = retire_if gone (length old) line in
    let new_is : new.lines ≡ set mid at changed
    = ap (λ (l : Logged). l.lines) (retires line there) ∙ ap (λ (ls : List Line). replaced ls (at + 1) (retire_if gone (length ls) line)) (sym mid_is)
    ∙ ap (λ n. replaced mid n (retire_if gone (length mid) line)) (next at) ∙ ap (λ n. set mid at (retire_if gone n line)) retired.long in
    record {
      long = ap length new_is ∙ length-set mid at changed ∙ retired.long;
      passed = λ i below. ap (λ (ls : List Line). slice_get ls i) new_is ∙ elim (cases_eq i at) [
        | inl same ↦ ap (slice_get (set mid at changed)) same ∙ slice_get-set_same mid at line changed here
            ∙ sym (ap (option_map (retire_if gone (length old))) (ap (slice_get old) same ∙ sym (retired.waiting at (omega arith)) ∙ here))
        | inr ne ↦ slice_get-set_other mid at i changed ne ∙ retired.passed i (omega arith)
      ];
      waiting = λ i above. ap (λ (ls : List Line). slice_get ls i) new_is ∙ slice_get-set_other mid at i changed (λ e. absurd (omega (arith, e))) ∙ retired.waiting i (omega arith);
    }
  where
    next : (n : ℕ) → n + 1 ≡ suc n
    next n = omega arith

    none_cited : List Id
    none_cited = []

-- the clauses of the lines are as they were
pub IsUnitLine-retired : (gone : List ℕ → Bool) (old new : List Line) (at l : ℕ) → HasRetired gone old new at → IsUnitLine old l → IsUnitLine new l
IsUnitLine-retired gone old new at l retired (zero, is) = absurd (let e : None ≡ Some (l ∷ []) = is in cc)
IsUnitLine-retired gone old new at l retired (suc i, is) = (
  suc i,
  elim (cases_lt i at) [
    | inl below ↦ ap (option_map (λ line. line.clause)) (retired.passed i below) ∙ kept (slice_get old i) ∙ is
    | inr above ↦ ap (option_map (λ line. line.clause)) (retired.waiting i above) ∙ is
  ],
)
  where
    kept : (o : Option Line) → option_map (λ line. line.clause) (option_map (retire_if gone (length old)) o) ≡ option_map (λ line. line.clause) o
    kept None = refl
    kept (Some line) = ap Some (clause_kept gone (length old) line)

-- ---- One line

-- a number at which something is read is that of a line
pub record HasLine (lines : List Line) (number : ℕ) (retired : Option ℕ) (clause : List ℕ) : Type 0 where
  pub line : Line
  pub at : numbered lines number ≡ Some line
  pub retired_is : line.retired ≡ retired
  pub clause_is : line.clause ≡ clause

pub has_line : (lines : List Line) (number : ℕ) (retired : Option ℕ) (clause : List ℕ) → option_map (λ line. line.retired) (numbered lines number) ≡ Some retired → option_map (λ line. line.clause) (numbered lines number) ≡ Some clause → HasLine lines number retired clause
has_line lines number retired clause r c = at (numbered lines number) refl r c
  where
    at : (o : Option Line) → numbered lines number ≡ o → option_map (λ line. line.retired) o ≡ Some retired → option_map (λ line. line.clause) o ≡ Some clause → HasLine lines number retired clause
    at None is a b = absurd (let e : None ≡ Some retired = a in cc)
    at (Some line) is a b = record { line = line; at = is; retired_is = (let e : Some line.retired ≡ Some retired = a in cc); clause_is = (let e : Some line.clause ≡ Some clause = b in cc) }

same_line : (lines : List Line) (number : ℕ) (one other : Line) → numbered lines number ≡ Some one → numbered lines number ≡ Some other → one ≡ other
same_line lines number one other a b = (let e : Some one ≡ Some other = sym a ∙ b in cc)

retired_stays : (gone : List ℕ → Bool) (count before : ℕ) (line : Line) → line.retired ≡ Some before → retire_if gone count line ≡ line
retired_stays gone count before line is = elim (gone line.clause) as (λ b. cond b (record line { retired = retired_by count line.retired }) line ≡ line) [
  | true ↦ ap (λ (r : Option ℕ). record line { retired = r }) (ap (retired_by count) is ∙ sym is)
  | false ↦ refl
]

same_lines : (lines : List Line) (number : ℕ) (line : Line) → numbered lines number ≡ Some line → replaced lines number line ≡ lines
same_lines lines zero line is = refl
same_lines lines (suc i) line is = same_set lines i line is
  where
    same_set : (lines : List Line) (i : ℕ) (line : Line) → slice_get lines i ≡ Some line → set lines i line ≡ lines
    same_set [] i line is = refl
    same_set (l ∷ ls) zero line is = (let e : Some l ≡ Some line = is in ap (λ x. x ∷ ls) (let same : line ≡ l = cc in same))
    same_set (l ∷ ls) (suc i) line is = ap (λ xs. l ∷ xs) (same_set ls i line is)

unchanged : (gone : List ℕ → Bool) (number : ℕ) (log : Logged) (line : Line) → numbered log.lines number ≡ Some line → retire_if gone (length log.lines) line ≡ line → log ≡ record log { lines = replaced log.lines number (retire_if gone (length log.lines) line) }
unchanged gone number log line at same = ap (λ (ls : List Line). record log { lines = ls }) (sym (ap (replaced log.lines number) same ∙ same_lines log.lines number line at))

-- a line that was retired before, or that does not pass the test, stays as it is
pub RetiresLine-before : (gone : List ℕ → Bool) (number before : ℕ) (log : Logged) → option_map (λ line. line.retired) (numbered log.lines number) ≡ Some (Some before) → RetiresLine gone number log log
RetiresLine-before gone number before log retired line at =
    unchanged gone number log line at (retired_stays gone (length log.lines) before line (let e : Some line.retired ≡ Some (Some before) = sym (ap (option_map (λ l. l.retired)) at) ∙ retired in cc))

pub RetiresLine-fine : (gone : List ℕ → Bool) (number : ℕ) (clause : List ℕ) (log : Logged) → option_map (λ line. line.clause) (numbered log.lines number) ≡ Some clause → gone clause ≡ false → RetiresLine gone number log log
RetiresLine-fine gone number clause log read fine line at =
    let same : line.clause ≡ clause = (let e : Some line.clause ≡ Some clause = sym (ap (option_map (λ l. l.clause)) at) ∙ read in cc) in
    unchanged gone number log line at (live_after gone (length log.lines) line (ap gone same ∙ fine))

pub RetiresLine-retired : (gone : List ℕ → Bool) (number : ℕ) (clause : List ℕ) (log new : Logged) → option_map (λ line. line.retired) (numbered log.lines number) ≡ Some None → option_map (λ line. line.clause) (numbered log.lines number) ≡ Some clause → gone clause ≡ true → Retires log number new → RetiresLine gone number log new
RetiresLine-retired gone number clause log new retired read out retires line at =
    let here = has_line log.lines number None clause retired read in
    let one : here.line ≡ line = same_line log.lines number here.line line here.at at in
    let other : retires.line ≡ line = same_line log.lines number retires.line line retires.was at in
    let never : line.retired ≡ None = ap (λ (l : Line). l.retired) (sym one) ∙ here.retired_is in
    let passes : gone line.clause ≡ true = ap gone (ap (λ (l : Line). l.clause) (sym one) ∙ here.clause_is) ∙ out in
    let changed : retire_if gone (length log.lines) line ≡ record line { retired = Some (length log.lines) }
    = ap (λ b. cond b (record line { retired = retired_by (length log.lines) line.retired }) line) passes ∙ ap (λ (r : Option ℕ). record line { retired = retired_by (length log.lines) r }) never in
    retires.marked ∙ ap (λ (l : Line). record log { lines = replaced log.lines number (record l { retired = Some (length log.lines) }) }) other
    ∙ ap (λ (l : Line). record log { lines = replaced log.lines number l }) (sym changed)

-- a live line that passes the test holds the literal of a unit clause
pub retirable : (known : ℕ → Bool) (number : ℕ) (clause : List ℕ) (log : Logged) → IsSound log → option_map (λ line. line.retired) (numbered log.lines number) ≡ Some None → option_map (λ line. line.clause) (numbered log.lines number) ≡ Some clause → clause_satisfied known clause ≡ true → ((l : ℕ) → known l ≡ true → IsUnitLine log.lines l) → IsRetirable (live_lines log.lines) number
retirable known number clause log sound retired read out units =
    let here = has_line log.lines number None clause retired read in
    let parts = and_parts (nat_lt 1 (length clause)) (list_any known clause) out in
    let some : Any (λ l. known l ≡ true) clause = Any-from_list_any known clause parts.1 in
    record {
      clause = clause;
      stands = live_at number here.line here.at here.retired_is ∙ ap (λ (c : List ℕ). Some (Some c)) here.clause_is;
      subsumed = record {
        longer = (let e : nat_lt 1 (length clause) ≡ true = parts.0 in grind (arith, nat_tests));
        literal = some.1;
        holds = (some.0, some.2, some.3);
        stands = unit_line_live log some.1 sound (units some.1 some.4);
      };
    }
  where
    live_at : (n : ℕ) (line : Line) → numbered log.lines n ≡ Some line → line.retired ≡ None → numbered (live_lines log.lines) n ≡ Some (Some line.clause)
    live_at zero line at never = absurd (let e : None ≡ Some line = at in cc)
    live_at (suc i) line at never = line_is_live log.lines i line at never

-- a literal among these has what all of them have
pub from_among : (P : ℕ → Type 0) (root : List ℕ) (l : ℕ) → All P root → among root l ≡ true → P l
from_among P root l all in_root =
    let some : Any (λ r. (r == l) ≡ true) root = Any-from_list_any (λ r. r == l) root in_root in
    subst P (some.3 ∙ eqb-true some.1 l some.4) (all some.0 some.1 some.2)

-- ---- All lines

pub axioms_kept : (gone : List ℕ → Bool) (log new : Logged) (at : ℕ) → at < length log.lines → RetiresLine gone (at + 1) log new → new.axioms ≡ log.axioms
axioms_kept gone log new at within retires =
    let none : Line = record { clause = []; hints = no_hints; retired = None } in
    let here : slice_get log.lines at ≡ Some (get_or log.lines at none) = slice_get-get_or log.lines at none within in
    let next : at + 1 ≡ suc at = omega arith in
    ap (λ (l : Logged). l.axioms) (retires (get_or log.lines at none) (ap (numbered log.lines) next ∙ here))
  where
    no_hints : List Id
    no_hints = []

pub same_log : (log old : Logged) (lines : List Line) → log.axioms ≡ old.axioms → log.lines ≡ lines → log ≡ record old { lines = lines }
same_log log old lines axioms_are lines_are =
    ap (λ (xs : List (List ℕ)). record { axioms = xs; lines = log.lines }) axioms_are ∙ ap (λ (ls : List Line). record { axioms = old.axioms; lines = ls }) lines_are
