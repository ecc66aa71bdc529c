-- A log and the clauses that are stored, as a line is added to both.
use Rattle.std.proofs.Common.{◌≡◌, ◌<◌, ◌≤◌, ◌+◌, ℕ, Bool, true, List, [], ◌∷◌, ◌++◌, Option, Some, None, arith, subst, sym, ap, ◌∙◌, refl, inl, inr, ◌⊎◌, get_or, length, suc, zero, slice_get, append-nil, append_assoc}
use Rattle.std.specs.Prelude.{All, Contains, map, option_and_then}
use Rattle.std.proofs.lemmas.List.{map-append, length-map}
use Rattle.std.proofs.lemmas.List.Elements.{All-nil, All-cons, All-head, All-tail, All-contains, All-push, All-weaker, Contains-append_left, Contains-push, Contains-append_cases}
use Rattle.fsmv_base.specs.declared.citation.Id.{Id}
use Rattle.fsmv_base.specs.declared.citation.Id.TheVariants.{Axiom, Derived}
use Rattle.sat_lits.specs.Literals.{negation, variable_of}
use Rattle.sat_lits.specs.Steps.{numbered, named, IsFalsified}
use Rattle.sat_lits.proofs.Numbered.{numbered-append, numbered-last, numbered-push, slice_get-push}
use Rattle.proof_log.specs.declared.log.Line.{Line}
use Rattle.proof_log.specs.Logged.{Logged, live_lines, live_lines_at}
use Rattle.proof_log.proofs.LiveLemmas.{live_lines-push, live_lines_at-push, live_lines_at-now}
use Rattle.sat_arena.specs.Newness.{IsNew}
use Rattle.sat_arena.specs.Stored.{Stored}
use Rattle.sat_arena.specs.ArenaState.{clauses_of}
use Rattle.sat_analyze.specs.Derived.{AreNamed, HasVariable}
use Rattle.sat_search.specs.Solvers.{IsCovered, KeepsLog}
use Rattle.sat_search.specs.Additions.{present, listed_at, Appends, AreNewFrom, HasVariables}

-- a line that stands
abbrev pub line_of : List ℕ → List Id → Line
line_of clause hints = record { clause = clause; hints = hints; retired = None }

-- the log with one more line
abbrev pub with_line : Logged → List ℕ → List Id → Logged
with_line log clause hints = record log { lines = log.lines ++ line_of clause hints ∷ [] }

slice_get_at : {X : Type 0} (xs : List X) (i : ℕ) (x : X) → i < length xs → get_or xs i x ≡ x → slice_get xs i ≡ Some x
slice_get_at [] i x within is = absurd (omega arith)
slice_get_at (y ∷ ys) zero x within is = ap Some is
slice_get_at (y ∷ ys) (suc i) x within is = slice_get_at ys i x (omega arith) is

pub slice_get_within : {X : Type 0} (xs : List X) (i : ℕ) (x : X) → slice_get xs i ≡ Some x → i < length xs
slice_get_within [] i x is = absurd (let e : None ≡ Some x = is in cc)
slice_get_within (y ∷ ys) zero x is = omega arith
slice_get_within (y ∷ ys) (suc i) x is = (let inside : i < length ys = slice_get_within ys i x is in omega arith)

some_inner : (o : Option (Option (List ℕ))) (clause : List ℕ) → option_and_then (λ line. line) o ≡ Some clause → o ≡ Some (Some clause)
some_inner None clause is = absurd (let e : None ≡ Some clause = is in cc)
some_inner (Some inner) clause is = ap Some is

-- what an id of a derived line names
pub named_derived : (axioms : List (List ℕ)) (lines : List (Option (List ℕ))) (n : ℕ) (clause : List ℕ) → named axioms lines (Derived n) ≡ Some clause → numbered lines n ≡ Some (Some clause)
named_derived axioms lines n clause is = some_inner (numbered lines n) clause is

pub derived_named : (axioms : List (List ℕ)) (lines : List (Option (List ℕ))) (n : ℕ) (clause : List ℕ) → numbered lines n ≡ Some (Some clause) → named axioms lines (Derived n) ≡ Some clause
derived_named axioms lines n clause is = ap (option_and_then (λ line. line)) is

named_push : (axioms : List (List ℕ)) (lines : List (Option (List ℕ))) (line : Option (List ℕ)) (id : Id) (clause : List ℕ) → named axioms lines id ≡ Some clause → named axioms (lines ++ line ∷ []) id ≡ Some clause
named_push axioms lines line (Axiom n) clause is = is
named_push axioms lines line (Derived n) clause is =
    derived_named axioms (lines ++ line ∷ []) n clause (numbered-append lines (line ∷ []) n (Some clause) (named_derived axioms lines n clause is))

named_push_cases : (axioms : List (List ℕ)) (lines : List (Option (List ℕ))) (line : List ℕ) (id : Id) (clause : List ℕ) → named axioms (lines ++ Some line ∷ []) id ≡ Some clause → (named axioms lines id ≡ Some clause) ⊎ (line ≡ clause)
named_push_cases axioms lines line (Axiom n) clause is = inl is
named_push_cases axioms lines line (Derived n) clause is = elim (numbered-push lines (Some line) (Some clause) n (named_derived axioms (lines ++ Some line ∷ []) n clause is)) [
  | inl before ↦ inl (derived_named axioms lines n clause before)
  | inr last ↦ inr (let e : Some line ≡ Some clause = last.1 in cc)
]

-- the id of a stored clause names it
pub id_names : (log : Logged) (stored : List Stored) (position : ℕ) (id : Id) → AreNamed log.axioms (live_lines log.lines) stored → position < length stored → id ≡ get_or (map (λ s. s.id) stored) position id → named log.axioms (live_lines log.lines) id ≡ Some (get_or (clauses_of stored) position [])
id_names log [] position id names within is = absurd (omega arith)
id_names log (s ∷ ss) zero id names within is =
    ap (named log.axioms (live_lines log.lines)) is ∙ All-head (λ (t : Stored). named log.axioms (live_lines log.lines) t.id ≡ Some t.clause) s ss names
id_names log (s ∷ ss) (suc position) id names within is =
    id_names log ss position id (All-tail (λ (t : Stored). named log.axioms (live_lines log.lines) t.id ≡ Some t.clause) s ss names) (omega arith) is

variable_in_axioms : (axioms clauses : List (List ℕ)) (v : ℕ) → All (λ clause. All (λ l. HasVariable axioms (variable_of l)) clause) clauses → HasVariable clauses v → HasVariable axioms v
variable_in_axioms axioms clauses v all has =
    subst (HasVariable axioms) has.of_variable
    (All-contains (λ (l : ℕ). HasVariable axioms (variable_of l)) has.clause has.literal
    (All-contains (λ (clause : List ℕ). All (λ l. HasVariable axioms (variable_of l)) clause) clauses has.clause all has.listed) has.holds)

-- ---- What is covered

pub IsCovered-append : (clauses more : List (List ℕ)) (clause : List ℕ) → IsCovered clauses clause → IsCovered (clauses ++ more) clause
IsCovered-append clauses more clause covered = elim covered [
  | inl listed ↦ inl (Contains-append_left clauses more clause listed)
  | inr unit ↦ inr (unit.0, unit.1, Contains-append_left clauses more (unit.0 ∷ []) unit.2)
]

-- a unit clause holds its one literal
pub only : (l m : ℕ) → Contains (l ∷ []) m → m ≡ l
only l m (zero, within, is) = sym is
only l m (suc k, within, is) = absurd (omega arith)

-- a unit clause that is covered is one of the clauses
pub covered_unit : (clauses : List (List ℕ)) (l : ℕ) → IsCovered clauses (l ∷ []) → Contains clauses (l ∷ [])
covered_unit clauses l covered = elim covered [
  | inl listed ↦ listed
  | inr unit ↦ subst (λ (m : ℕ). Contains clauses (m ∷ [])) (only l unit.0 unit.1) unit.2
]

-- where no clause is false, no covered one is
pub covered_not_false : (known : ℕ → Bool) (clauses : List (List ℕ)) (clause : List ℕ) → All (λ c. IsFalsified known c → ⊥) clauses → IsCovered clauses clause → IsFalsified known clause → ⊥
covered_not_false known clauses clause none covered falsified = elim covered [
  | inl listed ↦ All-contains (λ (c : List ℕ). IsFalsified known c → ⊥) clauses clause none listed falsified
  | inr unit ↦ All-contains (λ (c : List ℕ). IsFalsified known c → ⊥) clauses (unit.0 ∷ []) none unit.2
      (All-cons (λ (l : ℕ). known (negation l) ≡ true) unit.0 [] (All-contains (λ (l : ℕ). known (negation l) ≡ true) clause unit.0 falsified unit.1) (All-nil (λ (l : ℕ). known (negation l) ≡ true)))
]

pub KeepsLog-record : (log : Logged) (stored : List Stored) (clause : List ℕ) (hints : List Id) (id : Id) → KeepsLog log stored → All (λ l. HasVariable (clauses_of stored) (variable_of l)) clause → id ≡ Derived (length log.lines + 1) → KeepsLog (with_line log clause hints) (stored ++ record { clause = clause; id = id } ∷ [])
KeepsLog-record log stored clause hints id keeps variables id_is =
    let more : live_lines (log.lines ++ line_of clause hints ∷ []) ≡ live_lines log.lines ++ Some clause ∷ [] = live_lines-push log.lines (line_of clause hints) in
    let all : clauses_of (stored ++ record { clause = clause; id = id } ∷ []) ≡ clauses_of stored ++ clause ∷ [] = map-append (λ (s : Stored). s.clause) stored (record { clause = clause; id = id } ∷ []) in
    let long : length (live_lines log.lines) ≡ length log.lines = length-map log.lines (λ line. Rattle.proof_log.specs.Logged.unless_retired line.retired line.clause) in
    record {
      names = subst (λ (lines : List (Option (List ℕ))). AreNamed log.axioms lines (stored ++ record { clause = clause; id = id } ∷ [])) (sym more)
          (All-push (λ (s : Stored). named log.axioms (live_lines log.lines ++ Some clause ∷ []) s.id ≡ Some s.clause) stored (record { clause = clause; id = id })
          (All-weaker (λ (s : Stored). named log.axioms (live_lines log.lines) s.id ≡ Some s.clause) (λ (s : Stored). named log.axioms (live_lines log.lines ++ Some clause ∷ []) s.id ≡ Some s.clause)
          (λ s is. named_push log.axioms (live_lines log.lines) (Some clause) s.id s.clause is) stored keeps.names)
          (subst (λ (i : Id). named log.axioms (live_lines log.lines ++ Some clause ∷ []) i ≡ Some clause) (sym (id_is ∙ ap (λ n. Derived (n + 1)) (sym long)))
          (derived_named log.axioms (live_lines log.lines ++ Some clause ∷ []) (length (live_lines log.lines) + 1) clause (numbered-last (live_lines log.lines) (Some clause)))));
      listed = λ other c is. subst (λ (cs : List (List ℕ)). IsCovered cs c) (sym all)
          (elim (named_push_cases log.axioms (live_lines log.lines) clause other c (subst (λ (lines : List (Option (List ℕ))). named log.axioms lines other ≡ Some c) more is)) [
            | inl before ↦ IsCovered-append (clauses_of stored) (clause ∷ []) c (keeps.listed other c before)
            | inr same ↦ inl (subst (λ (x : List ℕ). Contains (clauses_of stored ++ clause ∷ []) x) same (Contains-push (clauses_of stored) clause))
          ]);
      variables = subst (λ (cs : List (List ℕ)). All (λ c. All (λ l. HasVariable log.axioms (variable_of l)) c) cs) (sym all)
          (All-push (λ (c : List ℕ). All (λ l. HasVariable log.axioms (variable_of l)) c) (clauses_of stored) clause keeps.variables
          (All-weaker (λ (l : ℕ). HasVariable (clauses_of stored) (variable_of l)) (λ (l : ℕ). HasVariable log.axioms (variable_of l)) (λ l has. variable_in_axioms log.axioms (clauses_of stored) (variable_of l) keeps.variables has) clause variables));
    }

-- the variables of the lines
pub HasVariables-record : (log : Logged) (stored : List Stored) (clause : List ℕ) (hints : List Id) → KeepsLog log stored → All (λ l. HasVariable (clauses_of stored) (variable_of l)) clause → HasVariables log → HasVariables (with_line log clause hints)
HasVariables-record log stored clause hints keeps variables old i line is = elim (slice_get-push log.lines (line_of clause hints) line i is) [
  | inl before ↦ old i line before
  | inr last ↦ subst (λ (x : Line). All (λ l. HasVariable log.axioms (variable_of l)) x.clause) last.1
      (All-weaker (λ (l : ℕ). HasVariable (clauses_of stored) (variable_of l)) (λ (l : ℕ). HasVariable log.axioms (variable_of l)) (λ l has. variable_in_axioms log.axioms (clauses_of stored) (variable_of l) keeps.variables has) clause variables)
]

-- ---- What is listed

numbered_cons : (y : Option (List ℕ)) (lines : List (Option (List ℕ))) (n : ℕ) (x : Option (List ℕ)) → numbered lines n ≡ Some x → numbered (y ∷ lines) (suc n) ≡ Some x
numbered_cons y lines zero x is = absurd (let e : None ≡ Some x = is in cc)
numbered_cons y lines (suc i) x is = is

-- a clause that is present has a number
pub present_named : (lines : List (Option (List ℕ))) (clause : List ℕ) → Contains (present lines) clause → (n : ℕ) × (numbered lines n ≡ Some (Some clause))
present_named [] clause holds = absurd (omega (arith, holds.1))
present_named (None ∷ lines) clause holds = let suffix = present_named lines clause holds in (suc suffix.0, numbered_cons None lines suffix.0 (Some clause) suffix.1)
present_named (Some c ∷ lines) clause (zero, within, is) = (1, ap (λ (x : List ℕ). Some (Some x)) is)
present_named (Some c ∷ lines) clause (suc k, within, is) =
    let suffix = present_named lines clause (k, omega (arith, within), is) in (suc suffix.0, numbered_cons (Some c) lines suffix.0 (Some clause) suffix.1)

pub axiom_named : (axioms : List (List ℕ)) (lines : List (Option (List ℕ))) (clause : List ℕ) → Contains axioms clause → (id : Id) × (named axioms lines id ≡ Some clause)
axiom_named axioms lines clause holds = (Axiom (suc holds.0), slice_get_at axioms holds.0 clause holds.1 holds.2)

-- each clause that was listed when the log had all its lines has a name
pub listed_has_name : (log : Logged) → ((i count : ℕ) (line : Line) → slice_get log.lines i ≡ Some line → line.retired ≡ Some count → count ≤ length log.lines) → (clause : List ℕ) → Contains (listed_at (length log.lines) log) clause → (id : Id) × (named log.axioms (live_lines log.lines) id ≡ Some clause)
listed_has_name log retired clause holds = elim (Contains-append_cases log.axioms (present (live_lines_at (length log.lines) log.lines)) clause holds) [
  | inl axiom_there ↦ axiom_named log.axioms (live_lines log.lines) clause axiom_there
  | inr line_there ↦
      let at = present_named (live_lines log.lines) clause (subst (λ (lines : List (Option (List ℕ))). Contains (present lines) clause) (live_lines_at-now log.lines retired) line_there) in
      (Derived at.0, derived_named log.axioms (live_lines log.lines) at.0 clause at.1)
]

-- so it is covered
pub listed_is_covered : (log : Logged) (stored : List Stored) → KeepsLog log stored → ((i count : ℕ) (line : Line) → slice_get log.lines i ≡ Some line → line.retired ≡ Some count → count ≤ length log.lines) → (clause : List ℕ) → Contains (listed_at (length log.lines) log) clause → IsCovered (clauses_of stored) clause
listed_is_covered log stored keeps retired clause holds = let at = listed_has_name log retired clause holds in keeps.listed at.0 clause at.1

-- ---- The lines that were added

pub Appends-refl : (log : Logged) → Appends log log
Appends-refl log = record { axioms = refl; more = []; lines = sym (append-nil log.lines) }

pub Appends-record : (old log : Logged) (clause : List ℕ) (hints : List Id) → Appends old log → Appends old (with_line log clause hints)
Appends-record old log clause hints appends = record {
  axioms = appends.axioms;
  more = appends.more ++ line_of clause hints ∷ [];
  lines = ap (λ (lines : List Line). lines ++ line_of clause hints ∷ []) appends.lines ∙ append_assoc old.lines appends.more (line_of clause hints ∷ []);
}

-- what was listed before a line stays so
pub listed_at-record : (log : Logged) (clause : List ℕ) (hints : List Id) (i : ℕ) → i ≤ length log.lines → listed_at i (with_line log clause hints) ≡ listed_at i log
listed_at-record log clause hints i within = ap (λ (lines : List (Option (List ℕ))). log.axioms ++ present lines) (live_lines_at-push log.lines (line_of clause hints ∷ []) i within)

pub AreNewFrom-record : (start : ℕ) (log : Logged) (clause : List ℕ) (hints : List Id) → AreNewFrom start log → IsNew (listed_at (length log.lines) log) clause → AreNewFrom start (with_line log clause hints)
AreNewFrom-record start log clause hints old new i line from is = elim (slice_get-push log.lines (line_of clause hints) line i is) [
  | inl before ↦ subst (λ (listed : List (List ℕ)). IsNew listed line.clause) (sym (listed_at-record log clause hints i (let inside : i < length log.lines = slice_get_within log.lines i line before in omega arith))) (old i line from before)
  | inr last ↦ subst (λ (x : Line). IsNew (listed_at i (with_line log clause hints)) x.clause) last.1
      (subst (λ (n : ℕ). IsNew (listed_at n (with_line log clause hints)) clause) (sym last.0)
      (subst (λ (listed : List (List ℕ)). IsNew listed clause) (sym (listed_at-record log clause hints (length log.lines) (omega arith))) new))
]
