-- More variables, and more axioms.
use Rattle.std.proofs.Common.{◌≡◌, ◌≤◌, ◌+◌, ℕ, List, [], ◌∷◌, ◌++◌, Option, Some, None, arith, subst, sym, ap, ◌∙◌, refl, inl, inr, get_or, length, suc, zero, slice_get, append_assoc}
use Rattle.std.specs.Prelude.{All, Contains, max}
use Rattle.std.proofs.lemmas.List.{map-append, length_push}
use Rattle.std.proofs.lemmas.List.Elements.{All-nil, All-cons, All-append, All-weaker, Contains-append_left, Contains-append_right, Contains-append_cases, Contains-get_or}
use Rattle.fsmv_base.specs.declared.citation.Id.{Id}
use Rattle.fsmv_base.specs.declared.citation.Id.TheVariants.{Axiom, Derived}
use Rattle.sat_lits.specs.Literals.{variable_of}
use Rattle.sat_lits.specs.Steps.{numbered, named}
use Rattle.sat_lits.proofs.Numbered.{numbered-nil, numbered-append, numbered-last}
use Rattle.proof_log.specs.Logged.{Logged, live_lines}
use Rattle.sat_arena.specs.declared.trail.Assigned.{Assigned}
use Rattle.sat_arena.specs.Stored.{Stored}
use Rattle.sat_arena.specs.PropagatorState.{PropagatorState}
use Rattle.sat_arena.specs.ArenaState.{clauses_of, AreGrown}
use Rattle.sat_arena.specs.Trails.{IsGrown, IsOrderly}
use Rattle.sat_arena.specs.Deduced.{Deduces}
use Rattle.sat_arena.specs.Justified.{current_level}
use Rattle.sat_arena.proofs.JustifiedLemmas.{IsJustified-add}
use Rattle.sat_analyze.specs.Derived.{HasVariable}
use Rattle.sat_search.specs.Axioms.{axioms_from}
use Rattle.sat_search.specs.Solvers.{IsCovered, IsReady, IsSolver, KeepsLog}
use Rattle.sat_search.proofs.ReadyLemmas.{IsReady-deduced}
use Rattle.sat_search.specs.Additions.{HasVariables}
use Rattle.sat_search.specs.declared.solver.Solver.{Solver}
use Rattle.sat_search.proofs.KeepsLemmas.{named_derived, axiom_named, IsCovered-append}

-- ---- Nothing yet

nothing_named : (id : Id) (clause : List ℕ) → named [] [] id ≡ Some clause → IsCovered (clauses_of []) clause
nothing_named (Axiom n) clause is = absurd (let e : None ≡ Some clause = sym (numbered-nil n) ∙ is in cc)
nothing_named (Derived n) clause is = absurd (let e : None ≡ Some (Some clause) = sym (numbered-nil n) ∙ named_derived [] [] n clause is in cc)

-- ---- More variables

grown_more : (vars vars' l : ℕ) → vars ≤ vars' → IsGrown vars l → IsGrown vars' l
grown_more vars vars' l more grown = (grown.0, omega (arith, grown.1))

IsReady-grown : (clauses : List (List ℕ)) (entries : List Assigned) (vars vars' : ℕ) → vars ≤ vars' → IsReady clauses entries vars → IsReady clauses entries vars'
IsReady-grown clauses entries vars vars' more ready = record {
  orderly = record {
    apart = ready.orderly.apart;
    rising = ready.orderly.rising;
    within = All-weaker (λ (e : Assigned). IsGrown vars e.lit) (λ (e : Assigned). IsGrown vars' e.lit) (λ e grown. grown_more vars vars' e.lit more grown) entries ready.orderly.within;
  };
  justified = ready.justified;
  settled = ready.settled;
}

AreGrown-more : (clauses : List (List ℕ)) (vars vars' : ℕ) → vars ≤ vars' → AreGrown vars clauses → AreGrown vars' clauses
AreGrown-more clauses vars vars' more grown =
    All-weaker (λ (clause : List ℕ). All (IsGrown vars) clause) (λ (clause : List ℕ). All (IsGrown vars') clause)
    (λ clause all. All-weaker (IsGrown vars) (IsGrown vars') (λ l. grown_more vars vars' l more) clause all) clauses grown

pub IsSolver-grown : (solver : Solver) (propagator : PropagatorState) (order vars : ℕ) → IsSolver solver → propagator ≡ record solver.propagator { vars = max solver.propagator.vars vars } → order ≡ max solver.order vars → IsSolver (record { log = solver.log; propagator = propagator; order = order })
IsSolver-grown solver propagator order vars old propagator_is order_is =
    subst (λ (p : PropagatorState). IsSolver (record { log = solver.log; propagator = p; order = order })) (sym propagator_is)
    (record {
      keeps = old.keeps;
      ready = IsReady-grown (clauses_of solver.propagator.stored) solver.propagator.entries solver.propagator.vars (max solver.propagator.vars vars) (omega arith) old.ready;
      order_vars = order_is ∙ ap (λ n. max n vars) old.order_vars;
      grown = AreGrown-more (clauses_of solver.propagator.stored) solver.propagator.vars (max solver.propagator.vars vars) (omega arith) old.grown;
    })

-- ---- More axioms

pub axioms_from-push : (number : ℕ) (clauses : List (List ℕ)) (clause : List ℕ) → axioms_from number (clauses ++ clause ∷ []) ≡ axioms_from number clauses ++ record { clause = clause; id = Axiom (number + length clauses) } ∷ []
axioms_from-push number [] clause = ap (λ n. record { clause = clause; id = Axiom n } ∷ []) (let e : number ≡ number + length (let none : List (List ℕ) = [] in none) = omega arith in e)
axioms_from-push number (c ∷ cs) clause =
    ap (λ suffix. record { clause = c; id = Axiom number } ∷ suffix)
    (axioms_from-push (suc number) cs clause ∙ ap (λ n. axioms_from (suc number) cs ++ record { clause = clause; id = Axiom n } ∷ []) (let e : suc number + length cs ≡ number + length (c ∷ cs) = omega arith in e))

clauses_of-axioms_from : (number : ℕ) (clauses : List (List ℕ)) → clauses_of (axioms_from number clauses) ≡ clauses
clauses_of-axioms_from number [] = refl
clauses_of-axioms_from number (c ∷ cs) = ap (λ suffix. c ∷ suffix) (clauses_of-axioms_from (suc number) cs)

-- the new ids name the new axioms
added_names : (lines : List (Option (List ℕ))) (prefix clauses : List (List ℕ)) → All (λ s. named (prefix ++ clauses) lines s.id ≡ Some s.clause) (axioms_from (length prefix + 1) clauses)
added_names lines prefix [] = All-nil (λ (s : Stored). named (prefix ++ []) lines s.id ≡ Some s.clause)
added_names lines prefix (c ∷ cs) =
    let all : (prefix ++ c ∷ []) ++ cs ≡ prefix ++ (c ∷ cs) = append_assoc prefix (c ∷ []) cs in
    let next : length (prefix ++ c ∷ []) + 1 ≡ suc (length prefix + 1) = (let long : length (prefix ++ c ∷ []) ≡ length prefix + 1 = length_push prefix c in omega arith) in
    All-cons (λ (s : Stored). named (prefix ++ (c ∷ cs)) lines s.id ≡ Some s.clause) (record { clause = c; id = Axiom (length prefix + 1) }) (axioms_from (suc (length prefix + 1)) cs)
    (subst (λ (xs : List (List ℕ)). numbered xs (length prefix + 1) ≡ Some c) all (numbered-append (prefix ++ c ∷ []) cs (length prefix + 1) c (numbered-last prefix c)))
    (subst (λ (n : ℕ). All (λ (s : Stored). named (prefix ++ (c ∷ cs)) lines s.id ≡ Some s.clause) (axioms_from n cs)) next
    (subst (λ (xs : List (List ℕ)). All (λ (s : Stored). named xs lines s.id ≡ Some s.clause) (axioms_from (length (prefix ++ c ∷ []) + 1) cs)) all
    (added_names lines (prefix ++ c ∷ []) cs)))

named_more : (axioms more : List (List ℕ)) (lines : List (Option (List ℕ))) (id : Id) (clause : List ℕ) → named axioms lines id ≡ Some clause → named (axioms ++ more) lines id ≡ Some clause
named_more axioms more lines (Axiom n) clause is = numbered-append axioms more n clause is
named_more axioms more lines (Derived n) clause is = is

contains_from_get : (xs : List (List ℕ)) (i : ℕ) (x : List ℕ) → slice_get xs i ≡ Some x → Contains xs x
contains_from_get [] i x is = absurd (let e : None ≡ Some x = is in cc)
contains_from_get (y ∷ ys) zero x is = (0, omega arith, (let e : Some y ≡ Some x = is in cc))
contains_from_get (y ∷ ys) (suc i) x is = let suffix = contains_from_get ys i x is in (suc suffix.0, omega (arith, suffix.1), suffix.2)

contains_from_number : (xs : List (List ℕ)) (n : ℕ) (x : List ℕ) → numbered xs n ≡ Some x → Contains xs x
contains_from_number xs zero x is = absurd (let e : None ≡ Some x = is in cc)
contains_from_number xs (suc i) x is = contains_from_get xs i x is

-- where an axiom was there or is new, and where a line is named, the clause is stored
listed_more : (axioms more : List (List ℕ)) (lines : List (Option (List ℕ))) (kept : List (List ℕ)) → ((id : Id) (clause : List ℕ) → named axioms lines id ≡ Some clause → IsCovered kept clause) → (id : Id) (clause : List ℕ) → named (axioms ++ more) lines id ≡ Some clause → IsCovered (kept ++ more) clause
listed_more axioms more lines kept listed (Axiom n) clause is = elim (Contains-append_cases axioms more clause (contains_from_number (axioms ++ more) n clause is)) [
  | inl old ↦ (let at = axiom_named axioms lines clause old in IsCovered-append kept more clause (listed at.0 clause at.1))
  | inr new ↦ inl (Contains-append_right kept more clause new)
]
listed_more axioms more lines kept listed (Derived n) clause is = IsCovered-append kept more clause (listed (Derived n) clause is)

variable_more : (axioms more : List (List ℕ)) (v : ℕ) → HasVariable axioms v → HasVariable (axioms ++ more) v
variable_more axioms more v has = record {
  clause = has.clause;
  listed = Contains-append_left axioms more has.clause has.listed;
  literal = has.literal;
  holds = has.holds;
  of_variable = has.of_variable;
}

-- the log with more axioms
abbrev pub with_axioms : Logged → List (List ℕ) → Logged
with_axioms log more = record log { axioms = log.axioms ++ more }

pub HasVariables-axioms : (log : Logged) (more : List (List ℕ)) → HasVariables log → HasVariables (with_axioms log more)
HasVariables-axioms log more old i line is =
    All-weaker (λ (l : ℕ). HasVariable log.axioms (variable_of l)) (λ (l : ℕ). HasVariable (log.axioms ++ more) (variable_of l)) (λ l. variable_more log.axioms more (variable_of l)) line.clause (old i line is)

KeepsLog-axioms : (log : Logged) (stored : List Stored) (more : List (List ℕ)) → KeepsLog log stored → KeepsLog (with_axioms log more) (stored ++ axioms_from (length log.axioms + 1) more)
KeepsLog-axioms log stored more keeps =
    let added = axioms_from (length log.axioms + 1) more in
    let all : clauses_of (stored ++ added) ≡ clauses_of stored ++ more = map-append (λ (s : Stored). s.clause) stored added ∙ ap (λ cs. clauses_of stored ++ cs) (clauses_of-axioms_from (length log.axioms + 1) more) in
    record {
      names = All-append (λ (s : Stored). named (log.axioms ++ more) (live_lines log.lines) s.id ≡ Some s.clause) stored added
          (All-weaker (λ (s : Stored). named log.axioms (live_lines log.lines) s.id ≡ Some s.clause) (λ (s : Stored). named (log.axioms ++ more) (live_lines log.lines) s.id ≡ Some s.clause) (λ s is. named_more log.axioms more (live_lines log.lines) s.id s.clause is) stored keeps.names)
          (added_names (live_lines log.lines) log.axioms more);
      listed = λ id clause is. subst (λ (cs : List (List ℕ)). IsCovered cs clause) (sym all) (listed_more log.axioms more (live_lines log.lines) (clauses_of stored) keeps.listed id clause is);
      variables = subst (λ (cs : List (List ℕ)). All (λ clause. All (λ l. HasVariable (log.axioms ++ more) (variable_of l)) clause) cs) (sym all)
          (All-append (λ (clause : List ℕ). All (λ l. HasVariable (log.axioms ++ more) (variable_of l)) clause) (clauses_of stored) more
          (All-weaker (λ (clause : List ℕ). All (λ l. HasVariable log.axioms (variable_of l)) clause) (λ (clause : List ℕ). All (λ l. HasVariable (log.axioms ++ more) (variable_of l)) clause)
          (λ clause has. All-weaker (λ (l : ℕ). HasVariable log.axioms (variable_of l)) (λ (l : ℕ). HasVariable (log.axioms ++ more) (variable_of l)) (λ l. variable_more log.axioms more (variable_of l)) clause has) (clauses_of stored) keeps.variables)
          (λ k d within j e inside. record {
            clause = get_or more k d;
            listed = Contains-append_right log.axioms more (get_or more k d) (Contains-get_or more k d within);
            literal = get_or (get_or more k d) j e;
            holds = Contains-get_or (get_or more k d) j e inside;
            of_variable = refl;
          }));
    }

pub IsSolver-axioms : (solver : Solver) (log : Logged) (propagator : PropagatorState) (more : List (List ℕ)) → IsSolver solver → current_level solver.propagator.entries ≡ 0 → AreGrown solver.propagator.vars more → log ≡ with_axioms solver.log more → propagator.stored ≡ solver.propagator.stored ++ axioms_from (length solver.log.axioms + 1) more → propagator.vars ≡ solver.propagator.vars
    → Deduces (clauses_of propagator.stored) 0 solver.propagator.entries propagator.entries → IsOrderly propagator.entries propagator.vars → IsSolver (record { log = log; propagator = propagator; order = solver.order })
IsSolver-axioms solver log propagator more old root grown log_is stored_is vars_is deduced orderly =
    let added = axioms_from (length solver.log.axioms + 1) more in
    let stored = solver.propagator.stored in
    let vars = solver.propagator.vars in
    let all : clauses_of propagator.stored ≡ clauses_of stored ++ more = ap clauses_of stored_is ∙ map-append (λ (s : Stored). s.clause) stored added ∙ ap (λ cs. clauses_of stored ++ cs) (clauses_of-axioms_from (length solver.log.axioms + 1) more) in
    let before : IsReady (clauses_of propagator.stored) solver.propagator.entries vars = subst (λ (cs : List (List ℕ)). IsReady cs solver.propagator.entries vars) (sym all) (record {
      orderly = old.ready.orderly;
      justified = IsJustified-add (clauses_of stored) more solver.propagator.entries old.ready.justified;
      settled = λ k below. absurd (omega arith);
    }) in
    record {
      keeps = subst (λ (l : Logged). KeepsLog l propagator.stored) (sym log_is) (subst (λ (ss : List Stored). KeepsLog (with_axioms solver.log more) ss) (sym stored_is) (KeepsLog-axioms solver.log stored more old.keeps));
      ready = subst (λ (n : ℕ). IsReady (clauses_of propagator.stored) propagator.entries n) (sym vars_is)
          (IsReady-deduced (clauses_of propagator.stored) solver.propagator.entries propagator.entries vars before
          (subst (λ (n : ℕ). Deduces (clauses_of propagator.stored) n solver.propagator.entries propagator.entries) (sym root) deduced)
          (subst (λ (n : ℕ). IsOrderly propagator.entries n) vars_is orderly));
      order_vars = old.order_vars ∙ sym vars_is;
      grown = subst (λ (n : ℕ). AreGrown n (clauses_of propagator.stored)) (sym vars_is)
          (subst (λ (cs : List (List ℕ)). AreGrown vars cs) (sym all) (All-append (λ (clause : List ℕ). All (IsGrown vars) clause) (clauses_of stored) more old.grown grown));
    }
