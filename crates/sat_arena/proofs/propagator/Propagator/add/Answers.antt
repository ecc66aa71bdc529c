use Rattle.std.proofs.Common.{◌≡◌, ◌≤◌, ◌<◌, ◌+◌, ◌++◌, ◌∷◌, [], Some, Option, length, List, ℕ, subst, sym, ap, ◌∙◌, arith, refl, get_or, inl, inr}
use Rattle.std.specs.Prelude.{All}
use Rattle.std.proofs.lemmas.Bool.{cases_lt}
use Rattle.std.proofs.lemmas.List.{length_push, length-map, get_or_push, map_push}
use Rattle.sat_lits.specs.Steps.{IsFalsified, Forces}
use Rattle.sat_arena.specs.declared.trail.Assigned.{Assigned}
use Rattle.sat_arena.specs.Stored.{Stored}
use Rattle.sat_arena.specs.ArenaState.{ArenaState, clauses_of}
use Rattle.sat_arena.specs.TrailState.{TrailState}
use Rattle.sat_arena.specs.Trails.{true_in, up_to, IsGrown}
use Rattle.sat_arena.specs.Settled.{IsSettled}
use Rattle.sat_arena.specs.Justified.{current_level}
use Rattle.sat_arena.specs.Deduced.{Deduces, nothing}
use Rattle.sat_arena.specs.Watches.{AreLatest, IsAnyOf}
use Rattle.sat_arena.specs.PropagatorState.{IsPropagator, PropagatorState}
use Rattle.sat_arena.proofs.LevelLaws.{current_level_is_greatest}
use Rattle.sat_arena.proofs.DeducedLemmas.{Deduces-push}
use Rattle.sat_arena.proofs.PropagatorLemmas.{IsPropagator-settled, IsPropagator-forced, IsPropagator-falsified}
use Rattle.sat_arena.proofs.propagator.Propagator.add.Goals as goal

-- the level of a refuted clause
root : (level : ℕ) (F : Type 0) → (0 < level → F → ⊥) → F → level ≡ 0
root level F never f = elim (cases_lt 0 level) [
  | inl above ↦ absurd (never above f)
  | inr low ↦ omega arith
]

pub invariant_of-self-in-Settled : goal.invariant_of-self-in-Settled
invariant_of-self-in-Settled c =
    let p = c.self.inside in
    let s : Stored = record { clause = c.args.clause.now; id = c.args.id } in
    let pair = c.watches_for-pair.result in
    let lits : c.lits-lits.result.now ≡ c.args.clause.now = c.lits-lits.ensures.same in
    let entries_is : p.trail.entries ≡ c.args.self.now.entries = ap (λ (x : PropagatorState). x.entries) c.self.view_is in
    let vars_is : p.trail.vars ≡ c.args.self.now.vars = ap (λ (x : PropagatorState). x.vars) c.self.view_is in
    subst (λ (a : ArenaState). IsPropagator a.stored a.watched a.vars p.trail.entries p.trail.vars p.head p.refuted) (sym c.in_ok-position.ensures.ok)
    (IsPropagator-settled p.arena.stored s p.arena.watched p.arena.vars p.trail.vars p.head p.trail.entries p.refuted pair.first pair.second c.self.invariant c.entries-entries.ensures.orderly c.entries-entries.ensures.consistent
    (subst (λ (n : ℕ). All (IsGrown n) c.args.clause.now) (sym vars_is) c.requires.grown)
    (subst (λ (xs : List ℕ). IsAnyOf xs pair.first) lits c.watches_for-pair.ensures.first) (subst (λ (xs : List ℕ). IsAnyOf xs pair.second) lits c.watches_for-pair.ensures.second)
    (subst (λ (xs : List ℕ). 1 < length xs → AreLatest p.trail.entries xs pair.first pair.second) lits c.watches_for-pair.ensures.latest)
    (subst (λ (es : List Assigned). (k : ℕ) → k < current_level es → IsSettled (true_in (up_to k es)) c.args.clause.now) (sym entries_is) c.requires.settled)
    (subst (λ (xs : List ℕ). IsSettled (true_in p.trail.entries) xs) lits c.in-Settled.ensures))

pub push-requires-clause-current_level : goal.push-requires-clause-current_level
push-requires-clause-current_level c k d within =
    let low : (get_or c.self.inside.trail.entries k d).level ≤ current_level c.self.inside.trail.entries = current_level_is_greatest c.self.inside.trail.entries c.entries-entries.ensures.orderly.rising k d within in
    omega (arith, c.level-level.ensures)

pub invariant_of-self-in-Forcing : goal.invariant_of-self-in-Forcing
invariant_of-self-in-Forcing c =
    let p = c.self.inside in
    let s : Stored = record { clause = c.args.clause.now; id = c.args.id } in
    let pair = c.watches_for-pair.result in
    let lits : c.lits-lits.result.now ≡ c.args.clause.now = c.lits-lits.ensures.same in
    let entries_is : p.trail.entries ≡ c.args.self.now.entries = ap (λ (x : PropagatorState). x.entries) c.self.view_is in
    let vars_is : p.trail.vars ≡ c.args.self.now.vars = ap (λ (x : PropagatorState). x.vars) c.self.view_is in
    let entry : Assigned = record { lit = c.in-Forcing.lit; level = c.level-level.result; reason = Some c.in_ok-position.position } in
    subst (λ (a : ArenaState). IsPropagator a.stored a.watched a.vars c.push.new.self.entries c.push.new.self.vars p.head p.refuted) (sym c.in_ok-position.ensures.ok)
    (subst (λ (t : TrailState). IsPropagator (p.arena.stored ++ s ∷ []) ((p.arena.watched ++ pair.first ∷ []) ++ pair.second ∷ []) p.arena.vars t.entries t.vars p.head p.refuted) (sym c.push.ensures)
    (IsPropagator-forced p.arena.stored s p.arena.watched p.arena.vars p.trail.vars p.head p.trail.entries p.refuted pair.first pair.second c.self.invariant c.entries-entries.ensures.orderly c.entries-entries.ensures.consistent
    (subst (λ (n : ℕ). All (IsGrown n) c.args.clause.now) (sym vars_is) c.requires.grown)
    (subst (λ (xs : List ℕ). IsAnyOf xs pair.first) lits c.watches_for-pair.ensures.first) (subst (λ (xs : List ℕ). IsAnyOf xs pair.second) lits c.watches_for-pair.ensures.second)
    (subst (λ (xs : List ℕ). 1 < length xs → AreLatest p.trail.entries xs pair.first pair.second) lits c.watches_for-pair.ensures.latest)
    (subst (λ (es : List Assigned). (k : ℕ) → k < current_level es → IsSettled (true_in (up_to k es)) c.args.clause.now) (sym entries_is) c.requires.settled)
    entry (subst (λ (xs : List ℕ). Forces (true_in p.trail.entries) xs c.in-Forcing.lit) lits c.in-Forcing.ensures) c.level-level.ensures))

pub invariant_of-self-in-Falsified : goal.invariant_of-self-in-Falsified
invariant_of-self-in-Falsified c =
    let p = c.self.inside in
    let s : Stored = record { clause = c.args.clause.now; id = c.args.id } in
    let pair = c.watches_for-pair.result in
    let lits : c.lits-lits.result.now ≡ c.args.clause.now = c.lits-lits.ensures.same in
    let entries_is : p.trail.entries ≡ c.args.self.now.entries = ap (λ (x : PropagatorState). x.entries) c.self.view_is in
    let vars_is : p.trail.vars ≡ c.args.self.now.vars = ap (λ (x : PropagatorState). x.vars) c.self.view_is in
    let falsified = subst (λ (xs : List ℕ). IsFalsified (true_in p.trail.entries) xs) lits c.in-Falsified.ensures in
    let position : c.in_ok-position.position ≡ length p.arena.stored = c.in_ok-position.ensures.position in
    subst (λ (a : ArenaState). IsPropagator a.stored a.watched a.vars p.trail.entries p.trail.vars p.head (Some c.in_ok-position.position)) (sym c.in_ok-position.ensures.ok)
    (subst (λ (n : ℕ). IsPropagator (p.arena.stored ++ s ∷ []) ((p.arena.watched ++ pair.first ∷ []) ++ pair.second ∷ []) p.arena.vars p.trail.entries p.trail.vars p.head (Some n)) (sym position)
    (IsPropagator-falsified p.arena.stored s p.arena.watched p.arena.vars p.trail.vars p.head p.trail.entries p.refuted pair.first pair.second c.self.invariant c.entries-entries.ensures.orderly c.entries-entries.ensures.consistent
    (subst (λ (n : ℕ). All (IsGrown n) c.args.clause.now) (sym vars_is) c.requires.grown)
    (subst (λ (xs : List ℕ). IsAnyOf xs pair.first) lits c.watches_for-pair.ensures.first) (subst (λ (xs : List ℕ). IsAnyOf xs pair.second) lits c.watches_for-pair.ensures.second)
    (subst (λ (xs : List ℕ). 1 < length xs → AreLatest p.trail.entries xs pair.first pair.second) lits c.watches_for-pair.ensures.latest)
    (subst (λ (es : List Assigned). (k : ℕ) → k < current_level es → IsSettled (true_in (up_to k es)) c.args.clause.now) (sym entries_is) c.requires.settled)
    falsified (root (current_level p.trail.entries) (IsFalsified (true_in p.trail.entries) c.args.clause.now)
    (subst (λ (es : List Assigned). 0 < current_level es → IsFalsified (true_in es) c.args.clause.now → ⊥) (sym entries_is) c.requires.open) falsified)))

-- the trail as it was
unchanged : (p q : PropagatorState) (stored : List Stored) → p ≡ q → Deduces (clauses_of stored) (current_level q.entries) q.entries p.entries
unchanged p q stored same = subst (λ (x : PropagatorState). Deduces (clauses_of stored) (current_level q.entries) q.entries x.entries) (sym same) nothing

pub returns-in-Settled-clause-deduced : goal.returns-in-Settled-clause-deduced
returns-in-Settled-clause-deduced c = unchanged _ c.args.self.now _ c.self.view_is

pub returns-in-Falsified-clause-deduced : goal.returns-in-Falsified-clause-deduced
returns-in-Falsified-clause-deduced c = unchanged _ c.args.self.now _ c.self.view_is

pub returns-in-Forcing-clause-deduced : goal.returns-in-Forcing-clause-deduced
returns-in-Forcing-clause-deduced c =
    let p = c.self.inside in
    let s : Stored = record { clause = c.args.clause.now; id = c.args.id } in
    let lits : c.lits-lits.result.now ≡ c.args.clause.now = c.lits-lits.ensures.same in
    let entries_is : p.trail.entries ≡ c.args.self.now.entries = ap (λ (x : PropagatorState). x.entries) c.self.view_is in
    let stored = c.add_watching.new.self.stored in
    let all : clauses_of stored ≡ clauses_of p.arena.stored ++ c.args.clause.now ∷ [] = ap (λ (a : ArenaState). clauses_of a.stored) c.in_ok-position.ensures.ok ∙ map_push (λ (x : Stored). x.clause) p.arena.stored s in
    let position : length (clauses_of p.arena.stored) ≡ c.in_ok-position.position = length-map p.arena.stored (λ (x : Stored). x.clause) ∙ sym c.in_ok-position.ensures.position in
    let here : get_or (clauses_of stored) c.in_ok-position.position [] ≡ c.args.clause.now = ap (λ (cs : List (List ℕ)). get_or cs c.in_ok-position.position []) all ∙ get_or_push (clauses_of p.arena.stored) c.args.clause.now [] c.in_ok-position.position position in
    let forces = subst (λ (xs : List ℕ). Forces (true_in p.trail.entries) xs c.in-Forcing.lit) (lits ∙ sym here) c.in-Forcing.ensures in
    subst (λ (es : List Assigned). Deduces (clauses_of stored) (current_level es) es c.push.new.self.entries) entries_is
    (Deduces-push (clauses_of stored) (current_level p.trail.entries) p.trail.entries p.trail c.push.new.self _ c.in_ok-position.position c.push.ensures nothing c.level-level.ensures refl
    (omega (arith, ap length all, length_push (clauses_of p.arena.stored) c.args.clause.now, position)) forces)
