use Rattle.std.proofs.Common.{◌≡◌, ℕ, ◌+◌, ◌*◌, ◌<◌, ◌≤◌, ◌/◌, true, false, [], length, ap, sym, ◌∙◌, subst, refl, arith, get_or, List, ◌∷◌, ◌++◌, inl, inr}
use Rattle.std.specs.Prelude.{All, Contains}
use Rattle.std.proofs.lemmas.List.{get_or_read, length-map}
use Rattle.std.proofs.lemmas.List.Elements.{All-contains}
use Rattle.sat_lits.specs.Literals.{negation}
use Rattle.sat_lits.specs.Steps.{Forces, IsFalsified}
use Rattle.sat_arena.specs.declared.trail.Assigned.{Assigned}
use Rattle.sat_arena.specs.Trails.{true_in, IsGrown}
use Rattle.sat_arena.specs.Settled.{HasTrue}
use Rattle.sat_arena.specs.Deduced.{Deduces, nothing}
use Rattle.sat_arena.specs.Stored.{Stored}
use Rattle.sat_arena.specs.ArenaState.{clauses_of, AreGrown}
use Rattle.sat_arena.specs.Watches.{clause_of, watch_of, KeepsWatches, MayWatch}
use Rattle.sat_arena.proofs.DeducedLemmas.{Deduces-push, clause_at}
use Rattle.sat_arena.proofs.WatchLemmas.{KeepsWatches-push, MayWatch-open, stay_at, stay_forced, held_at, true_at, is_in_clause}
use Rattle.sat_arena.proofs.visit.visit.Goals as goal

pub returns-then-lits-lt2-clause-deduced : goal.returns-then-lits-lt2-clause-deduced
returns-then-lits-lt2-clause-deduced c = nothing

pub returns-then-has_true-clause-deduced : goal.returns-then-has_true-clause-deduced
returns-then-has_true-clause-deduced c = nothing

pub returns-then-has_true-clause-next : goal.returns-then-has_true-clause-next
returns-then-has_true-clause-next c more =
    let other_within : c.other_watch.result < length c.args.watched.now = omega (arith, c.requires.keeps.two_each, c.requires.watch, c.other_watch.ensures) in
    let other : c.index-watched-other_watch.result ≡ watch_of c.args.watched.now (negation c.args.watch)
    = get_or_read c.args.watched.now c.other_watch.result c.index-watched-other_watch.result other_within c.index-watched-other_watch.is 0 ∙ ap (watch_of c.args.watched.now) c.other_watch.ensures in
    stay_at c.args.trail.now.entries c.args.head c.args.entry.now (clauses_of c.args.clauses.now) c.args.watched.now c.args.watch c.negate-falsified.result c.requires.keeps c.requires.watch c.requires.watches c.requires.stands c.requires.current_level c.negate-falsified.ensures.negation
    (record {
      literal = watch_of c.args.watched.now (negation c.args.watch);
      holds = is_in_clause c.args.trail.now.entries c.args.head (clauses_of c.args.clauses.now) c.args.watched.now c.args.watch c.requires.keeps c.requires.watch (omega arith);
      is_true = ap (true_in c.args.trail.now.entries) (sym other) ∙ sym c.has_true.ensures ∙ c.if-has_true.true;
    }) more

-- the literals of a clause are grown, as they are read
grown_at : (stored : List Stored) (lits : List ℕ) (position vars : ℕ) → position < length stored → lits ≡ get_or (clauses_of stored) position [] → AreGrown vars (clauses_of stored) → All (IsGrown vars) lits
grown_at stored lits position vars within read grown =
    subst (λ (xs : List ℕ). All (IsGrown vars) xs) (sym read) (grown position [] (omega (arith, within, length-map stored (λ s. s.clause))))

pub choose-requires-clause-grown : goal.choose-requires-clause-grown
choose-requires-clause-grown c =
    grown_at c.args.clauses.now c.lits-lits.result.now (c.args.watch / 2) c.args.trail.now.vars (omega (arith, c.requires.keeps.two_each, c.requires.watch, length-map c.args.clauses.now (λ s. s.clause))) c.lits-lits.ensures.same c.requires.grown

pub push-requires-clause-grown : goal.push-requires-clause-grown
push-requires-clause-grown c =
    (All-contains (IsGrown c.args.trail.now.vars) c.lits-lits.result.now c.in-Forcing.lit
    (grown_at c.args.clauses.now c.lits-lits.result.now (c.args.watch / 2) c.args.trail.now.vars (omega (arith, c.requires.keeps.two_each, c.requires.watch, length-map c.args.clauses.now (λ s. s.clause))) c.lits-lits.ensures.same c.requires.grown)
    c.in-Forcing.ensures.holds).1

pub returns-in-Move-clause-grown : goal.returns-in-Move-clause-grown
returns-in-Move-clause-grown c =
    let grown = All-contains (IsGrown c.args.trail.now.vars) c.lits-lits.result.now c.in-Move.lit
    (grown_at c.args.clauses.now c.lits-lits.result.now (c.args.watch / 2) c.args.trail.now.vars (omega (arith, c.requires.keeps.two_each, c.requires.watch, length-map c.args.clauses.now (λ s. s.clause))) c.lits-lits.ensures.same c.requires.grown)
    c.in-Move.ensures.0 in
    omega (arith, grown.1)

pub choose-requires-clause-holds : goal.choose-requires-clause-holds
choose-requires-clause-holds c =
    let position : c.args.watch / 2 < length c.args.clauses.now = omega (arith, c.requires.keeps.two_each, c.requires.watch, length-map c.args.clauses.now (λ s. s.clause)) in
    let lits : c.lits-lits.result.now ≡ clause_of (clauses_of c.args.clauses.now) c.args.watch = c.lits-lits.ensures.same in
    let other_within : c.other_watch.result < length c.args.watched.now = omega (arith, c.requires.keeps.two_each, c.requires.watch, c.other_watch.ensures) in
    let other : c.index-watched-other_watch.result ≡ watch_of c.args.watched.now (negation c.args.watch)
    = get_or_read c.args.watched.now c.other_watch.result c.index-watched-other_watch.result other_within c.index-watched-other_watch.is 0 ∙ ap (watch_of c.args.watched.now) c.other_watch.ensures in
    let more : 0 < length c.lits-lits.result.now = omega arith in
    subst (λ (x : ℕ). Contains c.lits-lits.result.now x) (sym other)
    (subst (λ (xs : List ℕ). Contains xs (watch_of c.args.watched.now (negation c.args.watch))) (sym lits)
    (is_in_clause c.args.trail.now.entries c.args.head (clauses_of c.args.clauses.now) c.args.watched.now c.args.watch c.requires.keeps c.requires.watch (subst (λ (xs : List ℕ). 0 < length xs) lits more)))

pub returns-in-Stay-clause-deduced : goal.returns-in-Stay-clause-deduced
returns-in-Stay-clause-deduced c = nothing

pub returns-in-Stay-clause-next : goal.returns-in-Stay-clause-next
returns-in-Stay-clause-next c more =
    let position : c.args.watch / 2 < length c.args.clauses.now = omega (arith, c.requires.keeps.two_each, c.requires.watch, length-map c.args.clauses.now (λ s. s.clause)) in
    let lits : c.lits-lits.result.now ≡ clause_of (clauses_of c.args.clauses.now) c.args.watch = c.lits-lits.ensures.same in
    stay_at c.args.trail.now.entries c.args.head c.args.entry.now (clauses_of c.args.clauses.now) c.args.watched.now c.args.watch c.negate-falsified.result c.requires.keeps c.requires.watch c.requires.watches c.requires.stands c.requires.current_level c.negate-falsified.ensures.negation
    (subst (λ (xs : List ℕ). HasTrue (true_in c.args.trail.now.entries) xs) lits c.in-Stay.ensures) more

pub returns-in-Move-clause-deduced : goal.returns-in-Move-clause-deduced
returns-in-Move-clause-deduced c = nothing

pub returns-in-Move-clause-next : goal.returns-in-Move-clause-next
returns-in-Move-clause-next c more =
    let position : c.args.watch / 2 < length c.args.clauses.now = omega (arith, c.requires.keeps.two_each, c.requires.watch, length-map c.args.clauses.now (λ s. s.clause)) in
    let lits : c.lits-lits.result.now ≡ clause_of (clauses_of c.args.clauses.now) c.args.watch = c.lits-lits.ensures.same in
    let other_within : c.other_watch.result < length c.args.watched.now = omega (arith, c.requires.keeps.two_each, c.requires.watch, c.other_watch.ensures) in
    let other : c.index-watched-other_watch.result ≡ watch_of c.args.watched.now (negation c.args.watch)
    = get_or_read c.args.watched.now c.other_watch.result c.index-watched-other_watch.result other_within c.index-watched-other_watch.is 0 ∙ ap (watch_of c.args.watched.now) c.other_watch.ensures in
    MayWatch-open c.args.trail.now.entries c.args.head (clause_of (clauses_of c.args.clauses.now) c.args.watch) (negation c.args.entry.now.lit) (watch_of c.args.watched.now (negation c.args.watch)) c.in-Move.lit
    (true_at c.args.trail.now.entries c.args.head c.args.entry.now c.requires.stands)
    (subst (λ (xs : List ℕ). Contains xs c.in-Move.lit) lits c.in-Move.ensures.0)
    (λ same. c.in-Move.ensures.1 (same ∙ sym other))
    c.in-Move.ensures.2

pub returns-in-Forcing-clause-deduced : goal.returns-in-Forcing-clause-deduced
returns-in-Forcing-clause-deduced c =
    let position : c.args.watch / 2 < length c.args.clauses.now = omega (arith, c.requires.keeps.two_each, c.requires.watch, length-map c.args.clauses.now (λ s. s.clause)) in
    let lits : c.lits-lits.result.now ≡ clause_of (clauses_of c.args.clauses.now) c.args.watch = c.lits-lits.ensures.same in
    Deduces-push (clauses_of c.args.clauses.now) c.args.entry.now.level c.args.trail.now.entries c.args.trail.now c.push.new.self _ (c.args.watch / 2) c.push.ensures nothing refl refl (omega (arith, position, length-map c.args.clauses.now (λ s. s.clause)))
    (subst (λ (xs : List ℕ). Forces (true_in c.args.trail.now.entries) xs c.in-Forcing.lit) lits c.in-Forcing.ensures)

pub returns-in-Forcing-clause-keeps : goal.returns-in-Forcing-clause-keeps
returns-in-Forcing-clause-keeps c =
    subst (λ (es : List Assigned). KeepsWatches es c.args.head (clauses_of c.args.clauses.now) c.args.watched.now) (sym (ap (λ t. t.entries) c.push.ensures))
    (KeepsWatches-push c.args.head c.args.trail.now.entries _ (clauses_of c.args.clauses.now) c.args.watched.now (omega (arith, c.requires.stands.0)) c.requires.keeps)

pub returns-in-Forcing-clause-next : goal.returns-in-Forcing-clause-next
returns-in-Forcing-clause-next c more =
    let position : c.args.watch / 2 < length c.args.clauses.now = omega (arith, c.requires.keeps.two_each, c.requires.watch, length-map c.args.clauses.now (λ s. s.clause)) in
    let lits : c.lits-lits.result.now ≡ clause_of (clauses_of c.args.clauses.now) c.args.watch = c.lits-lits.ensures.same in
    subst (λ (es : List Assigned). MayWatch es c.args.head (clause_of (clauses_of c.args.clauses.now) c.args.watch) (negation c.args.entry.now.lit) (watch_of c.args.watched.now (negation c.args.watch)) c.negate-falsified.result) (sym (ap (λ t. t.entries) c.push.ensures))
    (stay_forced c.args.trail.now.entries c.args.head c.args.entry.now _ (clauses_of c.args.clauses.now) c.args.watched.now c.args.watch c.negate-falsified.result c.requires.keeps c.requires.watch c.requires.watches c.requires.stands c.requires.current_level c.negate-falsified.ensures.negation refl
    (subst (λ (xs : List ℕ). Contains xs c.in-Forcing.lit) lits c.in-Forcing.ensures.holds) more)

pub returns-in-Falsified-clause-deduced : goal.returns-in-Falsified-clause-deduced
returns-in-Falsified-clause-deduced c = nothing

pub returns-in-Falsified-clause-conflict : goal.returns-in-Falsified-clause-conflict
returns-in-Falsified-clause-conflict c =
    let position : c.args.watch / 2 < length c.args.clauses.now = omega (arith, c.requires.keeps.two_each, c.requires.watch, length-map c.args.clauses.now (λ s. s.clause)) in
    let lits : c.lits-lits.result.now ≡ clause_of (clauses_of c.args.clauses.now) c.args.watch = c.lits-lits.ensures.same in
    (omega (arith, position, length-map c.args.clauses.now (λ s. s.clause)), subst (λ (xs : List ℕ). IsFalsified (true_in c.args.trail.now.entries) xs) lits c.in-Falsified.ensures)

pub returns-then-has_true-clause-held : goal.returns-then-has_true-clause-held
returns-then-has_true-clause-held c some =
    held_at c.args.trail.now.entries c.args.head (clauses_of c.args.clauses.now) c.args.watched.now c.args.watch (negation c.args.entry.now.lit) c.negate-falsified.result c.requires.keeps c.requires.watch c.requires.watches c.negate-falsified.ensures.negation some

pub returns-then-lits-lt2-clause-held : goal.returns-then-lits-lt2-clause-held
returns-then-lits-lt2-clause-held c some =
    held_at c.args.trail.now.entries c.args.head (clauses_of c.args.clauses.now) c.args.watched.now c.args.watch (negation c.args.entry.now.lit) c.negate-falsified.result c.requires.keeps c.requires.watch c.requires.watches c.negate-falsified.ensures.negation some

pub returns-in-Stay-clause-held : goal.returns-in-Stay-clause-held
returns-in-Stay-clause-held c some =
    held_at c.args.trail.now.entries c.args.head (clauses_of c.args.clauses.now) c.args.watched.now c.args.watch (negation c.args.entry.now.lit) c.negate-falsified.result c.requires.keeps c.requires.watch c.requires.watches c.negate-falsified.ensures.negation some

pub returns-in-Forcing-clause-held : goal.returns-in-Forcing-clause-held
returns-in-Forcing-clause-held c some =
    held_at c.args.trail.now.entries c.args.head (clauses_of c.args.clauses.now) c.args.watched.now c.args.watch (negation c.args.entry.now.lit) c.negate-falsified.result c.requires.keeps c.requires.watch c.requires.watches c.negate-falsified.ensures.negation some

pub returns-in-Move-clause-held : goal.returns-in-Move-clause-held
returns-in-Move-clause-held c some =
    let position : c.args.watch / 2 < length c.args.clauses.now = omega (arith, c.requires.keeps.two_each, c.requires.watch, length-map c.args.clauses.now (λ s. s.clause)) in
    let lits : c.lits-lits.result.now ≡ clause_of (clauses_of c.args.clauses.now) c.args.watch = c.lits-lits.ensures.same in
    subst (λ (xs : List ℕ). Contains xs c.in-Move.lit) lits c.in-Move.ensures.0
