-- Propagation, from one visit of a clause to the next.
use Rattle.std.proofs.Common.{◌≡◌, ℕ, List, [], ◌∷◌, ◌++◌, Some, arith, get_or, length, ◌<◌, ◌≤◌, ◌+◌, sym, ◌∙◌, ap, subst, refl, zero, suc}
use Rattle.std.specs.Prelude.{All, map}
use Rattle.fsmv_base.specs.declared.citation.Id.{Id}
use Rattle.std.proofs.lemmas.List.{length-map, length_push, length-append, get_or_append_left}
use Rattle.std.proofs.lemmas.List.Elements.{All-push, All-get_or}
use Rattle.sat_arena.specs.declared.trail.Assigned.{Assigned}
use Rattle.sat_lits.specs.Steps.{Forces}
use Rattle.sat_arena.specs.TrailState.{TrailState}
use Rattle.sat_arena.specs.Stored.{Stored}
use Rattle.sat_arena.specs.ArenaState.{clauses_of, AreGrown}
use Rattle.sat_arena.specs.Trails.{true_in, IsGrown}
use Rattle.sat_arena.specs.Deduced.{Deduces, nothing, one_more}

-- the clause at a position, among the clauses alone
pub clause_at : (stored : List Stored) (position : ℕ) (d : Stored) → position < length stored → get_or (clauses_of stored) position [] ≡ (get_or stored position d).clause
clause_at [] position d within = absurd (omega arith)
clause_at (s ∷ ss) zero d within = refl
clause_at (s ∷ ss) (suc position) d within = clause_at ss position d (omega arith)

-- what is stored at a position, from its clause and its id
pub stored_at : (stored : List Stored) (position : ℕ) (d : Stored) (clause : List ℕ) (id : Id) → position < length stored → clause ≡ get_or (clauses_of stored) position [] → id ≡ get_or (map (λ s. s.id) stored) position id → record { clause = clause; id = id } ≡ get_or stored position d
stored_at [] position d clause id within c i = absurd (omega arith)
stored_at (s ∷ ss) zero d clause id within c i = ap (λ (x : List ℕ). record { clause = x; id = id }) c ∙ ap (λ (x : Id). record { clause = s.clause; id = x }) i
stored_at (s ∷ ss) (suc position) d clause id within c i = stored_at ss position d clause id (omega arith) c i

pub grown_at : (stored : List Stored) (vars position : ℕ) (d : Stored) → AreGrown vars (clauses_of stored) → position < length stored → All (IsGrown vars) (get_or stored position d).clause
grown_at stored vars position d grown within =
    subst (λ (clause : List ℕ). All (IsGrown vars) clause) (clause_at stored position d within)
    (All-get_or (λ (clause : List ℕ). All (IsGrown vars) clause) (clauses_of stored) position [] (let same : length (clauses_of stored) ≡ length stored = length-map stored (λ s. s.clause) in omega arith) grown)

-- no entry stands above the level at which propagation goes on
pub current_level_deduced : (clauses : List (List ℕ)) (level : ℕ) (before after : List Assigned) → Deduces clauses level before after → All (λ e. e.level ≤ level) before → All (λ e. e.level ≤ level) after
current_level_deduced clauses level before after nothing low = low
current_level_deduced clauses level before after (one_more entries entry position deduced at reason within forces) low =
    All-push (λ (e : Assigned). e.level ≤ level) entries entry (current_level_deduced clauses level before entries deduced low) (omega arith)

pub longer_deduced : (clauses : List (List ℕ)) (level : ℕ) (before after : List Assigned) → Deduces clauses level before after → length before ≤ length after
longer_deduced clauses level before after nothing = omega arith
longer_deduced clauses level before after (one_more entries entry position deduced at reason within forces) =
    omega (arith, longer_deduced clauses level before entries deduced, length_push entries entry)

-- a trail with one more entry
pub longer_by_one : (trail trail' : TrailState) (entry : Assigned) → trail' ≡ record trail { entries = trail.entries ++ entry ∷ [] } → length trail.entries + 1 ≡ length trail'.entries
longer_by_one trail trail' entry is = sym (ap (λ t. length t.entries) is ∙ length_push trail.entries entry)

pub Deduces-push : (clauses : List (List ℕ)) (level : ℕ) (before : List Assigned) (trail trail' : TrailState) (entry : Assigned) (position : ℕ) → trail' ≡ record trail { entries = trail.entries ++ entry ∷ [] } → Deduces clauses level before trail.entries → entry.level ≡ level → entry.reason ≡ Some position → position < length clauses → Forces (true_in trail.entries) (get_or clauses position []) entry.lit → Deduces clauses level before trail'.entries
Deduces-push clauses level before trail trail' entry position is deduced at reason within forces =
    subst (Deduces clauses level before) (sym (ap (λ t. t.entries) is)) (one_more trail.entries entry position deduced at reason within forces)

-- propagation that goes on from where it led
pub Deduces-join : (clauses : List (List ℕ)) (level : ℕ) (before mid after : List Assigned) → Deduces clauses level before mid → Deduces clauses level mid after → Deduces clauses level before after
Deduces-join clauses level before mid after first nothing = first
Deduces-join clauses level before mid after first (one_more entries entry position deduced at reason within forces) =
    one_more entries entry position (Deduces-join clauses level before mid entries first deduced) at reason within forces

-- the same over more clauses
pub Deduces-append : (clauses more : List (List ℕ)) (level : ℕ) (before after : List Assigned) → Deduces clauses level before after → Deduces (clauses ++ more) level before after
Deduces-append clauses more level before after nothing = nothing
Deduces-append clauses more level before after (one_more entries entry position deduced at reason within forces) =
    one_more entries entry position (Deduces-append clauses more level before entries deduced) at reason (omega (arith, length-append clauses more))
    (subst (λ (clause : List ℕ). Forces (true_in entries) clause entry.lit) (sym (get_or_append_left clauses more [] position within)) forces)
