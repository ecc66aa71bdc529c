-- What a propagator keeps, as its trail and its clauses change.
use Rattle.std.proofs.Common.{◌≡◌, ℕ, ◌==◌, ◌<◌, ◌≤◌, ◌+◌, ◌-◌, ◌*◌, ◌/◌, ◌⊎◌, Bool, Some, None, Option, List, [], ◌∷◌, ◌++◌, length, get_or, take, min, true, false, arith, inl, inr, sym, ◌∙◌, ap, subst, refl}
use Rattle.std.specs.Prelude.{All, Contains, IfSome, nat_le}
use Rattle.std.specs.List.{AllPairs}
use Rattle.std.proofs.lemmas.Bool.{cases_eq, cases_lt, cases_Bool, both_ways, eq-eqb, or_right}
use Rattle.std.proofs.lemmas.List.{length_push, length-append, length-map, map_push, take-append-le, get_or_default, get_or_append_left, get_or_push, get_or-take, length-take, take_all}
use Rattle.std.proofs.lemmas.List.Elements.{All-from_get_or, All-contains, Contains-get_or, filter-append, All-push}
use Rattle.std.proofs.lemmas.List.Folds.{list_any_at}
use Rattle.sat_lits.specs.Literals.{negation, variable_of}
use Rattle.sat_lits.specs.Steps.{IsFalsified}
use Rattle.sat_arena.specs.declared.trail.Assigned.{Assigned}
use Rattle.sat_arena.specs.Stored.{Stored}
use Rattle.sat_arena.specs.ArenaState.{clauses_of, AreGrown}
use Rattle.sat_arena.specs.Trails.{true_in, up_to, IsGrown, IsOrderly}
use Rattle.sat_arena.specs.Settled.{IsConsistent}
use Rattle.sat_lits.specs.Steps.{Forces}
use Rattle.sat_arena.specs.Status.{HasStatus}
use Rattle.sat_arena.specs.Settled.{HasTrue, HasTwo, IsSettled}
use Rattle.sat_arena.specs.Deduced.{Deduces, nothing, one_more, IsConflict}
use Rattle.sat_arena.specs.Justified.{current_level, IsEntryAt}
use Rattle.sat_arena.specs.Guarded.{IsGuarded, IsLast, level_at}
use Rattle.sat_arena.specs.Watches.{clause_of, watch_of, AreTwoOf, AreWatches, KeepsWatches, IsNoLater, AreLatest, IsAnyOf}
use Rattle.sat_arena.specs.PropagatorState.{AreShortTrue, AreCurrentFrom, IsPropagator}
use Rattle.sat_arena.proofs.TrailLemmas.{true_in-push}
use Rattle.sat_arena.proofs.LevelLemmas.{up_to-all}
use Rattle.sat_arena.proofs.LevelLaws.{level_at-entry, current_level-push, current_level_is_greatest, current_level-deduced, up_to-up_to, up_to-push, up_to_is_low}
use Rattle.sat_arena.proofs.TrueInLemmas.{true_in_from_up_to, true_in_or_later, true_in_push, true_in_last}
use Rattle.sat_arena.proofs.JustifiedLemmas.{in_push, in_prefix, up_to-is_prefix}
use Rattle.sat_arena.proofs.GuardedLemmas.{HasTrue-more, true_in-append_left, IsGuarded-open, IsGuarded-push}
use Rattle.sat_arena.proofs.ArenaLemmas.{KeepsWatches-from_guarded, AreWatches-from_kept, AreWatches-append, old_clause, old_watch, new_clause, new_watch}
use Rattle.sat_arena.proofs.WatchLemmas.{all_settled, KeepsWatches-back, KeepsWatches-fewer, KeepsWatches-push}

-- ---- The queue

pub AreCurrentFrom-later : (entries : List Assigned) (head head' : ℕ) → head ≤ head' → AreCurrentFrom entries head → AreCurrentFrom entries head'
AreCurrentFrom-later entries head head' order current = λ i entry at after. current i entry at (omega arith)

pub AreCurrentFrom-deduced : (clauses : List (List ℕ)) (level head : ℕ) (before after : List Assigned) → Deduces clauses level before after → current_level before ≡ level → AreCurrentFrom before head → AreCurrentFrom after head
AreCurrentFrom-deduced clauses level head before after nothing same current = current
AreCurrentFrom-deduced clauses level head before after (one_more entries new position deduced at reason within forces) same current = λ i entry here later.
    let old : AreCurrentFrom entries head = AreCurrentFrom-deduced clauses level head before entries deduced same current in
    let now : current_level (entries ++ new ∷ []) ≡ level = current_level-push entries new ∙ at in
    elim (in_push entries new i entry here) [
      | inl before ↦ old i entry before.0 later ∙ current_level-deduced clauses level _ entries deduced same ∙ sym now
      | inr last ↦ ap (λ e. e.level) last.0 ∙ at ∙ sym now
    ]

-- the entry at the head of the queue is of the current level, and none is of a higher one
pub level_at_head : (entries : List Assigned) (head : ℕ) → AreCurrentFrom entries head → head < length entries → level_at entries head ≡ current_level entries
level_at_head [] head current within = absurd (omega arith)
level_at_head (e ∷ es) head current within = level_at-entry (e ∷ es) head e within ∙ current head (get_or (e ∷ es) head e) (within, get_or_default (e ∷ es) head (get_or (e ∷ es) head e) e within) (omega arith)

pub IsLast-current : (entries : List Assigned) (head : ℕ) → AllPairs (λ e f. e.level ≤ f.level) entries → AreCurrentFrom entries head → head < length entries → IsLast entries head
IsLast-current entries head rising current within = record {
  within = within;
  highest = λ k d h. (let top : (get_or entries k d).level ≤ current_level entries = current_level_is_greatest entries rising k d h in omega (arith, level_at_head entries head current within));
}

pub AreCurrentFrom-back : (level head : ℕ) (entries : List Assigned) → AllPairs (λ e f. e.level ≤ f.level) entries → AreCurrentFrom entries head → AreCurrentFrom (up_to level entries) (min head (length (up_to level entries)))
AreCurrentFrom-back level head entries rising current = λ i entry at later.
    let prefix = up_to-is_prefix level entries rising in
    let old = (in_prefix entries prefix.0 i entry (subst (λ (es : List Assigned). IsEntryAt es i entry) prefix.1 at)).0 in
    let top : entry.level ≡ current_level entries = current i entry old (omega (arith, at.0)) in
    let low : entry.level ≤ level = All-contains (λ (e : Assigned). e.level ≤ level) (up_to level entries) entry (up_to_is_low level entries) (i, at.0, at.1) in
    let whole : up_to level entries ≡ entries
    = up_to-all level entries (λ k d h. (let under : (get_or entries k d).level ≤ current_level entries = current_level_is_greatest entries rising k d h in omega arith)) in
    top ∙ ap current_level (sym whole)

-- ---- Clauses of fewer than two literals

pub up_to_more : (level : ℕ) (entries : List Assigned) (entry : Assigned) (l : ℕ) → true_in (up_to level entries) l ≡ true → true_in (up_to level (entries ++ entry ∷ [])) l ≡ true
up_to_more level entries entry l p =
    ap (λ es. true_in es l) (filter-append (λ e. nat_le e.level level) entries (entry ∷ [])) ∙ true_in-append_left (up_to level entries) (up_to level (entry ∷ [])) l p

pub AreShortTrue-push : (entries : List Assigned) (entry : Assigned) (clauses : List (List ℕ)) → AreShortTrue entries clauses → AreShortTrue (entries ++ entry ∷ []) clauses
AreShortTrue-push entries entry clauses short = λ i within few. HasTrue-more (true_in (up_to 0 entries)) (true_in (up_to 0 (entries ++ entry ∷ []))) (get_or clauses i []) (up_to_more 0 entries entry) (short i within few)

pub AreShortTrue-deduced : (all : List (List ℕ)) (level : ℕ) (before after : List Assigned) (clauses : List (List ℕ)) → Deduces all level before after → AreShortTrue before clauses → AreShortTrue after clauses
AreShortTrue-deduced all level before after clauses nothing short = short
AreShortTrue-deduced all level before after clauses (one_more entries entry position deduced at reason within forces) short =
    AreShortTrue-push entries entry clauses (AreShortTrue-deduced all level before entries clauses deduced short)

pub AreShortTrue-back : (level : ℕ) (entries : List Assigned) (clauses : List (List ℕ)) → AreShortTrue entries clauses → AreShortTrue (up_to level entries) clauses
AreShortTrue-back level entries clauses short = λ i within few.
    subst (λ (es : List Assigned). HasTrue (true_in es) (get_or clauses i [])) (sym (up_to-up_to 0 level (omega arith) entries)) (short i within few)

-- ---- Where the queue is empty, every clause is settled

pub settled_at_end : (entries : List Assigned) (head : ℕ) (clauses : List (List ℕ)) (watched : List ℕ) → KeepsWatches entries head clauses watched → AreShortTrue entries clauses → length entries ≤ head → All (IsSettled (true_in entries)) clauses
settled_at_end entries head clauses watched keeps short done = All-from_get_or (IsSettled (true_in entries)) clauses [] (λ i within. elim (cases_lt 1 (length (get_or clauses i []))) [
  | inl more ↦ all_settled entries head clauses watched keeps done i within more
  | inr few ↦ inl (HasTrue-more (true_in (up_to 0 entries)) (true_in entries) (get_or clauses i []) (true_in_from_up_to 0 entries) (short i within (omega arith)))
])

-- ---- A conflict at level 0 stays

pub IsConflict-more : (clauses : List (List ℕ)) (entries more : List Assigned) (position : ℕ) → ((l : ℕ) → true_in entries l ≡ true → true_in more l ≡ true) → IsConflict clauses entries position → IsConflict clauses more position
IsConflict-more clauses entries more position longer conflict = (conflict.0, λ k d h. longer (negation (get_or (get_or clauses position []) k d)) (conflict.1 k d h))

pub refuted_more : (clauses : List (List ℕ)) (entries more : List Assigned) (refuted : Option ℕ) → ((l : ℕ) → true_in entries l ≡ true → true_in more l ≡ true) → IfSome refuted (IsConflict clauses entries) → IfSome refuted (IsConflict clauses more)
refuted_more clauses entries more None longer at = at
refuted_more clauses entries more (Some position) longer at = IsConflict-more clauses entries more position longer at

pub refuted_append : (clauses others : List (List ℕ)) (entries : List Assigned) (refuted : Option ℕ) → IfSome refuted (IsConflict clauses entries) → IfSome refuted (IsConflict (clauses ++ others) entries)
refuted_append clauses others entries None at = at
refuted_append clauses others entries (Some position) at = (
  omega (arith, at.0, length-append clauses others),
  subst (λ (c : List ℕ). IsFalsified (true_in entries) c) (sym (get_or_append_left clauses others [] position at.0)) at.1,
)

-- ---- The steps of a propagator

pub IsPropagator-back : (stored : List Stored) (watched : List ℕ) (arena_vars vars level head : ℕ) (entries : List Assigned) (refuted : Option ℕ) → AllPairs (λ e f. e.level ≤ f.level) entries → IsPropagator stored watched arena_vars entries vars head refuted
    → IsPropagator stored watched arena_vars (up_to level entries) vars (min head (length (up_to level entries))) refuted
IsPropagator-back stored watched arena_vars vars level head entries refuted rising keeps = record {
  room = keeps.room;
  grown = keeps.grown;
  within = omega arith;
  current = AreCurrentFrom-back level head entries rising keeps.current;
  keeps = λ none. KeepsWatches-fewer head (min head (length (up_to level entries))) (up_to level entries) (clauses_of stored) watched (omega arith) (KeepsWatches-back level head entries (clauses_of stored) watched rising (keeps.keeps none));
  short = λ none. AreShortTrue-back level entries (clauses_of stored) (keeps.short none);
  refuted_at = subst (λ (es : List Assigned). IfSome refuted (IsConflict (clauses_of stored) es)) (sym (up_to-up_to 0 level (omega arith) entries)) keeps.refuted_at;
}

pub IsPropagator-decide : (stored : List Stored) (watched : List ℕ) (arena_vars vars head : ℕ) (entries : List Assigned) (entry : Assigned) (refuted : Option ℕ) → head ≡ length entries → entry.level ≡ current_level entries + 1 → IsPropagator stored watched arena_vars entries vars head refuted
    → IsPropagator stored watched arena_vars (entries ++ entry ∷ []) vars head refuted
IsPropagator-decide stored watched arena_vars vars head entries entry refuted done level keeps = record {
  room = keeps.room;
  grown = keeps.grown;
  within = omega (arith, length_push entries entry);
  current = λ i e at later. elim (in_push entries entry i e at) [
    | inl before ↦ absurd (omega (arith, before.0.0))
    | inr last ↦ ap (λ x. x.level) last.0 ∙ sym (current_level-push entries entry)
  ];
  keeps = λ none. KeepsWatches-push head entries entry (clauses_of stored) watched keeps.within (keeps.keeps none);
  short = λ none. AreShortTrue-push entries entry (clauses_of stored) (keeps.short none);
  refuted_at = refuted_more (clauses_of stored) (up_to 0 entries) (up_to 0 (entries ++ entry ∷ [])) refuted (up_to_more 0 entries entry) keeps.refuted_at;
}

pub IsPropagator-deduced : (stored : List Stored) (watched watched' : List ℕ) (arena_vars vars head head' : ℕ) (entries after : List Assigned) → IsPropagator stored watched arena_vars entries vars head None → Deduces (clauses_of stored) (current_level entries) entries after → head ≤ head' → head' ≤ length after → KeepsWatches after head' (clauses_of stored) watched'
    → IsPropagator stored watched' arena_vars after vars head' None
IsPropagator-deduced stored watched watched' arena_vars vars head head' entries after keeps deduced later within kept = record {
  room = keeps.room;
  grown = keeps.grown;
  within = within;
  current = AreCurrentFrom-later after head head' later (AreCurrentFrom-deduced (clauses_of stored) (current_level entries) head entries after deduced refl keeps.current);
  keeps = λ none. kept;
  short = λ none. AreShortTrue-deduced (clauses_of stored) (current_level entries) entries after (clauses_of stored) deduced (keeps.short refl);
  refuted_at = tt;
}

-- ---- One clause more

-- the watched literals of a clause that is added, which the first entries owe nothing
module _ (entries after : List Assigned) (head : ℕ) (clause : List ℕ) (first second : ℕ)
    (rising : AllPairs (λ e f. e.level ≤ f.level) entries)
    (latest : AreLatest entries clause first second)
    (settled : (k : ℕ) → k < current_level entries → IsSettled (true_in (up_to k entries)) clause)
    (same : take head after ≡ take head entries)
    (longer : (level l : ℕ) → true_in (up_to level entries) l ≡ true → true_in (up_to level after) l ≡ true) where
  -- what became false no later than an entry was false at its level
  was_false : (j l : ℕ) (d : Assigned) → j < length entries → (get_or entries j d).lit ≡ negation second → true_in entries (negation second) ≡ true → Contains clause l → (l ≡ first → ⊥) → true_in (up_to (get_or entries j d).level entries) (negation l) ≡ false → ⊥
  was_false j l d within is known holds other is_open =
      let early = latest.latest known l holds other in
      elim (true_in_or_later (get_or entries j d).level entries (negation l) early.0) [
        | inl before ↦ both_ways (true_in (up_to (get_or entries j d).level entries) (negation l)) is_open before
        | inr later ↦
            (let i = later.1.0 in
            let at : get_or entries i d ≡ later.0 = get_or_default entries i d later.0 later.1.1 ∙ later.1.2 in
            let order : i ≤ j = early.1 i j d later.1.1 within (ap (λ e. e.lit) at ∙ later.2) is in
            let level : (get_or entries i d).level ≡ later.0.level = ap (λ e. e.level) at in
            elim (cases_eq i j) [
              | inl e ↦ (let even : (get_or entries i d).level ≡ (get_or entries j d).level = ap (λ k. (get_or entries k d).level) e in omega (arith, later.3))
              | inr ne ↦ (let up : (get_or entries i d).level ≤ (get_or entries j d).level = rising i j d (omega arith) within in omega (arith, later.3))
            ])
      ]

  guards_second : ((level : ℕ) → current_level entries ≤ level → true_in entries (negation second) ≡ true → HasTrue (true_in (up_to level after)) clause) → IsGuarded after head clause second
  guards_second now = subst (λ (es : List Assigned). All (λ e. e.lit ≡ negation second → HasTrue (true_in (up_to e.level after)) clause) es) (sym same) (λ k d within is.
      let short : k < length entries = omega (arith, length-take head entries) in
      let here : get_or (take head entries) k d ≡ get_or entries k d = get_or-take head entries k d (omega (arith, length-take head entries)) in
      let lit : (get_or entries k d).lit ≡ negation second = ap (λ e. e.lit) (sym here) ∙ is in
      let known : true_in entries (negation second) ≡ true = list_any_at (λ e. e.lit == negation second) entries k d short (eq-eqb (get_or entries k d).lit (negation second) lit) in
      subst (λ (e : Assigned). HasTrue (true_in (up_to e.level after)) clause) (sym here) (elim (cases_lt (get_or entries k d).level (current_level entries)) [
        | inl lower ↦ elim (settled (get_or entries k d).level lower) [
          | inl has ↦ HasTrue-more (true_in (up_to (get_or entries k d).level entries)) (true_in (up_to (get_or entries k d).level after)) clause (longer (get_or entries k d).level) has
          | inr two ↦ elim (cases_eq two.first first) [
            | inl e ↦ absurd (was_false k two.second d short lit known two.holds_second (λ e'. two.differ (e ∙ sym e')) two.second_open)
            | inr ne ↦ absurd (was_false k two.first d short lit known two.holds_first ne two.first_open)
          ]
        ]
        | inr top ↦ now (get_or entries k d).level top known
      ]))

-- where not all its literals are false, the first watched one is not
first_open : (entries : List Assigned) (clause : List ℕ) (first second l : ℕ) → AreLatest entries clause first second → Contains clause l → true_in entries (negation l) ≡ false → true_in entries (negation first) ≡ false
first_open entries clause first second l latest holds is_open = elim (cases_Bool (true_in entries (negation first))) [
  | inl known ↦ absurd (both_ways (true_in entries (negation l)) is_open (latest.all_false known l holds))
  | inr unknown ↦ unknown
]

-- a literal of a settled clause that is not false
open_literal : (entries : List Assigned) (clause : List ℕ) → IsConsistent (true_in entries) → IsSettled (true_in entries) clause → (l : ℕ) × Contains clause l × (true_in entries (negation l) ≡ false)
open_literal entries clause consistent settled = elim settled [
  | inl has ↦ (
    has.literal,
    has.holds,
    elim (cases_Bool (true_in entries (negation has.literal))) [
      | inl known ↦ absurd (consistent has.literal has.is_true known)
      | inr unknown ↦ unknown
    ],
  )
  | inr two ↦ (two.first, two.holds_first, two.first_open)
]

up_to_all_now : (entries : List Assigned) (level : ℕ) → AllPairs (λ e f. e.level ≤ f.level) entries → current_level entries ≤ level → up_to level entries ≡ entries
up_to_all_now entries level rising top = up_to-all level entries (λ k d h. (let under : (get_or entries k d).level ≤ current_level entries = current_level_is_greatest entries rising k d h in omega arith))

pub IsGuarded-settled : (entries : List Assigned) (head : ℕ) (clause : List ℕ) (first second : ℕ) → AllPairs (λ e f. e.level ≤ f.level) entries → IsConsistent (true_in entries) → AreLatest entries clause first second → ((k : ℕ) → k < current_level entries → IsSettled (true_in (up_to k entries)) clause) → IsSettled (true_in entries) clause
    → IsGuarded entries head clause first × IsGuarded entries head clause second
IsGuarded-settled entries head clause first second rising consistent latest settled now =
    let some = open_literal entries clause consistent now in (
      IsGuarded-open head entries clause first (first_open entries clause first second some.0 latest some.1 some.2),
      guards_second entries entries head clause first second rising latest settled refl (λ level l p. p) (λ level top known.
          subst (λ (es : List Assigned). HasTrue (true_in es) clause) (sym (up_to_all_now entries level rising top)) (elim now [
            | inl has ↦ has
            | inr two ↦ elim (cases_eq two.first first) [
              | inl e ↦ absurd (both_ways (true_in entries (negation two.second)) two.second_open (latest.latest known two.second two.holds_second (λ e'. two.differ (e ∙ sym e'))).0)
              | inr ne ↦ absurd (both_ways (true_in entries (negation two.first)) two.first_open (latest.latest known two.first two.holds_first ne).0)
            ]
          ])),
    )

pub IsGuarded-forced : (entries : List Assigned) (entry : Assigned) (head : ℕ) (clause : List ℕ) (first second : ℕ) → AllPairs (λ e f. e.level ≤ f.level) entries → head ≤ length entries → AreLatest entries clause first second → ((k : ℕ) → k < current_level entries → IsSettled (true_in (up_to k entries)) clause)
    → Forces (true_in entries) clause entry.lit → entry.level ≡ current_level entries
    → IsGuarded (entries ++ entry ∷ []) head clause first × IsGuarded (entries ++ entry ∷ []) head clause second
IsGuarded-forced entries entry head clause first second rising within latest settled forces level = (
  IsGuarded-push head entries entry clause first within
      (IsGuarded-open head entries clause first (first_open entries clause first second entry.lit latest forces.holds forces.not_false)),
  guards_second entries (entries ++ entry ∷ []) head clause first second rising latest settled (take-append-le head entries (entry ∷ []) within) (λ k l p. up_to_more k entries entry l p) (λ k top known.
      subst (λ (es : List Assigned). HasTrue (true_in es) clause)
      (sym (up_to-all k (entries ++ entry ∷ []) (All-push (λ (e : Assigned). e.level ≤ k) entries entry (λ i d h. (let under : (get_or entries i d).level ≤ current_level entries = current_level_is_greatest entries rising i d h in omega arith)) (omega arith))))
      (record { literal = entry.lit; holds = forces.holds; is_true = true_in_last entries entry })),
)

-- watches of the clauses before and of the new one
KeepsWatches-append : (entries : List Assigned) (head : ℕ) (clauses : List (List ℕ)) (watched : List ℕ) (clause : List ℕ) (first second : ℕ) → KeepsWatches entries head clauses watched → IsAnyOf clause first → IsAnyOf clause second → (1 < length clause → AreTwoOf clause first second) → (1 < length clause → IsGuarded entries head clause first × IsGuarded entries head clause second)
    → KeepsWatches entries head (clauses ++ clause ∷ []) ((watched ++ first ∷ []) ++ second ∷ [])
KeepsWatches-append entries head clauses watched clause first second keeps first_any second_any two guards =
    let watches = AreWatches-from_kept entries head clauses watched keeps in
    KeepsWatches-from_guarded entries head (clauses ++ clause ∷ []) ((watched ++ first ∷ []) ++ second ∷ []) (AreWatches-append clauses watched clause first second watches first_any second_any two) (λ n h more. elim (cases_lt n (length watched)) [
      | inl before ↦
          subst (λ (c : List ℕ). IsGuarded entries head c (watch_of ((watched ++ first ∷ []) ++ second ∷ []) n)) (sym (old_clause clauses watched clause first second watches n before))
          (subst (λ (w : ℕ). IsGuarded entries head (clause_of clauses n) w) (sym (old_watch clauses watched clause first second watches n before)) (keeps.guarded n before (subst (λ (c : List ℕ). 1 < length c) (old_clause clauses watched clause first second watches n before) more)))
      | inr after ↦
          (let long = subst (λ (c : List ℕ). 1 < length c) (new_clause clauses watched clause first second watches n after h) more in
          subst (λ (c : List ℕ). IsGuarded entries head c (watch_of ((watched ++ first ∷ []) ++ second ∷ []) n)) (sym (new_clause clauses watched clause first second watches n after h)) (elim (new_watch clauses watched clause first second watches n after h) [
            | inl one ↦ subst (λ (w : ℕ). IsGuarded entries head clause w) (sym one.1) (guards long).0
            | inr other ↦ subst (λ (w : ℕ). IsGuarded entries head clause w) (sym other.1) (guards long).1
          ]))
    ])

AreShortTrue-append : (entries : List Assigned) (clauses : List (List ℕ)) (clause : List ℕ) → AreShortTrue entries clauses → (length clause < 2 → HasTrue (true_in (up_to 0 entries)) clause) → AreShortTrue entries (clauses ++ clause ∷ [])
AreShortTrue-append entries clauses clause short now = λ i within few. elim (cases_lt i (length clauses)) [
  | inl before ↦ subst (λ (c : List ℕ). HasTrue (true_in (up_to 0 entries)) c) (sym (get_or_append_left clauses (clause ∷ []) [] i before)) (short i before (subst (λ (c : List ℕ). length c < 2) (get_or_append_left clauses (clause ∷ []) [] i before) few))
  | inr after ↦ (let here : get_or (clauses ++ clause ∷ []) i [] ≡ clause = get_or_push clauses clause [] i (omega (arith, length_push clauses clause)) in
      subst (λ (c : List ℕ). HasTrue (true_in (up_to 0 entries)) c) (sym here) (now (subst (λ (c : List ℕ). length c < 2) here few)))
]

-- a settled clause of fewer than two literals has a true one
settled_short : (known : ℕ → Bool) (clause : List ℕ) → IsSettled known clause → length clause < 2 → HasTrue known clause
settled_short known clause settled few = elim settled [
  | inl has ↦ has
  | inr two ↦ absurd (two.differ (only clause two.first two.second few two.holds_first two.holds_second))
]
  where
    only : (clause : List ℕ) (a b : ℕ) → length clause < 2 → Contains clause a → Contains clause b → a ≡ b
    only clause a b few p q =
        let first : p.0 ≡ 0 = omega (arith, p.1) in
        let second : q.0 ≡ 0 = omega (arith, q.1) in
        sym p.2 ∙ ap (λ k. get_or clause k a) first ∙ get_or_default clause 0 a b (omega (arith, p.1)) ∙ ap (λ k. get_or clause k b) (sym second) ∙ q.2

-- at level 0 all entries are of level 0
at_level_zero : (entries : List Assigned) → AllPairs (λ e f. e.level ≤ f.level) entries → current_level entries ≡ 0 → up_to 0 entries ≡ entries
at_level_zero entries rising zero = up_to_all_now entries 0 rising (omega arith)

module _ (stored : List Stored) (s : Stored) (watched : List ℕ) (arena_vars vars head : ℕ) (entries : List Assigned) (refuted : Option ℕ) (first second : ℕ)
    (keeps : IsPropagator stored watched arena_vars entries vars head refuted)
    (orderly : IsOrderly entries vars)
    (consistent : IsConsistent (true_in entries))
    (grown : All (IsGrown vars) s.clause)
    (first_any : IsAnyOf s.clause first)
    (second_any : IsAnyOf s.clause second)
    (latest : 1 < length s.clause → AreLatest entries s.clause first second)
    (settled : (k : ℕ) → k < current_level entries → IsSettled (true_in (up_to k entries)) s.clause) where
  clauses_more : clauses_of (stored ++ s ∷ []) ≡ clauses_of stored ++ s.clause ∷ []
  clauses_more = map_push (λ (x : Stored). x.clause) stored s

  grown_more : AreGrown vars (clauses_of (stored ++ s ∷ []))
  grown_more = subst (λ (cs : List (List ℕ)). AreGrown vars cs) (sym clauses_more) (All-push (λ (c : List ℕ). All (IsGrown vars) c) (clauses_of stored) s.clause keeps.grown grown)

  refuted_still : (after : List Assigned) → ((l : ℕ) → true_in (up_to 0 entries) l ≡ true → true_in (up_to 0 after) l ≡ true) → IfSome refuted (IsConflict (clauses_of (stored ++ s ∷ [])) (up_to 0 after))
  refuted_still after longer =
      subst (λ (cs : List (List ℕ)). IfSome refuted (IsConflict cs (up_to 0 after))) (sym clauses_more)
      (refuted_append (clauses_of stored) (s.clause ∷ []) (up_to 0 after) refuted (refuted_more (clauses_of stored) (up_to 0 entries) (up_to 0 after) refuted longer keeps.refuted_at))

  pub IsPropagator-settled : IsSettled (true_in entries) s.clause → IsPropagator (stored ++ s ∷ []) ((watched ++ first ∷ []) ++ second ∷ []) arena_vars entries vars head refuted
  IsPropagator-settled now = record {
    room = keeps.room;
    grown = grown_more;
    within = keeps.within;
    current = keeps.current;
    keeps = λ none. subst (λ (cs : List (List ℕ)). KeepsWatches entries head cs ((watched ++ first ∷ []) ++ second ∷ [])) (sym clauses_more)
        (KeepsWatches-append entries head (clauses_of stored) watched s.clause first second (keeps.keeps none) first_any second_any (λ long. (latest long).two) (λ long. IsGuarded-settled entries head s.clause first second orderly.rising consistent (latest long) settled now));
    short = λ none. subst (λ (cs : List (List ℕ)). AreShortTrue entries cs) (sym clauses_more)
        (AreShortTrue-append entries (clauses_of stored) s.clause (keeps.short none) (λ few. elim (cases_lt 0 (current_level entries)) [
          | inl above ↦ settled_short (true_in (up_to 0 entries)) s.clause (settled 0 above) few
          | inr root ↦ subst (λ (es : List Assigned). HasTrue (true_in es) s.clause) (sym (at_level_zero entries orderly.rising (omega arith))) (settled_short (true_in entries) s.clause now few)
        ]));
    refuted_at = refuted_still entries (λ l p. p);
  }

  pub IsPropagator-forced : (entry : Assigned) → Forces (true_in entries) s.clause entry.lit → entry.level ≡ current_level entries → IsPropagator (stored ++ s ∷ []) ((watched ++ first ∷ []) ++ second ∷ []) arena_vars (entries ++ entry ∷ []) vars head refuted
  IsPropagator-forced entry forces level =
      let kept = keeps.within in
      record {
        room = keeps.room;
        grown = grown_more;
        within = omega (arith, length_push entries entry);
        current = λ i e at later. elim (in_push entries entry i e at) [
          | inl before ↦ keeps.current i e before.0 later ∙ sym level ∙ sym (current_level-push entries entry)
          | inr last ↦ ap (λ x. x.level) last.0 ∙ sym (current_level-push entries entry)
        ];
        keeps = λ none. subst (λ (cs : List (List ℕ)). KeepsWatches (entries ++ entry ∷ []) head cs ((watched ++ first ∷ []) ++ second ∷ [])) (sym clauses_more)
            (KeepsWatches-append (entries ++ entry ∷ []) head (clauses_of stored) watched s.clause first second (KeepsWatches-push head entries entry (clauses_of stored) watched kept (keeps.keeps none)) first_any second_any (λ long. (latest long).two)
            (λ long. IsGuarded-forced entries entry head s.clause first second orderly.rising kept (latest long) settled forces level));
        short = λ none. subst (λ (cs : List (List ℕ)). AreShortTrue (entries ++ entry ∷ []) cs) (sym clauses_more)
            (AreShortTrue-append (entries ++ entry ∷ []) (clauses_of stored) s.clause (AreShortTrue-push entries entry (clauses_of stored) (keeps.short none)) (λ few. elim (cases_lt 0 (current_level entries)) [
              | inl above ↦ HasTrue-more (true_in (up_to 0 entries)) (true_in (up_to 0 (entries ++ entry ∷ []))) s.clause (up_to_more 0 entries entry) (settled_short (true_in (up_to 0 entries)) s.clause (settled 0 above) few)
              | inr root ↦ subst (λ (es : List Assigned). HasTrue (true_in es) s.clause)
                  (sym (up_to-all 0 (entries ++ entry ∷ []) (All-push (λ (e : Assigned). e.level ≤ 0) entries entry (λ i d h. (let under : (get_or entries i d).level ≤ current_level entries = current_level_is_greatest entries orderly.rising i d h in omega arith)) (omega arith))))
                  (record { literal = entry.lit; holds = forces.holds; is_true = true_in_last entries entry })
            ]));
        refuted_at = refuted_still (entries ++ entry ∷ []) (λ l p. up_to_more 0 entries entry l p);
      }

  pub IsPropagator-falsified : IsFalsified (true_in entries) s.clause → current_level entries ≡ 0 → IsPropagator (stored ++ s ∷ []) ((watched ++ first ∷ []) ++ second ∷ []) arena_vars entries vars head (Some (length stored))
  IsPropagator-falsified falsified root = record {
    room = keeps.room;
    grown = grown_more;
    within = keeps.within;
    current = keeps.current;
    keeps = λ none. absurd (cc);
    short = λ none. absurd (cc);
    refuted_at = subst (λ (cs : List (List ℕ)). IsConflict cs (up_to 0 entries) (length stored)) (sym clauses_more) (
      omega (arith, length_push (clauses_of stored) s.clause, length-map stored (λ x. x.clause)),
      subst (λ (c : List ℕ). IsFalsified (true_in (up_to 0 entries)) c) (sym (get_or_push (clauses_of stored) s.clause [] (length stored) (length-map stored (λ x. x.clause))))
          (subst (λ (es : List Assigned). IsFalsified (true_in es) s.clause) (sym (at_level_zero entries orderly.rising root)) falsified),
    );
  }
