-- One moved of the visit over the list of a literal that became false.
use Rattle.std.proofs.Common.{◌≡◌, ℕ, ◌==◌, ◌<◌, ◌≤◌, ◌+◌, ◌*◌, ◌/◌, Bool, true, false, List, [], ◌∷◌, ◌++◌, length, get_or, set, arith, inl, inr, sym, ◌∙◌, ap, subst, refl, get_or-set_same, get_or-set_other, length-set, ◌⊎◌}
use Rattle.std.specs.Prelude.{All, Contains}
use Rattle.std.specs.List.{AllPairs}
use Rattle.std.proofs.lemmas.Bool.{cases_eq, both_ways, eq-eqb, or_right}
use Rattle.std.proofs.lemmas.List.{length_push, get_or_append_left}
use Rattle.std.proofs.lemmas.List.Folds.{list_any_at}
use Rattle.std.proofs.lemmas.List.Elements.{All-push}
use Rattle.sat_arena.specs.Justified.{IsEntryAt}
use Rattle.sat_arena.proofs.TrailLemmas.{true_in-push}
use Rattle.sat_arena.specs.Deduced.{Deduces, nothing, one_more}
use Rattle.sat_arena.proofs.DeducedLemmas.{longer_deduced}
use Rattle.sat_lits.specs.Literals.{negation}
use Rattle.sat_arena.specs.declared.trail.Assigned.{Assigned}
use Rattle.sat_arena.specs.Trails.{true_in, up_to}
use Rattle.sat_arena.specs.Settled.{HasTrue, IsSettled}
use Rattle.sat_arena.specs.Guarded.{IsGuarded, IsWatched}
use Rattle.sat_arena.specs.Watches.{clause_of, watch_of, KeepsWatches, AreVisited, MayWatch}
use Rattle.sat_arena.proofs.LinkLemmas.{contains_none, contains_cases}
use Rattle.sat_arena.proofs.GuardedLemmas.{IsSettled-from_IsWatched, IsGuarded-back, IsGuarded-fewer, IsGuarded-push, IsGuarded-open, IsGuarded-other, IsGuarded-satisfied}

other_watch : (n k : ℕ) → n < 2 * k → negation n < 2 * k
other_watch n k h = omega arith

other_clause : (n : ℕ) → negation n / 2 ≡ n / 2
other_clause n = omega arith

pub other_twice : (n : ℕ) → negation (negation n) ≡ n
other_twice n = omega arith

other_differs : (n : ℕ) → negation n ≡ n → ⊥
other_differs n e = omega arith

-- ---- Where nothing is left in the queue, each clause of two literals is settled

pub all_settled : (entries : List Assigned) (head : ℕ) (clauses : List (List ℕ)) (watched : List ℕ) → KeepsWatches entries head clauses watched → length entries ≤ head → (i : ℕ) → i < length clauses → 1 < length (get_or clauses i []) → IsSettled (true_in entries) (get_or clauses i [])
all_settled entries head clauses watched keeps done i within more =
    let n = 2 * i in
    let here : n / 2 ≡ i = omega arith in
    let there : negation n / 2 ≡ i = omega arith in
    let n_within : n < length watched = omega (arith, keeps.two_each) in
    let m_within : negation n < length watched = omega (arith, keeps.two_each) in
    let n_some : 1 < length (get_or clauses (n / 2) []) = subst (λ (k : ℕ). 1 < length (get_or clauses k [])) (sym here) more in
    let m_some : 1 < length (get_or clauses (negation n / 2) []) = subst (λ (k : ℕ). 1 < length (get_or clauses k [])) (sym there) more in
    IsSettled-from_IsWatched entries head (get_or clauses i []) (watch_of watched n) (watch_of watched (negation n)) (record {
      holds_one = subst (λ (k : ℕ). Contains (get_or clauses k []) (watch_of watched n)) here (keeps.holds n n_within (omega arith));
      holds_two = subst (λ (k : ℕ). Contains (get_or clauses k []) (watch_of watched (negation n))) there (keeps.holds (negation n) m_within (omega arith));
      differ = keeps.differ n n_within n_some;
      guards_one = subst (λ (k : ℕ). IsGuarded entries head (get_or clauses k []) (watch_of watched n)) here (keeps.guarded n n_within n_some);
      guards_two = subst (λ (k : ℕ). IsGuarded entries head (get_or clauses k []) (watch_of watched (negation n))) there (keeps.guarded (negation n) m_within m_some);
    }) done

-- ---- Going back, and one more entry

pub KeepsWatches-back : (level head : ℕ) (entries : List Assigned) (clauses : List (List ℕ)) (watched : List ℕ) → AllPairs (λ e f. e.level ≤ f.level) entries → KeepsWatches entries head clauses watched → KeepsWatches (up_to level entries) head clauses watched
KeepsWatches-back level head entries clauses watched rising keeps = record {
  two_each = keeps.two_each;
  holds = keeps.holds;
  differ = keeps.differ;
  guarded = λ n h some. IsGuarded-back level head entries (clause_of clauses n) (watch_of watched n) rising (keeps.guarded n h some);
}

pub KeepsWatches-fewer : (head head' : ℕ) (entries : List Assigned) (clauses : List (List ℕ)) (watched : List ℕ) → head' ≤ head → KeepsWatches entries head clauses watched → KeepsWatches entries head' clauses watched
KeepsWatches-fewer head head' entries clauses watched fewer keeps = record {
  two_each = keeps.two_each;
  holds = keeps.holds;
  differ = keeps.differ;
  guarded = λ n h some. IsGuarded-fewer head head' entries (clause_of clauses n) (watch_of watched n) fewer (keeps.guarded n h some);
}

pub KeepsWatches-push : (head : ℕ) (entries : List Assigned) (entry : Assigned) (clauses : List (List ℕ)) (watched : List ℕ) → head ≤ length entries → KeepsWatches entries head clauses watched → KeepsWatches (entries ++ entry ∷ []) head clauses watched
KeepsWatches-push head entries entry clauses watched within keeps = record {
  two_each = keeps.two_each;
  holds = keeps.holds;
  differ = keeps.differ;
  guarded = λ n h some. IsGuarded-push head entries entry (clause_of clauses n) (watch_of watched n) within (keeps.guarded n h some);
}

pub AreVisited-push : (head : ℕ) (entries : List Assigned) (entry : Assigned) (clauses : List (List ℕ)) (watched pending : List ℕ) (falsified : ℕ) → head < length entries → AreVisited entries head clauses watched pending falsified → AreVisited (entries ++ entry ∷ []) head clauses watched pending falsified
AreVisited-push head entries entry clauses watched pending falsified within visited = λ n h more same. elim (visited n h more same) [
  | inl c ↦ inl c
  | inr g ↦ inr (IsGuarded-push (head + 1) entries entry (clause_of clauses n) falsified (omega arith) g)
]

-- ---- One watch, which watches x from now on

pub KeepsWatches-moved : (entries : List Assigned) (head : ℕ) (clauses : List (List ℕ)) (watched : List ℕ) (n falsified x : ℕ) → KeepsWatches entries head clauses watched → n < length watched → (0 < length (clause_of clauses n) → Contains (clause_of clauses n) x) → (1 < length (clause_of clauses n) → MayWatch entries head (clause_of clauses n) falsified (watch_of watched (negation n)) x) → KeepsWatches entries head clauses (set watched n x)
KeepsWatches-moved entries head clauses watched n falsified x keeps within held may =
    let long : length (set watched n x) ≡ length watched = length-set watched n x in
    let here : watch_of (set watched n x) n ≡ x = get_or-set_same watched n x 0 within in
    let old : (m : ℕ) → (m ≡ n → ⊥) → watch_of (set watched n x) m ≡ watch_of watched m = λ m ne. get_or-set_other watched n m x 0 ne in
    let of_n : (m : ℕ) → m ≡ n → 1 < length (clause_of clauses m) → 1 < length (clause_of clauses n) = λ m same more. subst (λ (k : ℕ). 1 < length (clause_of clauses k)) same more in
    record {
      two_each = long ∙ keeps.two_each;
      holds = λ m h more. elim (cases_eq m n) [
        | inl same ↦ subst (λ (k : ℕ). Contains (clause_of clauses k) (watch_of (set watched n x) k)) (sym same) (subst (λ (k : ℕ). Contains (clause_of clauses n) k) (sym here) (held (subst (λ (k : ℕ). 0 < length (clause_of clauses k)) same more)))
        | inr ne ↦ subst (λ (k : ℕ). Contains (clause_of clauses m) k) (sym (old m ne)) (keeps.holds m (omega arith) more)
      ];
      differ = λ m h more same_watch. elim (cases_eq m n) [
        | inl same ↦ (may (of_n m same more)).apart (sym here ∙ ap (λ k. watch_of (set watched n x) k) (sym same) ∙ same_watch ∙ ap (λ k. watch_of (set watched n x) (negation k)) same ∙ old (negation n) (other_differs n))
        | inr ne ↦ elim (cases_eq (negation m) n) [
          | inl same ↦
              let back : m ≡ negation n = sym (other_twice m) ∙ ap negation same in
              let more' : 1 < length (clause_of clauses n) = subst (λ (k : ℕ). 1 < length (get_or clauses k [])) (sym (other_clause m) ∙ ap (λ k. k / 2) same) more in
              (may more').apart (sym here ∙ ap (λ k. watch_of (set watched n x) k) (sym same) ∙ sym same_watch ∙ old m ne ∙ ap (λ k. watch_of watched k) back)
          | inr ne' ↦ keeps.differ m (omega arith) more (sym (old m ne) ∙ same_watch ∙ old (negation m) ne')
        ]
      ];
      guarded = λ m h more. elim (cases_eq m n) [
        | inl same ↦ subst (λ (k : ℕ). IsGuarded entries head (clause_of clauses k) (watch_of (set watched n x) k)) (sym same) (subst (λ (k : ℕ). IsGuarded entries head (clause_of clauses n) k) (sym here) (may (of_n m same more)).guards)
        | inr ne ↦ subst (λ (k : ℕ). IsGuarded entries head (clause_of clauses m) k) (sym (old m ne)) (keeps.guarded m (omega arith) more)
      ];
    }

pub AreVisited-moved : (entries : List Assigned) (head : ℕ) (clauses : List (List ℕ)) (watched : List ℕ) (n : ℕ) (ns : List ℕ) (falsified x : ℕ) → AreVisited entries head clauses watched (n ∷ ns) falsified → n < length watched → (1 < length (clause_of clauses n) → MayWatch entries head (clause_of clauses n) falsified (watch_of watched (negation n)) x) → AreVisited entries head clauses (set watched n x) ns falsified
AreVisited-moved entries head clauses watched n ns falsified x visited within may = λ m h more watches. elim (cases_eq m n) [
  | inl same ↦ inr (subst (λ (k : ℕ). IsGuarded entries (head + 1) (clause_of clauses k) falsified) (sym same)
      ((may (subst (λ (k : ℕ). 1 < length (clause_of clauses k)) same more)).further (sym (get_or-set_same watched n x 0 within) ∙ ap (λ k. watch_of (set watched n x) k) (sym same) ∙ watches)))
  | inr ne ↦ (let long : length (set watched n x) ≡ length watched = length-set watched n x in
      elim (visited m (omega arith) more (sym (get_or-set_other watched n m x 0 ne) ∙ watches)) [
        | inl c ↦ elim (contains_cases n ns m c) [
          | inl same ↦ absurd (ne (sym same))
          | inr c ↦ inl c
        ]
        | inr g ↦ inr g
      ])
]

-- a literal of the clause that is not false, other than the other watch, may be watched
pub MayWatch-open : (entries : List Assigned) (head : ℕ) (clause : List ℕ) (falsified other x : ℕ) → true_in entries (negation falsified) ≡ true → Contains clause x → (x ≡ other → ⊥) → true_in entries (negation x) ≡ false → MayWatch entries head clause falsified other x
MayWatch-open entries head clause falsified other x falls c apart is_open = record {
  holds = c;
  apart = apart;
  guards = IsGuarded-open head entries clause x is_open;
  further = λ same. absurd (both_ways (true_in entries (negation x)) is_open (ap (λ l. true_in entries (negation l)) same ∙ falls));
}

-- the falsified literal may be watched on where some literal is true, if the entry that made it false is of the current_level level
pub MayWatch-stay : (entries : List Assigned) (head : ℕ) (d : Assigned) (clauses : List (List ℕ)) (watched : List ℕ) (n falsified : ℕ) → KeepsWatches entries head clauses watched → n < length watched → watch_of watched n ≡ falsified → head < length entries → All (λ e. e.level ≤ (get_or entries head d).level) entries → HasTrue (true_in entries) (clause_of clauses n) → 1 < length (clause_of clauses n) → MayWatch entries head (clause_of clauses n) falsified (watch_of watched (negation n)) falsified
MayWatch-stay entries head d clauses watched n falsified keeps within watches head_within current_level has more =
    let guard : IsGuarded entries head (clause_of clauses n) falsified = subst (λ (k : ℕ). IsGuarded entries head (clause_of clauses n) k) watches (keeps.guarded n within more) in
    record {
      holds = subst (λ (k : ℕ). Contains (clause_of clauses n) k) watches (keeps.holds n within (omega arith));
      apart = λ same. keeps.differ n within more (watches ∙ same);
      guards = guard;
      further = λ _. IsGuarded-satisfied head entries d (clause_of clauses n) falsified head_within current_level has guard;
    }

-- the list is done: the queue moves on by one entry
pub KeepsWatches-next : (entries : List Assigned) (head : ℕ) (d : Assigned) (clauses : List (List ℕ)) (watched : List ℕ) (falsified : ℕ) → KeepsWatches entries head clauses watched → AreVisited entries head clauses watched [] falsified → head < length entries → (get_or entries head d).lit ≡ negation falsified → KeepsWatches entries (head + 1) clauses watched
KeepsWatches-next entries head d clauses watched falsified keeps visited within is = record {
  two_each = keeps.two_each;
  holds = keeps.holds;
  differ = keeps.differ;
  guarded = λ n h more. elim (cases_eq (watch_of watched n) falsified) [
    | inl same ↦ elim (visited n h more same) [
      | inl c ↦ absurd (contains_none n c)
      | inr g ↦ subst (λ (k : ℕ). IsGuarded entries (head + 1) (clause_of clauses n) k) (sym same) g
    ]
    | inr ne ↦ IsGuarded-other head entries d (clause_of clauses n) (watch_of watched n) within
        (λ e. ne (sym (other_twice (watch_of watched n)) ∙ ap negation (sym e ∙ is) ∙ other_twice falsified)) (keeps.guarded n h more)
  ];
}

-- ---- For the visit of one watch

pub is_in_clause : (entries : List Assigned) (head : ℕ) (clauses : List (List ℕ)) (watched : List ℕ) (n : ℕ) → KeepsWatches entries head clauses watched → n < length watched → 0 < length (clause_of clauses n) → Contains (clause_of clauses n) (watch_of watched (negation n))
is_in_clause entries head clauses watched n keeps within more =
    let m_within : negation n < length watched = omega (arith, keeps.two_each) in
    subst (λ (k : ℕ). Contains (get_or clauses k []) (watch_of watched (negation n))) (other_clause n)
    (keeps.holds (negation n) m_within (subst (λ (k : ℕ). 0 < length (get_or clauses k [])) (sym (other_clause n)) more))

-- what a watch watches is in its clause
pub held_at : (entries : List Assigned) (head : ℕ) (clauses : List (List ℕ)) (watched : List ℕ) (n falsified x : ℕ) → KeepsWatches entries head clauses watched → n < length watched → watch_of watched n ≡ falsified → x ≡ falsified → 0 < length (clause_of clauses n) → Contains (clause_of clauses n) x
held_at entries head clauses watched n falsified x keeps within watches is some = subst (λ (k : ℕ). Contains (clause_of clauses n) k) (watches ∙ sym is) (keeps.holds n within some)

-- an entry of the trail makes its literal true, and the negation of it false
pub true_at : (entries : List Assigned) (head : ℕ) (entry : Assigned) → IsEntryAt entries head entry → true_in entries (negation (negation entry.lit)) ≡ true
true_at entries head entry stands =
    list_any_at (λ e. e.lit == negation (negation entry.lit)) entries head entry stands.0
    (eq-eqb (get_or entries head entry).lit (negation (negation entry.lit)) (ap (λ e. e.lit) stands.1 ∙ sym (other_twice entry.lit)))

pub stay_at : (entries : List Assigned) (head : ℕ) (entry : Assigned) (clauses : List (List ℕ)) (watched : List ℕ) (n x : ℕ) → KeepsWatches entries head clauses watched → n < length watched → watch_of watched n ≡ negation entry.lit → IsEntryAt entries head entry → All (λ e. e.level ≤ entry.level) entries → x ≡ negation entry.lit → HasTrue (true_in entries) (clause_of clauses n) → 1 < length (clause_of clauses n) → MayWatch entries head (clause_of clauses n) (negation entry.lit) (watch_of watched (negation n)) x
stay_at entries head entry clauses watched n x keeps within watches stands current_level is has more =
    subst (λ (y : ℕ). MayWatch entries head (clause_of clauses n) (negation entry.lit) (watch_of watched (negation n)) y) (sym is)
    (MayWatch-stay entries head entry clauses watched n (negation entry.lit) keeps within watches stands.0
    (subst (λ (d : Assigned). All (λ e. e.level ≤ d.level) entries) (sym stands.1) current_level) has more)

pub stay_forced : (entries : List Assigned) (head : ℕ) (entry further : Assigned) (clauses : List (List ℕ)) (watched : List ℕ) (n x : ℕ) → KeepsWatches entries head clauses watched → n < length watched → watch_of watched n ≡ negation entry.lit → IsEntryAt entries head entry → All (λ e. e.level ≤ entry.level) entries → x ≡ negation entry.lit → further.level ≡ entry.level → Contains (clause_of clauses n) further.lit → 1 < length (clause_of clauses n) → MayWatch (entries ++ further ∷ []) head (clause_of clauses n) (negation entry.lit) (watch_of watched (negation n)) x
stay_forced entries head entry further clauses watched n x keeps within watches stands current_level is level holds more =
    stay_at (entries ++ further ∷ []) head entry clauses watched n x
    (KeepsWatches-push head entries further clauses watched (omega (arith, stands.0)) keeps) within watches
    (omega (arith, stands.0, length_push entries further), get_or_append_left entries (further ∷ []) entry head stands.0 ∙ stands.1)
    (All-push (λ (e : Assigned). e.level ≤ entry.level) entries further current_level (omega arith)) is
    (record {
      literal = further.lit;
      holds = holds;
      is_true = true_in-push entries further further.lit ∙ or_right (true_in entries further.lit) (further.lit == further.lit) (eq-eqb further.lit further.lit refl);
    }) more

-- ---- As the trail goes on

pub IsEntryAt-deduced : (clauses : List (List ℕ)) (level head : ℕ) (entry : Assigned) (before after : List Assigned) → Deduces clauses level before after → IsEntryAt before head entry → IsEntryAt after head entry
IsEntryAt-deduced clauses level head entry before after nothing stands = stands
IsEntryAt-deduced clauses level head entry before after (one_more entries further position deduced at reason within forces) stands =
    let old : IsEntryAt entries head entry = IsEntryAt-deduced clauses level head entry before entries deduced stands in
    (omega (arith, old.0, length_push entries further), get_or_append_left entries (further ∷ []) entry head old.0 ∙ old.1)

pub AreVisited-deduced : (clauses : List (List ℕ)) (level head : ℕ) (all : List (List ℕ)) (watched pending : List ℕ) (falsified : ℕ) (before after : List Assigned) → Deduces clauses level before after → head < length before → AreVisited before head all watched pending falsified → AreVisited after head all watched pending falsified
AreVisited-deduced clauses level head all watched pending falsified before after nothing within visited = visited
AreVisited-deduced clauses level head all watched pending falsified before after (one_more entries further position deduced at reason h forces) within visited =
    AreVisited-push head entries further all watched pending falsified (omega (arith, within, longer_deduced clauses level before entries deduced))
    (AreVisited-deduced clauses level head all watched pending falsified before entries deduced within visited)
