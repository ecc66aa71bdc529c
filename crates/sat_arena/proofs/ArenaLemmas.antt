-- What an arena keeps, as clauses and variables are added.
use Rattle.std.proofs.Common.{◌≡◌, ℕ, ◌<◌, ◌≤◌, ◌+◌, ◌*◌, ◌/◌, ◌^◌, ◌⊎◌, List, [], ◌∷◌, ◌++◌, length, get_or, set, arith, inl, inr, sym, ◌∙◌, ap, subst, refl, length-set, get_or-set_same, get_or-set_other, max}
use Rattle.std.specs.Prelude.{All, Contains, map}
use Rattle.std.proofs.lemmas.Bool.{cases_eq, cases_lt}
use Rattle.std.proofs.lemmas.List.{length_push, length-map, map_push, get_or_append_left, get_or_push}
use Rattle.std.proofs.lemmas.List.Elements.{All-push, All-weaker, All-contains, All-get_or, All-set}
use Rattle.sat_lits.specs.Literals.{negation, variable_of}
use Rattle.sat_arena.specs.declared.trail.Assigned.{Assigned}
use Rattle.sat_arena.specs.Stored.{Stored}
use Rattle.sat_arena.specs.Trails.{IsGrown}
use Rattle.sat_arena.specs.ArenaState.{clauses_of, AreGrown}
use Rattle.sat_arena.specs.Links.{AreListed, IsLengthened}
use Rattle.sat_arena.specs.Guarded.{IsGuarded}
use Rattle.sat_arena.specs.Watches.{clause_of, watch_of, AreTwoOf, IsAnyOf, AreWatches, IsArena, KeepsWatches, MovesWatch}
use Rattle.sat_arena.proofs.LinkLemmas.{AreListed-append, AreListed-lengthened}

pub KeepsWatches-from_guarded : (entries : List Assigned) (head : ℕ) (clauses : List (List ℕ)) (watched : List ℕ) → AreWatches clauses watched → ((n : ℕ) → n < length watched → 1 < length (clause_of clauses n) → IsGuarded entries head (clause_of clauses n) (watch_of watched n)) → KeepsWatches entries head clauses watched
KeepsWatches-from_guarded entries head clauses watched watches guarded = record {
  two_each = watches.two_each;
  holds = watches.holds;
  differ = watches.differ;
  guarded = guarded;
}

pub AreWatches-from_kept : (entries : List Assigned) (head : ℕ) (clauses : List (List ℕ)) (watched : List ℕ) → KeepsWatches entries head clauses watched → AreWatches clauses watched
AreWatches-from_kept entries head clauses watched keeps = record { two_each = keeps.two_each; holds = keeps.holds; differ = keeps.differ }

-- ---- One clause more, with its two watches

module _ (clauses : List (List ℕ)) (watched : List ℕ) (clause : List ℕ) (first second : ℕ) (watches : AreWatches clauses watched) where
  abbrev pub more_clauses : List (List ℕ)
  more_clauses = clauses ++ clause ∷ []

  abbrev pub more_watched : List ℕ
  more_watched = (watched ++ first ∷ []) ++ second ∷ []

  pub more_long : length more_watched ≡ length watched + 2
  more_long = length_push (watched ++ first ∷ []) second ∙ ap (λ n. n + 1) (length_push watched first) ∙ two (length watched)
    where
      two : (n : ℕ) → n + 1 + 1 ≡ n + 2
      two n = omega arith

  pub old_watch : (n : ℕ) → n < length watched → watch_of more_watched n ≡ watch_of watched n
  old_watch n h = get_or_append_left (watched ++ first ∷ []) (second ∷ []) 0 n (omega (arith, length_push watched first)) ∙ get_or_append_left watched (first ∷ []) 0 n h

  pub old_clause : (n : ℕ) → n < length watched → clause_of more_clauses n ≡ clause_of clauses n
  old_clause n h = get_or_append_left clauses (clause ∷ []) [] (n / 2) (omega (arith, watches.two_each))

  pub new_clause : (n : ℕ) → length watched ≤ n → n < length more_watched → clause_of more_clauses n ≡ clause
  new_clause n low h = get_or_push clauses clause [] (n / 2) (omega (arith, watches.two_each, more_long))

  first_watch : watch_of more_watched (length watched) ≡ first
  first_watch = get_or_append_left (watched ++ first ∷ []) (second ∷ []) 0 (length watched) (omega (arith, length_push watched first)) ∙ get_or_push watched first 0 (length watched) refl

  second_watch : watch_of more_watched (length watched + 1) ≡ second
  second_watch = get_or_push (watched ++ first ∷ []) second 0 (length watched + 1) (length_push watched first)

  pub new_watch : (n : ℕ) → length watched ≤ n → n < length more_watched → ((n ≡ length watched) × (watch_of more_watched n ≡ first)) ⊎ ((n ≡ length watched + 1) × (watch_of more_watched n ≡ second))
  new_watch n low h = elim (cases_eq n (length watched)) [
    | inl same ↦ inl (same, ap (λ k. watch_of more_watched k) same ∙ first_watch)
    | inr ne ↦ (let same : n ≡ length watched + 1 = omega (arith, more_long) in inr (same, ap (λ k. watch_of more_watched k) same ∙ second_watch))
  ]

  held_any : (l : ℕ) → IsAnyOf clause l → 0 < length clause → Contains clause l
  held_any l any some = elim any [ inl holds ↦ holds | inr none ↦ absurd (omega (arith, none.0)) ]

  pub AreWatches-append : IsAnyOf clause first → IsAnyOf clause second → (1 < length clause → AreTwoOf clause first second) → AreWatches more_clauses more_watched
  AreWatches-append first_any second_any two = record {
    two_each = more_long ∙ omega (arith, watches.two_each, length_push clauses clause);
    holds = λ n h more. elim (cases_lt n (length watched)) [
      | inl before ↦ subst (λ (c : List ℕ). Contains c (watch_of more_watched n)) (sym (old_clause n before))
          (subst (λ (w : ℕ). Contains (clause_of clauses n) w) (sym (old_watch n before)) (watches.holds n before (subst (λ (c : List ℕ). 0 < length c) (old_clause n before) more)))
      | inr after ↦ (let some : 0 < length clause = subst (λ (c : List ℕ). 0 < length c) (new_clause n after h) more in
          subst (λ (c : List ℕ). Contains c (watch_of more_watched n)) (sym (new_clause n after h)) (elim (new_watch n after h) [
            | inl one ↦ subst (λ (w : ℕ). Contains clause w) (sym one.1) (held_any first first_any some)
            | inr other ↦ subst (λ (w : ℕ). Contains clause w) (sym other.1) (held_any second second_any some)
          ]))
    ];
    differ = λ n h more same. elim (cases_lt n (length watched)) [
      | inl before ↦ (let within : negation n < length watched = omega (arith, watches.two_each) in
          watches.differ n before (subst (λ (c : List ℕ). 1 < length c) (old_clause n before) more) (sym (old_watch n before) ∙ same ∙ old_watch (negation n) within))
      | inr after ↦ (let pair = two (subst (λ (c : List ℕ). 1 < length c) (new_clause n after h) more) in
          elim (new_watch n after h) [
            | inl one ↦ (let other : negation n ≡ length watched + 1 = omega (arith, one.0, watches.two_each) in
                pair.differ (sym one.1 ∙ same ∙ ap (λ k. watch_of more_watched k) other ∙ second_watch))
            | inr two ↦ (let other : negation n ≡ length watched = omega (arith, two.0, watches.two_each) in
                pair.differ (sym (sym two.1 ∙ same ∙ ap (λ k. watch_of more_watched k) other ∙ first_watch)))
          ])
    ];
  }

pub IsArena-append : (stored : List Stored) (s : Stored) (watched links heads : List ℕ) (vars first second : ℕ) → IsArena stored watched links heads vars → length stored + 1 < 2 ^ 31 → All (IsGrown vars) s.clause → first < length heads → second < length heads → IsAnyOf s.clause first → IsAnyOf s.clause second → (1 < length s.clause → AreTwoOf s.clause first second)
    → IsArena (stored ++ s ∷ []) ((watched ++ first ∷ []) ++ second ∷ []) ((links ++ get_or heads first 0 ∷ []) ++ get_or (set heads first (length links + 1)) second 0 ∷ []) (set (set heads first (length links + 1)) second (length (links ++ get_or heads first 0 ∷ []) + 1)) vars
IsArena-append stored s watched links heads vars first second arena small grown first_in second_in first_any second_any two =
    let clauses : clauses_of (stored ++ s ∷ []) ≡ clauses_of stored ++ s.clause ∷ [] = map_push (λ (x : Stored). x.clause) stored s in
    let long : length (set (set heads first (length links + 1)) second (length (links ++ get_or heads first 0 ∷ []) + 1)) ≡ length heads
    = length-set (set heads first (length links + 1)) second (length (links ++ get_or heads first 0 ∷ []) + 1) ∙ length-set heads first (length links + 1) in
    record {
      small = omega (arith, length_push stored s);
      grown = subst (λ (cs : List (List ℕ)). AreGrown vars cs) (sym clauses) (All-push (λ (c : List ℕ). All (IsGrown vars) c) (clauses_of stored) s.clause arena.grown grown);
      room = λ some. omega (arith, arena.room some, long);
      within = subst (λ (n : ℕ). All (λ l. l < n) ((watched ++ first ∷ []) ++ second ∷ [])) (sym long)
          (All-push (λ (l : ℕ). l < length heads) (watched ++ first ∷ []) second (All-push (λ (l : ℕ). l < length heads) watched first arena.within first_in) second_in);
      watches = subst (λ (cs : List (List ℕ)). AreWatches cs ((watched ++ first ∷ []) ++ second ∷ [])) (sym clauses) (AreWatches-append (clauses_of stored) watched s.clause first second arena.watches first_any second_any two);
      listed = AreListed-append (links ++ get_or heads first 0 ∷ []) (set heads first (length links + 1)) (watched ++ first ∷ []) second (AreListed-append links heads watched first arena.listed first_in)
          (omega (arith, length-set heads first (length links + 1)));
    }

-- ---- More variables

pub IsArena-lengthened : (stored : List Stored) (watched links heads heads' : List ℕ) (vars vars' : ℕ) → IsArena stored watched links heads vars → IsLengthened heads heads' → vars ≤ vars' → (vars < vars' → 2 * vars' + 2 ≤ length heads') → IsArena stored watched links heads' vars'
IsArena-lengthened stored watched links heads heads' vars vars' arena longer more room = record {
  small = arena.small;
  grown = λ k d h. AreGrown-one vars vars' (get_or (clauses_of stored) k d) more (arena.grown k d h);
  room = λ some. elim (cases_lt vars vars') [
    | inl up ↦ room up
    | inr same ↦ (let old : 2 * vars + 2 ≤ length heads = arena.room (omega arith) in omega (arith, longer.longer))
  ];
  within = λ k d h. (let old : get_or watched k d < length heads = arena.within k d h in omega (arith, longer.longer));
  watches = arena.watches;
  listed = AreListed-lengthened links heads heads' watched longer arena.within arena.listed;
}
  where
    AreGrown-one : (low high : ℕ) (clause : List ℕ) → low ≤ high → All (IsGrown low) clause → All (IsGrown high) clause
    AreGrown-one low high clause order grown = λ k d h. ((grown k d h).0, omega (arith, (grown k d h).1))

-- ---- For the code

-- a literal that a clause may watch has a list
pub any_within : (clause : List ℕ) (vars room l : ℕ) → All (IsGrown vars) clause → (0 < vars → 2 * vars + 2 ≤ room) → 4 ≤ room → IsAnyOf clause l → l < room
any_within clause vars room l grown enough some any = elim any [
  | inl holds ↦ (let one : IsGrown vars l = All-contains (IsGrown vars) clause l grown holds in
      let many : 2 * vars + 2 ≤ room = enough (omega (arith, one.0, one.1)) in
      omega (arith, one.1))
  | inr none ↦ omega (arith, none.1)
]

pub IsArena-appended : (stored stored' : List Stored) (s : Stored) (watched watched1 watched2 links links1 links2 heads heads0 heads1 heads2 : List ℕ) (vars first second : ℕ) → IsArena stored watched links heads vars → IsLengthened heads heads0 → 4 ≤ length heads0 → length stored + 1 < 2 ^ 31 → All (IsGrown vars) s.clause → IsAnyOf s.clause first → IsAnyOf s.clause second → (1 < length s.clause → AreTwoOf s.clause first second)
    → stored' ≡ stored ++ s ∷ [] → watched1 ≡ watched ++ first ∷ [] → links1 ≡ links ++ get_or heads0 first 0 ∷ [] → heads1 ≡ set heads0 first (length links + 1)
    → watched2 ≡ watched1 ++ second ∷ [] → links2 ≡ links1 ++ get_or heads1 second 0 ∷ [] → heads2 ≡ set heads1 second (length links1 + 1)
    → IsArena stored' watched2 links2 heads2 vars
IsArena-appended stored stored' s watched watched1 watched2 links links1 links2 heads heads0 heads1 heads2 vars first second arena longer four small grown first_any second_any two a b c d e f g =
    let longer_arena = IsArena-lengthened stored watched links heads heads0 vars vars arena longer (omega arith) (λ up. absurd (omega arith)) in
    let made = IsArena-append stored s watched links heads0 vars first second longer_arena small grown
    (any_within s.clause vars (length heads0) first grown longer_arena.room four first_any) (any_within s.clause vars (length heads0) second grown longer_arena.room four second_any) first_any second_any two in
    let W = (watched ++ first ∷ []) ++ second ∷ [] in
    let w : watched2 ≡ (watched ++ first ∷ []) ++ second ∷ [] = e ∙ ap (λ ws. ws ++ second ∷ []) b in
    let l : links2 ≡ (links ++ get_or heads0 first 0 ∷ []) ++ get_or (set heads0 first (length links + 1)) second 0 ∷ [] = f ∙ ap (λ hs. links1 ++ get_or hs second 0 ∷ []) d ∙ ap (λ ls. ls ++ get_or (set heads0 first (length links + 1)) second 0 ∷ []) c in
    let h : heads2 ≡ set (set heads0 first (length links + 1)) second (length (links ++ get_or heads0 first 0 ∷ []) + 1) = g ∙ ap (λ hs. set hs second (length links1 + 1)) d ∙ ap (λ ls. set (set heads0 first (length links + 1)) second (length ls + 1)) c in
    subst (λ (x : List Stored). IsArena x watched2 links2 heads2 vars) (sym a)
    (subst (λ (x : List ℕ). IsArena (stored ++ s ∷ []) x links2 heads2 vars) (sym w)
    (subst (λ (x : List ℕ). IsArena (stored ++ s ∷ []) W x heads2 vars) (sym l)
    (subst (λ (x : List ℕ). IsArena (stored ++ s ∷ []) W ((links ++ get_or heads0 first 0 ∷ []) ++ get_or (set heads0 first (length links + 1)) second 0 ∷ []) x vars) (sym h) made)))

-- ---- One watch that moves

AreWatches-set : (clauses : List (List ℕ)) (watched : List ℕ) (watch to : ℕ) → AreWatches clauses watched → watch < length watched → Contains (clause_of clauses watch) to → (to ≡ watch_of watched (negation watch) → ⊥) → AreWatches clauses (set watched watch to)
AreWatches-set clauses watched watch to watches within holds apart =
    let long : length (set watched watch to) ≡ length watched = length-set watched watch to in
    let here : watch_of (set watched watch to) watch ≡ to = get_or-set_same watched watch to 0 within in
    let old : (m : ℕ) → (m ≡ watch → ⊥) → watch_of (set watched watch to) m ≡ watch_of watched m = λ m ne. get_or-set_other watched watch m to 0 ne in
    record {
      two_each = long ∙ watches.two_each;
      holds = λ m h more. elim (cases_eq m watch) [
        | inl same ↦ subst (λ (k : ℕ). Contains (clause_of clauses k) (watch_of (set watched watch to) k)) (sym same) (subst (λ (k : ℕ). Contains (clause_of clauses watch) k) (sym here) holds)
        | inr ne ↦ subst (λ (k : ℕ). Contains (clause_of clauses m) k) (sym (old m ne)) (watches.holds m (omega arith) more)
      ];
      differ = λ m h more same_watch. elim (cases_eq m watch) [
        | inl same ↦ apart (sym here ∙ ap (λ k. watch_of (set watched watch to) k) (sym same) ∙ same_watch ∙ ap (λ k. watch_of (set watched watch to) (negation k)) same ∙ old (negation watch) (λ e. absurd (omega (arith, e))))
        | inr ne ↦ elim (cases_eq (negation m) watch) [
          | inl same ↦ (let back : m ≡ negation watch = omega (arith, same) in
              apart (sym here ∙ ap (λ k. watch_of (set watched watch to) k) (sym same) ∙ sym same_watch ∙ old m ne ∙ ap (λ k. watch_of watched k) back))
          | inr ne' ↦ watches.differ m (omega arith) more (sym (old m ne) ∙ same_watch ∙ old (negation m) ne')
        ]
      ];
    }

pub IsArena-moved : (stored : List Stored) (watched watched' links links' heads heads' : List ℕ) (vars at from to watch : ℕ) → IsArena stored watched links heads vars → MovesWatch stored watched at from to watch → watched' ≡ set watched watch to → length heads' ≡ length heads → AreListed links' heads' watched' [] 0 0
    → IsArena stored watched' links' heads' vars
IsArena-moved stored watched watched' links links' heads heads' vars at from to watch arena moves is long listed =
    let position : at < length (clauses_of stored) = omega (arith, moves.within, moves.of_clause, arena.watches.two_each) in
    let grown : IsGrown vars to = All-contains (IsGrown vars) (get_or (clauses_of stored) at []) to (All-get_or (λ (c : List ℕ). All (IsGrown vars) c) (clauses_of stored) at [] position arena.grown) moves.grown in
    let room : 2 * vars + 2 ≤ length heads = arena.room (omega (arith, grown.0, grown.1)) in
    record {
      small = arena.small;
      grown = arena.grown;
      room = λ some. omega (arith, arena.room some, long);
      within = subst (λ (ws : List ℕ). All (λ l. l < length heads') ws) (sym is) (subst (λ (n : ℕ). All (λ l. l < n) (set watched watch to)) (sym long) (All-set (λ (l : ℕ). l < length heads) watched watch to (omega (arith, grown.1)) arena.within));
      watches = subst (λ (ws : List ℕ). AreWatches (clauses_of stored) ws) (sym is)
          (AreWatches-set (clauses_of stored) watched watch to arena.watches moves.within (subst (λ (k : ℕ). Contains (get_or (clauses_of stored) k []) to) (sym moves.of_clause) moves.grown) moves.apart);
      listed = listed;
    }

-- ---- After the lists were gone through

pub IsArena-visited : (stored : List Stored) (entries : List Assigned) (head : ℕ) (watched watched' links links' heads heads' : List ℕ) (vars : ℕ) → IsArena stored watched links heads vars → KeepsWatches entries head (clauses_of stored) watched' → AreListed links' heads' watched' [] 0 0 → All (λ l. l < length heads') watched' → length heads' ≡ length heads → IsArena stored watched' links' heads' vars
IsArena-visited stored entries head watched watched' links links' heads heads' vars arena keeps listed within long = record {
  small = arena.small;
  grown = arena.grown;
  room = λ some. omega (arith, arena.room some, long);
  within = within;
  watches = AreWatches-from_kept entries head (clauses_of stored) watched' keeps;
  listed = listed;
}

-- a clause of two or more literals watches two of them
pub two_watched : (stored : List Stored) (watched links heads : List ℕ) (vars at : ℕ) → IsArena stored watched links heads vars → at < length stored → 1 < length (get_or (clauses_of stored) at []) → AreTwoOf (get_or (clauses_of stored) at []) (watch_of watched (2 * at)) (watch_of watched (2 * at + 1))
two_watched stored watched links heads vars at arena within more =
    let long : length watched ≡ 2 * length stored = arena.watches.two_each ∙ ap (λ n. 2 * n) (length-map stored (λ x. x.clause)) in
    let first : 2 * at / 2 ≡ at = omega arith in
    let second : (2 * at + 1) / 2 ≡ at = omega arith in
    let other : negation (2 * at) ≡ 2 * at + 1 = omega arith in
    let clause_first : clause_of (clauses_of stored) (2 * at) ≡ get_or (clauses_of stored) at [] = ap (λ k. get_or (clauses_of stored) k []) first in
    let clause_second : clause_of (clauses_of stored) (2 * at + 1) ≡ get_or (clauses_of stored) at [] = ap (λ k. get_or (clauses_of stored) k []) second in
    record {
      holds_first = subst (λ (c : List ℕ). Contains c (watch_of watched (2 * at))) clause_first (arena.watches.holds (2 * at) (omega arith) (subst (λ (c : List ℕ). 0 < length c) (sym clause_first) (omega arith)));
      holds_second = subst (λ (c : List ℕ). Contains c (watch_of watched (2 * at + 1))) clause_second (arena.watches.holds (2 * at + 1) (omega arith) (subst (λ (c : List ℕ). 0 < length c) (sym clause_second) (omega arith)));
      differ = λ same. arena.watches.differ (2 * at) (omega arith) (subst (λ (c : List ℕ). 1 < length c) (sym clause_first) more) (same ∙ ap (λ k. watch_of watched k) (sym other));
    }
