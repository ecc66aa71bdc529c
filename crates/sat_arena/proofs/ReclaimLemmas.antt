-- What becomes of clauses, their watches and their positions as some are taken out.
use Rattle.std.proofs.Common.{◌≡◌, ℕ, suc, zero, ◌<◌, ◌≤◌, ◌+◌, ◌*◌, ◌/◌, Bool, true, false, not, cond, List, [], ◌∷◌, ◌++◌, Option, Some, None, length, get_or, take, arith, refl, inl, inr, ◌⊎◌, sym, ◌∙◌, ap, subst, append-nil}
use Rattle.std.specs.Prelude.{filter, map}
use Rattle.std.proofs.lemmas.Bool.{cases_eq, cases_lt}
use Rattle.std.proofs.lemmas.List.{length_push, length-map, map_push, get_or_append_left, get_or_push, take_more, take_all}
use Rattle.std.proofs.lemmas.List.Elements.{filter_more}
use Rattle.sat_arena.specs.declared.trail.Assigned.{Assigned}
use Rattle.sat_arena.specs.Stored.{Stored}
use Rattle.sat_arena.specs.ArenaState.{ArenaState, clauses_of}
use Rattle.sat_arena.specs.Guarded.{IsGuarded}
use Rattle.sat_arena.specs.Watches.{clause_of, watch_of, AreWatches, KeepsWatches}
use Rattle.sat_arena.specs.Reclaimed.{moves, IsCopied, HasCopied, AreWatchesOf, AreCopied}
use Rattle.sat_arena.proofs.ArenaLemmas.{KeepsWatches-from_guarded}
use Rattle.sat_arena.proofs.DeducedLemmas.{clause_at}

-- ---- Positions

-- the clauses that stay
abbrev pub staying : (Stored → Bool) → List Stored → List Stored
staying gone stored = filter (λ s. not (gone s)) stored

pub moves-push : (gone : Stored → Bool) (n : ℕ) (ss : List Stored) (s : Stored) → moves gone n (ss ++ s ∷ []) ≡ moves gone n ss ++ cond (gone s) None (Some (n + length (staying gone ss))) ∷ []
moves-push gone n [] s = elim (gone s) as (λ b. cond b (None ∷ []) (Some n ∷ []) ≡ cond b None (Some (n + 0)) ∷ []) [
  | true ↦ refl
  | false ↦ (let e : n ≡ n + 0 = omega arith in ap (λ k. Some k ∷ []) e)
]
moves-push gone n (t ∷ ts) s = elim (gone t) as (λ b. cond b (None ∷ moves gone n (ts ++ s ∷ [])) (Some n ∷ moves gone (suc n) (ts ++ s ∷ [])) ≡ cond b (None ∷ moves gone n ts) (Some n ∷ moves gone (suc n) ts) ++ cond (gone s) None (Some (n + length (cond (not b) (t ∷ staying gone ts) (staying gone ts)))) ∷ []) [
  | true ↦ ap (λ ms. None ∷ ms) (moves-push gone n ts s)
  | false ↦ ap (λ ms. Some n ∷ ms) (moves-push gone (suc n) ts s ∙ ap (λ k. moves gone (suc n) ts ++ cond (gone s) None (Some k) ∷ []) (let e : suc n + length (staying gone ts) ≡ n + suc (length (staying gone ts)) = omega arith in e))
]

pub length-moves : (gone : Stored → Bool) (n : ℕ) (ss : List Stored) → length (moves gone n ss) ≡ length ss
length-moves gone n [] = refl
length-moves gone n (s ∷ ss) = elim (gone s) as (λ b. length (cond b (None ∷ moves gone n ss) (Some n ∷ moves gone (suc n) ss)) ≡ suc (length ss)) [
  | true ↦ ap suc (length-moves gone n ss)
  | false ↦ ap suc (length-moves gone (suc n) ss)
]

-- a clause that stays stands where it is said
pub record StandsAt (stays : List Stored) (s : Stored) (n position : ℕ) : Type 0 where
  pub index : ℕ
  pub counted : position ≡ n + index
  pub within : index < length stays
  pub same : (d : Stored) → get_or stays index d ≡ s

StandsAt-cons : (t : Stored) (stays : List Stored) (s : Stored) (n position : ℕ) → StandsAt stays s (suc n) position → StandsAt (t ∷ stays) s n position
StandsAt-cons t stays s n position at = record {
  index = suc at.index;
  counted = omega (arith, at.counted);
  within = omega (arith, at.within);
  same = at.same;
}

-- where the tests of two clauses are equal
some_apart : (x : Option ℕ) (j : ℕ) → x ≡ None → x ≡ Some j → ⊥
some_apart x j none some = cc

some_same : (x : Option ℕ) (i j : ℕ) → x ≡ Some i → x ≡ Some j → i ≡ j
some_same x i j one other = cc

-- the first clause, which is gone or stays, and the others
pub moves_stays : (gone : Stored → Bool) (n : ℕ) (ss : List Stored) (i j : ℕ) (d : Stored) → i < length ss → get_or (moves gone n ss) i None ≡ Some j → StandsAt (staying gone ss) (get_or ss i d) n j
moves_stays gone n [] i j d within = absurd (omega arith)
moves_stays gone n (s ∷ ss) zero j d within = elim (gone s) as (λ b. get_or (cond b (None ∷ moves gone n ss) (Some n ∷ moves gone (suc n) ss)) 0 None ≡ Some j → StandsAt (cond (not b) (s ∷ staying gone ss) (staying gone ss)) s n j) [
  | true ↦ (λ is. absurd (some_apart None j refl is))
  | false ↦ (λ is. record { index = 0; counted = (let e : n ≡ j = some_same (Some n) n j refl is in omega arith); within = omega arith; same = λ x. refl })
]
moves_stays gone n (s ∷ ss) (suc i) j d within = elim (gone s) as (λ b. get_or (cond b (None ∷ moves gone n ss) (Some n ∷ moves gone (suc n) ss)) (suc i) None ≡ Some j → StandsAt (cond (not b) (s ∷ staying gone ss) (staying gone ss)) (get_or ss i d) n j) [
  | true ↦ (λ is. moves_stays gone n ss i j d (omega arith) is)
  | false ↦ (λ is. StandsAt-cons s (staying gone ss) (get_or ss i d) n j (moves_stays gone (suc n) ss i j d (omega arith) is))
]

pub moves_gone : (gone : Stored → Bool) (n : ℕ) (ss : List Stored) (i : ℕ) (d : Stored) → i < length ss → get_or (moves gone n ss) i None ≡ None → gone (get_or ss i d) ≡ true
moves_gone gone n [] i d within = absurd (omega arith)
moves_gone gone n (s ∷ ss) zero d within = elim (gone s) as (λ b. get_or (cond b (None ∷ moves gone n ss) (Some n ∷ moves gone (suc n) ss)) 0 None ≡ None → b ≡ true) [
  | true ↦ (λ is. refl)
  | false ↦ (λ is. absurd (some_apart (Some n) n is refl))
]
moves_gone gone n (s ∷ ss) (suc i) d within = elim (gone s) as (λ b. get_or (cond b (None ∷ moves gone n ss) (Some n ∷ moves gone (suc n) ss)) (suc i) None ≡ None → gone (get_or ss i d) ≡ true) [
  | true ↦ (λ is. moves_gone gone n ss i d (omega arith) is)
  | false ↦ (λ is. moves_gone gone (suc n) ss i d (omega arith) is)
]

-- ---- Watches of one more clause

module _ (clauses : List (List ℕ)) (watched : List ℕ) (clauses' : List (List ℕ)) (watched' : List ℕ) (at : ℕ) (clause : List ℕ) (first second : ℕ) where
  abbrev more : List (List ℕ)
  more = clauses' ++ clause ∷ []

  abbrev more_watched : List ℕ
  more_watched = (watched' ++ first ∷ []) ++ second ∷ []

  pub AreWatchesOf-append : length watched ≡ 2 * length clauses → length watched' ≡ 2 * length clauses' → at < length clauses → clause ≡ get_or clauses at []
      → (1 < length clause → first ≡ watch_of watched (2 * at)) → (1 < length clause → second ≡ watch_of watched (2 * at + 1)) → AreWatchesOf clauses watched clauses' watched' → AreWatchesOf clauses watched more more_watched
  AreWatchesOf-append two two' within clause_is first_is second_is old n inside longer = elim (cases_lt n (length watched')) [
    | inl before ↦
        let same_clause : clause_of more n ≡ clause_of clauses' n = get_or_append_left clauses' (clause ∷ []) [] (n / 2) (omega (arith, two')) in
        let same_watch : watch_of more_watched n ≡ watch_of watched' n = get_or_append_left (watched' ++ first ∷ []) (second ∷ []) 0 n (omega (arith, length_push watched' first)) ∙ get_or_append_left watched' (first ∷ []) 0 n before in
        let was = old n before (subst (λ (c : List ℕ). 1 < length c) same_clause longer) in
        (was.0, was.1, same_clause ∙ was.2, same_watch ∙ was.3)
    | inr after ↦
        let long : length more_watched ≡ length watched' + 2 = length_push (watched' ++ first ∷ []) second ∙ ap (λ k. k + 1) (length_push watched' first) ∙ (let e : length watched' + 1 + 1 ≡ length watched' + 2 = omega arith in e) in
        let new_clause : clause_of more n ≡ clause = get_or_push clauses' clause [] (n / 2) (omega (arith, two', long)) in
        let long_clause : 1 < length clause = subst (λ (c : List ℕ). 1 < length c) new_clause longer in
        elim (cases_eq n (length watched')) [
          | inl one ↦
              let watch : watch_of more_watched n ≡ first = ap (λ k. watch_of more_watched k) one ∙ get_or_append_left (watched' ++ first ∷ []) (second ∷ []) 0 (length watched') (omega (arith, length_push watched' first)) ∙ get_or_push watched' first 0 (length watched') refl in
              let half : 2 * at / 2 ≡ at = omega arith in
              (2 * at, omega (arith, two), new_clause ∙ clause_is ∙ ap (λ k. get_or clauses k []) (sym half), watch ∙ first_is long_clause)
          | inr ne ↦
              let last : n ≡ length watched' + 1 = omega (arith, long) in
              let watch : watch_of more_watched n ≡ second = ap (λ k. watch_of more_watched k) last ∙ get_or_push (watched' ++ first ∷ []) second 0 (length watched' + 1) (length_push watched' first) in
              let half : (2 * at + 1) / 2 ≡ at = omega arith in
              (2 * at + 1, omega (arith, two), new_clause ∙ clause_is ∙ ap (λ k. get_or clauses k []) (sym half), watch ∙ second_is long_clause)
        ]
  ]

-- watches that are kept with their clauses owe nothing more
pub KeepsWatches-of : (entries : List Assigned) (head : ℕ) (clauses : List (List ℕ)) (watched : List ℕ) (clauses' : List (List ℕ)) (watched' : List ℕ) → AreWatches clauses' watched' → AreWatchesOf clauses watched clauses' watched' → KeepsWatches entries head clauses watched → KeepsWatches entries head clauses' watched'
KeepsWatches-of entries head clauses watched clauses' watched' watches of keeps =
    KeepsWatches-from_guarded entries head clauses' watched' watches (λ n within longer.
    let from = of n within longer in
    subst (λ (c : List ℕ). IsGuarded entries head c (watch_of watched' n)) (sym from.2)
    (subst (λ (w : ℕ). IsGuarded entries head (clause_of clauses from.0) w) (sym from.3)
    (keeps.guarded from.0 from.1 (subst (λ (c : List ℕ). 1 < length c) from.2 longer))))

-- ---- One clause more that is passed

passes : (keep : Stored → Bool) (stored kept kept' : List Stored) (at : ℕ) (d : Stored) → at < length stored → keep (get_or stored at d) ≡ true → kept ≡ filter keep (take at stored) → kept' ≡ kept ++ get_or stored at d ∷ [] → kept' ≡ filter keep (take (at + 1) stored)
passes keep stored kept kept' at d within kept_here before after =
    after ∙ ap (λ (xs : List Stored). xs ++ get_or stored at d ∷ []) before
    ∙ sym (filter_more keep stored at d within ∙ ap (λ b. filter keep (take at stored) ++ cond b (get_or stored at d ∷ []) []) kept_here)

fails : (keep : Stored → Bool) (stored kept : List Stored) (at : ℕ) (d : Stored) → at < length stored → keep (get_or stored at d) ≡ false → kept ≡ filter keep (take at stored) → kept ≡ filter keep (take (at + 1) stored)
fails keep stored kept at d within left_out before =
    before ∙ sym (filter_more keep stored at d within ∙ ap (λ b. filter keep (take at stored) ++ cond b (get_or stored at d ∷ []) []) left_out ∙ append-nil (filter keep (take at stored)))

moves_more : (gone : Stored → Bool) (stored : List Stored) (at : ℕ) (d : Stored) → at < length stored → moves gone 0 (take (at + 1) stored) ≡ moves gone 0 (take at stored) ++ cond (gone (get_or stored at d)) None (Some (0 + length (staying gone (take at stored)))) ∷ []
moves_more gone stored at d within = ap (moves gone 0) (take_more stored at d within) ∙ moves-push gone 0 (take at stored) (get_or stored at d)

pub AreCopied-next : (gone : Stored → Bool) (source old new : ArenaState) (at : ℕ) (d : Stored) → at < length source.stored → length source.watched ≡ 2 * length source.stored → AreCopied gone (take at source.stored) source old → HasCopied source at (gone (get_or source.stored at d)) old new → AreCopied gone (take (at + 1) source.stored) source new
AreCopied-next gone source old new at d within two copied = step (gone (get_or source.stored at d)) refl
  where
    step : (b : Bool) → gone (get_or source.stored at d) ≡ b → HasCopied source at b old new → AreCopied gone (take (at + 1) source.stored) source new
    step true is new_is = subst (λ (a : ArenaState). AreCopied gone (take (at + 1) source.stored) source a) (sym new_is) (record {
      kept = fails (λ s. not (gone s)) source.stored old.stored at d within (ap not is) copied.kept;
      moved = ap (λ ms. ms ++ None ∷ []) copied.moved ∙ sym (moves_more gone source.stored at d within ∙ ap (λ b. moves gone 0 (take at source.stored) ++ cond b None (Some (0 + length (staying gone (take at source.stored)))) ∷ []) is);
      two_each = copied.two_each;
      watches = copied.watches;
    })
    step false is made =
        let s : Stored = get_or source.stored at d in
        let clause : clauses_of new.stored ≡ clauses_of old.stored ++ s.clause ∷ [] = ap clauses_of (made.stored d) ∙ map_push (λ (x : Stored). x.clause) old.stored s in
        let count : length old.stored ≡ 0 + length (staying gone (take at source.stored)) = ap length copied.kept ∙ (let e : length (staying gone (take at source.stored)) ≡ 0 + length (staying gone (take at source.stored)) = omega arith in e) in
        let read : s.clause ≡ get_or (clauses_of source.stored) at [] = sym (clause_at source.stored at d within) in
        record {
          kept = passes (λ t. not (gone t)) source.stored old.stored new.stored at d within (ap not is) copied.kept (made.stored d);
          moved = made.moved ∙ ap (λ ms. ms ++ Some (length old.stored) ∷ []) copied.moved ∙ ap (λ k. moves gone 0 (take at source.stored) ++ Some k ∷ []) count
              ∙ sym (moves_more gone source.stored at d within ∙ ap (λ b. moves gone 0 (take at source.stored) ++ cond b None (Some (0 + length (staying gone (take at source.stored)))) ∷ []) is);
          two_each = ap length made.watched ∙ length_push (old.watched ++ made.first ∷ []) made.second ∙ ap (λ k. k + 1) (length_push old.watched made.first)
              ∙ (let long : length new.stored ≡ length old.stored + 1 = ap length (made.stored d) ∙ length_push old.stored s in let e : length old.watched + 1 + 1 ≡ 2 * length new.stored = omega (arith, copied.two_each) in e);
          watches = subst (λ (ws : List ℕ). AreWatchesOf (clauses_of source.stored) source.watched (clauses_of new.stored) ws) (sym made.watched)
              (subst (λ (cs : List (List ℕ)). AreWatchesOf (clauses_of source.stored) source.watched cs ((old.watched ++ made.first ∷ []) ++ made.second ∷ [])) (sym clause)
              (AreWatchesOf-append (clauses_of source.stored) source.watched (clauses_of old.stored) old.watched at s.clause made.first made.second
              (omega (arith, two, length-map source.stored (λ x. x.clause))) (omega (arith, copied.two_each, length-map old.stored (λ x. x.clause))) (omega (arith, within, length-map source.stored (λ x. x.clause))) read
              (λ longer. made.same_first (subst (λ (c : List ℕ). 1 < length c) read longer)) (λ longer. made.same_second (subst (λ (c : List ℕ). 1 < length c) read longer)) copied.watches));
        }

-- none was passed yet
pub AreCopied-none : (gone : Stored → Bool) (source new : ArenaState) → new.stored ≡ [] → new.watched ≡ [] → new.moved ≡ [] → AreCopied gone [] source new
AreCopied-none gone source new no_clauses no_watches no_moves = record {
  kept = no_clauses;
  moved = no_moves;
  two_each = (let none : length new.watched ≡ 0 = ap length no_watches in let empty : length new.stored ≡ 0 = ap length no_clauses in omega arith);
  watches = λ n within. absurd (let none : length new.watched ≡ 0 = ap length no_watches in omega arith);
}

-- all clauses were passed
pub AreCopied-all : (gone : Stored → Bool) (source new : ArenaState) (at : ℕ) → length source.stored ≤ at → AreCopied gone (take at source.stored) source new → AreCopied gone source.stored source new
AreCopied-all gone source new at all copied = subst (λ (ss : List Stored). AreCopied gone ss source new) (take_all at source.stored all) copied
