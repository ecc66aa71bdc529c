-- One moved of a loop along the nodes that wait.
use Rattle.std.proofs.Common.{◌≡◌, ℕ, ◌<◌, ◌≤◌, ◌+◌, ◌-◌, List, [], ◌∷◌, length, get_or, set, arith, sym, ◌∙◌, ap, subst, refl, inl, inr, suc}
use Rattle.std.proofs.lemmas.List.{set-get_or}
use Rattle.sat_lits.specs.Literals.{negation}
use Rattle.sat_arena.specs.declared.trail.Assigned.{Assigned}
use Rattle.sat_arena.specs.Links.{IsChain, AreListed, IsListedFrom, IsMovedFrom}
use Rattle.sat_arena.specs.Watches.{clause_of, watch_of, AreVisited, MayWatch, KeepsWatches, IsVisiting}
use Rattle.sat_arena.specs.Links.{chain_length}
use Rattle.sat_arena.proofs.LinkLemmas.{AreListed-put_first, AreListed-detach, contains_none, contains_cases, chain_once}
use Rattle.std.specs.Prelude.{Contains}
use Rattle.std.proofs.lemmas.Bool.{cases_eq}
use Rattle.sat_arena.proofs.LengthLemmas.{chain_length-chain}
use Rattle.sat_arena.proofs.WatchLemmas.{AreVisited-moved, AreVisited-deduced, KeepsWatches-next, other_twice}
use Rattle.sat_arena.specs.Deduced.{Deduces}
use Rattle.sat_arena.specs.Justified.{IsEntryAt}

-- a start that is no end is one more than the first watch
pub first_pending : (links heads watched pending : List ℕ) (w start : ℕ) → AreListed links heads watched pending w start → 0 < start → (ns : List ℕ) × (pending ≡ (start - 1) ∷ ns)
first_pending links heads watched [] w start listed some = absurd (omega (arith, listed.waits))
first_pending links heads watched (n ∷ ns) w start listed some = (ns, ap (λ k. k ∷ ns) (omega (arith, listed.waits.0)))

pub none_pending : (links heads watched pending : List ℕ) (w start : ℕ) → AreListed links heads watched pending w start → start ≡ 0 → pending ≡ []
none_pending links heads watched [] w start listed none = refl
none_pending links heads watched (n ∷ ns) w start listed none = absurd (omega (arith, listed.waits.0))

module _ (links heads watched pending : List ℕ) (w start : ℕ) (listed : AreListed links heads watched pending w start) (some : 0 < start) where
  pub suffix : List ℕ
  suffix = (first_pending links heads watched pending w start listed some).0

  pub suffix_same : pending ≡ (start - 1) ∷ suffix
  unfolding suffix
  suffix_same = (first_pending links heads watched pending w start listed some).1

  pub first_listed : AreListed links heads watched ((start - 1) ∷ suffix) w start
  unfolding suffix
  first_listed = subst (λ (ns : List ℕ). AreListed links heads watched ns w start) (first_pending links heads watched pending w start listed some).1 listed

  pub first_linked : start - 1 < length links
  first_linked = first_listed.waits.1

  pub first_watched : start - 1 < length watched
  first_watched = omega (arith, first_listed.waits.1, first_listed.long)

  pub first_watches : watch_of watched (start - 1) ≡ w
  first_watches = first_listed.waits.2

  pub put_listed : (links' heads' watched' : List ℕ) (x : ℕ) → x < length heads → watched' ≡ set watched (start - 1) x → links' ≡ set links (start - 1) (get_or heads x 0) → heads' ≡ set heads x (start - 1 + 1) → AreListed links' heads' watched' suffix w (get_or links (start - 1) 0)
  put_listed links' heads' watched' x there e f g =
      subst (λ (ws : List ℕ). AreListed links' heads' ws suffix w (get_or links (start - 1) 0)) (sym e)
      (subst (λ (ls : List ℕ). AreListed ls heads' (set watched (start - 1) x) suffix w (get_or links (start - 1) 0)) (sym f)
      (subst (λ (hs : List ℕ). AreListed (set links (start - 1) (get_or heads x 0)) hs (set watched (start - 1) x) suffix w (get_or links (start - 1) 0)) (sym g)
      (AreListed-put_first links heads watched (start - 1) suffix w start x first_listed there)))

  pub shorter : (links' heads' watched' : List ℕ) (x : ℕ) → x < length heads → watched' ≡ set watched (start - 1) x → links' ≡ set links (start - 1) (get_or heads x 0) → heads' ≡ set heads x (start - 1 + 1) → chain_length links' (length links') (get_or links (start - 1) 0) < chain_length links (length links) start
  shorter links' heads' watched' x there e f g =
      let before : chain_length links (length links) start ≡ length ((start - 1) ∷ suffix) = chain_length-chain links watched w start ((start - 1) ∷ suffix) first_listed.waits in
      let after : chain_length links' (length links') (get_or links (start - 1) 0) ≡ length suffix
      = chain_length-chain links' watched' w (get_or links (start - 1) 0) suffix (put_listed links' heads' watched' x there e f g).waits in
      omega arith

-- where no watch waits, the lists are whole
pub whole : (links heads watched pending : List ℕ) (w start : ℕ) → AreListed links heads watched pending w start → start ≡ 0 → AreListed links heads watched [] 0 0
whole links heads watched pending w start listed none = record {
  long = listed.long;
  waits = refl;
  lists = (subst (λ (ns : List ℕ). AreListed links heads watched ns w start) (none_pending links heads watched pending w start listed none) listed).lists;
}

-- one moved of the visit
pub IsVisiting-moved : (entries : List Assigned) (head : ℕ) (clauses : List (List ℕ)) (links heads watched links' heads' watched' : List ℕ) (w start x : ℕ) → (walking : IsVisiting entries head clauses links heads watched w start) → 0 < start → x < length heads → (1 < length (clause_of clauses (start - 1)) → MayWatch entries head (clause_of clauses (start - 1)) w (watch_of watched (negation (start - 1))) x) → watched' ≡ set watched (start - 1) x → links' ≡ set links (start - 1) (get_or heads x 0) → heads' ≡ set heads x (start - 1 + 1) → IsVisiting entries head clauses links' heads' watched' w (get_or links (start - 1) 0)
IsVisiting-moved entries head clauses links heads watched links' heads' watched' w start x walking some there may e f g =
    record {
      pending = suffix links heads watched walking.pending w start walking.listed some;
      listed = put_listed links heads watched walking.pending w start walking.listed some links' heads' watched' x there e f g;
      visited = subst (λ (ws : List ℕ). AreVisited entries head clauses ws (suffix links heads watched walking.pending w start walking.listed some) w) (sym e)
          (AreVisited-moved entries head clauses watched (start - 1) (suffix links heads watched walking.pending w start walking.listed some) w x
          (subst (λ (ns : List ℕ). AreVisited entries head clauses watched ns w) (suffix_same links heads watched walking.pending w start walking.listed some) walking.visited)
          (first_watched links heads watched walking.pending w start walking.listed some) may);
    }

pub set_same : (xs : List ℕ) (i x : ℕ) → get_or xs i 0 ≡ x → set xs i x ≡ xs
set_same xs i x is = ap (λ y. set xs i y) (sym is) ∙ set-get_or xs i 0

-- the visit begins, goes on with a longer trail, and ends
pub IsVisiting-start : (entries : List Assigned) (head : ℕ) (clauses : List (List ℕ)) (links heads watched : List ℕ) (w list : ℕ) → AreListed links heads watched [] 0 0 → w < length heads → list ≡ w → IsVisiting entries head clauses links (set heads list 0) watched w (get_or heads list 0)
IsVisiting-start entries head clauses links heads watched w list listed there same =
    subst (λ (k : ℕ). IsVisiting entries head clauses links (set heads k 0) watched w (get_or heads k 0)) (sym same) (record {
      pending = (listed.lists w there).watches;
      listed = AreListed-detach links heads watched w 0 listed there;
      visited = λ n within more watches. elim ((listed.lists w there).all n within watches) [
        | inl c ↦ absurd (contains_none n c)
        | inr c ↦ inl c
      ];
    })

pub IsVisiting-deduced : (entries after : List Assigned) (level head : ℕ) (clauses : List (List ℕ)) (links heads watched : List ℕ) (w start : ℕ) → Deduces clauses level entries after → head < length entries → IsVisiting entries head clauses links heads watched w start → IsVisiting after head clauses links heads watched w start
IsVisiting-deduced entries after level head clauses links heads watched w start deduced within walking = record {
  pending = walking.pending;
  listed = walking.listed;
  visited = AreVisited-deduced clauses level head clauses watched walking.pending w entries after deduced within walking.visited;
}

pub IsVisiting-end : (entries : List Assigned) (head : ℕ) (entry : Assigned) (clauses : List (List ℕ)) (links heads watched : List ℕ) (start : ℕ) → IsVisiting entries head clauses links heads watched (negation entry.lit) start → start ≡ 0 → IsEntryAt entries head entry → KeepsWatches entries head clauses watched → KeepsWatches entries (head + 1) clauses watched
IsVisiting-end entries head entry clauses links heads watched start walking none stands keeps =
    KeepsWatches-next entries head entry clauses watched (negation entry.lit) keeps
    (subst (λ (ns : List ℕ). AreVisited entries head clauses watched ns (negation entry.lit)) (none_pending links heads watched walking.pending (negation entry.lit) start walking.listed none) walking.visited)
    stands.0 (ap (λ e. e.lit) stands.1 ∙ sym (other_twice entry.lit))

-- ---- One watch of a list goes to another list

-- one step, at which the first pending watch goes to `to` or back to its list
pub IsMovedFrom-step : (links heads old watched links' heads' watched' : List ℕ) (from start watch to x : ℕ) → (moved : IsMovedFrom links heads old watched from start watch to) → 0 < start → x < length heads → (start - 1 ≡ watch → x ≡ to) → ((start - 1 ≡ watch → ⊥) → x ≡ from) → watched' ≡ set watched (start - 1) x → links' ≡ set links (start - 1) (get_or heads x 0) → heads' ≡ set heads x (start - 1 + 1) → IsMovedFrom links' heads' old watched' from (get_or links (start - 1) 0) watch to
IsMovedFrom-step links heads old watched links' heads' watched' from start watch to x moved some there chosen kept e f g =
    let ns = suffix links heads watched moved.pending from start moved.listed some in
    let opened : AreListed links heads watched ((start - 1) ∷ ns) from start = first_listed links heads watched moved.pending from start moved.listed some in
    let same : moved.pending ≡ (start - 1) ∷ ns = suffix_same links heads watched moved.pending from start moved.listed some in
    let unchanged : (start - 1 ≡ watch → ⊥) → watched' ≡ watched = λ ne. e ∙ ap (λ y. set watched (start - 1) y) (kept ne) ∙ set_same watched (start - 1) from opened.waits.2 in
    record {
      pending = ns;
      listed = put_listed links heads watched moved.pending from start moved.listed some links' heads' watched' x there e f g;
      moves = elim moved.moves [
        | inl before ↦ elim (cases_eq (start - 1) watch) [
          | inl here ↦ inr (
            λ c. chain_once links watched from start (start - 1) ns opened.waits (subst (λ (k : ℕ). Contains ns k) (sym here) c),
            e ∙ ap (λ y. set watched (start - 1) y) (chosen here) ∙ ap (λ k. set watched k to) here ∙ ap (λ ws. set ws watch to) before.1,
          )
          | inr ne ↦ inl (
            elim (contains_cases (start - 1) ns watch (subst (λ (xs : List ℕ). Contains xs watch) same before.0)) [ inl first ↦ absurd (ne first) | inr c ↦ c ],
            unchanged ne ∙ before.1,
          )
        ]
        | inr after ↦
            (let apart : start - 1 ≡ watch → ⊥ = λ here. after.0 (subst (λ (xs : List ℕ). Contains xs watch) (sym same) (subst (λ (k : ℕ). Contains ((start - 1) ∷ ns) k) here (0, omega arith, refl))) in
            inr (λ c. after.0 (subst (λ (xs : List ℕ). Contains xs watch) (sym same) (suc c.0, omega (arith, c.1), c.2)), unchanged apart ∙ after.1))
      ];
    }

pub IsMovedFrom-start : (links heads watched : List ℕ) (from list watch to : ℕ) → (listed : AreListed links heads watched [] 0 0) → from < length heads → list ≡ from → watch < length watched → get_or watched watch 0 ≡ from → IsMovedFrom links (set heads list 0) watched watched from (get_or heads list 0) watch to
IsMovedFrom-start links heads watched from list watch to listed there same within watches =
    subst (λ (k : ℕ). IsMovedFrom links (set heads k 0) watched watched from (get_or heads k 0) watch to) (sym same) (record {
      pending = (listed.lists from there).watches;
      listed = AreListed-detach links heads watched from 0 listed there;
      moves = elim ((listed.lists from there).all watch within watches) [
        | inl c ↦ absurd (contains_none watch c)
        | inr c ↦ inl (c, refl)
      ];
    })

pub IsMovedFrom-end : (links heads old watched : List ℕ) (from start watch to : ℕ) → IsMovedFrom links heads old watched from start watch to → start ≡ 0 → AreListed links heads watched [] 0 0 × (watched ≡ set old watch to)
IsMovedFrom-end links heads old watched from start watch to moved none = (
  whole links heads watched moved.pending from start moved.listed none,
  elim moved.moves [
    | inl before ↦ absurd (contains_none watch (subst (λ (xs : List ℕ). Contains xs watch) (none_pending links heads watched moved.pending from start moved.listed none) before.0))
    | inr after ↦ after.1
  ],
)
