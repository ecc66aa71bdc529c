-- Linked lists of watches, as a watch goes from one to another.
use Rattle.std.proofs.Common.{◌≡◌, ℕ, ◌<◌, ◌≤◌, ◌+◌, List, [], ◌∷◌, ◌++◌, length, get_or, set, arith, inl, inr, sym, ◌∙◌, ap, subst, refl, zero, suc, get_or-set_same, get_or-set_other, length-set, ◌⊎◌}
use Rattle.std.specs.Prelude.{All, Contains}
use Rattle.std.proofs.lemmas.Bool.{cases_eq, cases_lt}
use Rattle.std.proofs.lemmas.List.{length_push, length-append, get_or_append_left, get_or_push, get_or_past}
use Rattle.sat_arena.specs.Links.{IsChain, IsListed, AreListed, IsLengthened}

contains_first : (x : ℕ) (xs : List ℕ) → Contains (x ∷ xs) x
contains_first x xs = (0, omega arith, refl)

contains_more : (x : ℕ) (xs : List ℕ) (y : ℕ) → Contains xs y → Contains (x ∷ xs) y
contains_more x xs y c = (suc c.0, omega (arith, c.1), c.2)

pub contains_cases : (x : ℕ) (xs : List ℕ) (y : ℕ) → Contains (x ∷ xs) y → (x ≡ y) ⊎ Contains xs y
contains_cases x xs y (zero, within, same) = inl same
contains_cases x xs y (suc k, within, same) = inr (k, omega (arith, within), same)

pub contains_none : (y : ℕ) → Contains [] y → ⊥
contains_none y c = omega (arith, c.1)

-- the nodes of a chain are nodes, and watch its literal
pub chain_watches : (links watched : List ℕ) (literal start : ℕ) (nodes : List ℕ) (n : ℕ) → IsChain links watched literal start nodes → Contains nodes n → (n < length links) × (get_or watched n 0 ≡ literal)
chain_watches links watched literal start [] n chain c = absurd (contains_none n c)
chain_watches links watched literal start (m ∷ ms) n chain c = elim (contains_cases m ms n c) [
  | inl same ↦ subst (λ (k : ℕ). (k < length links) × (get_or watched k 0 ≡ literal)) same (chain.1, chain.2)
  | inr later ↦ chain_watches links watched literal (get_or links m 0) ms n chain.3 later
]

-- a chain is determined by its first link
same_chain : (links watched : List ℕ) (literal start : ℕ) (xs ys : List ℕ) → IsChain links watched literal start xs → IsChain links watched literal start ys → length xs ≡ length ys
same_chain links watched literal start [] [] p q = refl
same_chain links watched literal start [] (y ∷ ys) p q = absurd (omega (arith, p, q.0))
same_chain links watched literal start (x ∷ xs) [] p q = absurd (omega (arith, p.0, q))
same_chain links watched literal start (x ∷ xs) (y ∷ ys) p q =
    let same : x ≡ y = omega (arith, p.0, q.0) in
    ap suc (same_chain links watched literal (get_or links x 0) xs ys p.3 (subst (λ (k : ℕ). IsChain links watched literal (get_or links k 0) ys) (sym same) q.3))

-- from a watch of a chain on, it goes on as a chain that is no longer
chain_from : (links watched : List ℕ) (literal start : ℕ) (nodes : List ℕ) (n : ℕ) → IsChain links watched literal start nodes → Contains nodes n → (suffix : List ℕ) × IsChain links watched literal (get_or links n 0) suffix × (length suffix < length nodes)
chain_from links watched literal start [] n chain c = absurd (contains_none n c)
chain_from links watched literal start (m ∷ ms) n chain c = elim (contains_cases m ms n c) [
  | inl same ↦ (ms, subst (λ (k : ℕ). IsChain links watched literal (get_or links k 0) ms) same chain.3, omega arith)
  | inr later ↦ (let tail = chain_from links watched literal (get_or links m 0) ms n chain.3 later in (tail.0, tail.1, omega (arith, tail.2)))
]

-- so no watch comes twice
pub chain_once : (links watched : List ℕ) (literal start n : ℕ) (ns : List ℕ) → IsChain links watched literal start (n ∷ ns) → Contains ns n → ⊥
chain_once links watched literal start n ns chain c =
    let tail = chain_from links watched literal (get_or links n 0) ns n chain.3 c in
    let same : length ns ≡ length tail.0 = same_chain links watched literal (get_or links n 0) ns tail.0 chain.3 tail.1 in
    omega (arith, tail.2)

-- a chain without the watch that changes stays
chain_kept : (links watched : List ℕ) (literal start : ℕ) (nodes : List ℕ) (n link literal' : ℕ) → IsChain links watched literal start nodes → (Contains nodes n → ⊥) → IsChain (set links n link) (set watched n literal') literal start nodes
chain_kept links watched literal start [] n link literal' chain without = chain
chain_kept links watched literal start (m ∷ ms) n link literal' chain without =
    let ne : m ≡ n → ⊥ = λ e. without (0, omega arith, e) in (
      chain.0,
      subst (λ (k : ℕ). m < k) (sym (length-set links n link)) chain.1,
      get_or-set_other watched n m literal' 0 ne ∙ chain.2,
      subst (λ (k : ℕ). IsChain (set links n link) (set watched n literal') literal k ms) (sym (get_or-set_other links n m link 0 ne))
          (chain_kept links watched literal (get_or links m 0) ms n link literal' chain.3 (λ c. without (contains_more m ms n c))),
    )

-- ---- The first watch that waits goes in front of the list of the literal that it watches from now on

module _ (links heads watched : List ℕ) (n : ℕ) (ns : List ℕ) (w start x : ℕ) (listed : AreListed links heads watched (n ∷ ns) w start) (there : x < length heads) where
  abbrev pub links' : List ℕ
  links' = set links n (get_or heads x 0)

  abbrev pub heads' : List ℕ
  heads' = set heads x (n + 1)

  abbrev pub watched' : List ℕ
  watched' = set watched n x

  within : n < length watched
  within = omega (arith, listed.waits.1, listed.long)

  once : Contains ns n → ⊥
  once c = chain_once links watched w start n ns listed.waits c

  later : (m : ℕ) → (n ≡ m → ⊥) → Contains (n ∷ ns) m → Contains ns m
  later m ne c = elim (contains_cases n ns m c) [
    | inl same ↦ absurd (ne same)
    | inr c ↦ c
  ]

  pending_on : IsChain links' watched' w (get_or links n 0) ns
  pending_on = chain_kept links watched w (get_or links n 0) ns n (get_or heads x 0) x listed.waits.3 once

  its_list : IsListed links' heads' watched' ns x
  its_list =
      let old = listed.lists x there in
      let without : Contains old.watches n → ⊥ = λ c. old.apart n c (contains_first n ns) in
      record {
        watches = n ∷ old.watches;
        chain = (
          get_or-set_same heads x (n + 1) 0 there,
          subst (λ (k : ℕ). n < k) (sym (length-set links n (get_or heads x 0))) listed.waits.1,
          get_or-set_same watched n x 0 within,
          subst (λ (k : ℕ). IsChain links' watched' x k old.watches) (sym (get_or-set_same links n (get_or heads x 0) 0 listed.waits.1))
              (chain_kept links watched x (get_or heads x 0) old.watches n (get_or heads x 0) x old.chain without),
        );
        apart = λ m c d. elim (contains_cases n old.watches m c) [
          | inl same ↦ once (subst (λ (k : ℕ). Contains ns k) (sym same) d)
          | inr c ↦ old.apart m c (contains_more n ns m d)
        ];
        all = λ m h watches. elim (cases_eq n m) [
          | inl same ↦ inr (subst (λ (k : ℕ). Contains (n ∷ old.watches) k) same (contains_first n old.watches))
          | inr ne ↦ elim (old.all m (subst (λ (k : ℕ). m < k) (length-set watched n x) h) (sym (get_or-set_other watched n m x 0 (λ e. ne (sym e))) ∙ watches)) [
            | inl c ↦ inl (later m ne c)
            | inr c ↦ inr (contains_more n old.watches m c)
          ]
        ];
      }

  other_list : (l : ℕ) → (l ≡ x → ⊥) → l < length heads → IsListed links' heads' watched' ns l
  other_list l ne h =
      let old = listed.lists l h in
      let without : Contains old.watches n → ⊥ = λ c. old.apart n c (contains_first n ns) in
      record {
        watches = old.watches;
        chain = subst (λ (k : ℕ). IsChain links' watched' l k old.watches) (sym (get_or-set_other heads x l (n + 1) 0 ne))
            (chain_kept links watched l (get_or heads l 0) old.watches n (get_or heads x 0) x old.chain without);
        apart = λ m c d. old.apart m c (contains_more n ns m d);
        all = λ m h watches. elim (cases_eq n m) [
          | inl same ↦ absurd (ne (sym watches ∙ ap (λ k. get_or watched' k 0) (sym same) ∙ get_or-set_same watched n x 0 within))
          | inr ne' ↦ elim (old.all m (subst (λ (k : ℕ). m < k) (length-set watched n x) h) (sym (get_or-set_other watched n m x 0 (λ e. ne' (sym e))) ∙ watches)) [
            | inl c ↦ inl (later m ne' c)
            | inr c ↦ inr c
          ]
        ];
      }

  pub AreListed-put_first : AreListed links' heads' watched' ns w (get_or links n 0)
  AreListed-put_first = record {
    long = length-set links n (get_or heads x 0) ∙ listed.long ∙ sym (length-set watched n x);
    waits = pending_on;
    lists = λ l h. elim (cases_eq l x) [
      | inl same ↦ subst (λ (k : ℕ). IsListed links' heads' watched' ns k) (sym same) its_list
      | inr ne ↦ other_list l ne (subst (λ (k : ℕ). l < k) (length-set heads x (n + 1)) h)
    ];
  }

-- ---- All nodes of one list wait

pub waiting_of : (links heads watched : List ℕ) (w l : ℕ) → AreListed links heads watched [] l 0 → w < length heads → List ℕ
waiting_of links heads watched w l listed h = (listed.lists w h).watches

pub AreListed-detach : (links heads watched : List ℕ) (w l : ℕ) (listed : AreListed links heads watched [] l 0) (h : w < length heads) → AreListed links (set heads w 0) watched (listed.lists w h).watches w (get_or heads w 0)
AreListed-detach links heads watched w l listed h = record {
  long = listed.long;
  waits = (listed.lists w h).chain;
  lists = λ k there. elim (cases_eq k w) [
    | inl same ↦ record {
      watches = [];
      chain = ap (λ j. get_or (set heads w 0) j 0) same ∙ get_or-set_same heads w 0 0 h;
      apart = λ n c d. contains_none n c;
      all = λ n within watches. elim ((listed.lists w h).all n within (watches ∙ same)) [
        | inl c ↦ absurd (contains_none n c)
        | inr c ↦ inl c
      ];
    }
    | inr ne ↦ (let old = listed.lists k (subst (λ (j : ℕ). k < j) (length-set heads w 0) there) in record {
      watches = old.watches;
      chain = subst (λ (j : ℕ). IsChain links watched k j old.watches) (sym (get_or-set_other heads w k 0 0 ne)) old.chain;
      apart = λ n c d. ne (sym (chain_watches links watched k (get_or heads k 0) old.watches n old.chain c).1 ∙ (chain_watches links watched w (get_or heads w 0) (listed.lists w h).watches n (listed.lists w h).chain d).1);
      all = λ n within watches. elim (old.all n within watches) [
        | inl c ↦ absurd (contains_none n c)
        | inr c ↦ inr c
      ];
    })
  ];
}

-- ---- One watch more, at the front of the list of its literal

chain_longer : (links watched links' watched' : List ℕ) (literal start : ℕ) (nodes : List ℕ) → length links ≡ length watched → IsChain links watched literal start nodes → IsChain (links ++ links') (watched ++ watched') literal start nodes
chain_longer links watched links' watched' literal start [] long chain = chain
chain_longer links watched links' watched' literal start (n ∷ ns) long chain =
    let more : length (links ++ links') ≡ length links + length links' = length-append links links' in
    let within : n < length watched = omega (arith, chain.1) in (
      chain.0,
      omega (arith, chain.1),
      get_or_append_left watched watched' 0 n within ∙ chain.2,
      subst (λ (k : ℕ). IsChain (links ++ links') (watched ++ watched') literal k ns) (sym (get_or_append_left links links' 0 n chain.1))
          (chain_longer links watched links' watched' literal (get_or links n 0) ns long chain.3),
    )

module _ (links heads watched : List ℕ) (x : ℕ) (listed : AreListed links heads watched [] 0 0) (there : x < length heads) where
  abbrev pub links_more : List ℕ
  links_more = links ++ get_or heads x 0 ∷ []

  abbrev pub heads_more : List ℕ
  heads_more = set heads x (length links + 1)

  abbrev pub watched_more : List ℕ
  watched_more = watched ++ x ∷ []

  links_long : length links_more ≡ length links + 1
  links_long = length_push links (get_or heads x 0)

  watched_long : length watched_more ≡ length watched + 1
  watched_long = length_push watched x

  longer : (l start : ℕ) (nodes : List ℕ) → IsChain links watched l start nodes → IsChain links_more watched_more l start nodes
  longer l start nodes chain = chain_longer links watched (get_or heads x 0 ∷ []) (x ∷ []) l start nodes listed.long chain

  before : (m : ℕ) → m < length watched_more → (m ≡ length links → ⊥) → m < length watched
  before m h ne = omega (arith, listed.long, watched_long)

  first_list : IsListed links_more heads_more watched_more [] x
  first_list =
      let old = listed.lists x there in
      record {
        watches = length links ∷ old.watches;
        chain = (
          get_or-set_same heads x (length links + 1) 0 there,
          omega (arith, links_long),
          get_or_push watched x 0 (length links) (sym listed.long),
          subst (λ (k : ℕ). IsChain links_more watched_more x k old.watches) (sym (get_or_push links (get_or heads x 0) 0 (length links) refl)) (longer x (get_or heads x 0) old.watches old.chain),
        );
        apart = λ m c d. contains_none m d;
        all = λ m h watches. elim (cases_eq m (length links)) [
          | inl same ↦ inr (subst (λ (k : ℕ). Contains (length links ∷ old.watches) k) (sym same) (contains_first (length links) old.watches))
          | inr ne ↦ elim (old.all m (before m h ne) (sym (get_or_append_left watched (x ∷ []) 0 m (before m h ne)) ∙ watches)) [
            | inl c ↦ inl c
            | inr c ↦ inr (contains_more (length links) old.watches m c)
          ]
        ];
      }

  further_list : (l : ℕ) → (l ≡ x → ⊥) → l < length heads → IsListed links_more heads_more watched_more [] l
  further_list l ne h =
      let old = listed.lists l h in
      record {
        watches = old.watches;
        chain = subst (λ (k : ℕ). IsChain links_more watched_more l k old.watches) (sym (get_or-set_other heads x l (length links + 1) 0 ne)) (longer l (get_or heads l 0) old.watches old.chain);
        apart = λ m c d. contains_none m d;
        all = λ m h watches. elim (cases_eq m (length links)) [
          | inl same ↦ absurd (ne (sym watches ∙ get_or_push watched x 0 m (omega (arith, listed.long))))
          | inr ne' ↦ old.all m (before m h ne') (sym (get_or_append_left watched (x ∷ []) 0 m (before m h ne')) ∙ watches)
        ];
      }

  pub AreListed-append : AreListed links_more heads_more watched_more [] 0 0
  AreListed-append = record {
    long = links_long ∙ ap (λ n. n + 1) listed.long ∙ sym watched_long;
    waits = refl;
    lists = λ l h. elim (cases_eq l x) [
      | inl same ↦ subst (λ (k : ℕ). IsListed links_more heads_more watched_more [] k) (sym same) first_list
      | inr ne ↦ further_list l ne (subst (λ (k : ℕ). l < k) (length-set heads x (length links + 1)) h)
    ];
  }

-- ---- More lists, which are empty

pub AreListed-lengthened : (links heads heads' watched : List ℕ) → IsLengthened heads heads' → All (λ w. w < length heads) watched → AreListed links heads watched [] 0 0 → AreListed links heads' watched [] 0 0
AreListed-lengthened links heads heads' watched more within listed = record {
  long = listed.long;
  waits = listed.waits;
  lists = λ l h. elim (cases_lt l (length heads)) [
    | inl below ↦ (let old = listed.lists l below in record {
      watches = old.watches;
      chain = subst (λ (k : ℕ). IsChain links watched l k old.watches) (sym (more.same l)) old.chain;
      apart = old.apart;
      all = old.all;
    })
    | inr above ↦ record {
      watches = [];
      chain = more.same l ∙ get_or_past heads l 0 above;
      apart = λ n c d. contains_none n c;
      all = λ n h' watches. absurd (let low : get_or watched n 0 < length heads = within n 0 h' in omega arith);
    }
  ];
}
