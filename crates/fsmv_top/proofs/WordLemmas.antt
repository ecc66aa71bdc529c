-- A list read item by item, and the words of `weave`.
use Rattle.std.proofs.Common.{◌≡◌, ◌<◌, ◌≤◌, ◌+◌, ◌-◌, ℕ, List, [], ◌∷◌, ◌++◌, length, take, drop, get_or, codes, sym, ◌∙◌, ap, arith}
use Rattle.std.proofs.lemmas.List.{drop_more, at_drop_all, take-append-drop, drop-drop, length-append}
use Rattle.std.proofs.Math.Seq.{get_or-append_seam}
use Rattle.fsmv_top.specs.Words.{Weave, weave_words}

pub read : {X : Type 0} (items : List X) (i : ℕ) (item : X) (after_it : List X) → i < length items → item ≡ get_or items i item → drop (i + 1) items ≡ after_it → drop i items ≡ item ∷ after_it
read items i item after_it lt is tail = drop_more items i item lt ∙ ap (λ x. x ∷ drop (i + 1) items) (sym is) ∙ ap (λ xs. item ∷ xs) tail

pub read_all : {X : Type 0} (items : List X) (i : ℕ) → length items ≤ i → drop i items ≡ []
read_all items i le = at_drop_all (λ xs. xs) items i le

-- a list of five items or more: the first three, those between, and the last two
pub first_and_last : {X : Type 0} (ws : List X) (a b c d e : X) → 5 ≤ length ws → a ≡ get_or ws 0 a → b ≡ get_or ws 1 b → c ≡ get_or ws 2 c
    → d ≡ get_or ws (length ws - 2) d → e ≡ get_or ws (length ws - 1) e → ws ≡ a ∷ b ∷ c ∷ (take (length ws - 2 - 3) (drop 3 ws) ++ d ∷ e ∷ [])
first_and_last {X} ws a b c d e le ha hb hc hd he =
    let last : drop (length ws - 2 + 1) ws ≡ e ∷ [] =
    ap (λ k. drop k ws) (omega (arith, le)) ∙ read ws (length ws - 1) e [] (omega (arith, le)) he (read_all ws (length ws - 1 + 1) (omega (arith, le))) in
    let two : drop (length ws - 2) ws ≡ d ∷ e ∷ [] = read ws (length ws - 2) d (e ∷ []) (omega (arith, le)) hd last in
    let behind : drop (length ws - 2 - 3) (drop 3 ws) ≡ d ∷ e ∷ [] = drop-drop (length ws - 2 - 3) 3 ws ∙ ap (λ k. drop k ws) (omega (arith, le)) ∙ two in
    let more : drop 3 ws ≡ take (length ws - 2 - 3) (drop 3 ws) ++ d ∷ e ∷ [] =
    sym (take-append-drop (length ws - 2 - 3) (drop 3 ws)) ∙ ap (λ (xs : List X). take (length ws - 2 - 3) (drop 3 ws) ++ xs) behind in
    read ws 0 a _ (omega (arith, le)) ha (read ws 1 b _ (omega (arith, le)) hb (read ws 2 c _ (omega (arith, le)) hc more))

-- the word before the last of the words of `weave`
pub word_before_last : (w : Weave) (n : ℕ) (d : List ℕ) → n ≡ length (weave_words w) → get_or (weave_words w) (n - 2) d ≡ codes "--product"
word_before_last w n d is =
    let front = codes "weave" ∷ w.base ∷ w.model ∷ w.features in
    let at : n - 2 ≡ length front = omega (arith, is, length-append front (codes "--product" ∷ w.product ∷ [])) in
    ap (λ k. get_or (weave_words w) k d) at
    ∙ get_or-append_seam front (codes "--product") (w.product ∷ []) d
