-- Two paths of the same names, name by name.
use Rattle.std.proofs.Common.{◌≡◌, ℕ, ◌+◌, ◌<◌, ◌≤◌, Bool, true, false, ◌&&◌, List, [], ◌∷◌, length, get_or, drop, refl, sym, ap, ◌∙◌, arith}
use Rattle.std.specs.Str.{bytes_eq}
use Rattle.std.proofs.lemmas.List.{drop_more, drop_all}
use Rattle.integrate_treat.specs.TreatedExpr.{same_names}

and_false : (v b : Bool) → b ≡ false → (v && b) ≡ false
and_false true b e = e
and_false false b e = refl

-- paths of different lengths
pub unequal : (a b : List (List ℕ)) → (length a ≡ length b → ⊥) → same_names a b ≡ false
unequal [] [] h = absurd (h refl)
unequal [] (y ∷ b) h = refl
unequal (x ∷ a) [] h = refl
unequal (x ∷ a) (y ∷ b) h = and_false (bytes_eq x y) _ (unequal a b (λ e. h (omega arith)))

-- one name of each
pub names_step : (a b : List (List ℕ)) (i : ℕ) (x y : List ℕ) → i < length a → i < length b → x ≡ get_or a i x → y ≡ get_or b i y
    → same_names (drop i a) (drop i b) ≡ (bytes_eq x y && same_names (drop (i + 1) a) (drop (i + 1) b))
names_step a b i x y h k e f =
    ap (λ s. same_names s (drop i b)) (drop_more a i x h ∙ ap (λ n. n ∷ drop (i + 1) a) (sym e))
    ∙ ap (λ s. same_names (x ∷ drop (i + 1) a) s) (drop_more b i y k ∙ ap (λ n. n ∷ drop (i + 1) b) (sym f))

-- all names
pub names_end : (a b : List (List ℕ)) (i : ℕ) → length a ≤ i → length b ≤ i → same_names (drop i a) (drop i b) ≡ true
names_end a b i h k = ap (λ s. same_names s (drop i b)) (drop_all i a h) ∙ ap (λ s. same_names [] s) (drop_all i b k)
