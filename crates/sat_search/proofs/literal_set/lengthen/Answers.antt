use Rattle.std.proofs.Common.{◌≡◌, ◌≤◌, ◌<◌, ◌++◌, ℕ, Bool, false, List, [], ◌∷◌, take, replicate, length, get_or, arith, ap, ◌∙◌, refl, zero, suc}
use Rattle.std.proofs.lemmas.List.{take_all}
use Rattle.sat_search.proofs.literal_set.lengthen.Goals as goal

falses : (n i : ℕ) → get_or (replicate n false) i false ≡ false
falses zero i = refl
falses (suc n) zero = refl
falses (suc n) (suc i) = falses n i

more_falses : (xs : List Bool) (n i : ℕ) → ((k : ℕ) → get_or xs k false ≡ false) → get_or (xs ++ replicate n false) i false ≡ false
more_falses [] n i none = falses n i
more_falses (x ∷ xs) n zero none = none zero
more_falses (x ∷ xs) n (suc i) none = more_falses xs n i (λ k. none (suc k))

lengthened_falses : (xs ys : List Bool) (least n : ℕ) → length xs < least → ys ≡ take least xs ++ replicate n false → ((k : ℕ) → get_or xs k false ≡ false) → (i : ℕ) → get_or ys i false ≡ false
lengthened_falses xs ys least n short is none i =
    let whole : take least xs ≡ xs = take_all least xs (omega arith) in
    ap (λ fs. get_or fs i false) (is ∙ ap (λ (fs : List Bool). fs ++ replicate n false) whole) ∙ more_falses xs n i none

pub returns-in_ok-resize-clause-none : goal.returns-in_ok-resize-clause-none
returns-in_ok-resize-clause-none c =
    let short : length c.args.flags.now.items < c.args.least = omega (arith, c.if-len-least.true, c.len.ensures, c.args.flags.now.ok.0) in
    lengthened_falses c.args.flags.now.items c.resize.new.self.items c.args.least _ short c.in_ok-resize.ensures.items c.requires
