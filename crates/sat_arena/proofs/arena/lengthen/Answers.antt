use Rattle.std.proofs.Common.{◌≡◌, ℕ, ◌<◌, ◌≤◌, ◌++◌, List, [], ◌∷◌, length, get_or, take, replicate, arith, sym, ap, ◌∙◌, refl, zero, suc, subst}
use Rattle.std.proofs.lemmas.List.{take_all, length-append}
use Rattle.sat_arena.specs.Links.{IsLengthened}
use Rattle.sat_arena.proofs.arena.lengthen.Goals as goal

zeros : (n i d : ℕ) → d ≡ 0 → get_or (replicate n d) i d ≡ d
zeros zero i d e = refl
zeros (suc n) zero d e = refl
zeros (suc n) (suc i) d e = zeros n i d e

more_zeros : (xs : List ℕ) (n i d : ℕ) → d ≡ 0 → get_or (xs ++ replicate n d) i d ≡ get_or xs i d
more_zeros [] n i d e = zeros n i d e
more_zeros (x ∷ xs) n zero d e = refl
more_zeros (x ∷ xs) n (suc i) d e = more_zeros xs n i d e

IsLengthened-zeros : (xs ys : List ℕ) (least n : ℕ) → length xs < least → ys ≡ take least xs ++ replicate n 0 → IsLengthened xs ys
IsLengthened-zeros xs ys least n short is =
    let whole : take least xs ≡ xs = take_all least xs (omega arith) in
    let same : ys ≡ xs ++ replicate n 0 = is ∙ ap (λ zs. zs ++ replicate n 0) whole in
    subst (λ (zs : List ℕ). IsLengthened xs zs) (sym same) (record {
      longer = omega (arith, length-append xs (replicate n 0));
      same = λ i. more_zeros xs n i 0 refl;
    })

pub returns-in_ok-resize-clause-lengthened : goal.returns-in_ok-resize-clause-lengthened
returns-in_ok-resize-clause-lengthened c =
    let short : length c.args.heads.now.items < c.args.least = omega (arith, c.if-len-least.true, c.len.ensures, c.args.heads.now.ok.0) in
    IsLengthened-zeros c.args.heads.now.items c.resize.new.self.items c.args.least _ short c.in_ok-resize.ensures.items
