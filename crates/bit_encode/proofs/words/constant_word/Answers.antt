use Rattle.std.proofs.Common.{rules, ◌≡◌, ◌∙◌, ◌+◌, ◌-◌, List, [], ◌∷◌, ◌++◌, ℕ, ℤ, ap, arith, w64, to_z, of_z}
use Rattle.std.proofs.lemmas.Int.{to_z-of_z}
use Rattle.sat_lits.specs.Literals.{literal}
use Rattle.bit_encode.specs.Words.{constant_word}
use Rattle.bit_encode.proofs.WordLemmas.{constant_word-next, constant_word-done}
use Rattle.bit_encode.proofs.words.constant_word.Goals as goal

pub loop-preserved : goal.loop-preserved
loop-preserved c =
    let rest = c.args.width - (c.loop.counter + 1) in
    let half : to_z w64 (of_z w64 c.half-rest.result) ≡ c.half-rest.result = to_z-of_z w64 c.half-rest.result (search rules) in
    ap (λ (zs : List ℕ). zs ++ constant_word rest (to_z w64 (of_z w64 c.half-rest.result))) c.in_ok-push.ensures.items
    ∙ ap (λ (z : ℤ). (c.loop.word.items ++ c.new.result ∷ []) ++ constant_word rest z) (half ∙ c.half-rest.ensures)
    ∙ constant_word-next c.loop.word.items c.args.width c.loop.counter c.new.result (to_z w64 c.loop.rest-bits) (omega arith) (c.new.ensures ∙ ap (literal 1) c.is_odd.ensures)
    ∙ c.loop.invariant

pub returns : goal.returns
returns c =
    constant_word-done c.loop.word.items (constant_word c.args.width (to_z w64 (of_z w64 c.args.number))) c.args.width c.loop.counter (to_z w64 c.loop.rest-bits) (omega arith) c.loop.invariant
    ∙ ap (constant_word c.args.width) (to_z-of_z w64 c.args.number (search rules))
