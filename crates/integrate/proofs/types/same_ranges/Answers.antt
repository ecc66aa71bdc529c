use Rattle.std.proofs.Common.{◌≡◌, true, ℤ, pos, ◌+ℤ◌, ◌≤ℤ◌, sym, ap, ◌∙◌, arith}
use Rattle.std.proofs.lemmas.Int.{ints}
use Rattle.smv_meaning.specs.Value.{between}
use Rattle.integrate.specs.EqualTypes.{equal_lists}
use Rattle.integrate.proofs.TypeLemmas.{ends_differ, equal_lists_itself}
use Rattle.integrate.proofs.types.same_ranges.Goals as goal

-- a number, after none
none_after : (m n : ℤ) → m +ℤ pos 0 ≡ n → m ≡ n
none_after m n e = omega (arith, ints)

none_more : (m n : ℤ) → m ≡ n → m +ℤ pos 0 ≡ n
none_more m n e = omega (arith, ints)

not_above : (m n : ℤ) → (m +ℤ pos 0) ≤ℤ n → m ≤ℤ n
not_above m n h = omega (arith, ints)

pub returns-then-not-is_number-2 : goal.returns-then-not-is_number-2
returns-then-not-is_number-2 c =
    let begin = none_after c.args.low.now c.args.other_low.now (c.is_number.ensures.0 c.if-not-is_number.false) in
    sym (ap (λ (low : ℤ). equal_lists (between c.args.low.now c.args.high.now) (between low c.args.other_high.now)) (sym begin)
    ∙ ends_differ c.args.low.now c.args.high.now c.args.other_high.now (not_above c.args.low.now c.args.high.now (c.reaches.ensures.0 c.if-not-reaches.false))
    (λ e. let same : c.is_number-2.result ≡ true = c.is_number-2.ensures.1 (none_more c.args.high.now c.args.other_high.now e) in cc))

pub returns : goal.returns
returns c =
    let begin = none_after c.args.low.now c.args.other_low.now (c.is_number.ensures.0 c.if-not-is_number.false) in
    let end = none_after c.args.high.now c.args.other_high.now (c.is_number-2.ensures.0 c.if-not-is_number-2.false) in
    sym (ap (λ (low : ℤ). equal_lists (between c.args.low.now c.args.high.now) (between low c.args.other_high.now)) (sym begin)
    ∙ (ap (λ (high : ℤ). equal_lists (between c.args.low.now c.args.high.now) (between c.args.low.now high)) (sym end)
    ∙ equal_lists_itself (between c.args.low.now c.args.high.now)))
