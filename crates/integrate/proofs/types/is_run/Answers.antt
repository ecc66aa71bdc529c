use Rattle.std.proofs.Common.{◌≡◌, ◌+◌, true, drop, map, length, pos, ◌+ℤ◌, sym, ap, ◌∙◌, arith}
use Rattle.std.proofs.lemmas.Int.{ints}
use Rattle.smv_meaning.specs.declared.value.Value.TheVariants as value
use Rattle.smv_meaning.specs.Value.{between}
use Rattle.integrate.specs.EqualTypes.{equal_lists}
use Rattle.integrate.proofs.TypeLemmas.{run_ended, run_differs, run_goes_on, run_done}
use Rattle.integrate.proofs.types.is_run.Goals as goal

pub returns-then-not-reaches : goal.returns-then-not-reaches
returns-then-not-reaches c = sym (sym c.loop-i.invariant ∙ run_ended (c.args.low.now +ℤ pos c.loop-i.i) c.args.high.now c.args.numbers.now c.loop-i.i c.loop-i-test.true
    (λ h. let reached : c.reaches.result ≡ true = c.reaches.ensures.1 h in cc))

pub returns-then-not-is_number : goal.returns-then-not-is_number
returns-then-not-is_number c = sym (sym c.loop-i.invariant ∙ run_differs (c.args.low.now +ℤ pos c.loop-i.i) c.args.high.now c.args.numbers.now c.loop-i.i _ c.loop-i-test.true
    (c.reaches.ensures.0 c.if-not-reaches.false) (λ h. let same : c.is_number.result ≡ true = c.is_number.ensures.1 h in cc))

pub loop-i-preserved : goal.loop-i-preserved
loop-i-preserved c =
    let next : c.args.low.now +ℤ pos (c.loop-i.i + 1) ≡ (c.args.low.now +ℤ pos c.loop-i.i) +ℤ pos 1 = omega (arith, ints) in
    ap (λ at. equal_lists (between at c.args.high.now) (map (λ n. value.Number n) (drop (c.loop-i.i + 1) c.args.numbers.now))) next
    ∙ (sym (run_goes_on (c.args.low.now +ℤ pos c.loop-i.i) c.args.high.now c.args.numbers.now c.loop-i.i _ c.loop-i-test.true (c.reaches.ensures.0 c.if-not-reaches.false) (c.is_number.ensures.0 c.if-not-is_number.false))
    ∙ c.loop-i.invariant)

pub returns : goal.returns
returns c =
    let done : c.loop-i.i ≡ length c.args.numbers.now = omega (arith, c.loop-i-test.false, c.loop-i.auto.i-end) in
    sym (sym c.loop-i.invariant ∙ run_done (c.args.low.now +ℤ pos c.loop-i.i) c.args.high.now c.args.numbers.now c.loop-i.i c.loop-i-test.false
    (λ h. let reached : c.reaches-2.result ≡ true = c.reaches-2.ensures.1 (rw (sym done) h) in cc))
