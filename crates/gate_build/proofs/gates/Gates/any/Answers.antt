use Rattle.std.proofs.Common.{◌≡◌, ◌∙◌, ◌+◌, ap, sym, drop, arith, ◌<◌, length, get_or, refl, add-one}
use Rattle.std.proofs.Math.Seq.{drop-cons}
use Rattle.std.proofs.lemmas.List.{drop_all}
use Rattle.gate_build.specs.Numbering.{any_from, any_of}
use Rattle.gate_build.proofs.RunLemmas.{any_from-next}
use Rattle.gate_build.proofs.MeaningLemmas.{Computes-any_of}
use Rattle.gate_build.proofs.OrderLemmas.{Extends_same, Extends_through}
use Rattle.gate_build.proofs.gates.Gates.any.Goals as goal

pub loop-lit-init : goal.loop-lit-init
unfolding any_of
loop-lit-init c = (ap (λ l. any_from l c.args.lits.now c.args.self.now) c.constant-any.ensures.value, c.constant-any.ensures.made, Extends_same c.args.self.now)

pub loop-lit-preserved : goal.loop-lit-preserved
loop-lit-preserved c =
    let within : c.loop-lit.lit-index < length c.args.lits.now = omega arith in
    let item : get_or c.args.lits.now c.loop-lit.lit-index c.lit-item.result ≡ c.lit-item.result = sym c.lit-item.is in (
      any_from-next c.loop-lit.any c.lit-item.result c.in_ok-any.any (drop c.loop-lit.lit-index c.args.lits.now) (drop (c.loop-lit.lit-index + 1) c.args.lits.now) c.loop-lit.self c.or.new.self (any_of c.args.lits.now c.args.self.now)
          (rw (add-one, drop-cons c.args.lits.now c.loop-lit.lit-index c.lit-item.result within, item) refl) c.in_ok-any.ensures.numbered c.loop-lit.invariant.0,
      c.in_ok-any.ensures.made,
      Extends_through _ _ _ c.loop-lit.invariant.2 c.in_ok-any.ensures.extends,
    )

pub returns-clause-disjunction : goal.returns-clause-disjunction
returns-clause-disjunction c =
    Computes-any_of c.args.lits.now c.loop-lit.any c.args.self.now c.loop-lit.self
    (sym (ap (λ ls. any_from c.loop-lit.any ls c.loop-lit.self) (drop_all c.loop-lit.lit-index c.args.lits.now (omega arith))) ∙ c.loop-lit.invariant.0)
