use Rattle.std.proofs.Common.{◌≡◌, ◌∙◌, ◌+◌, ap, sym, drop, arith, ◌<◌, length, get_or, refl, add-one}
use Rattle.std.proofs.Math.Seq.{drop-cons}
use Rattle.std.proofs.lemmas.List.{drop_all}
use Rattle.gate_build.specs.Numbering.{all_from, all_of}
use Rattle.gate_build.proofs.RunLemmas.{all_from-next}
use Rattle.gate_build.proofs.MeaningLemmas.{Computes-all_of}
use Rattle.gate_build.proofs.OrderLemmas.{Extends_same, Extends_through}
use Rattle.gate_build.proofs.gates.Gates.all.Goals as goal

pub loop-lit-init : goal.loop-lit-init
unfolding all_of
loop-lit-init c = (ap (λ l. all_from l c.args.lits.now c.args.self.now) c.constant-all.ensures.value, c.constant-all.ensures.made, Extends_same c.args.self.now)

pub loop-lit-preserved : goal.loop-lit-preserved
loop-lit-preserved c =
    let within : c.loop-lit.lit-index < length c.args.lits.now = omega arith in
    let item : get_or c.args.lits.now c.loop-lit.lit-index c.lit-item.result ≡ c.lit-item.result = sym c.lit-item.is in (
      all_from-next c.loop-lit.all c.lit-item.result c.in_ok-all.all (drop c.loop-lit.lit-index c.args.lits.now) (drop (c.loop-lit.lit-index + 1) c.args.lits.now) c.loop-lit.self c.and.new.self (all_of c.args.lits.now c.args.self.now)
          (rw (add-one, drop-cons c.args.lits.now c.loop-lit.lit-index c.lit-item.result within, item) refl) c.in_ok-all.ensures.numbered c.loop-lit.invariant.0,
      c.in_ok-all.ensures.made,
      Extends_through _ _ _ c.loop-lit.invariant.2 c.in_ok-all.ensures.extends,
    )

pub returns-clause-conjunction : goal.returns-clause-conjunction
returns-clause-conjunction c =
    Computes-all_of c.args.lits.now c.loop-lit.all c.args.self.now c.loop-lit.self
    (sym (ap (λ ls. all_from c.loop-lit.all ls c.loop-lit.self) (drop_all c.loop-lit.lit-index c.args.lits.now (omega arith))) ∙ c.loop-lit.invariant.0)
