use Rattle.std.proofs.Common.{◌≡◌, ◌≤◌, ◌<◌, ℕ, ◌∙◌, ap, sym, subst}
use Rattle.std.proofs.lemmas.Result.{IfOk-weaker}
use Rattle.sat_lits.specs.Literals.{variable_of}
use Rattle.gate_build.specs.Meaning.{Computes, both}
use Rattle.gate_build.specs.Numbering.{output_of, and_of, IsShared}
use Rattle.gate_build.proofs.SharingLemmas.{IsShared-from, simplified-none, simplified-made, and_of-simple, and_of-gate}
use Rattle.gate_build.proofs.MeaningLemmas.{Computes-and_of}
use Rattle.gate_build.proofs.gates.Gates.and.Goals as goal

pub returns-in-Some-clause-numbered : goal.returns-in-Some-clause-numbered
returns-in-Some-clause-numbered c = and_of-simple c.args.a c.args.b c.in-Some.lit c.args.self.now (sym c.in-Some.ensures)

pub returns-in-Some-clause-conjunction : goal.returns-in-Some-clause-conjunction
returns-in-Some-clause-conjunction c =
    Computes-and_of c.args.a c.args.b c.in-Some.lit c.args.self.now c.args.self.now (and_of-simple c.args.a c.args.b c.in-Some.lit c.args.self.now (sym c.in-Some.ensures))

pub returns-in-Some-clause-shared : goal.returns-in-Some-clause-shared
returns-in-Some-clause-shared c =
    IsShared-from c.args.a c.args.b c.in-Some.lit c.args.self.now c.args.self.now (and_of-simple c.args.a c.args.b c.in-Some.lit c.args.self.now (sym c.in-Some.ensures))

pub returns-in-Some-clause-made : goal.returns-in-Some-clause-made
returns-in-Some-clause-made c = simplified-made c.args.self.now c.args.a c.args.b c.in-Some.lit c.requires.made_a c.requires.made_b (sym c.in-Some.ensures)

pub gate-requires-clause-above : goal.gate-requires-clause-above
gate-requires-clause-above c =
    subst (λ (p : ℕ × ℕ). 2 ≤ variable_of p.0) (sym c.sort_pair-low.ensures)
    (simplified-none c.args.a c.args.b c.requires.made_a.numbered c.requires.made_b.numbered (sym c.simplify.ensures ∙ c.in_default.is)).0

pub gate-requires-clause-apart : goal.gate-requires-clause-apart
gate-requires-clause-apart c =
    subst (λ (p : ℕ × ℕ). variable_of p.0 < variable_of p.1) (sym c.sort_pair-low.ensures)
    (simplified-none c.args.a c.args.b c.requires.made_a.numbered c.requires.made_b.numbered (sym c.simplify.ensures ∙ c.in_default.is)).1

-- the call of `gate` is the run
ran : (c : goal.After-gate) → output_of c.args.self.now (c.sort_pair-low.result.0, c.sort_pair-low.result.1) ≡ and_of c.args.a c.args.b c.args.self.now
ran c = ap (output_of c.args.self.now) c.sort_pair-low.ensures ∙ and_of-gate c.args.a c.args.b c.args.self.now (sym c.simplify.ensures ∙ c.in_default.is)

pub returns-clause-numbered : goal.returns-clause-numbered
returns-clause-numbered c =
    IfOk-weaker c.gate.result (λ l. (l, c.gate.new.self) ≡ output_of c.args.self.now (c.sort_pair-low.result.0, c.sort_pair-low.result.1)) (λ l. (l, c.gate.new.self) ≡ and_of c.args.a c.args.b c.args.self.now)
    (λ l is. is ∙ ran c) c.gate.ensures.numbered

pub returns-clause-conjunction : goal.returns-clause-conjunction
returns-clause-conjunction c =
    IfOk-weaker c.gate.result (λ l. (l, c.gate.new.self) ≡ output_of c.args.self.now (c.sort_pair-low.result.0, c.sort_pair-low.result.1)) (λ l. Computes c.gate.new.self l (both c.args.a c.args.b))
    (λ l is. Computes-and_of c.args.a c.args.b l c.args.self.now c.gate.new.self (is ∙ ran c)) c.gate.ensures.numbered

pub returns-clause-shared : goal.returns-clause-shared
returns-clause-shared c =
    IfOk-weaker c.gate.result (λ l. (l, c.gate.new.self) ≡ output_of c.args.self.now (c.sort_pair-low.result.0, c.sort_pair-low.result.1)) (λ l. IsShared c.args.a c.args.b l c.gate.new.self)
    (λ l is. IsShared-from c.args.a c.args.b l c.args.self.now c.gate.new.self (is ∙ ran c)) c.gate.ensures.numbered
