use Rattle.std.proofs.Common.{◌≡◌, ◌∙◌, ap, subst, sym, List, ℕ}
use Rattle.std.specs.Prelude.{All}
use Rattle.gate_build.specs.Circuits.{Circuit, IsMade, IsInput, IsSound, clauses_of}
use Rattle.gate_build.specs.Meaning.{ExtendsOnce}
use Rattle.gate_build.proofs.ExtensionLemmas.{one_extension}
use Rattle.gate_build.proofs.StateLemmas.{made_clauses}
use Rattle.gate_build.proofs.gates.Gates.clauses.Goals as goal

pub returns-clause-one_extension : goal.returns-clause-one_extension
returns-clause-one_extension c =
    let listed : clauses_of c.args.self.now ≡ c.deref.result.now = ap clauses_of (sym c.self.view_is) ∙ sym c.self.invariant.listed ∙ sym c.deref.ensures.value in
    subst (λ (cs : List (List ℕ)). ExtendsOnce (IsInput c.args.self.now) c.args.self.now.vars cs) listed
    (one_extension c.args.self.now (subst (λ (s : Circuit). IsSound s) c.self.view_is c.self.invariant.sound))

pub returns-clause-made : goal.returns-clause-made
returns-clause-made c =
    let listed : clauses_of c.args.self.now ≡ c.deref.result.now = ap clauses_of (sym c.self.view_is) ∙ sym c.self.invariant.listed ∙ sym c.deref.ensures.value in
    subst (λ (cs : List (List ℕ)). All (All (IsMade c.args.self.now)) cs) listed
    (made_clauses c.args.self.now (subst (λ (s : Circuit). IsSound s) c.self.view_is c.self.invariant.sound))
