use Rattle.std.proofs.Common.{◌≡◌, ℕ, Option, sym, ap, ◌∙◌, subst, IfOk}
use Rattle.smv_meaning.specs.declared.value.Value.{Value}
use Rattle.fixpoint.specs.Fixpoints.{entry}
use Rattle.smv_meaning.specs.Value.{and_then}
use Rattle.smv_meaning.proofs.MetItemLemmas.{own_is}
use Rattle.smv_meaning.proofs.met_items.RunInstance.own_value.Goals as goal

pub returns-in-Some : goal.returns-in-Some
returns-in-Some c =
    let here = ap (λ (o : Option ℕ). and_then o (entry c.args.state.solution.now)) (sym c.in-Some.is ∙ c.slot_of.ensures) in
    subst (λ (o : Option Value). IfOk c.table_value.result (λ v. v ≡ o)) (here ∙ own_is c.args.self.now.context.now c.args.self.now.row c.args.state c.args.name.now c.requires.right c.args.self.now.within c.requires.state) c.table_value.ensures

pub returns-in-None : goal.returns-in-None
returns-in-None c =
    let here = ap (λ (o : Option ℕ). and_then o (entry c.args.state.solution.now)) (sym c.in-None.is ∙ c.slot_of.ensures) in
    here ∙ own_is c.args.self.now.context.now c.args.self.now.row c.args.state c.args.name.now c.requires.right c.args.self.now.within c.requires.state
