use Rattle.std.proofs.Common.{◌≡◌, ◌∷◌, ◌+◌, true, drop, sym, ap, ◌∙◌}
use Rattle.std.specs.List.{list_all}
use Rattle.std.proofs.lemmas.List.{drop_more}
use Rattle.smv_ast.specs.declared.feature.Change.{Change}
use Rattle.integrate.specs.Changes.{all_changed}
use Rattle.integrate.specs.Lookups.{program_of}
use Rattle.integrate.specs.SameNames.{is_impose}
use Rattle.integrate.proofs.ChangeLemmas.{one_applied}
use Rattle.integrate.proofs.SameNamesLemmas.{impose_keeps, first_of_all, rest_of_all}
use Rattle.integrate.proofs.imposes.impose_all.Goals as goal

pub loop-change-preserved : goal.loop-change-preserved
loop-change-preserved c =
    let i = c.loop-change.change-index in
    let change = c.change-item.result in
    let later = drop (i + 1) c.args.changes.now in
    let split : drop i c.args.changes.now ≡ change ∷ later = drop_more c.args.changes.now i change c.loop-change-test.true ∙ ap (λ (x : Change). x ∷ later) (sym c.change-item.is) in
    let imposes : list_all is_impose (change ∷ later) ≡ true = ap (list_all is_impose) (sym split) ∙ c.loop-change.invariant.imposes in
    record {
      same = impose_keeps c.args.feature.now c.args.product change c.loop-change.program c.in-Ok.next (program_of c.args.lookups.now) (first_of_all is_impose change later imposes) c.loop-change.invariant.same c.in-Ok.ensures;
      imposes = rest_of_all is_impose change later imposes;
      rest = sym (one_applied c.args.feature.now c.args.product c.loop-change.program change later c.in-Ok.next c.in-Ok.ensures) ∙ (ap (all_changed c.args.feature.now c.args.product c.loop-change.program) (sym split) ∙ c.loop-change.invariant.rest);
    }
