use Rattle.std.proofs.Common.{◌<◌, ◌||◌, length, take, false, get_or, sym, ap, arith}
use Rattle.std.specs.List.{list_any}
use Rattle.std.proofs.lemmas.List.Folds.{list_any_more}
use Rattle.std.proofs.lemmas.List.{take_all}
use Rattle.feature_model.specs.Products.{has}
use Rattle.feature_model.proofs.LookaheadLemmas.{same_rule}
use Rattle.feature_model.proofs.FindingLemmas.{any_first}
use Rattle.feature_model.proofs.propagation.any_ahead.Goals as goal

pub loop-child-init : goal.loop-child-init
loop-child-init c = same_rule c.args.partial (λ p. false) _ c.constant-rule.result (λ p. sym (any_first (has p.bits) c.args.children.now)) (c.constant-rule.ensures c.args.partial)

pub loop-child-preserved : goal.loop-child-preserved
loop-child-preserved c = let xs = c.args.children.now in let i = c.loop-child.child-index in let small : i < length xs = omega arith in
    same_rule c.args.partial (λ p. list_any (has p.bits) (take i xs) || has p.bits (get_or xs i 0)) _ c.or-rule.result (λ p. sym (list_any_more (has p.bits) xs i 0 small))
    (c.or-rule.ensures c.args.partial (λ p. list_any (has p.bits) (take i xs)) (λ p. has p.bits (get_or xs i 0)) c.loop-child.invariant c.of_feature.ensures)

pub returns : goal.returns
returns c = same_rule c.args.partial _ (λ p. list_any (has p.bits) c.args.children.now) c.loop-child.rule (λ p. ap (list_any (has p.bits)) (take_all c.loop-child.child-index c.args.children.now c.loop-child-test.false)) c.loop-child.invariant
