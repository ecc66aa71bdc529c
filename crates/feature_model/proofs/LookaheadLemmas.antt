-- What a rule made of others may be.
use Rattle.std.proofs.Common.{◌≡◌, ◌≢◌, ℕ, ◌<◌, Bool, true, false, not, ◌&&◌, ◌||◌, refl, ap, ◌∙◌, subst}
use Rattle.std.specs.Prelude.{bit_and, bit_or}
use Rattle.std.specs.Bool.{beq}
use Rattle.smv_ast.specs.declared.model.Product.{Product}
use Rattle.feature_model.specs.declared.partial_product.PartialProduct.{PartialProduct}
use Rattle.feature_model.specs.declared.lookahead.Possible.{Possible}
use Rattle.feature_model.specs.declared.lookahead.Lookahead.{Lookahead}
use Rattle.feature_model.specs.Products.{has}
use Rattle.feature_model.specs.PartialProducts.{AgreesOn}
use Rattle.feature_model.specs.Lookaheads.{allows, HasValueOf, Covers, IsLookahead}
use Rattle.feature_model.proofs.SetLemmas.{has_both, has_either, has_all}

-- ---- truth values

pub or_true : (b : Bool) → (b || true) ≡ true
or_true true = refl
or_true false = refl

pub de_morgan : (a b : Bool) → not (not a && not b) ≡ (a || b)
de_morgan true b = refl
de_morgan false true = refl
de_morgan false false = refl

pub not_twice : (a b : Bool) → (not (not a) || b) ≡ (a || b)
not_twice true b = refl
not_twice false b = refl

pub both_ways : (a b : Bool) → ((not a || b) && (not b || a)) ≡ beq a b
both_ways true true = refl
both_ways true false = refl
both_ways false true = refl
both_ways false false = refl

-- ---- what is possible

pub allows_both : (one two : Possible) (f : ℕ) (a b : Bool) → allows one f a ≡ true → allows two f b ≡ true → allows (record { true_in = bit_and one.true_in two.true_in; false_in = bit_or one.false_in two.false_in }) f (a && b) ≡ true
allows_both one two f true true h k = has_both one.true_in two.true_in f ∙ ap (λ x. x && has two.true_in f) h ∙ k
allows_both one two f true false h k = has_either one.false_in two.false_in f ∙ ap (λ x. has one.false_in f || x) k ∙ or_true (has one.false_in f)
allows_both one two f false b h k = has_either one.false_in two.false_in f ∙ ap (λ x. x || has two.false_in f) h

pub allows_true : (f : ℕ) → f < 64 → allows (record { true_in = 18446744073709551615; false_in = 0 }) f true ≡ true
allows_true f small = has_all f small

pub allows_false : (f : ℕ) → f < 64 → allows (record { true_in = 0; false_in = 18446744073709551615 }) f false ≡ true
allows_false f small = has_all f small

pub allows_any : (f : ℕ) (value : Bool) → f < 64 → allows (record { true_in = 18446744073709551615; false_in = 18446744073709551615 }) f value ≡ true
allows_any f true small = has_all f small
allows_any f false small = has_all f small

-- the one value that a feature can't have in its own case
pub chosen_value : (feature rest : ℕ) → ((g : ℕ) → g ≢ feature → has rest g ≡ has 18446744073709551615 g) → HasValueOf feature true (record { true_in = 18446744073709551615; false_in = rest })
chosen_value feature rest others f true small same = has_all f small
chosen_value feature rest others f false small same = others f (λ e. let bad : false ≡ true = same e in cc) ∙ has_all f small

pub left_out_value : (feature rest : ℕ) → ((g : ℕ) → g ≢ feature → has rest g ≡ has 18446744073709551615 g) → HasValueOf feature false (record { true_in = rest; false_in = 18446744073709551615 })
left_out_value feature rest others f false small same = has_all f small
left_out_value feature rest others f true small same = others f (λ e. let bad : true ≡ false = same e in cc) ∙ has_all f small

-- ---- rules

-- a rule that is true of the same products has the same look-ahead
pub same_rule : (partial : PartialProduct) (one two : Product → Bool) (ahead : Lookahead) → ((p : Product) → one p ≡ two p) → IsLookahead partial one ahead → IsLookahead partial two ahead
same_rule partial one two ahead same h = record {
  chosen = λ f p small agrees here. subst (λ b. allows ahead.if_chosen f b ≡ true) (same p) (h.chosen f p small agrees here);
  left_out = λ f p small agrees here. subst (λ b. allows ahead.if_left_out f b ≡ true) (same p) (h.left_out f p small agrees here);
}

-- what agrees on both sets of features agrees on each
pub agrees_left : (partial : PartialProduct) (one two : ℕ) (p : Product) → AgreesOn partial (bit_or one two) p → AgreesOn partial one p
agrees_left partial one two p agrees f there = agrees f (has_either one two f ∙ ap (λ x. x || has two f) there)

pub agrees_right : (partial : PartialProduct) (one two : ℕ) (p : Product) → AgreesOn partial (bit_or one two) p → AgreesOn partial two p
agrees_right partial one two p agrees f there = agrees f (has_either one two f ∙ ap (λ x. has one f || x) there ∙ or_true (has one f))

-- the cases of a conjunction
pub covers_both : (partial : PartialProduct) (chosen : Bool) (rule other : Product → Bool) (one two both : Possible) (features others : ℕ) →
    ((f : ℕ) (a b : Bool) → allows one f a ≡ true → allows two f b ≡ true → allows both f (a && b) ≡ true) →
    Covers partial features chosen rule one → Covers partial others chosen other two → Covers partial (bit_or features others) chosen (λ p. rule p && other p) both
covers_both partial chosen rule other one two both features others law h k f p small agrees here =
    law f (rule p) (other p) (h f p small (agrees_left partial features others p agrees) here) (k f p small (agrees_right partial features others p agrees) here)
