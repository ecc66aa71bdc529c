-- What a rule on products may be, where one more feature is decided. Rules are tests of products.
use Rattle.std.specs.Prelude.{◌≡◌, ℕ, ◌<◌, Bool, true, false}
use Rattle.smv_ast.specs.declared.model.Product.{Product}
use Rattle.feature_model.specs.declared.partial_product.PartialProduct.{PartialProduct}
use Rattle.feature_model.specs.declared.lookahead.Possible.{Possible}
use Rattle.feature_model.specs.declared.lookahead.Lookahead.{Lookahead}
use Rattle.feature_model.specs.Products.{has}
use Rattle.feature_model.specs.PartialProducts.{is_decided, AgreesOn}

-- whether the rule may have this value in the case of the feature
abbrev pub allows : Possible → ℕ → Bool → Bool
allows possible f true = has possible.true_in f
allows possible f false = has possible.false_in f

-- Where in case f the feature has the value that the case gives it, what is possible is right: any value in the other cases.
abbrev pub HasValueOf : ℕ → Bool → Possible → Type 0
HasValueOf feature chosen possible = (f : ℕ) (value : Bool) → f < 64 → (f ≡ feature → value ≡ chosen) → allows possible f value ≡ true

-- In case f, for each f below 64, the rule has a value that is possible there: in each product that agrees with the partial
-- product at the features and, unless the partial product decides f, has f or lacks it, as the case says.
abbrev pub Covers : PartialProduct → ℕ → Bool → (Product → Bool) → Possible → Type 0
Covers partial features chosen rule possible =
    (f : ℕ) (p : Product) → f < 64 → AgreesOn partial features p → (is_decided partial f ≡ false → has p.bits f ≡ chosen) → allows possible f (rule p) ≡ true

-- the cases in which one more feature is chosen, and those in which one more is left out
pub record IsLookahead (partial : PartialProduct) (rule : Product → Bool) (ahead : Lookahead) : Type 0 where
  pub chosen : Covers partial ahead.features true rule ahead.if_chosen
  pub left_out : Covers partial ahead.features false rule ahead.if_left_out
