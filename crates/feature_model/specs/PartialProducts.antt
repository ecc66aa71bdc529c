-- Partial products: some features are decided, each as chosen or as left out.
use Rattle.std.specs.Prelude.{◌≡◌, ℕ, ◌<◌, Bool, true, false, not, ◌||◌, ◌≢◌}
use Rattle.smv_ast.specs.declared.model.Product.{Product}
use Rattle.feature_model.specs.declared.partial_product.PartialProduct.{PartialProduct}
use Rattle.feature_model.specs.Products.{has, Has, Lacks}

-- whether the feature is decided
abbrev pub is_decided : PartialProduct → ℕ → Bool
is_decided partial f = has partial.chosen f || has partial.left_out f

-- no feature is both chosen and left out
abbrev pub IsConsistent : PartialProduct → Type 0
IsConsistent partial = (f : ℕ) → has partial.chosen f ≡ true → has partial.left_out f ≡ false

-- the product has the feature where it is chosen, and lacks it where it is left out
pub record AgreesAt (partial : PartialProduct) (p : Product) (f : ℕ) : Type 0 where
  pub chosen : has partial.chosen f ≡ true → Has p f
  pub left_out : has partial.left_out f ≡ true → Lacks p f

-- the product agrees with the partial product at each feature of the set
abbrev pub AgreesOn : PartialProduct → ℕ → Product → Type 0
AgreesOn partial features p = (f : ℕ) → has features f ≡ true → AgreesAt partial p f

-- the product agrees with the partial product at each feature
abbrev pub Agrees : PartialProduct → Product → Type 0
Agrees partial p = (f : ℕ) → AgreesAt partial p f

-- the new partial product decides one feature more, as chosen or as left out
pub record DecidesOne (old : PartialProduct) (feature : ℕ) (chosen : Bool) (new : PartialProduct) : Type 0 where
  pub kept_chosen : (f : ℕ) → f ≢ feature → has new.chosen f ≡ has old.chosen f
  pub kept_left_out : (f : ℕ) → f ≢ feature → has new.left_out f ≡ has old.left_out f
  pub now_chosen : has new.chosen feature ≡ chosen
  pub now_left_out : has new.left_out feature ≡ not chosen

-- the first feature that is not decided
pub record IsFirstOpen (partial : PartialProduct) (feature : ℕ) : Type 0 where
  pub small : feature < 64
  pub undecided : is_decided partial feature ≡ false
  pub below : (f : ℕ) → f < feature → is_decided partial f ≡ true
