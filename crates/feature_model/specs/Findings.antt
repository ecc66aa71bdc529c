-- What a rule says of a partial product. Rules are facts of products.
use Rattle.std.specs.Prelude.{◌≡◌, ℕ, ◌<◌, Bool, true, false}
use Rattle.smv_ast.specs.declared.model.Product.{Product}
use Rattle.feature_model.specs.declared.partial_product.PartialProduct.{PartialProduct}
use Rattle.feature_model.specs.declared.finding.Finding.{Finding}
use Rattle.feature_model.specs.declared.finding.Finding.TheVariants.{Open, Refuted, Forced}
use Rattle.feature_model.specs.Products.{has}
use Rattle.feature_model.specs.PartialProducts.{is_decided, AgreesOn}

-- no product that keeps the rule agrees with the partial product at these features
abbrev pub Conflicts : PartialProduct → (Product → Type 0) → ℕ → Type 0
Conflicts partial Keeps features = (p : Product) → Keeps p → AgreesOn partial features p → ⊥

-- The feature is not decided, and each product that keeps the rule and agrees with the partial product at these features has
-- it, or lacks it.
pub record Forces (partial : PartialProduct) (Keeps : Product → Type 0) (feature : ℕ) (chosen : Bool) (features : ℕ) : Type 0 where
  pub small : feature < 64
  pub undecided : is_decided partial feature ≡ false
  pub forces : (p : Product) → Keeps p → AgreesOn partial features p → has p.bits feature ≡ chosen

-- whether nothing is found
abbrev pub is_open : Finding → Bool
is_open Open = true
is_open found = false

-- what is found is right
abbrev pub IsFinding : PartialProduct → (Product → Type 0) → Finding → Type 0
IsFinding partial Keeps Open = Unit {0}
IsFinding partial Keeps (Refuted features) = Conflicts partial Keeps features
IsFinding partial Keeps (Forced feature chosen features) = Forces partial Keeps feature chosen features
