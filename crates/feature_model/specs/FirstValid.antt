-- The first valid product, in the order of products.
use Rattle.std.specs.Prelude.{◌≡◌, ◌⊎◌, ℕ, Bool, Result, Ok, Err}
use Rattle.smv_ast.specs.declared.model.FeatureModel.{FeatureModel}
use Rattle.smv_ast.specs.declared.model.Product.{Product}
use Rattle.feature_model.specs.declared.partial_product.PartialProduct.{PartialProduct}
use Rattle.feature_model.specs.Products.{has, HasSigns, Precedes}
use Rattle.feature_model.specs.Validity.{IsValid}
use Rattle.feature_model.specs.PartialProducts.{Agrees, AgreesOn}
use Rattle.feature_model.specs.Findings.{Conflicts}

-- the valid product with each wanted feature and no unwanted one that precedes each other one
pub record IsFirstValid (model : FeatureModel) (wanted unwanted : ℕ) (p : Product) : Type 0 where
  pub valid : IsValid model p
  pub signs : HasSigns wanted unwanted p
  pub first : (other : Product) → IsValid model other → HasSigns wanted unwanted other → (p ≡ other) ⊎ Precedes p other

-- no valid product has each wanted feature and no unwanted one
abbrev pub HasNoValid : FeatureModel → ℕ → ℕ → Type 0
HasNoValid model wanted unwanted = (p : Product) → IsValid model p → HasSigns wanted unwanted p → ⊥

-- ---- in the search

-- A valid product agrees with the partial product just where it has each wanted feature and no unwanted one.
pub record IsBefore (model : FeatureModel) (wanted unwanted : ℕ) (partial : PartialProduct) : Type 0 where
  pub agrees : (p : Product) → IsValid model p → HasSigns wanted unwanted p → Agrees partial p
  pub signs : (p : Product) → Agrees partial p → HasSigns wanted unwanted p

-- the valid product that agrees with the partial product and precedes each other one
pub record IsFirstWithin (model : FeatureModel) (partial : PartialProduct) (p : Product) : Type 0 where
  pub valid : IsValid model p
  pub agrees : Agrees partial p
  pub first : (other : Product) → IsValid model other → Agrees partial other → (p ≡ other) ⊎ Precedes p other

-- no valid product that has the feature, or lacks it, as said, agrees at these features
abbrev pub Excludes : FeatureModel → PartialProduct → ℕ → Bool → ℕ → Type 0
Excludes model partial feature chosen features = (p : Product) → IsValid model p → has p.bits feature ≡ chosen → AgreesOn partial features p → ⊥

-- what a search within the partial product gives: its first valid product, or features at which no valid product agrees
abbrev pub IsFound : FeatureModel → PartialProduct → Result Product ℕ → Type 0
IsFound model partial (Ok p) = IsFirstWithin model partial p
IsFound model partial (Err features) = Conflicts partial (IsValid model) features
