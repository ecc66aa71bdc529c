-- Products, which are sets of features, and their order.
use Rattle.std.specs.Prelude.{◌≡◌, ℕ, ◌<◌, Bool, true, false, ◌==◌}
use Rattle.std.specs.Int.{bit_at}
use Rattle.smv_ast.specs.declared.model.Product.{Product}

-- whether a set of features has the feature
abbrev pub has : ℕ → ℕ → Bool
has features f = bit_at features f == 1

-- the first feature of a set
pub record IsFirstOf (features f : ℕ) : Type 0 where
  pub small : f < 64
  pub there : has features f ≡ true
  pub first : (g : ℕ) → g < f → has features g ≡ false

-- the product has the feature
abbrev pub Has : Product → ℕ → Type 0
Has p f = has p.bits f ≡ true

-- the product does not have the feature
abbrev pub Lacks : Product → ℕ → Type 0
Lacks p f = has p.bits f ≡ false

-- the product has each wanted feature and no unwanted one
pub record HasSigns (wanted unwanted : ℕ) (p : Product) : Type 0 where
  pub chosen : (f : ℕ) → has wanted f ≡ true → Has p f
  pub left_out : (f : ℕ) → has unwanted f ≡ true → Lacks p f

-- of the features of which two products differ, the second product has the first
pub record Precedes (p q : Product) : Type 0 where
  pub feature : ℕ
  pub same : (f : ℕ) → f < feature → has p.bits f ≡ has q.bits f
  pub absent : Lacks p feature
  pub present : Has q feature
