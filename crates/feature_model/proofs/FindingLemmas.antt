-- What is found of a rule is right of each rule that says more.
use Rattle.std.specs.List.{list_any}
use Rattle.std.proofs.Common.{◌≡◌, ℕ, List, [], ◌∷◌, take, Bool, true, false, not, ◌&&◌, ◌||◌, refl}
use Rattle.smv_ast.specs.declared.model.Product.{Product}
use Rattle.feature_model.specs.declared.partial_product.PartialProduct.{PartialProduct}
use Rattle.feature_model.specs.declared.finding.Finding.{Finding}
use Rattle.feature_model.specs.declared.finding.Finding.TheVariants.{Open, Refuted, Forced}
use Rattle.feature_model.specs.Findings.{IsFinding}

pub of_stronger : (partial : PartialProduct) (Weak Strong : Product → Type 0) (finding : Finding) → ((p : Product) → Strong p → Weak p) → IsFinding partial Weak finding → IsFinding partial Strong finding
of_stronger partial Weak Strong Open law h = tt
of_stronger partial Weak Strong (Refuted features) law h = λ p keeps agrees. h p (law p keeps) agrees
of_stronger partial Weak Strong (Forced feature chosen features) law h = record {
  small = h.small;
  undecided = h.undecided;
  forces = λ p keeps agrees. h.forces p (law p keeps) agrees;
}

pub implied : (a b : Bool) → (a ≡ true → b ≡ true) → (not a || b) ≡ true
implied true b h = h refl
implied false b h = refl

pub excluded : (a b : Bool) → (a ≡ true → b ≡ true → ⊥) → not (a && b) ≡ true
excluded true true h = absurd (h refl refl)
excluded true false h = refl
excluded false b h = refl

pub any_first : (test : ℕ → Bool) (xs : List ℕ) → list_any test (take 0 xs) ≡ false
any_first test [] = refl
any_first test (x ∷ xs) = refl
