-- Products that are given by the names of their features.
use Rattle.std.specs.Prelude.{◌≡◌, ℕ, ◌+◌, ◌==◌, Bool, false, ◌||◌, List, [], ◌∷◌, map, Option, Some, None, if◌then◌else◌, codes}
use denote.Ref.{Bor}
use Rattle.smv_ast.specs.PrintedExpr.{joined}
use Rattle.smv_ast.specs.declared.model.Product.{Product}
use Rattle.feature_model.specs.Constraints.{Name, feature_of}
use Rattle.feature_model.specs.Products.{has}

-- borrowed names
abbrev pub names_at : List (Bor Name) → List Name
names_at = map (λ n. n.now)

-- no feature is chosen
abbrev pub no_feature : ℕ → Bool
no_feature f = false

-- the features that are chosen, and one more
abbrev pub and_feature : (ℕ → Bool) → ℕ → ℕ → Bool
and_feature chosen f g = (g == f) || chosen g

-- the next choice, unless there is none
abbrev pub choose : (ℕ → Bool) → Option ℕ → ((ℕ → Bool) → Option (ℕ → Bool)) → Option (ℕ → Bool)
choose chosen None more = None
choose chosen (Some f) more = if chosen f then None else more (and_feature chosen f)

-- The features that are chosen before and those of the names. There is no choice where a name is no feature's, or where
-- its feature is chosen already.
abbrev pub chosen_by : List Name → List Name → (ℕ → Bool) → Option (ℕ → Bool)
chosen_by names [] chosen = Some chosen
chosen_by names (name ∷ more) chosen = choose chosen (feature_of names name) (chosen_by names more)

-- the product has the features of these names and no other; each name is a feature's, and no feature is named twice
abbrev pub IsNamed : List Name → List Name → Product → Type 0
IsNamed names listed p = chosen_by names listed no_feature ≡ Some (has p.bits)

-- the names of the features that the product has, in order; the first name is that of the feature with the number
abbrev pub names_from : ℕ → List Name → Product → List Name
names_from f [] p = []
names_from f (name ∷ more) p = if has p.bits f then name ∷ names_from (f + 1) more p else
    names_from (f + 1) more p

-- the names of the features that the product has, in their order
abbrev pub product_names : List Name → Product → List Name
product_names = names_from 0

-- the text of a product: the names of its features, joined by commas
abbrev pub printed_product : List Name → Product → List ℕ
printed_product names p = joined (codes ",") (product_names names p)
