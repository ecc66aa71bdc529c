-- The text of a product of a family: the base with the features of the product applied one after
-- another, in the order in which their texts stand in the family. It depends on no other product.
use Rattle.std.specs.Prelude.{Bool, List, [], ◌∷◌, None, Result, Ok}
use Rattle.std.specs.List.{filter}
use Rattle.smv_ast.specs.declared.program.Program.{Program}
use Rattle.smv_ast.specs.declared.feature.Feature.{Feature}
use Rattle.smv_ast.specs.declared.feature.Family.{Family}
use Rattle.smv_ast.specs.declared.model.Product.{Product}
use Rattle.smv_ast.specs.declared.fault.Fault.{Fault}
use Rattle.smv_ast.specs.declared.fault.Fault.TheVariants as fault
use Rattle.smv_meaning.specs.Value.{Name}
use Rattle.feature_model.specs.Constraints.{feature_of, has_some}
use Rattle.feature_model.specs.NamedProducts.{printed_product}
use Rattle.integrate.specs.Changes.{and_on}
use Rattle.integrate.specs.Applied.{applied}

-- whether a product has the feature of a text, of the features with these names
abbrev pub is_chosen : List Name → Product → Feature → Bool
is_chosen names product f = has_some product (feature_of names f.name)

-- the features that a product has, of those with a text, in the order of the texts
abbrev pub chosen : List Name → Product → List Feature → List Feature
chosen names product = filter (is_chosen names product)

-- a model with features of a family applied in order, or the first fault
abbrev pub all_applied : Program → List Feature → Product → List Feature → Program
    → Result Program Fault
all_applied base family product [] p = Ok p
all_applied base family product (f ∷ more) p = and_on (applied base family product f p)
    (all_applied base family product more)

-- the text of a product
abbrev pub text_of : Family → Product → Result Program Fault
text_of family product = all_applied family.base family.features product
    (chosen family.model.names product family.features) family.base

-- ---- products that are not valid

-- the fault of a product that is not valid: it keeps the names of its features
abbrev pub not_valid : Family → Product → Fault
not_valid family product = fault.NotValid None (printed_product family.model.names product)
