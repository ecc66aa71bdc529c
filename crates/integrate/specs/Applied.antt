-- A feature applied to a model: its joined parts are appended, and then its changes are applied in
-- written order.
use Rattle.std.specs.Prelude.{List, [], ◌∷◌, Result}
use Rattle.smv_ast.specs.declared.program.Program.{Program}
use Rattle.smv_ast.specs.declared.feature.Feature.{Feature}
use Rattle.smv_ast.specs.declared.model.Product.{Product}
use Rattle.smv_ast.specs.declared.fault.Fault.{Fault}
use Rattle.integrate_impose.specs.Answers.{unless_fault}
use Rattle.integrate.specs.Changes.{and_on, all_changed}
use Rattle.integrate.specs.Joined.{joined}
use Rattle.integrate.specs.FeatureFaults.{feature_fault}

-- the model with its joined parts appended, unless a need or a joined part has a fault
abbrev pub introduced : Program → List Feature → Product → Feature → Program → Result Program Fault
introduced base family product f p = unless_fault
    (feature_fault base family f product (joined p f.joins)) (joined p f.joins)

-- the model with a feature of a family applied, or the first fault. A missing name is reported with
-- the product; clashes are judged in the family, which has this base.
abbrev pub applied : Program → List Feature → Product → Feature → Program → Result Program Fault
applied base family product f p = and_on (introduced base family product f p)
    (λ q. all_changed f.name product q f.changes)

-- the product without features
abbrev pub no_features : Product
no_features = record { bits = 0 }

-- a model with one feature applied, where the family is the model with this feature alone
abbrev pub applied_alone : Feature → Program → Result Program Fault
applied_alone f p = applied p (f ∷ []) no_features f p
