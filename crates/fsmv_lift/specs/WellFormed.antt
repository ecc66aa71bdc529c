-- Families that have a lift, and the first fault of the others. Their names and the texts of their
-- features are judged before.
use Rattle.std.specs.Prelude.{◌≡◌, List, [], ◌∷◌, ◌++◌, None}
use Rattle.smv_ast.specs.declared.feature.Family.{Family}
use Rattle.smv_ast.specs.declared.model.FeatureModel.{FeatureModel}
use Rattle.smv_ast.specs.declared.model.Product.{Product}
use Rattle.smv_ast.specs.declared.fault.Fault.{Fault}
use Rattle.smv_ast.specs.declared.fault.Fault.TheVariants as fault
use Rattle.smv_names.specs.NamesFault.{names_fault}
use Rattle.smv_types.specs.Checks.{model_fault}
use Rattle.feature_model.specs.Validity.{IsValid}
use Rattle.fsmv_lift.specs.Lift.{lift_program}
use Rattle.fsmv_lift.specs.Judgements.{Judgement, Rule, Size, AllPass, FailsFirst}
use Rattle.fsmv_lift.specs.FeatureJudgements.{features_judgements}

-- the judgements on a family that has a valid product: the names of its base, its features item by
-- item, all static checks of its lift, and the size of its lift
abbrev pub judgements : Family → List Judgement
judgements family = Rule (names_fault family.base) ∷ features_judgements family
    ++ Rule (model_fault (lift_program family)) ∷ Size (lift_program family) ∷ []

-- some product is valid, and all judgements are passed
pub record IsWellFormed (family : Family) : Type 0 where
  pub product : Product
  pub valid : IsValid family.model product
  pub passes : AllPass family.model (judgements family)

-- the first fault of a family: no product is valid, or else that of the first judgement that is not
-- passed
pub data IsRefusedFor (family : Family) (f : Fault) : Type 0 where
  no_product : ((p : Product) → IsValid family.model p → ⊥) → f ≡ fault.NoProduct None
      → IsRefusedFor family f
  judgement : (p : Product) → IsValid family.model p
      → FailsFirst family.model (judgements family) f → IsRefusedFor family f
