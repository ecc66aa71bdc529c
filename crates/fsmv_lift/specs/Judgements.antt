-- Judgements that are passed one after another, and the first that fails.
use Rattle.std.specs.Prelude.{◌≡◌, ◌⊎◌, ◌<◌, ℕ, Bool, true, false, List, ◌∷◌, ◌++◌, length, Option, Some, None}
use Rattle.std.specs.List.{All}
use Rattle.smv_ast.specs.declared.program.Program.{Program}
use Rattle.smv_ast.specs.declared.model.FeatureModel.{FeatureModel}
use Rattle.smv_ast.specs.declared.model.Product.{Product}
use Rattle.smv_ast.specs.declared.fault.Fault.{Fault}
use Rattle.smv_ast.specs.declared.fault.Fault.TheVariants as fault
use Rattle.smv_meaning.specs.Value.{Name}
use Rattle.smv_meaning.specs.Instances.{instances}
use Rattle.smv_nodes.specs.Count.{HasNodes}
use Rattle.feature_model.specs.Products.{Has, Precedes}
use Rattle.feature_model.specs.Validity.{IsValid}
use Rattle.fsmv_lift.specs.UsedNames.{UsedName, used_at, used_text, is_known}

-- ---- names in all products

-- a use of a name by a feature: the feature's number and name, the name that is used, and the text
-- of each product, integrated so far
pub record Use : Type 0 where
  pub feature : ℕ
  pub feature_name : Name
  pub used : UsedName
  pub text : Product → Program

-- a valid product that has the feature, and in whose text the name is not known
pub record Lacks (model : FeatureModel) (u : Use) (p : Product) : Type 0 where
  pub valid : IsValid model p
  pub has : Has p u.feature
  pub unknown : is_known (u.text p) u.used ≡ false

-- the first of these products
pub record IsFirstLacking (model : FeatureModel) (u : Use) (p : Product) : Type 0 where
  pub lacks : Lacks model u p
  pub first : (other : Product) → Lacks model u other → (p ≡ other) ⊎ Precedes p other

-- a name is missing: the fault keeps the feature, the name, and the first product that lacks it
pub record IsMissing (model : FeatureModel) (u : Use) (f : Fault) : Type 0 where
  pub product : Product
  pub first : IsFirstLacking model u product
  pub fault_is : f ≡ fault.RequireMissing (Some (used_at u.used)) u.feature_name
      (used_text u.used) product

-- ---- sizes

-- the greatest number of instances, and of nodes
abbrev pub most : ℕ
most = 65536

-- the model has too many instances, or too many nodes
pub data IsTooLarge (p : Program) : Type 0 where
  many_instances : most < length (instances p) → IsTooLarge p
  many_nodes : (n : ℕ) → HasNodes p n → most < n → IsTooLarge p

-- ---- judgements

-- a rule, which has a fault or none; that a name is known in each valid product of a feature; or that
-- a model is not too large
pub data Judgement : Type 0 where
  Rule : Option Fault → Judgement
  Known : Use → Judgement
  Size : Program → Judgement

module _ (model : FeatureModel) where
  -- the judgement is passed
  abbrev pub Passes : Judgement → Type 0
  Passes (Rule f) = f ≡ None
  Passes (Known u) = (p : Product) → Lacks model u p → ⊥
  Passes (Size p) = IsTooLarge p → ⊥

  -- the judgement fails with a fault
  abbrev pub Fails : Fault → Judgement → Type 0
  Fails f (Rule found) = found ≡ Some f
  Fails f (Known u) = IsMissing model u f
  Fails f (Size p) = IsTooLarge p × (f ≡ fault.TooLarge None)

  -- all judgements are passed
  abbrev pub AllPass : List Judgement → Type 0
  AllPass = All Passes

  -- the first judgement that is not passed fails with a fault
  pub record FailsFirst (judgements : List Judgement) (f : Fault) : Type 0 where
    pub before : List Judgement
    pub judgement : Judgement
    pub after : List Judgement
    pub split : judgements ≡ before ++ judgement ∷ after
    pub passed : AllPass before
    pub fails : Fails f judgement
