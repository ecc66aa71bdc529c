-- The correspondence of runs: the runs of a lift at a product are, projected to the variables of the
-- product's text, the runs of that text, one to one.
use Rattle.std.specs.Prelude.{◌≡◌, ◌⊎◌, Bool, true, false, if◌then◌else◌, List, [], ◌∷◌, map, Option, Some, None}
use Rattle.std.specs.List.{All, Contains}
use Rattle.smv_meaning.specs.declared.value.Value.{Value}
use Rattle.smv_meaning.specs.declared.value.Value.TheVariants.{Boolean}
use Rattle.fixpoint.specs.OptionOrder.{Le}
use Rattle.smv_meaning.specs.Value.{Name, all_values}
use Rattle.smv_meaning.specs.Values.{State}
use Rattle.smv_meaning.specs.Runs.{VariableAt, variables, is_variable, or_else, IsExactState, IsInside, IsRun}
use Rattle.lift_relation.specs.Weaving.{Weaving}
use Rattle.lift_relation.specs.RelatedNames.{AreRelatedNames}
use Rattle.lift_relation.specs.RelatedItems.{AreRelatedItems}

-- a state of the lift without the variables that the text does not have
abbrev pub projected : Weaving → State → State
projected w s path = if is_variable w.text path then s path else None

-- the path of a feature's variable
abbrev pub feature_path : Weaving → Name → List Name
feature_path w feature = w.features ∷ feature ∷ []

-- a state of the lift is at the product: the features' variables have its values
abbrev pub IsAtProduct : Weaving → State → Type 0
IsAtProduct w s = (feature : Name) → is_variable w.lift (feature_path w feature) ≡ true
    → s (feature_path w feature) ≡ Some (Boolean (w.has feature))

-- a run of the lift at the product
pub record IsRunAt (w : Weaving) (run : List State) : Type 0 where
  pub is_run : IsRun w.lift run
  pub at : All (IsAtProduct w) run

-- the runs of the lift at the product and the runs of the text correspond one to one by projection
pub record CorrespondOneToOne (w : Weaving) : Type 0 where
  pub into : (run : List State) → IsRunAt w run → IsRun w.text (map (projected w) run)
  pub onto : (run : List State) → IsRun w.text run
      → (whole : List State) × IsRunAt w whole × (map (projected w) whole ≡ run)
  pub once : (run other : List State) → IsRunAt w run → IsRunAt w other
      → map (projected w) run ≡ map (projected w) other → run ≡ other

-- ---- what it follows from

-- absent: the values that the variables of the lift that the text does not have stand at
module _ (w : Weaving) (absent : State) where
  -- a state of the lift at the product, in which these variables stand at these values
  pub record IsSettled (s : State) : Type 0 where
    pub exact : IsExactState w.lift s
    pub at : IsAtProduct w s
    pub settled : (x : VariableAt) → Contains (variables w.lift) x
        → is_variable w.text x.path ≡ false → s x.path ≡ absent x.path

  -- a variable that the text does not have: its value is one of its type, and each state of the lift
  -- at the product that meets the invariants gives it this value
  pub record IsFixed (x : VariableAt) : Type 0 where
    pub missing : is_variable w.text x.path ≡ false
    pub value : Value
    pub stands : absent x.path ≡ Some value
    pub allowed : Contains (all_values x.type) value
    pub fixed : (s : State) → IsExactState w.lift s → IsAtProduct w s → IsInside w.lift s
        → s x.path ≡ Some value

  -- the variables of the text and of the lift
  pub record AreRelatedVariables : Type 0 where
    pub text : (x : VariableAt) → Contains (variables w.text) x → Contains (variables w.lift) x
    pub lift : (x : VariableAt) → Contains (variables w.lift) x
        → Contains (variables w.text) x ⊎ IsFixed x
    pub none : (path : List Name) → is_variable w.lift path ≡ false → absent path ≡ None
    pub reserved : (feature : Name) → is_variable w.text (feature_path w feature) ≡ false
    pub features : (feature : Name)
        → Le (absent (feature_path w feature)) (Some (Boolean (w.has feature)))

  -- the lift and the text are related in their names, items and variables
  pub record AreRelated : Type 0 where
    pub names : AreRelatedNames w
    pub items : AreRelatedItems w IsSettled
    pub variables : AreRelatedVariables

-- weaving commutes with projection: wherever a lift and the text of a product are related, their runs
-- correspond one to one
abbrev pub RunsCorrespond : Type 0
RunsCorrespond = (w : Weaving) (absent : State) → AreRelated w absent → CorrespondOneToOne w
