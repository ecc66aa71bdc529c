-- The judgements of the features of a family, in order, and of each feature item by item: its needs;
-- of each joined part the head, and then the declarations, assignments, definitions and constraints;
-- its changes. Of one item they are: what it introduces; the names that it uses, in each valid
-- product that has the feature; its other faults, in the lift so far; and the size of the lift after
-- it.
use Rattle.std.specs.Prelude.{ℕ, List, [], ◌∷◌, ◌++◌, map, Option, Some, None, is_some, find, if◌then◌else◌}
use Rattle.std.specs.List.{flat_map, fold, filter}
use Rattle.smv_ast.specs.declared.syntax.Span.{Span}
use Rattle.smv_ast.specs.declared.program.Section.{Section}
use Rattle.smv_ast.specs.declared.program.Section.TheVariants as section
use Rattle.smv_ast.specs.declared.program.Program.{Program}
use Rattle.smv_ast.specs.declared.feature.Action.{Action}
use Rattle.smv_ast.specs.declared.feature.Action.TheVariants.{Impose, Treat}
use Rattle.smv_ast.specs.declared.feature.Need.{Need}
use Rattle.smv_ast.specs.declared.feature.Joined.{Joined}
use Rattle.smv_ast.specs.declared.feature.Change.{Change}
use Rattle.smv_ast.specs.declared.feature.Feature.{Feature}
use Rattle.smv_ast.specs.declared.feature.Family.{Family}
use Rattle.smv_ast.specs.declared.model.Product.{Product}
use Rattle.smv_ast.specs.declared.fault.Fault.{Fault}
use Rattle.smv_ast.specs.declared.fault.Fault.TheVariants as fault
use Rattle.smv_meaning.specs.Value.{Name}
use Rattle.smv_meaning.specs.Items.{Item, section_items}
use Rattle.integrate_impose.specs.Impose.{is_named, imposition, impose_fault}
use Rattle.integrate_treat.specs.Treat.{treat_fault}
use Rattle.integrate.specs.Joined.{joined, with_part}
use Rattle.integrate.specs.FeatureFaults.{type_fault, introduction_fault}
use Rattle.integrate.specs.ProductText.{chosen}
use Rattle.fsmv_lift.specs.GuardedFeature.{guarded_part, guarded_parts, guarded_change}
use Rattle.fsmv_lift.specs.TotalChanges.{after_change, after_changes, after_feature, after_features}
use Rattle.fsmv_lift.specs.LiftedBase.{lifted_base}
use Rattle.fsmv_lift.specs.Lift.{number_of, after_guarded}
use Rattle.fsmv_lift.specs.UsedNames.{UsedName, used_by_need, used_by_head, used_by_item, used_by_change}
use Rattle.fsmv_lift.specs.Judgements.{Use, Judgement, Rule, Known, Size}

-- ---- parts, item by item

-- a section with all its items up to some item, and that item
pub record Stage : Type 0 where
  pub «section» : Section
  pub item : Item

-- the prefixes of a list that are not empty, the shortest first
abbrev pub prefixes : {A : Type 0} → List A → List (List A)
prefixes [] = []
prefixes (a ∷ more) = (a ∷ []) ∷ map (λ prefix. a ∷ prefix) (prefixes more)

-- the prefixes of a section that end with an item
abbrev pub section_prefixes : Section → List Section
section_prefixes (section.Vars declarations) = map section.Vars (prefixes declarations)
section_prefixes (section.Assigns assignments) = map section.Assigns (prefixes assignments)
section_prefixes (section.Defines definitions) = map section.Defines (prefixes definitions)
section_prefixes s = s ∷ []

-- pairs of the elements of two lists
abbrev pub stages_by : List Section → List Item → List Stage
stages_by (s ∷ more) (item ∷ others) = record { «section» = s; item = item } ∷ stages_by more others
stages_by sections items = []

-- the stages of a section
abbrev pub section_stages : Section → List Stage
section_stages s = stages_by (section_prefixes s) (section_items s)

-- the part with these sections
abbrev pub part_of : Joined → List Section → Joined
part_of part sections = record part { sections = sections }

-- an item of a part, with the part up to it
pub record PartStage : Type 0 where
  pub part : Joined
  pub item : Item

-- the stages of sections of a part, after these sections of it
abbrev pub stages_after : Joined → List Section → List Section → List PartStage
stages_after part before [] = []
stages_after part before (s ∷ more) =
    map (λ stage. record { part = part_of part (before ++ stage.«section» ∷ []); item = stage.item })
    (section_stages s) ++ stages_after part (before ++ s ∷ []) more

-- the stages of a part
abbrev pub stages_of : Joined → List PartStage
stages_of part = stages_after part [] part.sections

-- ---- a feature

-- the judgements on one feature of a family
module _ (family : Family) (f : Feature) (lift : Program) (text : Product → Program) where
  -- that the feature knows a name, given the text of each product so far
  abbrev pub known_in : (Product → Program) → UsedName → Judgement
  known_in so_far used = Known (record {
    feature = number_of family.model.names f;
    feature_name = f.name;
    used = used;
    text = so_far;
  })

  -- the text of each product with the feature's parts appended
  abbrev pub introduced_text : Product → Program
  introduced_text p = joined (text p) f.joins

  -- the lift with the feature's parts appended
  abbrev pub introduced_lift : Program
  introduced_lift = joined lift (guarded_parts f)

  -- the judgements on a need
  abbrev pub need_judgements : Need → List Judgement
  need_judgements need = map (known_in introduced_text) (used_by_need need)
      ++ Rule (type_fault introduced_lift f.name need need.wanted) ∷ Size lift ∷ []

  -- the fault of a joined part of no module; it is met where no valid product has the feature
  abbrev pub no_module : Joined → Option Fault
  no_module part = if is_some (find (is_named part.«module») lift.modules) then None else Some
      (fault.UnknownModule (Some part.at) part.«module»)

  -- the judgements on the head of a joined part
  abbrev pub head_judgements : Program → Joined → List Judgement
  head_judgements before part = map (known_in introduced_text) (used_by_head part)
      ++ Rule (no_module part) ∷ Size before ∷ []

  -- the judgements on an item of a joined part, given the lift with the parts before it
  abbrev pub item_judgements : Program → PartStage → List Judgement
  item_judgements before stage =
      Rule (introduction_fault family.base family.features f stage.part.«module» stage.item)
      ∷ map (known_in introduced_text) (used_by_item stage.part.«module» stage.item)
      ++ Size (with_part before (guarded_part f stage.part)) ∷ []

  -- the judgements on a joined part, given the lift with the parts before it
  abbrev pub part_judgements : Program → Joined → List Judgement
  part_judgements before part = head_judgements before part
      ++ flat_map (item_judgements before) (stages_of part)

  -- the judgements on joined parts, given the lift with the parts before them
  abbrev pub parts_judgements : Program → List Joined → List Judgement
  parts_judgements before [] = []
  parts_judgements before (part ∷ more) = part_judgements before part
      ++ parts_judgements (with_part before (guarded_part f part)) more

  -- the fault of an action in a model; the condition plays no part in it
  abbrev pub action_fault : Program → Change → Action → Option Fault
  action_fault p change (Impose left name right) = impose_fault
      (imposition change.cond left name right change.at) change.«module» p
  action_fault p change (Treat path right) = treat_fault change.at path.names change.«module» p

  -- the judgements on a change, given the text of each product and the lift before it
  abbrev pub change_judgements : (Product → Program) → Program → Change → List Judgement
  change_judgements so_far before change = map (known_in so_far) (used_by_change change)
      ++ Rule (action_fault before change change.action)
      ∷ Size (after_change before (guarded_change f.name change)) ∷ []

  -- the judgements on changes, given the text of each product and the lift before them
  abbrev pub changes_judgements : (Product → Program) → Program → List Change → List Judgement
  changes_judgements so_far before [] = []
  changes_judgements so_far before (change ∷ more) = change_judgements so_far before change
      ++ changes_judgements (λ p. after_change (so_far p) change)
      (after_change before (guarded_change f.name change)) more

  -- the judgements on the feature
  abbrev pub feature_judgements : List Judgement
  feature_judgements = flat_map need_judgements f.needs ++ parts_judgements lift f.joins
      ++ changes_judgements introduced_text introduced_lift f.changes

-- ---- the features

-- the text of each product that has of the features before just those that are chosen
abbrev pub text_so_far : Family → List Feature → Product → Program
text_so_far family before p = after_features family.base (chosen family.model.names p before)

-- the judgements on features in order, given those before and the lift with these
abbrev pub judgements_after : Family → List Feature → Program → List Feature → List Judgement
judgements_after family before lift [] = []
judgements_after family before lift (f ∷ more) =
    feature_judgements family f lift (text_so_far family before)
    ++ judgements_after family (before ++ f ∷ []) (after_guarded lift f) more

-- the judgements on the features of a family
abbrev pub features_judgements : Family → List Judgement
features_judgements family = judgements_after family [] (lifted_base family.base) family.features
