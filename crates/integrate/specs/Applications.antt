-- A feature that is applied, as the code represents it, and the faults of its joined parts.
use Rattle.std.specs.Prelude.{◌≡◌, List, Option}
use Rattle.smv_ast.specs.declared.program.Program.{Program}
use Rattle.smv_ast.specs.declared.feature.Joined.{Joined}
use Rattle.smv_ast.specs.declared.feature.Feature.{Feature}
use Rattle.smv_ast.specs.declared.fault.Fault.{Fault}
use Rattle.smv_meaning.specs.Value.{Name}
use Rattle.smv_meaning.specs.Items.{Item, all_items}
use Rattle.smv_meaning.specs.Runs.{first_fault}
use Rattle.smv_names.specs.Unknown.{scope_program}
use Rattle.smv_names.specs.declared.known.ModuleScope.{ModuleScope}
use Rattle.integrate.specs.Introductions.{is_among, introduced_variables}
use Rattle.integrate.specs.IntroductionTable.{AreIntroductions}
use Rattle.integrate.specs.ModuleNames.{in_names}
use Rattle.integrate.specs.FeatureFaults as fault
use Rattle.integrate.specs.declared.parts.Application.{Application}

-- the base of the family
abbrev pub base_of : Application → Program
base_of a = a.introductions.now.base.now

-- the features of the family
abbrev pub family_of : Application → List Feature
family_of a = a.introductions.now.features.now

-- the tables of the family are correct, and the set has the variables that the feature introduces
pub record IsApplication (a : Application) : Type 0 where
  pub introductions : AreIntroductions a.introductions.now
  pub variables : (called name : Name) → in_names a.variables.now called name
      ≡ is_among (introduced_variables a.feature.now.joins) called name

-- the fault of an item in a module of the model
unfoldable pub item_fault : Application → ModuleScope → Item → Option Fault
item_fault a s = fault.item_fault (base_of a) (family_of a) a.feature.now a.product
    (scope_program s) s.called.now

-- the first fault of the items of a joined part in the model
abbrev pub items_fault : Application → Program → Joined → Option Fault
items_fault a p part = first_fault
    (fault.item_fault (base_of a) (family_of a) a.feature.now a.product p part.«module»)
    (all_items part.sections)

-- the first fault of a joined part in the model
abbrev pub part_fault : Application → Program → Joined → Option Fault
part_fault a p = fault.part_fault (base_of a) (family_of a) a.feature.now a.product p

-- the first fault of the needs and joined parts of the feature in the model
abbrev pub feature_fault : Application → Program → Option Fault
feature_fault a p = fault.feature_fault (base_of a) (family_of a) a.feature.now a.product p
