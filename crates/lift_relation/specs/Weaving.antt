-- A lift beside the text of one of its products.
use Rattle.std.specs.Prelude.{Bool}
use Rattle.std.specs.List.{Contains}
use Rattle.smv_ast.specs.declared.program.Program.{Program}
use Rattle.smv_meaning.specs.Value.{Name}
use Rattle.smv_meaning.specs.Paths.{QualifiedName}
use Rattle.smv_meaning.specs.Instances.{Instance, Main, Within, instances}

-- the lift and the text; the name under which the modules of the lift know the features' variables,
-- and the module that declares these; the features of the product
pub record Weaving : Type 0 where
  pub lift : Program
  pub text : Program
  pub features : Name
  pub home : Name
  pub has : Name → Bool

-- an instance of the text
abbrev pub IsOfText : Weaving → Instance → Type 0
IsOfText w instance = Contains (instances w.text) instance

-- the instance of the features' variables
abbrev pub home_instance : Weaving → Instance
home_instance w = Within Main w.features w.home

-- the variable of a feature
abbrev pub feature_variable : Weaving → Name → QualifiedName Instance
feature_variable w feature = record { instance = home_instance w; name = feature }
