-- The table of the variables that a feature introduces.
use Rattle.std.specs.Prelude.{◌≡◌}
use Rattle.smv_meaning.specs.Value.{Name}
use Rattle.fsmv_lift.specs.declared.guarded.Guarding.{Guarding}
use Rattle.fsmv_lift.specs.IntroducedVariables.{introduced_type}
use Rattle.fsmv_lift.specs.IntroducedTypes.{type_in}

-- the table has the types of the variables that the feature introduces
abbrev pub HasTypesOf : Guarding → Type 0
HasTypesOf g = (called name : Name) → type_in g.types called name
    ≡ introduced_type g.feature.now.joins called name
