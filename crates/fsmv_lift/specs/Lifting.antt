-- The lift made change by change, or the first fault of a change. Where no change has one, it is the
-- lift of the family.
use Rattle.std.specs.Prelude.{List, [], ◌∷◌, Result, Ok}
use Rattle.smv_ast.specs.declared.program.Program.{Program}
use Rattle.smv_ast.specs.declared.feature.Change.{Change}
use Rattle.smv_ast.specs.declared.feature.Feature.{Feature}
use Rattle.smv_ast.specs.declared.feature.Family.{Family}
use Rattle.smv_ast.specs.declared.feature.Lifted.{Lifted}
use Rattle.smv_ast.specs.declared.fault.Fault.{Fault}
use Rattle.smv_meaning.specs.Value.{Name}
use Rattle.integrate.specs.Changes.{and_on, acted}
use Rattle.integrate.specs.Joined.{joined}
use Rattle.fsmv_lift.specs.GuardedFeature.{guarded_change, guarded_parts}
use Rattle.fsmv_lift.specs.LiftedBase.{lifted_base}
use Rattle.fsmv_lift.specs.Lift.{finished}

-- a change of a feature applied with its guard, or its fault
abbrev pub change_added : Name → Program → Change → Result Program Fault
change_added feature p change = acted (guarded_change feature change) change.action p

-- changes of a feature applied in order, or the first fault
abbrev pub changes_added : Name → Program → List Change → Result Program Fault
changes_added feature p [] = Ok p
changes_added feature p (change ∷ more) = and_on (change_added feature p change)
    (λ q. changes_added feature q more)

-- a feature applied with its guards, or the first fault of its changes
abbrev pub feature_added : Program → Feature → Result Program Fault
feature_added p f = changes_added f.name (joined p (guarded_parts f)) f.changes

-- features applied in order, or the first fault
abbrev pub features_added : Program → List Feature → Result Program Fault
features_added p [] = Ok p
features_added p (f ∷ more) = and_on (feature_added p f) (λ q. features_added q more)

-- the lift of a family, or the first fault of a change
abbrev pub lift_made : Family → Result Lifted Fault
lift_made family = and_on (features_added (lifted_base family.base) family.features)
    (λ p. Ok (finished family p))
