-- Features applied to a model without regard to faults: of a model in which a feature has no fault,
-- the same as the feature applied.
use Rattle.std.specs.Prelude.{List}
use Rattle.std.specs.List.{fold}
use Rattle.smv_ast.specs.declared.program.Program.{Program}
use Rattle.smv_ast.specs.declared.feature.Action.{Action}
use Rattle.smv_ast.specs.declared.feature.Action.TheVariants.{Impose, Treat}
use Rattle.smv_ast.specs.declared.feature.Joined.{Joined}
use Rattle.smv_ast.specs.declared.feature.Change.{Change}
use Rattle.smv_ast.specs.declared.feature.Feature.{Feature}
use Rattle.integrate_impose.specs.Impose.{imposition, imposed_model}
use Rattle.integrate_treat.specs.TreatedExpr.{treatment}
use Rattle.integrate_treat.specs.TreatedModel.{treated_model}
use Rattle.integrate.specs.Joined.{joined}

-- the model after an action of a change
abbrev pub after_action : Change → Action → Program → Program
after_action change (Impose left name right) p = imposed_model
    (imposition change.cond left name right change.at) change.«module» p
after_action change (Treat path right) p = treated_model
    (treatment change.cond path.names right) change.«module» p

-- the model after a change
abbrev pub after_change : Program → Change → Program
after_change p change = after_action change change.action p

-- the model after changes in written order
abbrev pub after_changes : Program → List Change → Program
after_changes = fold after_change

-- the model after joined parts and then changes
abbrev pub after_parts : Program → List Joined → List Change → Program
after_parts p joins changes = after_changes (joined p joins) changes

-- the model after a feature
abbrev pub after_feature : Program → Feature → Program
after_feature p f = after_parts p f.joins f.changes

-- the model after features in order
abbrev pub after_features : Program → List Feature → Program
after_features = fold after_feature
