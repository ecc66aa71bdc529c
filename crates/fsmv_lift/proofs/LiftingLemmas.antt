-- A lift made without a fault is the lift of the family.
use Rattle.std.proofs.Common.{◌≡◌, List, [], ◌∷◌, ◌++◌, append_assoc, map, Option, Some, None, Result, Ok, Err, refl, sym, ap, ◌∙◌}
use Rattle.smv_ast.specs.declared.program.Program.{Program}
use Rattle.smv_ast.specs.declared.feature.Action.{Action}
use Rattle.smv_ast.specs.declared.feature.Action.TheVariants.{Impose, Treat}
use Rattle.smv_ast.specs.declared.feature.Change.{Change}
use Rattle.smv_ast.specs.declared.feature.Feature.{Feature}
use Rattle.smv_ast.specs.declared.feature.Family.{Family}
use Rattle.smv_ast.specs.declared.feature.Lifted.{Lifted}
use Rattle.smv_ast.specs.declared.fault.Fault.{Fault}
use Rattle.smv_meaning.specs.Value.{Name}
use Rattle.integrate_impose.specs.Impose.{imposition, impose_fault}
use Rattle.integrate_impose.specs.Answers.{unless_fault}
use Rattle.integrate_treat.specs.Treat.{treat_fault}
use Rattle.integrate.specs.Changes.{and_on, acted}
use Rattle.integrate.specs.Joined.{joined}
use Rattle.fsmv_lift.specs.GuardedFeature.{guarded_change, guarded_parts}
use Rattle.fsmv_lift.specs.LiftedBase.{lifted_base}
use Rattle.fsmv_lift.specs.TotalChanges.{after_action, after_change, after_changes}
use Rattle.smv_ast.specs.declared.feature.OwnedVar.{OwnedVar}
use Rattle.smv_ast.specs.declared.feature.OwnedSpec.{OwnedSpec}
use Rattle.fsmv_lift.specs.Lift.{after_guarded, guarded_lift, finished, lift_of, specs_of, owned_specs}
use Rattle.fsmv_lift.specs.Lifting.{change_added, changes_added, feature_added, features_added, lift_made}
use Rattle.std.specs.List.{fold, flat_map}

-- ---- results

without_fault : {A : Type 0} (f : Option Fault) (value made : A) → unless_fault f value ≡ Ok made → value ≡ made
without_fault None value made e = cc
without_fault (Some f) value made e = cc

-- a step after another step that is defined
and_on_ok : {A B : Type 0} (r : Result A Fault) (next : A → Result B Fault) (made : B) → and_on r next ≡ Ok made → (a : A) × (r ≡ Ok a) × (next a ≡ Ok made)
and_on_ok (Ok a) next made e = (a, refl, e)
and_on_ok (Err f) next made e = cc

abbrev the_ok : {A : Type 0} → A → Result A Fault
the_ok a = Ok a

ok_same : {A : Type 0} (a b : A) → (the_ok a) ≡ (the_ok b) → a ≡ b
ok_same a b e = cc

-- ---- changes

acted_after : (change : Change) (action : Action) (p q : Program) → acted change action p ≡ Ok q → after_action change action p ≡ q
acted_after change (Impose left name right) p q e = without_fault (impose_fault (imposition change.cond left name right change.at) change.«module» p) _ q e
acted_after change (Treat path right) p q e = without_fault (treat_fault change.at path.names change.«module» p) _ q e

changes_after : (feature : Name) (changes : List Change) (p q : Program) → changes_added feature p changes ≡ Ok q → after_changes p (map (guarded_change feature) changes) ≡ q
changes_after feature [] p q e = cc
changes_after feature (change ∷ more) p q e =
    let on = and_on_ok (change_added feature p change) (λ r. changes_added feature r more) q e in
    ap (λ r. after_changes r (map (guarded_change feature) more)) (acted_after (guarded_change feature change) change.action p on.0 on.1)
    ∙ changes_after feature more on.0 q on.2

-- ---- features

-- a feature applied without a fault
pub feature_after : (f : Feature) (p q : Program) → feature_added p f ≡ Ok q → after_guarded p f ≡ q
feature_after f p q e = changes_after f.name f.changes (joined p (guarded_parts f)) q e

features_after : (fs : List Feature) (p q : Program) → features_added p fs ≡ Ok q → fold after_guarded p fs ≡ q
features_after [] p q e = cc
features_after (f ∷ more) p q e =
    let on = and_on_ok (feature_added p f) (λ r. features_added r more) q e in
    ap (λ r. fold after_guarded r more) (feature_after f p on.0 on.1) ∙ features_after more on.0 q on.2

-- one more feature applied without a fault
pub features_next : (p q : Program) (f : Feature) (fs more : List Feature) (r : Result Program Fault) → fs ≡ f ∷ more → feature_added p f ≡ Ok q → features_added p fs ≡ r → features_added q more ≡ r
features_next p q f fs more r split added e =
    sym (ap (λ a. and_on a (λ made. features_added made more)) added) ∙ sym (ap (features_added p) split) ∙ e

-- the specs with those of one more feature
pub specs_next : (names : List Name) (p q : Program) (f : Feature) (fs more : List Feature) (before new all : List OwnedSpec) → fs ≡ f ∷ more → feature_added p f ≡ Ok q
    → new ≡ before ++ specs_of names p f → before ++ owned_specs names p fs ≡ all → new ++ owned_specs names q more ≡ all
specs_next names p q f fs more before new all split added pushed e =
    ap (λ specs. specs ++ owned_specs names q more) pushed ∙ append_assoc before (specs_of names p f) (owned_specs names q more)
    ∙ ap (λ made. before ++ (specs_of names p f ++ owned_specs names made more)) (sym (feature_after f p q added))
    ∙ ap (λ others. before ++ owned_specs names p others) (sym split) ∙ e

-- what a function appends for each element, with that of one more
pub appended_next : {A B : Type 0} (f : A → List B) (x : A) (xs more : List A) (before new all : List B) → xs ≡ x ∷ more → new ≡ before ++ f x → before ++ flat_map f xs ≡ all → new ++ flat_map f more ≡ all
appended_next f x xs more before new all split pushed e =
    ap (λ ys. ys ++ flat_map f more) pushed ∙ append_assoc before (f x) (flat_map f more) ∙ ap (λ ys. before ++ flat_map f ys) (sym split) ∙ e

-- ---- the lift

abbrev made_of : Program → List OwnedVar → List OwnedSpec → Lifted
made_of p vars specs = record { program = p; vars = vars; specs = specs }

made_same : (p q : Program) (v w : List OwnedVar) (s t : List OwnedSpec) → p ≡ q → v ≡ w → s ≡ t → made_of p v s ≡ made_of q w t
made_same p q v w s t e f g = cc

-- the lift, from the features applied without a fault
pub lift_finished : (family : Family) (p : Program) (lifted : Lifted) → features_added (lifted_base family.base) family.features ≡ Ok p
    → lifted.program ≡ (finished family p).program → lifted.vars ≡ (finished family p).vars → lifted.specs ≡ (finished family p).specs → lifted ≡ lift_of family
lift_finished family p lifted added program vars specs =
    made_same _ _ _ _ _ _ program vars specs ∙ ap (finished family) (sym (features_after family.features (lifted_base family.base) p added))
