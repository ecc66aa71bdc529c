-- Each reader of a part of a feature file, within limits and without.
use Rattle.std.proofs.Common.{◌≡◌, Bool, true, false, ◌&&◌, List, [], ◌∷◌, Some, None, map, refl, sym, ◌∙◌, ap}
use Rattle.std.specs.List.{list_all}
use Rattle.std.proofs.lemmas.List.Folds.{list_all-append}
use Rattle.smv_ast.specs.declared.syntax.Expr.{Expr}
use Rattle.smv_ast.specs.declared.syntax.Expr.TheVariants as e
use Rattle.smv_expr.specs.declared.kind.Kind.TheVariants as k
use Rattle.smv_expr.specs.Lexicon.{Bytes}
use Rattle.smv_expr.specs.Limits.{nesting_bound}
use Rattle.smv_expr.specs.Limits.Limit.{AnyHeight}
use Rattle.std.specs.Prelude.{nat_lt}
use Rattle.smv_expr.specs.ExprAnswer.{is_low}
use Rattle.smv_expr.proofs.HeightLemmas.{height_constant}
use Rattle.smv_expr.proofs.Limited.{Obeys, always_fits, nothing_obeys, mapped_obeys, either_obeys, gather_obeys, gather_from_obeys, and_true}
use Rattle.smv_expr.proofs.ExprLimited.{word_then, both_then, dotted_names_obeys}
use Rattle.smv_expr.proofs.ExprAnswering.{limited_obeys}
use Rattle.smv_expr.proofs.NameRules.{all_pushed, list_obeys, free_list, name_obeys, word_obeys}
use Rattle.smv_parse.specs.Readers.{the_limit}
use Rattle.smv_parse.proofs.ProgramLimited.{left_side_obeys, type_obeys, parts_obey}
use Rattle.feature_parse.specs.declared.introduced.JoinedModule.{JoinedModule}
use Rattle.feature_parse.specs.declared.introduced.IntroducedModules.{IntroducedModules}
use Rattle.feature_parse.specs.declared.changes.ActionText.{ActionText}
use Rattle.feature_parse.specs.declared.changes.ConditionalActions.{ConditionalActions}
use Rattle.feature_parse.specs.declared.changes.ModuleChanges.{ModuleChanges}
use Rattle.feature_parse.specs.declared.features.SingleFeature.{SingleFeature}
use Rattle.feature_parse.specs.declared.features.FeatureReading.{FeatureReading}
use Rattle.feature_parse.specs.Grammar as g
use Rattle.feature_parse.specs.Low.{low_joined, low_action, low_change, low_feature, low_features}
use Rattle.feature_parse.specs.Readers as r

-- ---- needs

wanted_obeys : {any : Bool} → Obeys any always_fits (r.read_wanted_type the_limit) (r.read_wanted_type (AnyHeight any))
unfolding r.read_wanted_type
wanted_obeys = mapped_obeys _ _ always_fits (λ v. refl) (word_then k.Colon type_obeys)

required_name_obeys : {any : Bool} → Obeys any always_fits (r.read_required_name the_limit) (r.read_required_name (AnyHeight any))
unfolding r.read_required_name r.read_some_wanted_type
required_name_obeys = mapped_obeys g.required_of _ always_fits (λ v. refl)
    (both_then name_obeys (both_then (either_obeys (k.Colon ∷ []) (mapped_obeys Some _ always_fits (λ v. refl) wanted_obeys) (nothing_obeys always_fits None refl)) (word_obeys k.Semicolon)))

required_vars_obey : {any : Bool} → Obeys any always_fits (r.read_required_vars the_limit) (r.read_required_vars (AnyHeight any))
unfolding r.read_required_vars r.read_more_required_names
required_vars_obey = mapped_obeys _ _ always_fits (λ v. refl) (word_then k.Var (free_list (k.Name ∷ []) required_name_obeys))

module_needs_obey : {any : Bool} → Obeys any always_fits (r.read_module_needs the_limit) (r.read_module_needs (AnyHeight any))
unfolding r.read_module_needs r.read_all_required_names
module_needs_obey = mapped_obeys g.needs_of _ always_fits (λ v. refl)
    (word_then k.Module (both_then name_obeys (gather_obeys (k.Var ∷ []) g.appended always_fits [] (λ found more. refl) refl required_vars_obey)))

some_needs_obey : {any : Bool} → Obeys any always_fits (r.read_some_needs the_limit) (r.read_some_needs (AnyHeight any))
unfolding r.read_some_needs r.read_needs r.read_more_needs
some_needs_obey = either_obeys (k.Require ∷ [])
    (mapped_obeys _ _ always_fits (λ v. refl) (word_then k.Require (gather_obeys (k.Module ∷ []) g.appended always_fits [] (λ found more. refl) refl module_needs_obey)))
    (nothing_obeys always_fits [] refl)

-- ---- what is introduced

abbrev low_joined_module : JoinedModule → Bool
low_joined_module one = low_joined one.joined

abbrev low_introduced : IntroducedModules → Bool
low_introduced found = list_all low_joined found.joins

joined_obeys : {any : Bool} → Obeys any low_joined_module (r.read_joined_module the_limit) (r.read_joined_module (AnyHeight any))
unfolding r.read_joined_module
joined_obeys = mapped_obeys g.joined_of _ low_joined_module (λ v. refl) (word_then k.Module (both_then name_obeys parts_obey))

introduced_grow : (found : IntroducedModules) (one : JoinedModule) → low_introduced (g.with_joined found one) ≡ (low_introduced found && low_joined_module one)
introduced_grow found one = all_pushed low_joined found.joins one.joined

some_introduced_obey : {any : Bool} → Obeys any low_introduced (r.read_some_introduced the_limit) (r.read_some_introduced (AnyHeight any))
unfolding r.read_some_introduced r.read_introduced r.read_more_introduced
some_introduced_obey = either_obeys (k.Introduce ∷ [])
    (mapped_obeys _ _ low_introduced (λ v. refl) (word_then k.Introduce (gather_obeys (k.Module ∷ []) g.with_joined low_introduced g.no_introduced introduced_grow refl joined_obeys)))
    (nothing_obeys low_introduced g.no_introduced refl)

-- ---- actions under a condition

abbrev low_placed : ActionText → Bool
low_placed placed = low_action placed.action

abbrev low_under : Bool → ActionText → Bool
low_under low placed = low && low_placed placed

abbrev low_conditional : ConditionalActions → Bool
low_conditional one = list_all (low_under (is_low one.cond)) one.actions

abbrev low_module_changes : ModuleChanges → Bool
low_module_changes found = list_all low_change found.changes

-- one condition for all actions, of which there is one at least
one_condition : (low : Bool) (first : ActionText) (more : List ActionText) → list_all (low_under low) (first ∷ more) ≡ low && (low_placed first && list_all low_placed more)
one_condition true first more = refl
one_condition false first more = refl

changes_low : (m : Bytes) (cond : Expr) (actions : List ActionText) → list_all low_change (map (g.change_in m cond) actions) ≡ list_all (low_under (is_low cond)) actions
changes_low m cond [] = refl
changes_low m cond (one ∷ more) = ap (λ v. low_under (is_low cond) one && v) (changes_low m cond more)

low_true : is_low e.True ≡ true
low_true = ap (λ h. nat_lt h nesting_bound) (height_constant true)

changes_grow : (found : ModuleChanges) (cond : Expr) (actions : List ActionText) → low_module_changes (g.with_changes found cond actions) ≡ (low_module_changes found && list_all (low_under (is_low cond)) actions)
changes_grow found cond actions = list_all-append low_change found.changes (map (g.change_in found.«module» cond) actions) ∙ ap (λ v. low_module_changes found && v) (changes_low found.«module» cond actions)

impose_obeys : {any : Bool} → Obeys any low_placed (r.read_impose the_limit) (r.read_impose (AnyHeight any))
unfolding r.read_impose
impose_obeys = mapped_obeys g.impose_of _ low_placed (λ v. sym (and_true (is_low v.1.1.1.0)))
    (word_then k.Impose (both_then left_side_obeys (word_then k.Becomes (both_then (limited_obeys _) (word_obeys k.Semicolon)))))

target_obeys : {any : Bool} → Obeys any always_fits r.read_target r.read_target
unfolding r.read_target
target_obeys = mapped_obeys g.target_of _ always_fits (λ v. refl) (both_then name_obeys dotted_names_obeys)

treat_obeys : {any : Bool} → Obeys any low_placed (r.read_treat the_limit) (r.read_treat (AnyHeight any))
unfolding r.read_treat
treat_obeys = mapped_obeys g.treat_of _ low_placed (λ v. sym (and_true (is_low v.1.1.1.0)))
    (word_then k.Treat (both_then target_obeys (word_then k.Equal (both_then (limited_obeys _) (word_obeys k.Semicolon)))))

action_obeys : {any : Bool} → Obeys any low_placed (r.read_action the_limit) (r.read_action (AnyHeight any))
unfolding r.read_action
action_obeys = either_obeys (k.Impose ∷ []) impose_obeys treat_obeys

conditional_obeys : {any : Bool} → Obeys any low_conditional (r.read_conditional the_limit) (r.read_conditional (AnyHeight any))
unfolding r.read_conditional r.read_more_actions
conditional_obeys = mapped_obeys g.conditional_of _ low_conditional (λ v. one_condition (is_low v.1.0) v.1.1.1.0 v.1.1.1.1)
    (word_then k.If (both_then (limited_obeys _) (word_then k.Then (both_then action_obeys (list_obeys r.first_action action_obeys)))))

unconditional_obeys : {any : Bool} → Obeys any low_module_changes (r.read_unconditional the_limit) (r.read_unconditional (AnyHeight any))
unfolding r.read_unconditional r.read_more_actions
unconditional_obeys = mapped_obeys g.unconditional_of _ low_module_changes
    (λ v. changes_low v.1.0.0 e.True v.1.1 ∙ ap (λ low. list_all (low_under low) v.1.1) low_true)
    (word_then k.Module (both_then name_obeys (list_obeys r.first_action action_obeys)))

module_changes_obey : {any : Bool} → Obeys any low_module_changes (r.read_module_changes the_limit) (r.read_module_changes (AnyHeight any))
unfolding r.read_module_changes r.read_more_conditional
module_changes_obey = gather_from_obeys (k.If ∷ []) g.with_conditional low_module_changes (λ found one. changes_grow found one.cond one.actions) unconditional_obeys conditional_obeys

some_changes_obey : {any : Bool} → Obeys any (list_all low_change) (r.read_some_changes the_limit) (r.read_some_changes (AnyHeight any))
unfolding r.read_some_changes r.read_changes r.read_more_changes
some_changes_obey = either_obeys (k.Change ∷ [])
    (mapped_obeys _ _ (list_all low_change) (λ v. refl) (word_then k.Change (gather_obeys (k.Module ∷ []) g.with_module_changes (list_all low_change) [] (λ found next. list_all-append low_change found next.changes) refl module_changes_obey)))
    (nothing_obeys (list_all low_change) [] refl)

-- ---- features

abbrev low_single : SingleFeature → Bool
low_single one = low_feature one.feature

feature_obeys : {any : Bool} → Obeys any low_single (r.read_feature the_limit) (r.read_feature (AnyHeight any))
unfolding r.read_feature
feature_obeys = mapped_obeys g.feature_of _ low_single (λ v. ap (λ low. low_introduced v.1.1.1.0 && low) (sym (and_true (list_all low_change v.1.1.1.1.0))))
    (word_then k.Feature (both_then name_obeys (both_then some_needs_obey (both_then some_introduced_obey (both_then some_changes_obey (word_obeys k.End))))))

features_grow : (found : FeatureReading) (one : SingleFeature) → low_features (g.with_feature found one) ≡ (low_features found && low_single one)
features_grow found one = all_pushed low_feature found.features one.feature

pub features_obey : {any : Bool} → Obeys any low_features (r.read_features the_limit) (r.read_features (AnyHeight any))
unfolding r.read_features
features_obey = gather_obeys (k.Feature ∷ []) g.with_feature low_features g.no_features features_grow refl feature_obeys
