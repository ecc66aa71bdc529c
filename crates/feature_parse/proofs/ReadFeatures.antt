-- All features that are read from a file are printable: their names are identifiers, their numbers within the limit.
use Rattle.std.proofs.Common.{◌≡◌, ℕ, Bool, true, false, List, [], ◌∷◌, ◌++◌, Option, Some, None, map, refl}
use Rattle.std.specs.Prelude.{Result, Ok, Err, IfOk}
use Rattle.smv_ast.specs.declared.fault.Fault.{Fault}
use Rattle.smv_ast.specs.declared.syntax.Span.{Span}
use Rattle.smv_ast.specs.declared.syntax.Expr.{Expr}
use Rattle.smv_ast.specs.declared.syntax.Expr.TheVariants as e
use Rattle.smv_ast.specs.declared.syntax.SmvType.{SmvType}
use Rattle.smv_ast.specs.declared.feature.Need.{Need}
use Rattle.smv_ast.specs.declared.feature.Change.{Change}
use Rattle.smv_expr.specs.Lexicon.{Bytes, tokens}
use Rattle.smv_expr.specs.Language.{Tokens}
use Rattle.smv_expr.specs.Limits.{nesting_bound}
use Rattle.smv_expr.specs.ExprGrammar.{expr}
use Rattle.smv_expr.specs.RoundTrip.{is_name, all_are}
use Rattle.smv_expr.proofs.Booleans.{both_left, both_right}
use Rattle.smv_expr.proofs.ReadTrees.{Keeps, IsOk, IfSome, Each, both_true, file_spelled, text_read, all_true, folded, p_true, keeps_name, keeps_both, keeps_first, keeps_second, keeps_mapped, keeps_either, keeps_nothing, keeps_opt, keeps_many, keeps_chain, keeps_expr}
use Rattle.smv_parse.specs.RoundTrip.{is_printable_type}
use Rattle.smv_parse.proofs.ReadModels.{keeps_left_side, keeps_type, keeps_parts}
use Rattle.feature_parse.specs.declared.needs.RequiredName.{RequiredName}
use Rattle.feature_parse.specs.declared.introduced.JoinedModule.{JoinedModule}
use Rattle.feature_parse.specs.declared.introduced.IntroducedModules.{IntroducedModules}
use Rattle.feature_parse.specs.declared.changes.ActionText.{ActionText}
use Rattle.feature_parse.specs.declared.changes.ConditionalActions.{ConditionalActions}
use Rattle.feature_parse.specs.declared.changes.ModuleChanges.{ModuleChanges}
use Rattle.feature_parse.specs.declared.features.SingleFeature.{SingleFeature}
use Rattle.feature_parse.specs.declared.features.FeatureReading.{FeatureReading}
use Rattle.feature_parse.specs.Grammar as g
use Rattle.feature_parse.specs.Grammar.{features}
use Rattle.feature_parse.specs.Low.{low_features}
use Rattle.feature_parse.specs.Answer.{limited_features, FeaturesAnswer}
use Rattle.feature_parse.specs.Printable.{PrintableFeatures, is_printable_wanted, is_required_name, is_printable_need, is_printable_joined, is_printable_path, is_printable_action, is_printable_change, is_printable_feature}

-- ---- lists

all_append : {A : Type 0} (test : A → Bool) (items more : List A) → all_are (map test items) ≡ true → all_are (map test more) ≡ true → all_are (map test (items ++ more)) ≡ true
all_append test [] more h i = i
all_append test (a ∷ items) more h i = both_true _ _ (both_left _ _ h) (all_append test items more (both_right _ _ h) i)

all_pushed : {A : Type 0} (test : A → Bool) (items : List A) (a : A) → all_are (map test items) ≡ true → test a ≡ true → all_are (map test (items ++ a ∷ [])) ≡ true
all_pushed test items a h i = all_append test items (a ∷ []) h (both_true _ _ i refl)

-- ---- needs

abbrev IsOkRequired : RequiredName → Type 0
IsOkRequired one = (is_name one.name ≡ true) × (is_printable_wanted one.wanted ≡ true)

abbrev AreOkNeeds : List Need → Type 0
AreOkNeeds needs = all_are (map is_printable_need needs) ≡ true

wanted_ok : (wanted : Option SmvType) → IfSome (λ t. is_printable_type t ≡ true) wanted → is_printable_wanted wanted ≡ true
wanted_ok None h = refl
wanted_ok (Some t) h = h

name_required : (name : Bytes) → is_name name ≡ true → is_required_name name ≡ true
name_required [] h = refl
name_required (b ∷ more) h = h

each_appended : {A : Type 0} (P : A → Type 0) (items more : List A) → Each P items → Each P more → Each P (items ++ more)
each_appended P [] more h i = i
each_appended P (a ∷ items) more h i = (h.0, each_appended P items more h.1 i)

needs_ok : (m : Bytes) (names : List RequiredName) → is_name m ≡ true → Each IsOkRequired names → AreOkNeeds (map (g.need_in m) names)
needs_ok m [] h i = refl
needs_ok m (one ∷ more) h i = both_true _ _ (both_true _ _ h (both_true _ _ (name_required one.name i.0.0) i.0.1)) (needs_ok m more h i.1)

module_ok : (m : Bytes × Span) (names : List RequiredName) → is_name m.0 ≡ true → Each IsOkRequired names → AreOkNeeds (g.needs_in m names)
module_ok m [] h i = both_true _ _ (both_true _ _ h refl) refl
module_ok m (one ∷ more) h i = needs_ok m.0 (one ∷ more) h i

-- ---- changes

abbrev IsOkAction : ActionText → Type 0
IsOkAction placed = is_printable_action placed.action ≡ true

abbrev IsOkConditional : ConditionalActions → Type 0
IsOkConditional one = IsOk one.cond × Each IsOkAction one.actions

abbrev AreOkChanges : List Change → Type 0
AreOkChanges changes = all_are (map is_printable_change changes) ≡ true

abbrev IsOkModule : ModuleChanges → Type 0
IsOkModule found = (is_name found.«module» ≡ true) × AreOkChanges found.changes

changes_ok : (m : Bytes) (cond : Expr) (actions : List ActionText) → is_name m ≡ true → IsOk cond → Each IsOkAction actions → AreOkChanges (map (g.change_in m cond) actions)
changes_ok m cond [] h c i = refl
changes_ok m cond (one ∷ more) h c i = both_true _ _ (both_true _ _ h (both_true _ _ c i.0)) (changes_ok m cond more h c i.1)

with_ok : (found : ModuleChanges) (cond : Expr) (actions : List ActionText) → IsOkModule found → IsOk cond → Each IsOkAction actions → IsOkModule (g.with_changes found cond actions)
with_ok found cond actions h c i = (h.0, all_append is_printable_change found.changes (map (g.change_in found.«module» cond) actions) h.1 (changes_ok found.«module» cond actions h.0 c i))

keeps_target : Keeps (λ p. is_printable_path p ≡ true) g.target
keeps_target = keeps_mapped g.target_of (λ v h. both_true _ _ h.0 (all_true is_name v.1 h.1)) (keeps_both keeps_name (keeps_many (keeps_mapped _ (λ v h. h) (keeps_second keeps_name))))

-- ---- the grammar

abbrev AreOkIntroduced : IntroducedModules → Type 0
AreOkIntroduced found = all_are (map is_printable_joined found.joins) ≡ true

abbrev IsOkJoined : JoinedModule → Type 0
IsOkJoined one = is_printable_joined one.joined ≡ true

abbrev IsOkFeature : SingleFeature → Type 0
IsOkFeature one = is_printable_feature one.feature ≡ true

module _ (W : Expr → Tokens → Type 0) (w : Keeps IsOk W) where
  keeps_required : Keeps IsOkRequired (g.required_name false W)
  keeps_required = keeps_mapped g.required_of (λ v h. (h.0, wanted_ok v.1.0 h.1)) (keeps_both keeps_name (keeps_first (keeps_opt (keeps_mapped _ (λ v h. h) (keeps_second keeps_type)))))

  keeps_vars : Keeps (Each IsOkRequired) (g.required_vars false W)
  keeps_vars = keeps_mapped _ (λ v h. h) (keeps_second (keeps_many keeps_required))

  keeps_module_needs : Keeps AreOkNeeds (g.module_needs false W)
  keeps_module_needs = keeps_mapped g.needs_of (λ v h. module_ok v.1.0 v.1.1 h.0 h.1)
      (keeps_second (keeps_both keeps_name (keeps_mapped _ (λ lists h. folded (Each IsOkRequired) (Each IsOkRequired) g.appended (each_appended IsOkRequired) [] lists tt h) (keeps_many keeps_vars))))

  keeps_needs : Keeps AreOkNeeds (g.needs false W)
  keeps_needs = keeps_mapped _ (λ v h. h)
      (keeps_second {Q = AreOkNeeds} (keeps_mapped _ (λ lists h. folded AreOkNeeds AreOkNeeds g.appended (λ found more. all_append is_printable_need found more) [] lists refl h) (keeps_many keeps_module_needs)))

  keeps_joined : Keeps IsOkJoined (g.joined_module false W)
  keeps_joined = keeps_mapped g.joined_of (λ v h. both_true _ _ h.0 h.1) (keeps_second (keeps_both keeps_name (keeps_parts W w)))

  keeps_introduced : Keeps AreOkIntroduced (g.introduced false W)
  keeps_introduced = keeps_mapped _ (λ v h. h)
      (keeps_second {Q = AreOkIntroduced} (keeps_mapped _ (λ items h. folded AreOkIntroduced IsOkJoined g.with_joined (λ found one. all_pushed is_printable_joined found.joins one.joined) g.no_introduced items refl h) (keeps_many keeps_joined)))

  keeps_action : Keeps IsOkAction (g.action false W)
  keeps_action = keeps_either
      (keeps_mapped g.impose_of (λ v h. both_true _ _ h.0 h.1) (keeps_second (keeps_both keeps_left_side (keeps_second (keeps_first w)))))
      (keeps_mapped g.treat_of (λ v h. both_true _ _ h.0 h.1) (keeps_second (keeps_both keeps_target (keeps_second (keeps_first w)))))

  keeps_conditional : Keeps IsOkConditional (g.conditional false W)
  keeps_conditional = keeps_mapped g.conditional_of (λ v h. h) (keeps_second (keeps_both w (keeps_second (keeps_both keeps_action (keeps_many keeps_action)))))

  keeps_unconditional : Keeps IsOkModule (g.unconditional false W)
  keeps_unconditional = keeps_mapped g.unconditional_of (λ v h. with_ok (g.no_changes v.1.0.0) e.True v.1.1 (h.0, refl) p_true h.1) (keeps_second (keeps_both keeps_name (keeps_many keeps_action)))

  keeps_module_changes : Keeps IsOkModule (g.module_changes false W)
  keeps_module_changes = keeps_chain {P = IsOkModule} {Q = IsOkConditional} g.with_conditional (λ found one h i. with_ok found one.cond one.actions h i.0 i.1) keeps_unconditional keeps_conditional

  keeps_changes : Keeps AreOkChanges (g.changes false W)
  keeps_changes = keeps_mapped _ (λ v h. h)
      (keeps_second {Q = AreOkChanges} (keeps_mapped _ (λ items h. folded AreOkChanges IsOkModule g.with_module_changes (λ found next h i. all_append is_printable_change found next.changes h i.1) [] items refl h) (keeps_many keeps_module_changes)))

  keeps_feature : Keeps IsOkFeature (g.one_feature false W)
  keeps_feature = keeps_mapped g.feature_of (λ v h. both_true _ _ h.0 (both_true _ _ h.1.0 (both_true _ _ h.1.1.0 h.1.1.1)))
      (keeps_second (keeps_both keeps_name (keeps_both {P = AreOkNeeds} (keeps_either keeps_needs (keeps_nothing [] refl))
      (keeps_both {P = AreOkIntroduced} (keeps_either keeps_introduced (keeps_nothing g.no_introduced refl)) (keeps_first {P = AreOkChanges} (keeps_either keeps_changes (keeps_nothing [] refl)))))))

  keeps_features : Keeps PrintableFeatures (g.features_of false W)
  keeps_features = keeps_mapped _ (λ items h. folded PrintableFeatures IsOkFeature g.with_feature (λ found one. all_pushed is_printable_feature found.features one.feature) g.no_features items refl h) (keeps_many keeps_feature)

-- ---- what is answered

pub answer_printable : (file : ℕ) (bytes : Bytes) (result : Result FeatureReading Fault) → FeaturesAnswer file bytes result → IfOk result PrintableFeatures
answer_printable file bytes (Ok r) x = (keeps_features (expr false nesting_bound) (keeps_expr nesting_bound)).at r (tokens file bytes) (file_spelled file bytes) (text_read features low_features file bytes r (limited_features (tokens file bytes)) x.is x.verdict)
answer_printable file bytes (Err f) x = tt
