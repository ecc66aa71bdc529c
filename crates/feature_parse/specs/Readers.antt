-- The reader of each part of a feature file. Within the limit, an expression or a number that passes it stops the reader.
use Rattle.std.specs.Prelude.{List, [], ◌∷◌, Option}
use Rattle.smv_ast.specs.declared.syntax.Path.{Path}
use Rattle.smv_ast.specs.declared.syntax.SmvType.{SmvType}
use Rattle.smv_ast.specs.declared.feature.Need.{Need}
use Rattle.smv_ast.specs.declared.feature.Change.{Change}
use Rattle.smv_expr.specs.declared.kind.Kind.{Kind}
use Rattle.smv_expr.specs.declared.kind.Kind.TheVariants as k
use Rattle.smv_expr.specs.Reading.{Reader, and_then, read_word, read_name, read_both, read_mapped, read_either, read_nothing, read_opt, read_many, read_fold}
use Rattle.smv_expr.specs.ExprReaders.{read_dotted_names, read_whole_expr}
use Rattle.smv_expr.specs.Limits.{Limit}
use Rattle.smv_parse.specs.Readers.{read_smv_type, read_left_side, read_parts}
use Rattle.feature_parse.specs.declared.needs.RequiredName.{RequiredName}
use Rattle.feature_parse.specs.declared.introduced.JoinedModule.{JoinedModule}
use Rattle.feature_parse.specs.declared.introduced.IntroducedModules.{IntroducedModules}
use Rattle.feature_parse.specs.declared.changes.ActionText.{ActionText}
use Rattle.feature_parse.specs.declared.changes.ConditionalActions.{ConditionalActions}
use Rattle.feature_parse.specs.declared.changes.ModuleChanges.{ModuleChanges}
use Rattle.feature_parse.specs.declared.features.SingleFeature.{SingleFeature}
use Rattle.feature_parse.specs.declared.features.FeatureReading.{FeatureReading}
use Rattle.feature_parse.specs.Grammar.{appended, required_of, needs_of, joined_of, no_introduced, with_joined, impose_of, target_of, treat_of, conditional_of, unconditional_of, with_conditional, with_module_changes, feature_of, no_features, with_feature}

-- what an action begins with
abbrev pub first_action : List Kind
first_action = k.Impose ∷ k.Treat ∷ []

-- id { . id }
unfoldable pub read_target : Reader Path
read_target = read_mapped target_of (read_both read_name read_dotted_names)

module _ (limit : Limit) where
  -- ---- needs

  -- : type
  unfoldable pub read_wanted_type : Reader SmvType
  read_wanted_type = read_mapped (λ p. p.1) (read_both (read_word k.Colon) (read_smv_type limit))

  -- [ : type ]
  unfoldable pub read_some_wanted_type : Reader (Option SmvType)
  read_some_wanted_type = read_opt (k.Colon ∷ []) read_wanted_type

  -- id [ : type ] ;
  unfoldable pub read_required_name : Reader RequiredName
  read_required_name = read_mapped required_of
      (read_both read_name (read_both read_some_wanted_type (read_word k.Semicolon)))

  -- { id [ : type ] ; }
  unfoldable pub read_more_required_names : Reader (List RequiredName)
  read_more_required_names = read_many (k.Name ∷ []) read_required_name

  -- VAR { id [ : type ] ; }
  unfoldable pub read_required_vars : Reader (List RequiredName)
  read_required_vars = read_mapped (λ p. p.1)
      (read_both (read_word k.Var) read_more_required_names)

  -- { VAR .. }
  unfoldable pub read_all_required_names : Reader (List RequiredName)
  read_all_required_names = read_fold (k.Var ∷ []) read_required_vars appended []

  -- MODULE id { VAR .. }
  unfoldable pub read_module_needs : Reader (List Need)
  read_module_needs = read_mapped needs_of
      (read_both (read_word k.Module) (read_both read_name read_all_required_names))

  -- { MODULE .. }
  unfoldable pub read_more_needs : Reader (List Need)
  read_more_needs = read_fold (k.Module ∷ []) read_module_needs appended []

  -- REQUIRE { MODULE .. }
  unfoldable pub read_needs : Reader (List Need)
  read_needs = read_mapped (λ p. p.1) (read_both (read_word k.Require) read_more_needs)

  -- [ REQUIRE .. ]
  unfoldable pub read_some_needs : Reader (List Need)
  read_some_needs = read_either (k.Require ∷ []) read_needs (read_nothing [])

  -- ---- what is introduced

  -- MODULE id { section }
  unfoldable pub read_joined_module : Reader JoinedModule
  read_joined_module = read_mapped joined_of
      (read_both (read_word k.Module) (read_both read_name (read_parts limit)))

  -- { MODULE .. }
  unfoldable pub read_more_introduced : Reader IntroducedModules
  read_more_introduced = read_fold (k.Module ∷ []) read_joined_module with_joined no_introduced

  -- INTRODUCE { MODULE .. }
  unfoldable pub read_introduced : Reader IntroducedModules
  read_introduced = read_mapped (λ p. p.1) (read_both (read_word k.Introduce) read_more_introduced)

  -- [ INTRODUCE .. ]
  unfoldable pub read_some_introduced : Reader IntroducedModules
  read_some_introduced = read_either (k.Introduce ∷ []) read_introduced (read_nothing no_introduced)

  -- ---- changes

  -- IMPOSE left side := expr ;
  unfoldable pub read_impose : Reader ActionText
  read_impose = read_mapped impose_of
      (read_both (read_word k.Impose)
      (read_both read_left_side
      (read_both (read_word k.Becomes)
      (read_both (read_whole_expr limit) (read_word k.Semicolon)))))

  -- TREAT id { . id } = expr ;
  unfoldable pub read_treat : Reader ActionText
  read_treat = read_mapped treat_of
      (read_both (read_word k.Treat)
      (read_both read_target
      (read_both (read_word k.Equal)
      (read_both (read_whole_expr limit) (read_word k.Semicolon)))))

  -- an action
  unfoldable pub read_action : Reader ActionText
  read_action = read_either (k.Impose ∷ []) read_impose read_treat

  -- { action }
  unfoldable pub read_more_actions : Reader (List ActionText)
  read_more_actions = read_many first_action read_action

  -- IF expr THEN action { action }
  unfoldable pub read_conditional : Reader ConditionalActions
  read_conditional = read_mapped conditional_of
      (read_both (read_word k.If)
      (read_both (read_whole_expr limit)
      (read_both (read_word k.Then) (read_both read_action read_more_actions))))

  -- MODULE id { action }
  unfoldable pub read_unconditional : Reader ModuleChanges
  read_unconditional = read_mapped unconditional_of
      (read_both (read_word k.Module) (read_both read_name read_more_actions))

  -- { IF .. }, after what is there
  unfoldable pub read_more_conditional : ModuleChanges → Reader ModuleChanges
  read_more_conditional found = read_fold (k.If ∷ []) read_conditional with_conditional found

  -- MODULE id { action } { IF .. }
  unfoldable pub read_module_changes : Reader ModuleChanges
  read_module_changes ts = and_then (read_unconditional ts) read_more_conditional

  -- { MODULE .. }
  unfoldable pub read_more_changes : Reader (List Change)
  read_more_changes = read_fold (k.Module ∷ []) read_module_changes with_module_changes []

  -- CHANGE { MODULE .. }
  unfoldable pub read_changes : Reader (List Change)
  read_changes = read_mapped (λ p. p.1) (read_both (read_word k.Change) read_more_changes)

  -- [ CHANGE .. ]
  unfoldable pub read_some_changes : Reader (List Change)
  read_some_changes = read_either (k.Change ∷ []) read_changes (read_nothing [])

  -- ---- features

  -- FEATURE id [ REQUIRE .. ] [ INTRODUCE .. ] [ CHANGE .. ] END
  unfoldable pub read_feature : Reader SingleFeature
  read_feature = read_mapped feature_of
      (read_both (read_word k.Feature)
      (read_both read_name
      (read_both read_some_needs
      (read_both read_some_introduced (read_both read_some_changes (read_word k.End))))))

  -- { feature }
  unfoldable pub read_features : Reader FeatureReading
  read_features = read_fold (k.Feature ∷ []) read_feature with_feature no_features
