-- The grammar of feature files, over the language W of their expressions. Each value is the tree that a list of tokens stands
-- for, with its spans: a feature stands at its word FEATURE, a need at its name, a change at its word IMPOSE or TREAT.
use Rattle.std.specs.Prelude.{ℕ, Bool, List, [], ◌∷◌, ◌++◌, map, fold, Option, None}
use Rattle.smv_ast.specs.declared.syntax.Span.{Span}
use Rattle.smv_ast.specs.declared.syntax.Expr.{Expr}
use Rattle.smv_ast.specs.declared.syntax.Expr.TheVariants as e
use Rattle.smv_ast.specs.declared.syntax.Path.{Path}
use Rattle.smv_ast.specs.declared.syntax.SmvType.{SmvType}
use Rattle.smv_ast.specs.declared.feature.Need.{Need}
use Rattle.smv_ast.specs.declared.feature.Action.TheVariants.{Impose, Treat}
use Rattle.smv_ast.specs.declared.feature.Change.{Change}
use Rattle.smv_expr.specs.declared.kind.Kind.TheVariants as k
use Rattle.smv_expr.specs.Lexicon.{Bytes}
use Rattle.smv_expr.specs.Language.{Lang, Tokens, word, name, both, many, opt, either, mapped, nothing}
use Rattle.smv_expr.specs.ExprGrammar.{dotted, expr}
use Rattle.smv_parse.specs.declared.names.LeftSide.{LeftSide}
use Rattle.smv_parse.specs.declared.sections.Parts.{Parts}
use Rattle.smv_parse.specs.Grammar.{smv_type, left_side, all_parts}
use Rattle.feature_parse.specs.declared.needs.RequiredName.{RequiredName}
use Rattle.feature_parse.specs.declared.introduced.JoinedModule.{JoinedModule}
use Rattle.feature_parse.specs.declared.introduced.IntroducedModules.{IntroducedModules}
use Rattle.feature_parse.specs.declared.changes.ActionText.{ActionText}
use Rattle.feature_parse.specs.declared.changes.ConditionalActions.{ConditionalActions}
use Rattle.feature_parse.specs.declared.changes.ModuleChanges.{ModuleChanges}
use Rattle.feature_parse.specs.declared.features.SingleFeature.{SingleFeature}
use Rattle.feature_parse.specs.declared.features.FeatureReading.{FeatureReading}

-- the one list, and then the other
abbrev pub appended : {A : Type 0} → List A → List A → List A
appended found more = found ++ more

-- ---- the trees of needs

-- a name with its type, which stands at the name
abbrev pub required_of : (Bytes × Span) × (Option SmvType × Span) → RequiredName
required_of p = record { name = p.0.0; wanted = p.1.0; at = p.0.1 }

-- the need of a name in a module
abbrev pub need_in : Bytes → RequiredName → Need
need_in m required = record {
  «module» = m;
  name = required.name;
  wanted = required.wanted;
  at = required.at;
}

-- The needs of a module: one for each name. Without names it is one with an empty name, which stands at that of the module.
abbrev pub needs_in : Bytes × Span → List RequiredName → List Need
needs_in m [] = (record { «module» = m.0; name = []; wanted = None; at = m.1 }) ∷ []
needs_in m (first ∷ more) = map (need_in m.0) (first ∷ more)

-- the needs of a module, given the parts of their text
abbrev pub needs_of : Span × ((Bytes × Span) × List RequiredName) → List Need
needs_of p = needs_in p.1.0 p.1.1

-- ---- the trees of what is introduced

-- what a module gets, which stands at the word MODULE
abbrev pub joined_of : Span × ((Bytes × Span) × Parts) → JoinedModule
joined_of p = record {
  joined = record { «module» = p.1.0.0; sections = p.1.1.sections; at = p.0 };
  skipped = p.1.1.skipped;
}

-- nothing is introduced
abbrev pub no_introduced : IntroducedModules
no_introduced = record { joins = []; skipped = [] }

-- what one more module gets, after the others
abbrev pub with_joined : IntroducedModules → JoinedModule → IntroducedModules
with_joined found next = record {
  joins = found.joins ++ next.joined ∷ [];
  skipped = found.skipped ++ next.skipped;
}

-- ---- the trees of changes

-- the tree of an IMPOSE, which stands at that word
abbrev pub impose_of : Span × (LeftSide × (Span × (Expr × Span))) → ActionText
impose_of p = record { action = Impose p.1.0.left p.1.0.name p.1.1.1.0; at = p.0 }

-- the path of a TREAT, which stands at its first name
abbrev pub target_of : (Bytes × Span) × List Bytes → Path
target_of p = record { names = p.0.0 ∷ p.1; at = p.0.1 }

-- the tree of a TREAT, which stands at that word
abbrev pub treat_of : Span × (Path × (Span × (Expr × Span))) → ActionText
treat_of p = record { action = Treat p.1.0 p.1.1.1.0; at = p.0 }

-- a condition with its actions
abbrev pub conditional_of : Span × (Expr × (Span × (ActionText × List ActionText)))
    → ConditionalActions
conditional_of p = record { cond = p.1.0; actions = p.1.1.1.0 ∷ p.1.1.1.1 }

-- an action in a module, under a condition
abbrev pub change_in : Bytes → Expr → ActionText → Change
change_in m cond placed = record {
  «module» = m;
  cond = cond;
  action = placed.action;
  at = placed.at;
}

-- no changes of the module
abbrev pub no_changes : Bytes → ModuleChanges
no_changes m = record { «module» = m; changes = [] }

-- the actions under the condition, after the others
abbrev pub with_changes : ModuleChanges → Expr → List ActionText → ModuleChanges
with_changes found cond actions = record found {
  changes = found.changes ++ map (change_in found.«module» cond) actions;
}

-- the actions before the first condition, which are always in effect
abbrev pub unconditional_of : Span × ((Bytes × Span) × List ActionText) → ModuleChanges
unconditional_of p = with_changes (no_changes p.1.0.0) e.True p.1.1

-- the actions of one more condition, after the others
abbrev pub with_conditional : ModuleChanges → ConditionalActions → ModuleChanges
with_conditional found next = with_changes found next.cond next.actions

-- the changes of one more module, after the others
abbrev pub with_module_changes : List Change → ModuleChanges → List Change
with_module_changes found next = found ++ next.changes

-- ---- the trees of features

-- a feature with what is skipped in it
abbrev pub feature_of : Span
    × ((Bytes × Span) × (List Need × (IntroducedModules × (List Change × Span)))) → SingleFeature
feature_of p = record {
  feature = record {
    name = p.1.0.0;
    needs = p.1.1.0;
    joins = p.1.1.1.0.joins;
    changes = p.1.1.1.1.0;
    at = p.0;
  };
  skipped = p.1.1.1.0.skipped;
}

-- no features
abbrev pub no_features : FeatureReading
no_features = record { features = []; skipped = [] }

-- one more feature after the others
abbrev pub with_feature : FeatureReading → SingleFeature → FeatureReading
with_feature found next = record {
  features = found.features ++ next.feature ∷ [];
  skipped = found.skipped ++ next.skipped;
}

-- ---- the grammar

-- id { . id }
abbrev pub target : Lang Path
target = mapped target_of (both name (many dotted))

-- the truth value tells whether numerals may be of any size
module _ (any : Bool) (W : Expr → Tokens → Type 0) where
  -- : type
  abbrev pub wanted_type : Lang SmvType
  wanted_type = mapped (λ p. p.1) (both (word k.Colon) (smv_type any))

  -- id [ : type ] ;
  abbrev pub required_name : Lang RequiredName
  required_name = mapped required_of (both name (both (opt wanted_type) (word k.Semicolon)))

  -- VAR { id [ : type ] ; }
  abbrev pub required_vars : Lang (List RequiredName)
  required_vars = mapped (λ p. p.1) (both (word k.Var) (many required_name))

  -- MODULE id { VAR .. }
  abbrev pub module_needs : Lang (List Need)
  module_needs = mapped needs_of
      (both (word k.Module) (both name (mapped (fold appended []) (many required_vars))))

  -- REQUIRE { MODULE .. }
  abbrev pub needs : Lang (List Need)
  needs = mapped (λ p. p.1) (both (word k.Require) (mapped (fold appended []) (many module_needs)))

  -- MODULE id { section }
  abbrev pub joined_module : Lang JoinedModule
  joined_module = mapped joined_of (both (word k.Module) (both name (all_parts any W)))

  -- INTRODUCE { MODULE .. }
  abbrev pub introduced : Lang IntroducedModules
  introduced = mapped (λ p. p.1)
      (both (word k.Introduce) (mapped (fold with_joined no_introduced) (many joined_module)))

  -- IMPOSE left side := expr ;
  abbrev pub impose : Lang ActionText
  impose = mapped impose_of
      (both (word k.Impose) (both left_side (both (word k.Becomes) (both W (word k.Semicolon)))))

  -- TREAT id { . id } = expr ;
  abbrev pub treat : Lang ActionText
  treat = mapped treat_of
      (both (word k.Treat) (both target (both (word k.Equal) (both W (word k.Semicolon)))))

  -- an action
  abbrev pub action : Lang ActionText
  action = either impose treat

  -- IF expr THEN action { action }
  abbrev pub conditional : Lang ConditionalActions
  conditional = mapped conditional_of
      (both (word k.If) (both W (both (word k.Then) (both action (many action)))))

  -- MODULE id { action }
  abbrev pub unconditional : Lang ModuleChanges
  unconditional = mapped unconditional_of (both (word k.Module) (both name (many action)))

  -- MODULE id { action } { IF .. }
  abbrev pub module_changes : Lang ModuleChanges
  module_changes = mapped (λ p. fold with_conditional p.0 p.1)
      (both unconditional (many conditional))

  -- CHANGE { MODULE .. }
  abbrev pub changes : Lang (List Change)
  changes = mapped (λ p. p.1)
      (both (word k.Change) (mapped (fold with_module_changes []) (many module_changes)))

  -- FEATURE id [ REQUIRE .. ] [ INTRODUCE .. ] [ CHANGE .. ] END
  abbrev pub one_feature : Lang SingleFeature
  one_feature = mapped feature_of
      (both (word k.Feature) (both name
      (both (either needs (nothing [])) (both (either introduced (nothing no_introduced))
      (both (either changes (nothing [])) (word k.End))))))

  -- { feature }
  abbrev pub features_of : Lang FeatureReading
  features_of = mapped (fold with_feature no_features) (many one_feature)

-- features with fewer constructs open at any point of an expression than the number
abbrev pub features : Bool → ℕ → FeatureReading → Tokens → Type 0
features any m = features_of any (expr any m)
