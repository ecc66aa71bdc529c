-- Each reader of a part of a feature file, without limits on numbers and heights, keeps its rule.
use Rattle.std.proofs.Common.{◌≡◌, ℕ, Bool, true, List, [], ◌∷◌, ◌++◌, refl, sym, subst, inl, inr}
use Rattle.smv_ast.specs.declared.syntax.Expr.{Expr}
use Rattle.smv_expr.specs.declared.kind.Kind.{Kind}
use Rattle.smv_expr.specs.declared.kind.Kind.TheVariants as k
use Rattle.smv_expr.specs.Lexicon.{same_kind}
use Rattle.smv_expr.specs.Language.{Tokens, begins, word, both, either, nothing}
use Rattle.smv_expr.specs.Limits.{nesting_bound}
use Rattle.smv_expr.specs.Limits.Limit.{AnyHeight}
use Rattle.smv_expr.specs.ExprGrammar.{expr}
use Rattle.smv_expr.specs.ExprReaders.{read_whole_expr}
use Rattle.smv_expr.proofs.Rules.{Rule, Starts, begins-append}
use Rattle.smv_expr.proofs.Sets.{within, begins_within}
use Rattle.smv_expr.proofs.Words.{always, starts_word, starts_name, starts_dep, starts_mapped, starts_either, starts_more, leaves_all, leaves_start, leaves_nothing, leaves_many, tok_name, none, seq, after, before, map, alt, maybe, collect, gather, gather_from}
use Rattle.smv_expr.proofs.ExprRules.{follow_expr, follow_path, expr_rules, dotted_names_rule}
use Rattle.smv_parse.proofs.ProgramRules.{follow_parts, follow_program, left_side_rule, type_rule, parts_rule}
use Rattle.feature_parse.specs.Grammar as g
use Rattle.feature_parse.specs.Grammar.{features}
use Rattle.feature_parse.specs.Readers as r

-- ---- with what each part goes on

abbrev follow_module_needs : List Kind
follow_module_needs = k.Var ∷ k.Name ∷ []

abbrev follow_needs : List Kind
follow_needs = k.Require ∷ k.Module ∷ follow_module_needs

abbrev follow_introduced : List Kind
follow_introduced = k.Introduce ∷ follow_program

abbrev follow_module_changes : List Kind
follow_module_changes = k.If ∷ r.first_action

abbrev follow_changes : List Kind
follow_changes = k.Change ∷ k.Module ∷ follow_module_changes

-- ---- a part that may be missing, and what comes after it

starts_optional : {A B : Type 0} {L : ℕ → A → Tokens → Type 0} {M : ℕ → B → Tokens → Type 0} {first : List Kind} (set : List Kind) (v : A) → within first set ≡ true → Starts first L → Starts set M → Starts set (λ m. both (either (L m) (nothing v)) (M m))
starts_optional {A = A} {B = B} {L = L} {M = M} {first = first} set v w s t = record { at = λ m b f h. subst (λ (x : Tokens). begins set x ≡ true) (sym h.split) (by_case m b h.prefix h.suffix h.first (t.at m b.1 h.suffix h.second)) } where
  by_case : (m : ℕ) (b : A × B) (x y : Tokens) → either (L m) (nothing v) b.0 x → begins set y ≡ true → begins set (x ++ y) ≡ true
  by_case m b x y (inl h) i = begins-append set x y (begins_within first set w x (s.at m b.0 x h))
  by_case m b x y (inr h) i = subst (λ (z : Tokens). begins set (z ++ y) ≡ true) (sym h.1) i

-- ---- the rules. Expressions are read with as many open constructs as features may have.

target_rule : Rule nesting_bound (λ m. g.target) (always follow_path) r.read_target
unfolding r.read_target
target_rule = map g.target_of (seq tok_name dotted_names_rule (leaves_all _ (always follow_path)))

-- a part of the grammar, at each depth
abbrev At : {A : Type 0} → Bool → (Bool → (Expr → Tokens → Type 0) → A → Tokens → Type 0) → ℕ → A → Tokens → Type 0
At any F m = F any (expr any m)

module _ (any : Bool) where
  -- ---- needs

  wanted_rule : Rule nesting_bound (At any g.wanted_type) (always []) (r.read_wanted_type (AnyHeight any))
  unfolding r.read_wanted_type
  wanted_rule = map _ (after k.Colon (type_rule any))

  starts_wanted : Starts (k.Colon ∷ []) (At any g.wanted_type)
  unfolding same_kind
  starts_wanted = starts_mapped _ (starts_dep _ (starts_word k.Colon _ refl))

  required_name_rule : Rule nesting_bound (At any g.required_name) (always []) (r.read_required_name (AnyHeight any))
  unfolding r.read_required_name r.read_some_wanted_type same_kind
  required_name_rule = map _ (seq tok_name (before k.Semicolon refl (maybe (k.Colon ∷ []) (k.Colon ∷ []) wanted_rule refl refl refl starts_wanted)) (leaves_all _ (always [])))

  starts_required_name : Starts (k.Name ∷ []) (At any g.required_name)
  unfolding same_kind
  starts_required_name = starts_mapped _ (starts_dep _ (starts_name _ refl))

  required_vars_rule : Rule nesting_bound (At any g.required_vars) (always (k.Name ∷ [])) (r.read_required_vars (AnyHeight any))
  unfolding r.read_required_vars r.read_more_required_names same_kind
  required_vars_rule = map _ (after k.Var (collect (k.Name ∷ []) (k.Name ∷ []) required_name_rule starts_required_name refl refl refl))

  starts_required_vars : Starts (k.Var ∷ []) (At any g.required_vars)
  unfolding same_kind
  starts_required_vars = starts_mapped _ (starts_dep _ (starts_word k.Var _ refl))

  module_needs_rule : Rule nesting_bound (At any g.module_needs) (always follow_module_needs) (r.read_module_needs (AnyHeight any))
  unfolding r.read_module_needs r.read_all_required_names same_kind
  module_needs_rule = map g.needs_of (after k.Module (seq tok_name (gather (k.Var ∷ []) follow_module_needs g.appended [] required_vars_rule starts_required_vars refl refl refl) (leaves_all _ (always follow_module_needs))))

  starts_module_needs : Starts (k.Module ∷ []) (At any g.module_needs)
  unfolding same_kind
  starts_module_needs = starts_mapped _ (starts_dep _ (starts_word k.Module _ refl))

  needs_rule : Rule nesting_bound (At any g.needs) (always (k.Module ∷ follow_module_needs)) (r.read_needs (AnyHeight any))
  unfolding r.read_needs r.read_more_needs same_kind
  needs_rule = map _ (after k.Require (gather (k.Module ∷ []) (k.Module ∷ follow_module_needs) g.appended [] module_needs_rule starts_module_needs refl refl refl))

  starts_needs : Starts (k.Require ∷ []) (At any g.needs)
  unfolding same_kind
  starts_needs = starts_mapped _ (starts_dep _ (starts_word k.Require _ refl))

  some_needs_rule : Rule nesting_bound (λ m. either (g.needs any (expr any m)) (nothing [])) (always follow_needs) (r.read_some_needs (AnyHeight any))
  unfolding r.read_some_needs same_kind
  some_needs_rule = alt (k.Require ∷ []) follow_needs needs_rule (none (always []) []) refl refl starts_needs (leaves_nothing [] _ _ refl)

  -- ---- what is introduced

  joined_rule : Rule nesting_bound (At any g.joined_module) (always follow_parts) (r.read_joined_module (AnyHeight any))
  unfolding r.read_joined_module
  joined_rule = map g.joined_of (after k.Module (seq tok_name (parts_rule any) (leaves_all _ (always follow_parts))))

  starts_joined : Starts (k.Module ∷ []) (At any g.joined_module)
  unfolding same_kind
  starts_joined = starts_mapped _ (starts_dep _ (starts_word k.Module _ refl))

  introduced_rule : Rule nesting_bound (At any g.introduced) (always follow_program) (r.read_introduced (AnyHeight any))
  unfolding r.read_introduced r.read_more_introduced same_kind
  introduced_rule = map _ (after k.Introduce (gather (k.Module ∷ []) follow_program g.with_joined g.no_introduced joined_rule starts_joined refl refl refl))

  starts_introduced : Starts (k.Introduce ∷ []) (At any g.introduced)
  unfolding same_kind
  starts_introduced = starts_mapped _ (starts_dep _ (starts_word k.Introduce _ refl))

  some_introduced_rule : Rule nesting_bound (λ m. either (g.introduced any (expr any m)) (nothing g.no_introduced)) (always follow_introduced) (r.read_some_introduced (AnyHeight any))
  unfolding r.read_some_introduced same_kind
  some_introduced_rule = alt (k.Introduce ∷ []) follow_introduced introduced_rule (none (always []) g.no_introduced) refl refl starts_introduced (leaves_nothing g.no_introduced _ _ refl)

  -- ---- changes

  whole : Rule nesting_bound (expr any) (always follow_expr) (read_whole_expr (AnyHeight any))
  whole = (expr_rules any nesting_bound).whole

  impose_rule : Rule nesting_bound (At any g.impose) (always []) (r.read_impose (AnyHeight any))
  unfolding r.read_impose same_kind
  impose_rule = map g.impose_of (after k.Impose (seq left_side_rule (after k.Becomes (before k.Semicolon refl whole)) (leaves_all _ (always []))))

  starts_impose : Starts (k.Impose ∷ []) (At any g.impose)
  unfolding same_kind
  starts_impose = starts_mapped _ (starts_dep _ (starts_word k.Impose _ refl))

  treat_rule : Rule nesting_bound (At any g.treat) (always []) (r.read_treat (AnyHeight any))
  unfolding r.read_treat same_kind
  treat_rule = map g.treat_of (after k.Treat (seq target_rule (after k.Equal (before k.Semicolon refl whole))
      (leaves_start follow_path (always []) refl (starts_dep _ (starts_word k.Equal (k.Equal ∷ []) refl)))))

  starts_treat : Starts (k.Treat ∷ []) (At any g.treat)
  unfolding same_kind
  starts_treat = starts_mapped _ (starts_dep _ (starts_word k.Treat _ refl))

  action_rule : Rule nesting_bound (At any g.action) (always []) (r.read_action (AnyHeight any))
  unfolding r.read_action same_kind
  action_rule = alt (k.Impose ∷ []) [] impose_rule treat_rule refl refl starts_impose (leaves_start (k.Impose ∷ []) (always []) refl starts_treat)

  starts_action : Starts r.first_action (At any g.action)
  unfolding same_kind
  starts_action = starts_either (starts_more _ refl starts_impose) (starts_more _ refl starts_treat)

  conditional_rule : Rule nesting_bound (At any g.conditional) (always r.first_action) (r.read_conditional (AnyHeight any))
  unfolding r.read_conditional r.read_more_actions same_kind
  conditional_rule = map g.conditional_of (after k.If (seq whole
      (after k.Then (seq action_rule (collect r.first_action r.first_action action_rule starts_action refl refl refl) (leaves_all _ (always r.first_action))))
      (leaves_start follow_expr (always r.first_action) refl (starts_dep _ (starts_word k.Then (k.Then ∷ []) refl)))))

  starts_conditional : Starts (k.If ∷ []) (At any g.conditional)
  unfolding same_kind
  starts_conditional = starts_mapped _ (starts_dep _ (starts_word k.If _ refl))

  unconditional_rule : Rule nesting_bound (At any g.unconditional) (always r.first_action) (r.read_unconditional (AnyHeight any))
  unfolding r.read_unconditional r.read_more_actions same_kind
  unconditional_rule = map g.unconditional_of (after k.Module (seq tok_name (collect r.first_action r.first_action action_rule starts_action refl refl refl) (leaves_all _ (always r.first_action))))

  module_changes_rule : Rule nesting_bound (At any g.module_changes) (always follow_module_changes) (r.read_module_changes (AnyHeight any))
  unfolding r.read_module_changes r.read_more_conditional same_kind
  module_changes_rule = gather_from (k.If ∷ []) follow_module_changes g.with_conditional unconditional_rule conditional_rule starts_conditional refl refl refl (leaves_many r.first_action follow_module_changes refl refl starts_conditional)

  starts_module_changes : Starts (k.Module ∷ []) (At any g.module_changes)
  unfolding same_kind
  starts_module_changes = starts_mapped _ (starts_dep _ (starts_mapped _ (starts_dep _ (starts_word k.Module _ refl))))

  changes_rule : Rule nesting_bound (At any g.changes) (always (k.Module ∷ follow_module_changes)) (r.read_changes (AnyHeight any))
  unfolding r.read_changes r.read_more_changes same_kind
  changes_rule = map _ (after k.Change (gather (k.Module ∷ []) (k.Module ∷ follow_module_changes) g.with_module_changes [] module_changes_rule starts_module_changes refl refl refl))

  starts_changes : Starts (k.Change ∷ []) (At any g.changes)
  unfolding same_kind
  starts_changes = starts_mapped _ (starts_dep _ (starts_word k.Change _ refl))

  some_changes_rule : Rule nesting_bound (λ m. either (g.changes any (expr any m)) (nothing [])) (always follow_changes) (r.read_some_changes (AnyHeight any))
  unfolding r.read_some_changes same_kind
  some_changes_rule = alt (k.Change ∷ []) follow_changes changes_rule (none (always []) []) refl refl starts_changes (leaves_nothing [] _ _ refl)

  -- ---- features

  -- what begins after the needs, and after what is introduced
  abbrev from_changes : List Kind
  from_changes = k.Change ∷ k.End ∷ []

  abbrev from_introduced : List Kind
  from_introduced = k.Introduce ∷ from_changes

  starts_end : Starts from_changes (λ m. both (either (g.changes any (expr any m)) (nothing [])) (word k.End))
  unfolding same_kind
  starts_end = starts_optional from_changes [] refl starts_changes (starts_word k.End _ refl)

  starts_from_introduced : Starts from_introduced (λ m. both (either (g.introduced any (expr any m)) (nothing g.no_introduced)) (both (either (g.changes any (expr any m)) (nothing [])) (word k.End)))
  unfolding same_kind
  starts_from_introduced = starts_optional from_introduced g.no_introduced refl starts_introduced (starts_more from_introduced refl starts_end)

  feature_rule : Rule nesting_bound (At any g.one_feature) (always []) (r.read_feature (AnyHeight any))
  unfolding r.read_feature same_kind
  feature_rule = map g.feature_of (after k.Feature (seq tok_name
      (seq some_needs_rule
      (seq some_introduced_rule (before k.End refl some_changes_rule) (leaves_start follow_introduced (always []) refl starts_end))
      (leaves_start follow_needs (always []) refl starts_from_introduced))
      (leaves_all _ (always []))))

  starts_feature : Starts (k.Feature ∷ []) (At any g.one_feature)
  unfolding same_kind
  starts_feature = starts_mapped _ (starts_dep _ (starts_word k.Feature _ refl))

  pub features_rule : Rule nesting_bound (features any) (always (k.Feature ∷ [])) (r.read_features (AnyHeight any))
  unfolding r.read_features same_kind
  features_rule = gather (k.Feature ∷ []) (k.Feature ∷ []) g.with_feature g.no_features feature_rule starts_feature refl refl refl
