-- Each reader of a part of a feature file decides by the tokens that it has read, and each round of a loop takes a token at
-- least.
use Rattle.std.proofs.Common.{[], ◌∷◌, Some, None}
use Rattle.smv_expr.specs.declared.kind.Kind.TheVariants as k
use Rattle.smv_expr.proofs.ExprAnswering.{limited_local}
use Rattle.smv_expr.proofs.ExprLocal.{word_local, name_local, name_consumes, word_then_local, word_first, dotted_names_local}
use Rattle.smv_expr.proofs.Local.{Local, nothing_local, then_local, mapped_local, both_local, either_local, many_local, fold_local, first_consumes, mapped_consumes, both_consumes, either_consumes}
use Rattle.smv_expr.proofs.Rounds.{Consumes}
use Rattle.smv_parse.specs.Readers.{the_limit}
use Rattle.smv_parse.proofs.ProgramLocal.{left_side_local, type_local, parts_local}
use Rattle.feature_parse.specs.Grammar as g
use Rattle.feature_parse.specs.Readers as r

-- ---- needs

some_wanted_local : Local (r.read_some_wanted_type the_limit)
unfolding r.read_some_wanted_type r.read_wanted_type
some_wanted_local = either_local (k.Colon ∷ []) (mapped_local Some (mapped_local _ (word_then_local k.Colon type_local))) (nothing_local None)

required_name_local : Local (r.read_required_name the_limit)
unfolding r.read_required_name
required_name_local = mapped_local g.required_of (both_local name_local (both_local some_wanted_local (word_local k.Semicolon)))

pub required_name_consumes : Consumes (r.read_required_name the_limit)
unfolding r.read_required_name
required_name_consumes = mapped_consumes g.required_of (both_consumes name_consumes (both_local some_wanted_local (word_local k.Semicolon)))

more_required_names_local : Local (r.read_more_required_names the_limit)
unfolding r.read_more_required_names
more_required_names_local = many_local (k.Name ∷ []) required_name_consumes required_name_local

required_vars_local : Local (r.read_required_vars the_limit)
unfolding r.read_required_vars
required_vars_local = mapped_local _ (word_then_local k.Var more_required_names_local)

pub required_vars_consume : Consumes (r.read_required_vars the_limit)
unfolding r.read_required_vars
required_vars_consume = mapped_consumes _ (word_first k.Var more_required_names_local)

module_body_local : Local (r.read_all_required_names the_limit)
unfolding r.read_all_required_names
module_body_local = fold_local (k.Var ∷ []) g.appended [] required_vars_consume required_vars_local

module_needs_local : Local (r.read_module_needs the_limit)
unfolding r.read_module_needs
module_needs_local = mapped_local g.needs_of (word_then_local k.Module (both_local name_local module_body_local))

pub module_needs_consume : Consumes (r.read_module_needs the_limit)
unfolding r.read_module_needs
module_needs_consume = mapped_consumes g.needs_of (word_first k.Module (both_local name_local module_body_local))

some_needs_local : Local (r.read_some_needs the_limit)
unfolding r.read_some_needs r.read_needs r.read_more_needs
some_needs_local = either_local (k.Require ∷ []) (mapped_local _ (word_then_local k.Require (fold_local (k.Module ∷ []) g.appended [] module_needs_consume module_needs_local))) (nothing_local [])

-- ---- what is introduced

joined_local : Local (r.read_joined_module the_limit)
unfolding r.read_joined_module
joined_local = mapped_local g.joined_of (word_then_local k.Module (both_local name_local parts_local))

pub joined_consumes : Consumes (r.read_joined_module the_limit)
unfolding r.read_joined_module
joined_consumes = mapped_consumes g.joined_of (word_first k.Module (both_local name_local parts_local))

some_introduced_local : Local (r.read_some_introduced the_limit)
unfolding r.read_some_introduced r.read_introduced r.read_more_introduced
some_introduced_local = either_local (k.Introduce ∷ []) (mapped_local _ (word_then_local k.Introduce (fold_local (k.Module ∷ []) g.with_joined g.no_introduced joined_consumes joined_local))) (nothing_local g.no_introduced)

-- ---- changes

target_local : Local r.read_target
unfolding r.read_target
target_local = mapped_local g.target_of (both_local name_local dotted_names_local)

action_local : Local (r.read_action the_limit)
unfolding r.read_action r.read_impose r.read_treat
action_local = either_local (k.Impose ∷ [])
    (mapped_local g.impose_of (word_then_local k.Impose (both_local left_side_local (word_then_local k.Becomes (both_local limited_local (word_local k.Semicolon))))))
    (mapped_local g.treat_of (word_then_local k.Treat (both_local target_local (word_then_local k.Equal (both_local limited_local (word_local k.Semicolon))))))

pub action_consumes : Consumes (r.read_action the_limit)
unfolding r.read_action r.read_impose r.read_treat
action_consumes = either_consumes (k.Impose ∷ [])
    (mapped_consumes g.impose_of (word_first k.Impose (both_local left_side_local (word_then_local k.Becomes (both_local limited_local (word_local k.Semicolon))))))
    (mapped_consumes g.treat_of (word_first k.Treat (both_local target_local (word_then_local k.Equal (both_local limited_local (word_local k.Semicolon))))))

more_actions_local : Local (r.read_more_actions the_limit)
unfolding r.read_more_actions
more_actions_local = many_local r.first_action action_consumes action_local

conditional_local : Local (r.read_conditional the_limit)
unfolding r.read_conditional
conditional_local = mapped_local g.conditional_of (word_then_local k.If (both_local limited_local (word_then_local k.Then (both_local action_local more_actions_local))))

pub conditional_consumes : Consumes (r.read_conditional the_limit)
unfolding r.read_conditional
conditional_consumes = mapped_consumes g.conditional_of (word_first k.If (both_local limited_local (word_then_local k.Then (both_local action_local more_actions_local))))

unconditional_local : Local (r.read_unconditional the_limit)
unfolding r.read_unconditional
unconditional_local = mapped_local g.unconditional_of (word_then_local k.Module (both_local name_local more_actions_local))

unconditional_consumes : Consumes (r.read_unconditional the_limit)
unfolding r.read_unconditional
unconditional_consumes = mapped_consumes g.unconditional_of (word_first k.Module (both_local name_local more_actions_local))

module_changes_local : Local (r.read_module_changes the_limit)
unfolding r.read_module_changes r.read_more_conditional
module_changes_local = then_local unconditional_local (λ found. fold_local (k.If ∷ []) g.with_conditional found conditional_consumes conditional_local)

pub module_changes_consume : Consumes (r.read_module_changes the_limit)
unfolding r.read_module_changes r.read_more_conditional
module_changes_consume = first_consumes unconditional_consumes (λ found. fold_local (k.If ∷ []) g.with_conditional found conditional_consumes conditional_local)

some_changes_local : Local (r.read_some_changes the_limit)
unfolding r.read_some_changes r.read_changes r.read_more_changes
some_changes_local = either_local (k.Change ∷ []) (mapped_local _ (word_then_local k.Change (fold_local (k.Module ∷ []) g.with_module_changes [] module_changes_consume module_changes_local))) (nothing_local [])

-- ---- features

feature_local : Local (r.read_feature the_limit)
unfolding r.read_feature
feature_local = mapped_local g.feature_of (word_then_local k.Feature (both_local name_local (both_local some_needs_local (both_local some_introduced_local (both_local some_changes_local (word_local k.End))))))

pub feature_consumes : Consumes (r.read_feature the_limit)
unfolding r.read_feature
feature_consumes = mapped_consumes g.feature_of (word_first k.Feature (both_local name_local (both_local some_needs_local (both_local some_introduced_local (both_local some_changes_local (word_local k.End))))))

pub features_local : Local (r.read_features the_limit)
unfolding r.read_features
features_local = fold_local (k.Feature ∷ []) g.with_feature g.no_features feature_consumes feature_local
