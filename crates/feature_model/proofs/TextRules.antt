-- The grammar of the texts of feature models, and the readers of its parts.
use Rattle.std.proofs.Common.{◌≡◌, Bool, true, false, ◌&&◌, List, [], ◌∷◌, refl, sym, ap}
use Rattle.std.specs.List.{list_all}
use Rattle.smv_ast.specs.declared.model.GroupKind.TheVariants as group
use Rattle.smv_expr.specs.declared.kind.Kind.{Kind}
use Rattle.smv_expr.specs.declared.kind.Kind.TheVariants as k
use Rattle.smv_expr.specs.Lexicon.{same_kind}
use Rattle.smv_expr.specs.Language.{Tokens, of_kind, find_kind, span_of, name_of}
use Rattle.smv_expr.specs.Reading.{read_word, remaining_of}
use Rattle.smv_expr.specs.Reading.Outcome.{Read}
use Rattle.smv_expr.specs.Limits.{Limit, nesting_bound}
use Rattle.smv_expr.specs.Limits.Limit.{AnyHeight, Below}
use Rattle.smv_expr.specs.ExprGrammar.{expr}
use Rattle.smv_expr.specs.ExprAnswer.{is_low}
use Rattle.smv_expr.specs.Answer.{Verdict, IsText, AreWithin}
use Rattle.smv_expr.proofs.Rules.{Rule, Starts}
use Rattle.smv_expr.proofs.Rounds.{Consumes}
use Rattle.smv_expr.proofs.Words.{always, tok_name, tok_one_of, seq, after, before, map, alt, collect, starts_word, starts_table, starts_dep, starts_mapped, starts_either, starts_more, leaves_all, leaves_start}
use Rattle.smv_expr.proofs.ExprRules.{expr_rules}
use Rattle.smv_expr.proofs.Limited.{Obeys, always_fits, all_pass, leaf_obeys, mapped_obeys, either_obeys, many_obeys, retested, and_true}
use Rattle.smv_expr.proofs.ExprLimited.{word_then, both_then}
use Rattle.smv_expr.proofs.ExprAnswering.{limited_obeys, limited_local}
use Rattle.smv_expr.proofs.Local.{Local, leaf_local, mapped_local, both_local, either_local, many_local, mapped_consumes, both_consumes, either_consumes, leaf_consumes}
use Rattle.smv_expr.proofs.ExprLocal.{word_local, name_local, word_then_local, word_first}
use Rattle.smv_expr.proofs.Answering as answering
use Rattle.feature_model.specs.TextGrammar as g
use Rattle.feature_model.specs.TextGrammar.{model_text, low_line, low_text}
use Rattle.feature_model.specs.TextReaders as r
use Rattle.feature_model.specs.declared.text.ModelText.{ModelText}

-- the limit within which texts are read
abbrev pub the_limit : Limit
the_limit = Below nesting_bound

-- ---- without limits

feature_name_rule : Rule nesting_bound (λ m. g.feature_name) (always []) r.read_feature_name
unfolding r.read_feature_name
feature_name_rule = map g.name_at tok_name

next_name_rule : Rule nesting_bound (λ m. g.next_feature_name) (always []) r.read_next_feature_name
unfolding r.read_next_feature_name
next_name_rule = map _ (after k.Comma feature_name_rule)

starts_next_name : Starts (k.Comma ∷ []) (λ m. g.next_feature_name)
unfolding same_kind
starts_next_name = starts_mapped _ (starts_dep _ (starts_word k.Comma _ refl))

names_rule : Rule nesting_bound (λ m. g.feature_names) (always (k.Comma ∷ [])) r.read_feature_names
unfolding r.read_feature_names r.read_more_feature_names same_kind
names_rule = map _ (seq feature_name_rule (collect (k.Comma ∷ []) (k.Comma ∷ []) next_name_rule starts_next_name refl refl refl) (leaves_all _ (always (k.Comma ∷ []))))

group_rule : Rule nesting_bound (λ m. g.group_line) (always []) r.read_group
unfolding r.read_group same_kind
group_rule = map g.group_of (seq (tok_one_of g.group_kinds (k.Mandatory, group.Mandatory) refl)
    (seq feature_name_rule (after k.Colon (before k.Semicolon refl names_rule)) (leaves_all _ (always []))) (leaves_all _ (always [])))

starts_group : Starts g.first_group (λ m. g.group_line)
unfolding same_kind
starts_group = starts_mapped _ (starts_dep _ (starts_table g.group_kinds _ refl))

pub header_rule : Rule nesting_bound (λ m. g.header) (always []) r.read_header
unfolding r.read_header same_kind
header_rule = map _ (after k.FeatureModel (after k.Root (before k.Semicolon refl feature_name_rule)))

constraint_rule : (any : Bool) → Rule nesting_bound (λ m. g.constraint_line (expr any m)) (always []) (r.read_constraint (AnyHeight any))
unfolding r.read_constraint same_kind
constraint_rule any = map g.constraint_of (after k.Constraint (before k.Semicolon refl (expr_rules any nesting_bound).whole))

starts_constraint : (any : Bool) → Starts (k.Constraint ∷ []) (λ m. g.constraint_line (expr any m))
unfolding same_kind
starts_constraint any = starts_mapped _ (starts_dep _ (starts_word k.Constraint _ refl))

pub line_rule : (any : Bool) → Rule nesting_bound (λ m. g.line (expr any m)) (always []) (r.read_line (AnyHeight any))
unfolding r.read_line same_kind
line_rule any = alt (k.Constraint ∷ []) [] (constraint_rule any) group_rule refl refl (starts_constraint any) (leaves_start (k.Constraint ∷ []) (always []) refl starts_group)

starts_line : (any : Bool) → Starts g.first_line (λ m. g.line (expr any m))
unfolding same_kind
starts_line any = starts_either (starts_more _ refl (starts_constraint any)) (starts_more _ refl starts_group)

text_rule : (any : Bool) → Rule nesting_bound (model_text any) (always []) (r.read_text (AnyHeight any))
unfolding r.read_text r.read_lines same_kind
text_rule any = map g.text_of (seq header_rule (before k.End refl (collect g.first_line g.first_line (line_rule any) (starts_line any) refl refl refl)) (leaves_all _ (always [])))

-- ---- within limits

list_all_passes : {A : Type 0} (test : A → Bool) (items : List A) → list_all test items ≡ all_pass test items
list_all_passes test [] = refl
list_all_passes test (a ∷ items) = ap (λ v. test a && v) (list_all_passes test items)

each_fits : {A : Type 0} (items : List A) → true ≡ all_pass always_fits items
each_fits [] = refl
each_fits (a ∷ items) = each_fits items

pub a_word : {any : Bool} (kind : Kind) → Obeys any always_fits (read_word kind) (read_word kind)
a_word kind = leaf_obeys (of_kind kind span_of)

name_obeys : {any : Bool} → Obeys any always_fits r.read_feature_name r.read_feature_name
unfolding r.read_feature_name
name_obeys = mapped_obeys g.name_at _ always_fits (λ v. refl) (leaf_obeys (of_kind k.Name name_of))

next_name_obeys : {any : Bool} → Obeys any always_fits r.read_next_feature_name r.read_next_feature_name
unfolding r.read_next_feature_name
next_name_obeys = mapped_obeys _ _ always_fits (λ v. refl) (word_then k.Comma name_obeys)

names_obey : {any : Bool} → Obeys any always_fits r.read_feature_names r.read_feature_names
unfolding r.read_feature_names r.read_more_feature_names
names_obey = mapped_obeys _ _ always_fits (λ v. refl) (both_then name_obeys (retested (all_pass always_fits) always_fits each_fits (many_obeys (k.Comma ∷ []) next_name_obeys)))

group_obeys : {any : Bool} → Obeys any low_line r.read_group r.read_group
unfolding r.read_group
group_obeys = mapped_obeys g.group_of _ low_line (λ v. refl) (both_then (leaf_obeys (λ t. find_kind g.group_kinds t.kind)) (both_then name_obeys (word_then k.Colon (both_then names_obey (a_word k.Semicolon)))))

pub header_obeys : {any : Bool} → Obeys any always_fits r.read_header r.read_header
unfolding r.read_header
header_obeys = mapped_obeys _ _ always_fits (λ v. refl) (word_then k.FeatureModel (word_then k.Root (both_then name_obeys (a_word k.Semicolon))))

constraint_obeys : {any : Bool} → Obeys any low_line (r.read_constraint the_limit) (r.read_constraint (AnyHeight any))
unfolding r.read_constraint
constraint_obeys = mapped_obeys g.constraint_of _ low_line (λ v. sym (and_true (is_low v.1.0))) (word_then k.Constraint (both_then (limited_obeys _) (a_word k.Semicolon)))

pub line_obeys : {any : Bool} → Obeys any low_line (r.read_line the_limit) (r.read_line (AnyHeight any))
unfolding r.read_line
line_obeys = either_obeys (k.Constraint ∷ []) constraint_obeys group_obeys

text_obeys : {any : Bool} → Obeys any low_text (r.read_text the_limit) (r.read_text (AnyHeight any))
unfolding r.read_text r.read_lines
text_obeys = mapped_obeys g.text_of _ low_text (λ v. sym (and_true (low_text (g.text_of v))))
    (both_then header_obeys (both_then (retested (all_pass low_line) (list_all low_line) (list_all_passes low_line) (many_obeys g.first_line line_obeys)) (a_word k.End)))

-- ---- each decides by the tokens that it has read

feature_name_local : Local r.read_feature_name
unfolding r.read_feature_name
feature_name_local = mapped_local g.name_at name_local

next_name_local : Local r.read_next_feature_name
unfolding r.read_next_feature_name
next_name_local = mapped_local _ (word_then_local k.Comma feature_name_local)

pub next_name_consumes : Consumes r.read_next_feature_name
unfolding r.read_next_feature_name
next_name_consumes = mapped_consumes _ (word_first k.Comma feature_name_local)

names_local : Local r.read_feature_names
unfolding r.read_feature_names r.read_more_feature_names
names_local = mapped_local _ (both_local feature_name_local (many_local (k.Comma ∷ []) next_name_consumes next_name_local))

after_kind_local : Local (r.read_group)
unfolding r.read_group
after_kind_local = mapped_local g.group_of (both_local (leaf_local (λ t. find_kind g.group_kinds t.kind)) (both_local feature_name_local (word_then_local k.Colon (both_local names_local (word_local k.Semicolon)))))

pub group_consumes : Consumes r.read_group
unfolding r.read_group
group_consumes = mapped_consumes g.group_of (both_consumes (leaf_consumes (λ t. find_kind g.group_kinds t.kind)) (both_local feature_name_local (word_then_local k.Colon (both_local names_local (word_local k.Semicolon)))))

header_local : Local r.read_header
unfolding r.read_header
header_local = mapped_local _ (word_then_local k.FeatureModel (word_then_local k.Root (both_local feature_name_local (word_local k.Semicolon))))

constraint_local : Local (r.read_constraint the_limit)
unfolding r.read_constraint
constraint_local = mapped_local g.constraint_of (word_then_local k.Constraint (both_local limited_local (word_local k.Semicolon)))

constraint_consumes : Consumes (r.read_constraint the_limit)
unfolding r.read_constraint
constraint_consumes = mapped_consumes g.constraint_of (word_first k.Constraint (both_local limited_local (word_local k.Semicolon)))

line_local : Local (r.read_line the_limit)
unfolding r.read_line
line_local = either_local (k.Constraint ∷ []) constraint_local after_kind_local

pub line_consumes : Consumes (r.read_line the_limit)
unfolding r.read_line
line_consumes = either_consumes (k.Constraint ∷ []) constraint_consumes group_consumes

text_local : Local (r.read_text the_limit)
unfolding r.read_text r.read_lines
text_local = mapped_local g.text_of (both_local header_local (both_local (many_local g.first_line line_consumes line_local) (word_local k.End)))

-- ---- whole texts

pub verdict : (ts : Tokens) → Verdict model_text low_text ts (r.read_text the_limit ts)
verdict = answering.verdict model_text [] low_text (r.read_text the_limit) (r.read_text (AnyHeight false)) (r.read_text (AnyHeight true))
    (text_rule false) (text_rule true) text_obeys text_obeys text_local

pub within : (ts : Tokens) → AreWithin model_text low_text ts (remaining_of (r.read_text the_limit ts))
within = answering.within model_text [] low_text (r.read_text the_limit) (r.read_text (AnyHeight false)) (r.read_text (AnyHeight true))
    (text_rule false) (text_rule true) text_obeys text_obeys text_local

-- Each text is read.
pub complete : (ts : Tokens) (t : ModelText) → IsText model_text low_text ts t → r.read_text the_limit ts ≡ Read t []
complete = answering.complete model_text [] low_text (r.read_text the_limit) (r.read_text (AnyHeight false)) (text_rule false) text_obeys
