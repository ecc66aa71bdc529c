-- Each reader of a part of a model, without limits on numbers and heights, keeps its rule.
use Rattle.std.proofs.Common.{ℕ, Bool, List, [], ◌∷◌, ◌++◌, refl}
use Rattle.std.specs.Prelude.{codes}
use Rattle.smv_ast.specs.declared.syntax.Span.{Span}
use Rattle.smv_ast.specs.declared.syntax.Expr.{Expr}
use Rattle.smv_ast.specs.declared.syntax.SmvType.TheVariants as type
use Rattle.smv_ast.specs.declared.program.Declared.TheVariants as declared
use Rattle.smv_ast.specs.declared.program.Left.TheVariants as left
use Rattle.smv_ast.specs.declared.program.Section.{Section}
use Rattle.smv_ast.specs.declared.program.Section.TheVariants as section
use Rattle.smv_ast.specs.declared.program.Skipped.{Skipped}
use Rattle.smv_expr.specs.declared.kind.Kind.{Kind}
use Rattle.smv_expr.specs.declared.kind.Kind.TheVariants as k
use Rattle.smv_expr.specs.Lexicon.{Bytes, same_kind}
use Rattle.smv_expr.specs.Language.{Tokens, word, name, both, many, mapped, either, nothing}
use Rattle.smv_expr.specs.Limits.{nesting_bound}
use Rattle.smv_expr.specs.Limits.Limit.{AnyHeight}
use Rattle.smv_expr.specs.ExprGrammar.{sign, expr}
use Rattle.smv_expr.specs.ExprReaders.{first_expr}
use Rattle.smv_expr.proofs.Rules.{Rule, Starts}
use Rattle.smv_expr.proofs.Words.{always, starts_word, starts_name, starts_digits, starts_dep, starts_mapped, starts_either, starts_more, leaves_all, leaves_start, leaves_nothing, leaves_mapped, leaves_many, leaves_opt, tok, tok_name, none, seq, after, before, map, alt, maybe, collect, gather, gather_from}
use Rattle.smv_expr.proofs.NameRules.{names_rule, starts_names}
use Rattle.smv_expr.proofs.ExprRules.{follow_expr, expr_rules, starts_expr, sign_rule, up_to_rule}
use Rattle.smv_parse.specs.declared.sections.Part.TheVariants as part
use Rattle.smv_parse.specs.Grammar as g
use Rattle.smv_parse.specs.Grammar.{program}
use Rattle.smv_parse.specs.Readers as r
use Rattle.smv_parse.proofs.SkipRule.{skipped_kinds, skip_rule}

-- ---- with what each part goes on

abbrev follow_section : List Kind
follow_section = k.Semicolon ∷ k.Name ∷ k.Init ∷ k.Next ∷ follow_expr

abbrev pub follow_parts : List Kind
follow_parts = r.first_part ++ skipped_kinds

abbrev pub follow_program : List Kind
follow_program = k.Module ∷ follow_parts

-- ---- the rules. Expressions are read with as many open constructs as models may have.

formals_rule : Rule nesting_bound (λ m. g.formals) (always []) r.read_formals
unfolding r.read_formals r.read_some_names same_kind
formals_rule = map _ (after k.OpenParen (before k.CloseParen refl
    (alt (k.Name ∷ []) (k.Comma ∷ k.Name ∷ []) names_rule (none (always []) []) refl refl starts_names (leaves_nothing [] _ _ refl))))

some_formals_rule : Rule nesting_bound (λ m. either g.formals (nothing [])) (always (k.OpenParen ∷ [])) r.read_some_formals
unfolding r.read_some_formals same_kind
some_formals_rule = alt (k.OpenParen ∷ []) (k.OpenParen ∷ []) formals_rule (none (always []) []) refl refl (starts_mapped _ (starts_dep _ (starts_word k.OpenParen _ refl))) (leaves_nothing [] _ _ refl)

pub name_in_parens_rule : Rule nesting_bound (λ m. g.name_in_parens) (always []) r.read_name_in_parens
unfolding r.read_name_in_parens same_kind
name_in_parens_rule = map _ (after k.OpenParen (before k.CloseParen refl tok_name))

starts_init : Starts (k.Init ∷ []) (λ m. mapped (g.side_of left.Init) (both (word k.Init) g.name_in_parens))
unfolding same_kind
starts_init = starts_mapped _ (starts_dep _ (starts_word k.Init _ refl))

starts_next : Starts (k.Next ∷ []) (λ m. mapped (g.side_of left.Next) (both (word k.Next) g.name_in_parens))
unfolding same_kind
starts_next = starts_mapped _ (starts_dep _ (starts_word k.Next _ refl))

starts_now : Starts (k.Name ∷ []) (λ m. mapped g.current_side_of name)
unfolding same_kind
starts_now = starts_mapped _ (starts_name _ refl)

starts_left_side : Starts r.first_side (λ m. g.left_side)
unfolding same_kind
starts_left_side = starts_either (starts_more _ refl starts_init) (starts_either (starts_more _ refl starts_next) (starts_more _ refl starts_now))

pub left_side_rule : Rule nesting_bound (λ m. g.left_side) (always []) r.read_left_side
unfolding r.read_left_side same_kind
left_side_rule =
    alt (k.Init ∷ []) [] (map _ (after k.Init name_in_parens_rule)) (
    alt (k.Next ∷ []) [] (map _ (after k.Next name_in_parens_rule)) (map g.current_side_of tok_name)
    refl refl starts_next (leaves_start (k.Next ∷ []) (always []) refl starts_now))
    refl refl starts_init (leaves_start {first = k.Next ∷ k.Name ∷ []} (k.Init ∷ []) (always []) refl (starts_either (starts_more _ refl starts_next) (starts_more _ refl starts_now)))

starts_boolean : Starts (k.Boolean ∷ []) (λ m. mapped (λ at. type.Boolean) (word k.Boolean))
unfolding same_kind
starts_boolean = starts_mapped _ (starts_word k.Boolean _ refl)

starts_semicolon : Starts (k.Semicolon ∷ []) (λ m. word k.Semicolon)
unfolding same_kind
starts_semicolon = starts_word k.Semicolon _ refl

-- sections from some word of the list on
abbrev from_trans : List Kind
from_trans = k.TransSection ∷ k.InvarSpec ∷ []

abbrev from_invar : List Kind
from_invar = k.InvarSection ∷ from_trans

abbrev from_init : List Kind
from_init = k.InitSection ∷ from_invar

abbrev from_define : List Kind
from_define = k.Define ∷ from_init

abbrev from_assign : List Kind
from_assign = k.Assign ∷ from_define

-- a skipped section of this word
abbrev Skip : Bytes → Kind → Skipped → Tokens → Type 0
Skip text kind = mapped (g.skipped_as text) (word kind)

skips_spec : Starts (k.Spec ∷ []) (λ m. Skip (codes "SPEC") k.Spec)
unfolding same_kind
skips_spec = starts_mapped _ (starts_word k.Spec _ refl)

skips_ctl : Starts (k.CtlSpec ∷ []) (λ m. Skip (codes "CTLSPEC") k.CtlSpec)
unfolding same_kind
skips_ctl = starts_mapped _ (starts_word k.CtlSpec _ refl)

skips_ltl : Starts (k.LtlSpec ∷ []) (λ m. Skip (codes "LTLSPEC") k.LtlSpec)
unfolding same_kind
skips_ltl = starts_mapped _ (starts_word k.LtlSpec _ refl)

skips_fairness : Starts (k.Fairness ∷ []) (λ m. Skip (codes "FAIRNESS") k.Fairness)
unfolding same_kind
skips_fairness = starts_mapped _ (starts_word k.Fairness _ refl)

skips_justice : Starts (k.Justice ∷ []) (λ m. Skip (codes "JUSTICE") k.Justice)
unfolding same_kind
skips_justice = starts_mapped _ (starts_word k.Justice _ refl)

skips_compassion : Starts (k.Compassion ∷ []) (λ m. Skip (codes "COMPASSION") k.Compassion)
unfolding same_kind
skips_compassion = starts_mapped _ (starts_word k.Compassion _ refl)

abbrev skips_on_justice : List Kind
skips_on_justice = k.Justice ∷ k.Compassion ∷ []

from_justice : Starts skips_on_justice (λ m. either (Skip (codes "JUSTICE") k.Justice) (Skip (codes "COMPASSION") k.Compassion))
unfolding same_kind
from_justice = starts_either (starts_more skips_on_justice refl skips_justice) (starts_more skips_on_justice refl skips_compassion)

abbrev skips_on_fairness : List Kind
skips_on_fairness = k.Fairness ∷ k.Justice ∷ k.Compassion ∷ []

from_fairness : Starts skips_on_fairness (λ m. either (Skip (codes "FAIRNESS") k.Fairness) (either (Skip (codes "JUSTICE") k.Justice) (Skip (codes "COMPASSION") k.Compassion)))
unfolding same_kind
from_fairness = starts_either (starts_more skips_on_fairness refl skips_fairness) (starts_more skips_on_fairness refl from_justice)

abbrev skips_on_ltl : List Kind
skips_on_ltl = k.LtlSpec ∷ k.Fairness ∷ k.Justice ∷ k.Compassion ∷ []

from_ltl : Starts skips_on_ltl (λ m. either (Skip (codes "LTLSPEC") k.LtlSpec) (either (Skip (codes "FAIRNESS") k.Fairness) (either (Skip (codes "JUSTICE") k.Justice) (Skip (codes "COMPASSION") k.Compassion))))
unfolding same_kind
from_ltl = starts_either (starts_more skips_on_ltl refl skips_ltl) (starts_more skips_on_ltl refl from_fairness)

abbrev skips_on_ctl : List Kind
skips_on_ctl = k.CtlSpec ∷ k.LtlSpec ∷ k.Fairness ∷ k.Justice ∷ k.Compassion ∷ []

from_ctl : Starts skips_on_ctl (λ m. either (Skip (codes "CTLSPEC") k.CtlSpec) (either (Skip (codes "LTLSPEC") k.LtlSpec) (either (Skip (codes "FAIRNESS") k.Fairness) (either (Skip (codes "JUSTICE") k.Justice) (Skip (codes "COMPASSION") k.Compassion)))))
unfolding same_kind
from_ctl = starts_either (starts_more skips_on_ctl refl skips_ctl) (starts_more skips_on_ctl refl from_ltl)

starts_skip_word : Starts r.first_skipped (λ m. g.skip_word)
unfolding same_kind
starts_skip_word = starts_either (starts_more r.first_skipped refl skips_spec) (starts_more r.first_skipped refl from_ctl)

skip_word_rule : Rule nesting_bound (λ m. g.skip_word) (always []) r.read_skip_word
unfolding r.read_skip_word same_kind
skip_word_rule =
    alt (k.Spec ∷ []) [] (map _ (tok k.Spec)) (
    alt (k.CtlSpec ∷ []) [] (map _ (tok k.CtlSpec)) (
    alt (k.LtlSpec ∷ []) [] (map _ (tok k.LtlSpec)) (
    alt (k.Fairness ∷ []) [] (map _ (tok k.Fairness)) (
    alt (k.Justice ∷ []) [] (map _ (tok k.Justice)) (map _ (tok k.Compassion))
    refl refl skips_justice (leaves_start _ (always []) refl skips_compassion))
    refl refl skips_fairness (leaves_start _ (always []) refl from_justice))
    refl refl skips_ltl (leaves_start _ (always []) refl from_fairness))
    refl refl skips_ctl (leaves_start _ (always []) refl from_ltl))
    refl refl skips_spec (leaves_start _ (always []) refl from_ctl)

skipped_rule : Rule nesting_bound (λ m. g.skipped) (always skipped_kinds) r.read_skipped
unfolding r.read_skipped
skipped_rule = map _ (seq skip_word_rule skip_rule (leaves_all _ (always skipped_kinds)))

starts_skipped : Starts r.first_skipped (λ m. g.skipped)
starts_skipped = starts_mapped _ (starts_dep _ starts_skip_word)

-- a part of the grammar, at each depth
abbrev At : {A : Type 0} → Bool → (Bool → (Expr → Tokens → Type 0) → A → Tokens → Type 0) → ℕ → A → Tokens → Type 0
At any F m = F any (expr any m)

module _ (any : Bool) where
  whole : Rule nesting_bound (expr any) (always follow_expr) (r.read_whole_expr (AnyHeight any))
  whole = (expr_rules any nesting_bound).whole

  -- ---- types

  starts_sign : Starts r.first_sign (λ m. sign any)
  unfolding same_kind
  starts_sign = starts_either (starts_mapped _ (starts_dep _ (starts_word k.Minus _ refl))) (starts_mapped _ (starts_digits any _ refl))

  pub next_sign_rule : Rule nesting_bound (λ m. g.next_sign any) (always []) (r.read_next_sign (AnyHeight any))
  unfolding r.read_next_sign
  next_sign_rule = map _ (after k.Comma (sign_rule any))

  pub starts_next_sign : Starts (k.Comma ∷ []) (λ m. g.next_sign any)
  unfolding same_kind
  starts_next_sign = starts_mapped _ (starts_dep _ (starts_word k.Comma _ refl))

  numbers_rule : Rule nesting_bound (λ m. g.numbers any) (always (k.Comma ∷ [])) (r.read_numbers (AnyHeight any))
  unfolding r.read_numbers r.read_more_signs same_kind
  numbers_rule = map _ (seq (sign_rule any) (collect (k.Comma ∷ []) (k.Comma ∷ []) next_sign_rule starts_next_sign refl refl refl) (leaves_all _ (always (k.Comma ∷ []))))

  values_rule : Rule nesting_bound (λ m. either (g.numbers any) g.symbols) (always (k.Comma ∷ [])) (r.read_values (AnyHeight any))
  unfolding r.read_values same_kind
  values_rule = alt r.first_sign (k.Comma ∷ []) numbers_rule (map type.Symbols names_rule) refl refl (starts_mapped _ (starts_dep _ starts_sign)) (leaves_start r.first_sign (always (k.Comma ∷ [])) refl (starts_mapped _ starts_names))

  enumeration_rule : Rule nesting_bound (λ m. g.enumeration any) (always []) (r.read_enumeration (AnyHeight any))
  unfolding r.read_enumeration same_kind
  enumeration_rule = map _ (after k.OpenBrace (before k.CloseBrace refl values_rule))

  starts_enumeration : Starts (k.OpenBrace ∷ []) (λ m. g.enumeration any)
  unfolding same_kind
  starts_enumeration = starts_mapped _ (starts_dep _ (starts_word k.OpenBrace _ refl))

  range_rule : Rule nesting_bound (λ m. g.range any) (always []) (r.read_range (AnyHeight any))
  unfolding r.read_range
  range_rule = map _ (seq (sign_rule any) (up_to_rule any) (leaves_all _ (always [])))

  starts_range : Starts r.first_sign (λ m. g.range any)
  starts_range = starts_mapped _ (starts_dep _ starts_sign)

  starts_type : Starts r.first_type (λ m. g.smv_type any)
  unfolding same_kind
  starts_type = starts_either (starts_more _ refl starts_boolean) (starts_either (starts_more _ refl starts_enumeration) (starts_more _ refl starts_range))

  pub type_rule : Rule nesting_bound (λ m. g.smv_type any) (always []) (r.read_smv_type (AnyHeight any))
  unfolding r.read_smv_type same_kind
  type_rule =
      alt (k.Boolean ∷ []) [] (map _ (tok k.Boolean)) (
      alt (k.OpenBrace ∷ []) [] enumeration_rule range_rule refl refl starts_enumeration (leaves_start (k.OpenBrace ∷ []) (always []) refl starts_range))
      refl refl starts_boolean (leaves_start {first = k.OpenBrace ∷ r.first_sign} (k.Boolean ∷ []) (always []) refl (starts_either (starts_more _ refl starts_enumeration) (starts_more _ refl starts_range)))

  -- ---- what is declared

  pub starts_next_expr : Starts (k.Comma ∷ []) (At any g.next_expr)
  unfolding same_kind
  starts_next_expr = starts_mapped _ (starts_dep _ (starts_word k.Comma _ refl))

  pub next_expr_rule : Rule nesting_bound (At any g.next_expr) (always follow_expr) (r.read_next_expr (AnyHeight any))
  unfolding r.read_next_expr
  next_expr_rule = map _ (after k.Comma whole)

  exprs_rule : Rule nesting_bound (At any g.exprs) (always (k.Comma ∷ follow_expr)) (r.read_exprs (AnyHeight any))
  unfolding r.read_exprs r.read_more_exprs same_kind
  exprs_rule = map _ (seq whole (collect (k.Comma ∷ []) (k.Comma ∷ follow_expr) next_expr_rule starts_next_expr refl refl refl) (leaves_many follow_expr (k.Comma ∷ follow_expr) refl refl starts_next_expr))

  actuals_rule : Rule nesting_bound (At any g.actuals) (always []) (r.read_actuals (AnyHeight any))
  unfolding r.read_actuals r.read_some_exprs same_kind
  actuals_rule = map _ (after k.OpenParen (before k.CloseParen refl
      (alt first_expr (k.Comma ∷ follow_expr ++ first_expr) exprs_rule (none (always []) []) refl refl (starts_mapped _ (starts_dep _ (starts_expr any))) (leaves_nothing [] _ _ refl))))

  instance_rule : Rule nesting_bound (At any g.instance) (always (k.OpenParen ∷ [])) (r.read_instance (AnyHeight any))
  unfolding r.read_instance r.read_some_actuals same_kind
  instance_rule = map _ (seq tok_name
      (alt (k.OpenParen ∷ []) (k.OpenParen ∷ []) actuals_rule (none (always []) []) refl refl (starts_mapped _ (starts_dep _ (starts_word k.OpenParen _ refl))) (leaves_nothing [] _ _ refl))
      (leaves_all _ (always (k.OpenParen ∷ []))))

  declared_rule : Rule nesting_bound (At any g.declared_as) (always (k.OpenParen ∷ [])) (r.read_declared (AnyHeight any))
  unfolding r.read_declared same_kind
  declared_rule = alt r.first_type (k.OpenParen ∷ []) (map declared.Plain type_rule) instance_rule refl refl (starts_mapped _ starts_type)
      (leaves_start {first = k.Name ∷ []} r.first_type (always (k.OpenParen ∷ [])) refl (starts_mapped _ (starts_dep _ (starts_name _ refl))))

  -- ---- items

  pub declaration_rule : Rule nesting_bound (At any g.declaration) (always []) (r.read_declaration (AnyHeight any))
  unfolding r.read_declaration same_kind
  declaration_rule = map _ (seq tok_name (after k.Colon (before k.Semicolon refl declared_rule)) (leaves_all _ (always [])))

  pub starts_declaration : Starts (k.Name ∷ []) (At any g.declaration)
  unfolding same_kind
  starts_declaration = starts_mapped _ (starts_dep _ (starts_name _ refl))

  pub assignment_rule : Rule nesting_bound (At any g.assignment) (always []) (r.read_assignment (AnyHeight any))
  unfolding r.read_assignment same_kind
  assignment_rule = map _ (seq left_side_rule (after k.Becomes (before k.Semicolon refl whole)) (leaves_all _ (always [])))

  pub starts_assignment : Starts r.first_side (At any g.assignment)
  starts_assignment = starts_mapped _ (starts_dep _ starts_left_side)

  pub definition_rule : Rule nesting_bound (At any g.definition) (always []) (r.read_definition (AnyHeight any))
  unfolding r.read_definition same_kind
  definition_rule = map _ (seq tok_name (after k.Becomes (before k.Semicolon refl whole)) (leaves_all _ (always [])))

  pub starts_definition : Starts (k.Name ∷ []) (At any g.definition)
  unfolding same_kind
  starts_definition = starts_mapped _ (starts_dep _ (starts_name _ refl))

  constraint_rule : (kind : Kind) → Rule nesting_bound (λ m. g.constraint any (expr any m) kind) (always (k.Semicolon ∷ follow_expr)) (r.read_constraint (AnyHeight any) kind)
  unfolding r.read_constraint same_kind
  constraint_rule kind = map _ (after kind (seq whole (maybe (k.Semicolon ∷ []) (k.Semicolon ∷ follow_expr) (tok k.Semicolon) refl refl refl starts_semicolon)
      (leaves_opt follow_expr (k.Semicolon ∷ follow_expr) refl refl starts_semicolon)))

  -- ---- sections

  -- the sections of each word
  abbrev Vars : ℕ → Section → Tokens → Type 0
  Vars m = mapped (λ p. section.Vars p.1) (both (word k.Var) (many (g.declaration any (expr any m))))

  abbrev Assigns : ℕ → Section → Tokens → Type 0
  Assigns m = mapped (λ p. section.Assigns p.1) (both (word k.Assign) (many (g.assignment any (expr any m))))

  abbrev Defines : ℕ → Section → Tokens → Type 0
  Defines m = mapped (λ p. section.Defines p.1) (both (word k.Define) (many (g.definition any (expr any m))))

  abbrev Init : ℕ → Section → Tokens → Type 0
  Init m = mapped (λ p. section.Init p.1 p.0) (g.constraint any (expr any m) k.InitSection)

  abbrev Invar : ℕ → Section → Tokens → Type 0
  Invar m = mapped (λ p. section.Invar p.1 p.0) (g.constraint any (expr any m) k.InvarSection)

  abbrev Trans : ℕ → Section → Tokens → Type 0
  Trans m = mapped (λ p. section.Trans p.1 p.0) (g.constraint any (expr any m) k.TransSection)

  abbrev Spec : ℕ → Section → Tokens → Type 0
  Spec m = mapped (λ p. section.InvarSpec p.1 p.0) (g.constraint any (expr any m) k.InvarSpec)

  -- what begins with a word
  starts_constraint : {B : Type 0} (fun : Span × Expr → B) (kind : Kind) (set : List Kind) → Starts set (λ m. word kind) → Starts set (λ m. mapped fun (g.constraint any (expr any m) kind))
  starts_constraint fun kind set s = starts_mapped fun (starts_mapped _ (starts_dep _ s))

  starts_spec : Starts (k.InvarSpec ∷ []) Spec
  unfolding same_kind
  starts_spec = starts_constraint _ k.InvarSpec _ (starts_word k.InvarSpec _ refl)

  starts_trans : Starts (k.TransSection ∷ []) Trans
  unfolding same_kind
  starts_trans = starts_constraint _ k.TransSection _ (starts_word k.TransSection _ refl)

  starts_invar : Starts (k.InvarSection ∷ []) Invar
  unfolding same_kind
  starts_invar = starts_constraint _ k.InvarSection _ (starts_word k.InvarSection _ refl)

  starts_init_section : Starts (k.InitSection ∷ []) Init
  unfolding same_kind
  starts_init_section = starts_constraint _ k.InitSection _ (starts_word k.InitSection _ refl)

  starts_defines : Starts (k.Define ∷ []) Defines
  unfolding same_kind
  starts_defines = starts_mapped _ (starts_dep _ (starts_word k.Define _ refl))

  starts_assigns : Starts (k.Assign ∷ []) Assigns
  unfolding same_kind
  starts_assigns = starts_mapped _ (starts_dep _ (starts_word k.Assign _ refl))

  starts_vars : Starts (k.Var ∷ []) Vars
  unfolding same_kind
  starts_vars = starts_mapped _ (starts_dep _ (starts_word k.Var _ refl))

  starts_from_trans : Starts from_trans (λ m. either (Trans m) (Spec m))
  unfolding same_kind
  starts_from_trans = starts_either (starts_more from_trans refl starts_trans) (starts_more from_trans refl starts_spec)

  starts_from_invar : Starts from_invar (λ m. either (Invar m) (either (Trans m) (Spec m)))
  unfolding same_kind
  starts_from_invar = starts_either (starts_more from_invar refl starts_invar) (starts_more from_invar refl starts_from_trans)

  starts_from_init : Starts from_init (λ m. either (Init m) (either (Invar m) (either (Trans m) (Spec m))))
  unfolding same_kind
  starts_from_init = starts_either (starts_more from_init refl starts_init_section) (starts_more from_init refl starts_from_invar)

  starts_from_define : Starts from_define (λ m. either (Defines m) (either (Init m) (either (Invar m) (either (Trans m) (Spec m)))))
  unfolding same_kind
  starts_from_define = starts_either (starts_more from_define refl starts_defines) (starts_more from_define refl starts_from_init)

  starts_from_assign : Starts from_assign (λ m. either (Assigns m) (either (Defines m) (either (Init m) (either (Invar m) (either (Trans m) (Spec m))))))
  unfolding same_kind
  starts_from_assign = starts_either (starts_more from_assign refl starts_assigns) (starts_more from_assign refl starts_from_define)

  starts_section : Starts r.first_section (At any g.one_section)
  unfolding same_kind
  starts_section = starts_either (starts_more r.first_section refl starts_vars) (starts_more r.first_section refl starts_from_assign)

  section_rule : Rule nesting_bound (At any g.one_section) (always follow_section) (r.read_section (AnyHeight any))
  unfolding r.read_section r.read_declarations r.read_assignments r.read_definitions same_kind
  section_rule =
      alt (k.Var ∷ []) follow_section (map _ (after k.Var (collect (k.Name ∷ []) (k.Name ∷ []) declaration_rule starts_declaration refl refl refl))) (
      alt (k.Assign ∷ []) follow_section (map _ (after k.Assign (collect r.first_side r.first_side assignment_rule starts_assignment refl refl refl))) (
      alt (k.Define ∷ []) follow_section (map _ (after k.Define (collect (k.Name ∷ []) (k.Name ∷ []) definition_rule starts_definition refl refl refl))) (
      alt (k.InitSection ∷ []) follow_section (map _ (constraint_rule k.InitSection)) (
      alt (k.InvarSection ∷ []) follow_section (map _ (constraint_rule k.InvarSection)) (
      alt (k.TransSection ∷ []) follow_section (map _ (constraint_rule k.TransSection)) (map _ (constraint_rule k.InvarSpec))
      refl refl starts_trans (leaves_start _ (always follow_section) refl starts_spec))
      refl refl starts_invar (leaves_start _ (always follow_section) refl starts_from_trans))
      refl refl starts_init_section (leaves_start _ (always follow_section) refl starts_from_invar))
      refl refl starts_defines (leaves_start _ (always follow_section) refl starts_from_init))
      refl refl starts_assigns (leaves_start _ (always follow_section) refl starts_from_define))
      refl refl starts_vars (leaves_start _ (always follow_section) refl starts_from_assign)

  -- ---- modules

  pub part_rule : Rule nesting_bound (At any g.one_part) (always skipped_kinds) (r.read_part (AnyHeight any))
  unfolding r.read_part same_kind
  part_rule = alt r.first_section skipped_kinds (map part.Section section_rule) (map part.Skipped skipped_rule) refl refl (starts_mapped _ starts_section) (leaves_start _ (always skipped_kinds) refl (starts_mapped _ starts_skipped))

  pub starts_part : Starts r.first_part (At any g.one_part)
  unfolding same_kind
  starts_part = starts_either (starts_more _ refl (starts_mapped part.Section starts_section)) (starts_more _ refl (starts_mapped part.Skipped starts_skipped))

  pub parts_rule : Rule nesting_bound (At any g.all_parts) (always follow_parts) (r.read_parts (AnyHeight any))
  unfolding r.read_parts same_kind
  parts_rule = gather r.first_part follow_parts g.with_part g.no_parts part_rule starts_part refl refl refl

  pub module_rule : Rule nesting_bound (At any g.one_module) (always follow_parts) (r.read_module (AnyHeight any))
  unfolding r.read_module same_kind
  module_rule = map _ (after k.Module (seq tok_name
      (seq some_formals_rule parts_rule (leaves_mapped g.parts_of (leaves_many (k.OpenParen ∷ []) follow_parts refl refl starts_part)))
      (leaves_all _ (always follow_parts))))

  pub starts_module : Starts (k.Module ∷ []) (At any g.one_module)
  unfolding same_kind
  starts_module = starts_mapped _ (starts_dep _ (starts_word k.Module _ refl))

  -- ---- models

  pub program_rule : Rule nesting_bound (program any) (always follow_program) (r.read_program (AnyHeight any))
  unfolding r.read_program r.read_first_module r.read_more_modules same_kind
  program_rule = gather_from (k.Module ∷ []) follow_program g.with_module (map g.single_module module_rule) module_rule starts_module refl refl refl (leaves_many follow_parts follow_program refl refl starts_module)
