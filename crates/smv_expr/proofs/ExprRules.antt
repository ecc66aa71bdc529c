-- The rules of expressions, level by level, and at every limit of nesting.
use Rattle.std.proofs.Common.{◌≡◌, ℕ, zero, suc, Bool, true, false, List, [], ◌∷◌, Some, None, ap, refl, sym, subst, cond, inl, inr}
use Rattle.smv_ast.specs.declared.syntax.Op.{Op}
use Rattle.smv_ast.specs.declared.syntax.Op.TheVariants as op
use Rattle.smv_ast.specs.declared.syntax.Expr.{Expr}
use Rattle.smv_ast.specs.declared.syntax.Expr.TheVariants as e
use Rattle.smv_expr.specs.declared.kind.Kind.{Kind}
use Rattle.smv_expr.specs.declared.kind.Kind.TheVariants as k
use Rattle.smv_expr.specs.Lexicon.{Token, same_kind}
use Rattle.smv_expr.specs.Language.{Tokens, word, digits, has, number_of, number_kinds, numeral_kinds, one_of, kinds_of, find_kind, both, many, either, mapped, begins}
use Rattle.smv_expr.specs.Reading.{Reader, read_one_of, read_both}
use Rattle.smv_expr.specs.Reading.Outcome.{Stop}
use Rattle.smv_expr.specs.Reading.Cause.{Wide}
use Rattle.smv_expr.specs.ExprGrammar.{number_expr, branch_of, cases_of}
use Rattle.smv_expr.specs.ExprGrammar as g
use Rattle.smv_expr.specs.ExprGrammar.{expr, not_expr, signed_expr, is_closed, ends_closed, joined_operand, never_ends, within_operand, closed_operand, open_operand, joined, Operand, path_of, term_operators, sum_operators, comparisons, and_operators, or_operators, iff_operators}
use Rattle.smv_expr.specs.Answer.{openers}
use Rattle.smv_expr.specs.Limits.{Limit}
use Rattle.smv_expr.specs.Limits.Limit.{AnyHeight}
use Rattle.smv_expr.specs.ExprReaders.{first_primary, first_signed, first_unary, first_expr, read_limited, read_last, read_close, read_too_deep, read_sign, read_up_to, read_single, read_number, read_negative_interval, read_dotted, read_dotted_names, read_first_name, read_path, read_parens, read_next_value, read_listed, read_more_listed, read_braces, read_interval, read_choice, read_branch, read_branches, read_cases, read_primary, read_negated, read_minus, read_signed, read_unary, read_negatable, read_negation, read_closed, read_right_of, read_operand, read_term_item, read_more_term, read_term, read_sum_item, read_more_sum, read_sum, read_in_choice, read_more_within, read_within, read_comparison_item, read_more_comparison, read_comparison, read_not_level, read_and_item, read_more_and, read_and_level, read_or_item, read_more_or, read_or_level, read_iff_item, read_more_iff, read_iff_level, read_conclusion, read_whole, read_expr, read_not, read_signed_expr}
use Rattle.smv_expr.proofs.Rules.{Rule, Starts, GoesWithin}
use Rattle.smv_expr.proofs.Rows.{follow_by, row_rule}
use Rattle.smv_expr.proofs.RowRounds.{row_rounds}
use Rattle.smv_expr.proofs.NumberRules.{follow_number, number_is, starts_up_to, negated_rule, at_depth_limit, small_first, starts_small, IsSmall, IsNegatable}
use Rattle.smv_expr.proofs.NumberRules.IsNegatable.{one, other}
use Rattle.smv_expr.proofs.Sets.{begins_not_within, begins_within, begins_apart}
use Rattle.smv_expr.proofs.Nesting.{deeper}
use Rattle.smv_expr.proofs.Rounds.{Consumes, consumes}
use Rattle.smv_expr.proofs.FirstTexts.{expr_begins, not_begins, signed_begins}
use Rattle.smv_expr.proofs.ExprDepth.{expr_lang, not_lang, signed_lang, expr_under, not_under, signed_under}
use Rattle.smv_expr.proofs.Words.{always, is_barred, tok, tok_name, tok_digits, tok_one_of, dep_seq, seq, after, before, map, map_to, alt, alt_to, maybe, same, collect, chain, starts_word, starts_name, starts_digits, starts_table, starts_dep, starts_mapped, starts_either, starts_more, leaves_start, leaves_all, leaves_opt, leaves_many}

-- ---- with what each level goes on

abbrev pub follow_path : List Kind
follow_path = k.Dot ∷ []

abbrev pub follow_unary : List Kind
follow_unary = k.Dot ∷ k.DotDot ∷ []

abbrev follow_term : List Kind
follow_term = k.Star ∷ k.Mod ∷ follow_unary

abbrev follow_sum : List Kind
follow_sum = k.Plus ∷ k.Minus ∷ follow_term

abbrev follow_within : List Kind
follow_within = k.In ∷ follow_sum

abbrev pub follow_not : List Kind
follow_not = k.Equal ∷ k.NotEqual ∷ k.Less ∷ k.Greater ∷ k.LessEqual ∷ k.GreaterEqual ∷ follow_within

abbrev follow_and : List Kind
follow_and = k.And ∷ follow_not

abbrev follow_or : List Kind
follow_or = k.Or ∷ k.Xor ∷ k.Xnor ∷ follow_and

abbrev follow_iff : List Kind
follow_iff = k.Iff ∷ follow_or

abbrev pub follow_expr : List Kind
follow_expr = k.Implies ∷ follow_iff

abbrev follow_listed : List Kind
follow_listed = k.Comma ∷ follow_expr

-- an operand goes on with all that a `not` goes on with where it is closed
abbrev follow_operand : List Kind → Operand → List Kind
follow_operand follow_open a = follow_by (is_closed a) follow_not follow_open

-- ---- what each part begins with

abbrev At : {A : Type 0} → Bool → (Bool → (Expr → Tokens → Type 0) → (Expr → Tokens → Type 0) → (Expr → Tokens → Type 0) → A → Tokens → Type 0) → ℕ → A → Tokens → Type 0
At any F m = F any (expr any m) (not_expr any m) (signed_expr any m)

starts_dotted : Starts (k.Dot ∷ []) (λ m. g.dotted)
unfolding same_kind
starts_dotted = starts_mapped _ (starts_dep _ (starts_word k.Dot _ refl))

starts_path : Starts (k.Name ∷ []) (λ m. g.path)
unfolding same_kind
starts_path = starts_mapped _ (starts_dep _ (starts_name _ refl))

starts_true : Starts (k.True ∷ []) (λ m. mapped (λ at. e.True) (word k.True))
unfolding same_kind
starts_true = starts_mapped _ (starts_word k.True _ refl)

starts_false : Starts (k.False ∷ []) (λ m. mapped (λ at. e.False) (word k.False))
unfolding same_kind
starts_false = starts_mapped _ (starts_word k.False _ refl)

-- the alternatives of what begins with no sign and no digit, from each one on
abbrev set_next : List Kind
set_next = k.Next ∷ k.Case ∷ []

abbrev set_braces : List Kind
set_braces = k.OpenBrace ∷ set_next

abbrev set_parens : List Kind
set_parens = k.OpenParen ∷ set_braces

abbrev set_path : List Kind
set_path = k.Name ∷ set_parens

abbrev set_false : List Kind
set_false = k.False ∷ set_path

dots_in_unary : (r : Tokens) → begins follow_unary r ≡ false → begins (k.DotDot ∷ []) r ≡ false
unfolding same_kind
dots_in_unary r z = begins_not_within (k.DotDot ∷ []) follow_unary refl r z

module _ (any : Bool) where
  starts_number : Starts number_kinds (λ m. g.number any)
  unfolding same_kind
  starts_number = starts_mapped _ (starts_dep _ (starts_digits any _ refl))

  starts_single : Starts number_kinds (λ m. mapped number_expr (digits any))
  unfolding same_kind
  starts_single = starts_mapped _ (starts_digits any _ refl)

  starts_parens : Starts (k.OpenParen ∷ []) (At any g.parens)
  unfolding same_kind
  starts_parens = starts_mapped _ (starts_dep _ (starts_word k.OpenParen _ refl))

  starts_braces : Starts (k.OpenBrace ∷ []) (At any g.braces)
  unfolding same_kind
  starts_braces = starts_mapped _ (starts_dep _ (starts_word k.OpenBrace _ refl))

  pub starts_listed : Starts (k.Comma ∷ []) (At any g.listed)
  unfolding same_kind
  starts_listed = starts_mapped _ (starts_dep _ (starts_word k.Comma _ refl))

  starts_next : Starts (k.Next ∷ []) (At any g.next_value)
  unfolding same_kind
  starts_next = starts_mapped _ (starts_dep _ (starts_word k.Next _ refl))

  starts_cases : Starts (k.Case ∷ []) (At any g.cases)
  unfolding same_kind
  starts_cases = starts_mapped _ (starts_dep _ (starts_word k.Case _ refl))

  starts_interval : Starts (k.Minus ∷ number_kinds) (At any g.interval)
  unfolding same_kind
  starts_interval = starts_mapped _ (starts_dep _ (starts_either (starts_mapped _ (starts_dep _ (starts_word k.Minus _ refl))) (starts_mapped _ (starts_digits any _ refl))))

  starts_minus : Starts (k.Minus ∷ []) (At any g.minus)
  unfolding same_kind
  starts_minus = starts_mapped _ (starts_dep _ (starts_word k.Minus _ refl))

  starts_negation : Starts (k.Not ∷ []) (At any g.negation)
  unfolding same_kind
  starts_negation = starts_mapped _ (starts_dep _ (starts_word k.Not _ refl))

  pub starts_in_choice : Starts (k.In ∷ []) (At any g.in_choice)
  unfolding same_kind
  starts_in_choice = starts_mapped _ (starts_dep _ (starts_word k.In _ refl))

  starts_implied : Starts (k.Implies ∷ []) (At any g.implied_expr)
  unfolding same_kind
  starts_implied = starts_mapped _ (starts_dep _ (starts_word k.Implies _ refl))

  from_next : Starts set_next (λ m. either (At any g.next_value m) (At any g.cases m))
  unfolding same_kind
  from_next = starts_either (starts_more set_next refl starts_next) (starts_more set_next refl starts_cases)

  from_braces : Starts set_braces (λ m. either (mapped e.Pick (At any g.braces m)) (either (At any g.next_value m) (At any g.cases m)))
  unfolding same_kind
  from_braces = starts_either (starts_mapped e.Pick (starts_more set_braces refl starts_braces)) (starts_more set_braces refl from_next)

  from_parens : Starts set_parens (λ m. either (At any g.parens m) (either (mapped e.Pick (At any g.braces m)) (either (At any g.next_value m) (At any g.cases m))))
  unfolding same_kind
  from_parens = starts_either (starts_more set_parens refl starts_parens) (starts_more set_parens refl from_braces)

  from_path : Starts set_path (λ m. either g.path (either (At any g.parens m) (either (mapped e.Pick (At any g.braces m)) (either (At any g.next_value m) (At any g.cases m)))))
  unfolding same_kind
  from_path = starts_either (starts_more set_path refl starts_path) (starts_more set_path refl from_parens)

  from_false : Starts set_false (λ m. either (mapped (λ at. e.False) (word k.False)) (either g.path (either (At any g.parens m) (either (mapped e.Pick (At any g.braces m)) (either (At any g.next_value m) (At any g.cases m))))))
  unfolding same_kind
  from_false = starts_either (starts_more set_false refl starts_false) (starts_more set_false refl from_path)

  starts_primary : Starts first_primary (At any g.primary)
  unfolding same_kind
  starts_primary = starts_either (starts_more first_primary refl starts_true) (starts_more first_primary refl from_false)

  starts_signed : Starts first_signed (At any g.minus_or_primary)
  unfolding same_kind
  starts_signed = starts_either (starts_more first_signed refl starts_minus) (starts_more first_signed refl starts_primary)

  starts_negated : Starts first_unary (At any g.negated)
  unfolding same_kind
  starts_negated = starts_either (starts_more first_unary refl starts_single) (starts_more first_unary refl starts_signed)

  starts_unary : Starts first_unary (At any g.unary)
  unfolding same_kind
  starts_unary = starts_either (starts_more first_unary refl starts_number) (starts_more first_unary refl starts_signed)

  starts_operand : Starts first_unary (λ m. mapped open_operand (At any g.unary m))
  starts_operand = starts_mapped open_operand starts_unary

  starts_term : Starts first_unary (At any g.term)
  starts_term = starts_mapped _ (starts_dep _ starts_operand)

  starts_sum : Starts first_unary (At any g.sum)
  starts_sum = starts_mapped _ (starts_dep _ starts_term)

  starts_within : Starts first_unary (At any g.within)
  starts_within = starts_mapped _ (starts_dep _ starts_sum)

  starts_comparison : Starts first_unary (λ m. mapped (λ p. p.0) (At any g.comparison m))
  starts_comparison = starts_mapped _ (starts_mapped _ (starts_dep _ starts_within))

  starts_not : Starts first_expr (At any g.not_level)
  unfolding same_kind
  starts_not = starts_either (starts_more first_expr refl starts_negation) (starts_more first_expr refl starts_comparison)

  starts_whole : Starts first_expr (At any g.whole)
  starts_whole = starts_mapped _ (starts_dep _ (starts_mapped _ (starts_dep _ (starts_mapped _ (starts_dep _ (starts_mapped _ (starts_dep _ starts_not)))))))

  pub starts_expr : Starts first_expr (expr any)
  starts_expr = record { at = go } where
    go : (m : ℕ) (a : Expr) (f : Tokens) → expr any m a f → begins first_expr f ≡ true
    go zero a f h = absurd h
    go (suc m) a f h = starts_whole.at m a f h

  starts_not_expr : Starts first_expr (not_expr any)
  starts_not_expr = record { at = go } where
    go : (m : ℕ) (a : Expr) (f : Tokens) → not_expr any m a f → begins first_expr f ≡ true
    go zero a f h = absurd h
    go (suc m) a f h = starts_not.at m a f h

  starts_signed_expr : Starts first_unary (signed_expr any)
  starts_signed_expr = record { at = go } where
    go : (m : ℕ) (a : Expr) (f : Tokens) → signed_expr any m a f → begins first_unary f ≡ true
    go zero a f h = absurd h
    go (suc m) a f h = starts_negated.at m a f h

  -- what a `-` negates is a numeral alone, or begins with none
  negatable_shape : (m : ℕ) (a : Expr) (f : Tokens) → signed_expr any m a f → IsNegatable f
  negatable_shape zero a f h = absurd h
  negatable_shape (suc m) a f (inl h) = subst IsNegatable (sym h.1.1) (one h.1.0)
  negatable_shape (suc m) a f (inr h) = other f (starts_signed.at m a f h)

  single_reads : (t : Token) → has (numeral_kinds any) t.kind ≡ true → (m : ℕ) × (a : Expr) × signed_expr any m a (t ∷ [])
  single_reads t h = (1, number_expr (number_of t), inl (number_of t, (t, refl, ap (λ v. cond v (Some (number_of t)) None) h), refl))

  pub starts_branch : Starts first_expr (At any g.branch)
  starts_branch = starts_mapped branch_of (starts_dep _ starts_expr)

-- ---- what each part begins with where numerals are within the limit

abbrev small_unary : List Kind
small_unary = k.Numeral ∷ first_signed

small_number : Starts (k.Numeral ∷ []) (λ m. g.number false)
small_number = starts_mapped _ (starts_dep _ (starts_small false))

small_single : Starts (k.Numeral ∷ []) (λ m. mapped number_expr (digits false))
small_single = starts_mapped _ (starts_small false)

small_negated : Starts small_unary (At false g.negated)
unfolding same_kind
small_negated = starts_either (starts_more small_unary refl small_single) (starts_more small_unary refl (starts_signed false))

small_operand : Starts small_unary (λ m. mapped open_operand (At false g.unary m))
unfolding same_kind
small_operand = starts_mapped open_operand (starts_either (starts_more small_unary refl small_number) (starts_more small_unary refl (starts_signed false)))

small_term : Starts small_unary (At false g.term)
small_term = starts_mapped _ (starts_dep _ small_operand)

small_sum : Starts small_unary (At false g.sum)
small_sum = starts_mapped _ (starts_dep _ small_term)

small_within : Starts small_unary (At false g.within)
small_within = starts_mapped _ (starts_dep _ small_sum)

small_comparison : Starts small_unary (λ m. mapped (λ p. p.0) (At false g.comparison m))
small_comparison = starts_mapped _ (starts_mapped _ (starts_dep _ small_within))

small_not : Starts small_first (At false g.not_level)
unfolding same_kind
small_not = starts_either (starts_more small_first refl (starts_negation false)) (starts_more small_first refl small_comparison)

small_whole : Starts small_first (At false g.whole)
small_whole = starts_mapped _ (starts_dep _ (starts_mapped _ (starts_dep _ (starts_mapped _ (starts_dep _ (starts_mapped _ (starts_dep _ small_not)))))))

small_expr : (any : Bool) (m : ℕ) (a : Expr) (f : Tokens) → expr any m a f → IsSmall any f
small_expr true m a f h = tt
small_expr false zero a f h = absurd h
small_expr false (suc m) a f h = small_whole.at m a f h

small_not_expr : (any : Bool) (m : ℕ) (a : Expr) (f : Tokens) → not_expr any m a f → IsSmall any f
small_not_expr true m a f h = tt
small_not_expr false zero a f h = absurd h
small_not_expr false (suc m) a f h = small_not.at m a f h

small_signed_expr : (any : Bool) (m : ℕ) (a : Expr) (f : Tokens) → signed_expr any m a f → IsSmall any f
unfolding same_kind
small_signed_expr true m a f h = tt
small_signed_expr false zero a f h = absurd h
small_signed_expr false (suc m) a f h = begins_within small_unary small_first refl f (small_negated.at m a f h)

-- ---- what each part begins with where it opens no construct

abbrev lone_first : List Kind
lone_first = k.Minus ∷ k.True ∷ k.False ∷ k.Name ∷ number_kinds

starts_nowhere : {A : Type 0} {L : ℕ → A → Tokens → Type 0} (set : List Kind) → ((m : ℕ) (a : A) (f : Tokens) → L m a f → ⊥) → Starts set L
starts_nowhere set e = record { at = λ m a f h. absurd (e m a f h) }

abbrev Lone : {A : Type 0} → Bool → (Bool → (Expr → Tokens → Type 0) → (Expr → Tokens → Type 0) → (Expr → Tokens → Type 0) → A → Tokens → Type 0) → ℕ → A → Tokens → Type 0
Lone any F m = F any (expr any 0) (not_expr any 0) (signed_expr any 0)

module _ (any : Bool) where
  lone_parens : Starts lone_first (Lone any g.parens)
  lone_parens = starts_nowhere lone_first (λ m a f h. h.1.second.first)

  lone_braces : Starts lone_first (Lone any g.braces)
  lone_braces = starts_nowhere lone_first (λ m a f h. h.1.second.first.first)

  lone_next : Starts lone_first (Lone any g.next_value)
  lone_next = starts_nowhere lone_first (λ m a f h. h.1.second.1.second.first)

  lone_cases : Starts lone_first (Lone any g.cases)
  lone_cases = starts_nowhere lone_first (λ m a f h. h.1.second.first.1.first)

  lone_primary : Starts lone_first (Lone any g.primary)
  unfolding same_kind
  lone_primary = starts_either (starts_more lone_first refl starts_true) (starts_either (starts_more lone_first refl starts_false) (starts_either (starts_more lone_first refl starts_path)
      (starts_either lone_parens (starts_either (starts_mapped e.Pick lone_braces) (starts_either lone_next lone_cases)))))

  lone_minus : Starts (k.Minus ∷ []) (Lone any g.minus)
  lone_minus = record { at = λ m a f h. (starts_minus any).at 0 a f h }

  lone_signed : Starts lone_first (Lone any g.minus_or_primary)
  unfolding same_kind
  lone_signed = starts_either (starts_more lone_first refl lone_minus) lone_primary

  lone_negated : Starts lone_first (Lone any g.negated)
  unfolding same_kind
  lone_negated = starts_either (starts_more lone_first refl (starts_single any)) lone_signed

  lone_operand : Starts lone_first (λ m. mapped open_operand (Lone any g.unary m))
  unfolding same_kind
  lone_operand = starts_mapped open_operand (starts_either (starts_more lone_first refl (starts_number any)) lone_signed)

  lone_within : Starts lone_first (Lone any g.within)
  lone_within = starts_mapped _ (starts_dep _ (starts_mapped _ (starts_dep _ (starts_mapped _ (starts_dep _ lone_operand)))))

  lone_negation : Starts lone_first (Lone any g.negation)
  lone_negation = starts_nowhere lone_first (λ m a f h. h.1.second)

  lone_not : Starts lone_first (Lone any g.not_level)
  lone_not = starts_either lone_negation (starts_mapped _ (starts_mapped _ (starts_dep _ lone_within)))

  lone_whole : Starts lone_first (Lone any g.whole)
  lone_whole = starts_mapped _ (starts_dep _ (starts_mapped _ (starts_dep _ (starts_mapped _ (starts_dep _ (starts_mapped _ (starts_dep _ lone_not)))))))

no_opener : {A : Type 0} (L : ℕ → A → Tokens → Type 0) → Starts lone_first L → (a : A) (f : Tokens) → L 0 a f → begins openers f ≡ false
unfolding same_kind
no_opener L s a f h = begins_apart lone_first openers refl f (s.at 0 a f h)

-- ---- numbers and paths

module _ {limit : ℕ} (any : Bool) where
  pub sign_rule : Rule limit (λ m. g.sign any) (always []) (read_sign any true)
  unfolding read_sign read_last read_limited same_kind
  sign_rule = alt (k.Minus ∷ []) [] (map _ (after k.Minus (tok_digits any))) (map _ (tok_digits any)) refl refl
      (starts_mapped _ (starts_dep _ (starts_word k.Minus (k.Minus ∷ []) refl))) (leaves_start (k.Minus ∷ []) (always []) refl (starts_mapped _ (starts_digits any number_kinds refl)))

  pub up_to_rule : Rule limit (λ m. g.up_to any) (always []) (read_up_to any true)
  unfolding read_up_to
  up_to_rule = map _ (after k.DotDot sign_rule)

  number_rule : Rule limit (λ m. g.number any) (always follow_number) (read_number any true)
  unfolding same_kind
  number_rule = same (read_number any true) (number_is any) (map _ (seq (tok_digits any) (maybe (k.DotDot ∷ []) follow_number up_to_rule refl refl refl (starts_up_to any)) (leaves_all _ (always follow_number))))

  single_rule : Rule limit (λ m. mapped number_expr (digits any)) (always []) (read_single any true)
  unfolding read_single read_last read_limited
  single_rule = map number_expr (tok_digits any)

  negative_interval_rule : Rule limit (λ m. g.negative_interval any) (always []) (read_negative_interval any true)
  unfolding read_negative_interval read_limited
  negative_interval_rule = map g.negative_interval_of (seq (tok_digits any) up_to_rule (leaves_all _ (always [])))

module _ {limit : ℕ} where
  dotted_rule : Rule limit (λ m. g.dotted) (always []) read_dotted
  unfolding read_dotted
  dotted_rule = map _ (after k.Dot tok_name)

  pub dotted_names_rule : Rule limit (λ m. many g.dotted) (always follow_path) read_dotted_names
  unfolding read_dotted_names same_kind
  dotted_names_rule = collect (k.Dot ∷ []) follow_path dotted_rule starts_dotted refl refl refl

  path_rule : Rule limit (λ m. g.path) (always follow_path) (read_path true)
  unfolding read_path read_first_name same_kind
  path_rule = map path_of (seq tok_name dotted_names_rule (leaves_all _ (always follow_path)))

pub dotted_consumes : Consumes read_dotted
dotted_consumes = consumes (dotted_rule {limit = 0}) starts_dotted

-- a numeral over the limit stops each reader of what begins with a numeral
interval_bars : (any : Bool) (ts : Tokens) → is_barred any ts ≡ true → read_negative_interval any true ts ≡ Stop Wide ts
unfolding read_negative_interval read_limited
interval_bars true ts bar = cc
interval_bars false ts bar = rw bar refl

-- ---- expressions, from readers of those one level deeper

module _ (any : Bool) (limit : ℕ) (w n u : Limit → Reader Expr) (iw : Rule limit (expr any) (always follow_expr) (w (AnyHeight any))) (im : Rule limit (not_expr any) (always follow_not) (n (AnyHeight any)))
    (iu : Rule limit (signed_expr any) (always follow_unary) (u (AnyHeight any))) (bars : (ts : Tokens) → is_barred any ts ≡ true → u (AnyHeight any) ts ≡ Stop Wide ts) where
  parens_rule : Rule limit (At any g.parens) (always []) (read_parens w n u (AnyHeight any))
  unfolding read_close read_parens same_kind
  parens_rule = map _ (after k.OpenParen (before k.CloseParen refl iw))

  next_rule : Rule limit (At any g.next_value) (always []) (read_next_value w n u (AnyHeight any))
  unfolding read_next_value
  next_rule = map _ (after k.Next parens_rule)

  pub listed_rule : Rule limit (At any g.listed) (always follow_expr) (read_listed w n u (AnyHeight any))
  unfolding read_listed
  listed_rule = map _ (after k.Comma iw)

  braces_rule : Rule limit (At any g.braces) (always []) (read_braces w n u (AnyHeight any))
  unfolding read_close read_braces read_more_listed same_kind
  braces_rule = map _ (after k.OpenBrace (before k.CloseBrace refl
      (seq iw (collect (k.Comma ∷ []) follow_listed listed_rule (starts_listed any) refl refl refl) (leaves_many follow_expr follow_listed refl refl (starts_listed any)))))

  interval_rule : Rule limit (At any g.interval) (always []) (read_interval w n u (AnyHeight any))
  unfolding read_interval
  interval_rule = map _ (seq (sign_rule any) (up_to_rule any) (leaves_all _ (always [])))

  choice_rule : Rule limit (At any g.some_choice) (always []) (read_choice w n u (AnyHeight any))
  unfolding read_choice same_kind
  choice_rule = alt (k.OpenBrace ∷ []) [] braces_rule interval_rule refl refl (starts_braces any) (leaves_start (k.OpenBrace ∷ []) (always []) refl (starts_interval any))

  pub branch_rule : Rule limit (At any g.branch) (always []) (read_branch w n u (AnyHeight any))
  unfolding read_branch same_kind
  branch_rule = map branch_of (seq iw (after k.Colon (before k.Semicolon refl iw)) (leaves_start follow_expr (always []) refl (starts_dep _ (starts_word k.Colon (k.Colon ∷ []) refl))))

  cases_rule : Rule limit (At any g.cases) (always []) (read_cases w n u (AnyHeight any))
  unfolding read_close read_cases read_branches same_kind
  cases_rule = map cases_of (after k.Case (seq branch_rule (before k.Esac refl (collect first_expr first_expr branch_rule (starts_branch any) refl refl refl)) (leaves_all _ (always []))))

  primary_rule : Rule limit (At any g.primary) (always follow_path) (read_primary w n u (AnyHeight any))
  unfolding read_primary read_close same_kind
  primary_rule =
      alt (k.True ∷ []) follow_path (map _ (tok k.True)) (
      alt (k.False ∷ []) follow_path (map _ (tok k.False)) (
      alt (k.Name ∷ []) follow_path path_rule (
      alt (k.OpenParen ∷ []) [] parens_rule (
      alt (k.OpenBrace ∷ []) [] (map e.Pick braces_rule) (
      alt (k.Next ∷ []) [] next_rule cases_rule
      refl refl (starts_next any) (leaves_start _ (always []) refl (starts_cases any)))
      refl refl (starts_mapped e.Pick (starts_braces any)) (leaves_start _ (always []) refl (from_next any)))
      refl refl (starts_parens any) (leaves_start _ (always []) refl (from_braces any)))
      refl refl starts_path (leaves_start _ (always follow_path) refl (from_parens any)))
      refl refl starts_false (leaves_start _ (always follow_path) refl (from_path any)))
      refl refl starts_true (leaves_start _ (always follow_path) refl (from_false any))

  minus_rule : Rule limit (At any g.minus) (always follow_unary) (read_minus w n u (AnyHeight any))
  unfolding read_minus read_negated
  minus_rule = map _ (after k.Minus (negated_rule any follow_unary dots_in_unary iu (negatable_shape any) (single_reads any) (small_signed_expr any) (interval_bars any) bars (negative_interval_rule any)))

  signed_rule : Rule limit (At any g.minus_or_primary) (always follow_unary) (read_signed w n u (AnyHeight any))
  unfolding read_signed same_kind
  signed_rule = alt (k.Minus ∷ []) follow_unary minus_rule primary_rule refl refl (starts_minus any) (leaves_start (k.Minus ∷ []) (always follow_unary) refl (starts_primary any))

  unary_rule : Rule limit (At any g.unary) (always follow_unary) (read_unary w n u (AnyHeight any))
  unfolding read_unary same_kind
  unary_rule = alt number_kinds follow_unary (number_rule any) signed_rule refl refl (starts_number any) (leaves_start number_kinds (always follow_unary) refl (starts_signed any))

  negatable_rule : Rule limit (At any g.negated) (always follow_unary) (read_negatable w n u (AnyHeight any))
  unfolding read_negatable same_kind
  negatable_rule = alt number_kinds follow_unary (single_rule any) signed_rule refl refl (starts_single any) (leaves_start number_kinds (always follow_unary) refl (starts_signed any))

  operand_rule : Rule limit (λ m. mapped open_operand (At any g.unary m)) (follow_operand follow_unary) (read_operand w n u (AnyHeight any))
  unfolding read_operand
  operand_rule = map_to open_operand (follow_operand follow_unary) (record { at = λ a r z. z }) unary_rule

  negation_rule : Rule limit (At any g.negation) (always follow_not) (read_negation w n u (AnyHeight any))
  unfolding read_negation
  negation_rule = map _ (after k.Not im)

  -- a right operand, where one of the level goes on with `follow_open`
  right_rule : {L : ℕ → Operand → Tokens → Type 0} {p : Reader Operand} (follow_open : List Kind) → Starts first_unary L → Rule limit L (follow_operand follow_open) p
      → Rule limit (λ m. g.right_of any (expr any m) (not_expr any m) (signed_expr any m) (L m)) (follow_operand follow_open) (read_right_of w n u p (AnyHeight any))
  unfolding read_closed same_kind
  right_rule follow_open starts a = alt_to (k.Not ∷ []) (follow_operand follow_open) (map_to closed_operand (follow_operand follow_open) (record { at = λ x r z. z }) negation_rule) a
      (starts_mapped closed_operand (starts_negation any)) (leaves_start (k.Not ∷ []) (follow_operand follow_open) refl starts)

  item_rule : {L : ℕ → Operand → Tokens → Type 0} {p : Reader Operand} (follow_open : List Kind) (table : List (Kind × Op)) (entry : Kind × Op) → find_kind table entry.0 ≡ Some entry.1 → Starts first_unary L → Rule limit L (follow_operand follow_open) p
      → Rule limit (λ m. both (one_of table) (g.right_of any (expr any m) (not_expr any m) (signed_expr any m) (L m))) (λ b. follow_by (ends_closed b) follow_not follow_open) (read_both (read_one_of table) (read_right_of w n u p (AnyHeight any)))
  item_rule {L = L} {p = p} follow_open table entry e starts a = dep_seq {M = λ o m. g.right_of any (expr any m) (not_expr any m) (signed_expr any m) (L m)} {h = λ o. follow_operand follow_open} {q = λ o. read_right_of w n u p (AnyHeight any)}
      (tok_one_of table entry e) (λ o. right_rule follow_open starts a) (λ o. leaves_all _ (follow_operand follow_open))

  pub term_item_rule : Rule limit (λ m. both (one_of term_operators) (g.right_of any (expr any m) (not_expr any m) (signed_expr any m) (mapped open_operand (At any g.unary m)))) (λ b. follow_by (ends_closed b) follow_not follow_unary) (read_term_item w n u (AnyHeight any))
  unfolding read_term_item read_operand same_kind
  term_item_rule = item_rule follow_unary term_operators (k.Star, op.Mul) refl (starts_operand any) operand_rule

  term_rule : Rule limit (At any g.term) (follow_operand follow_term) (read_term w n u (AnyHeight any))
  unfolding read_term read_more_term read_operand same_kind
  term_rule = same (read_term w n u (AnyHeight any)) (row_rounds (kinds_of term_operators) is_closed ends_closed joined_operand (read_term_item w n u (AnyHeight any)) (λ b a. refl) (read_operand w n u (AnyHeight any)))
      (row_rule is_closed ends_closed joined_operand (λ b a. refl) (kinds_of term_operators) follow_not follow_unary follow_unary follow_term operand_rule term_item_rule (starts_dep _ (starts_table term_operators _ refl)) refl refl refl refl refl)

  pub sum_item_rule : Rule limit (λ m. both (one_of sum_operators) (g.right_of any (expr any m) (not_expr any m) (signed_expr any m) ((At any g.term) m))) (λ b. follow_by (ends_closed b) follow_not follow_term) (read_sum_item w n u (AnyHeight any))
  unfolding read_sum_item same_kind
  sum_item_rule = item_rule follow_term sum_operators (k.Plus, op.Add) refl (starts_term any) term_rule

  sum_rule : Rule limit (At any g.sum) (follow_operand follow_sum) (read_sum w n u (AnyHeight any))
  unfolding read_sum read_more_sum same_kind
  sum_rule = same (read_sum w n u (AnyHeight any)) (row_rounds (kinds_of sum_operators) is_closed ends_closed joined_operand (read_sum_item w n u (AnyHeight any)) (λ b a. refl) (read_term w n u (AnyHeight any)))
      (row_rule is_closed ends_closed joined_operand (λ b a. refl) (kinds_of sum_operators) follow_not follow_term follow_term follow_sum term_rule sum_item_rule (starts_dep _ (starts_table sum_operators _ refl)) refl refl refl refl refl)

  pub in_rule : Rule limit (At any g.in_choice) (λ c. follow_by (never_ends c) follow_not []) (read_in_choice w n u (AnyHeight any))
  unfolding read_in_choice
  in_rule = map _ (after k.In choice_rule)

  within_rule : Rule limit (At any g.within) (follow_operand follow_within) (read_within w n u (AnyHeight any))
  unfolding read_within read_more_within same_kind
  within_rule = same (read_within w n u (AnyHeight any)) (row_rounds (k.In ∷ []) is_closed never_ends within_operand (read_in_choice w n u (AnyHeight any)) (λ b a. refl) (read_sum w n u (AnyHeight any)))
      (row_rule is_closed never_ends within_operand (λ b a. refl) (k.In ∷ []) follow_not follow_sum [] follow_within sum_rule in_rule (starts_in_choice any) refl refl refl refl refl)

  pub comparison_item_rule : Rule limit (λ m. both (one_of comparisons) (g.right_of any (expr any m) (not_expr any m) (signed_expr any m) ((At any g.within) m))) (λ b. follow_by (ends_closed b) follow_not follow_within) (read_comparison_item w n u (AnyHeight any))
  unfolding read_comparison_item same_kind
  comparison_item_rule = item_rule follow_within comparisons (k.Equal, op.Eq) refl (starts_within any) within_rule

  comparison_rule : Rule limit (At any g.comparison) (follow_operand follow_not) (read_comparison w n u (AnyHeight any))
  unfolding read_comparison read_more_comparison same_kind
  comparison_rule = same (read_comparison w n u (AnyHeight any)) (row_rounds (kinds_of comparisons) is_closed ends_closed joined_operand (read_comparison_item w n u (AnyHeight any)) (λ b a. refl) (read_within w n u (AnyHeight any)))
      (row_rule is_closed ends_closed joined_operand (λ b a. refl) (kinds_of comparisons) follow_not follow_within follow_within follow_not within_rule comparison_item_rule (starts_dep _ (starts_table comparisons _ refl)) refl refl refl refl refl)

  open_or_closed : GoesWithin {A = Operand} {B = Expr} (λ p. p.0) (follow_operand follow_not) (always follow_not)
  open_or_closed = record { at = go } where
    go : (a : Operand) (remaining : Tokens) → begins follow_not remaining ≡ false → begins (follow_operand follow_not a) remaining ≡ false
    go (a, true) remaining z = z
    go (a, false) remaining z = z

  not_rule : Rule limit (At any g.not_level) (always follow_not) (read_not_level w n u (AnyHeight any))
  unfolding read_not_level same_kind
  not_rule = alt (k.Not ∷ []) follow_not negation_rule (map_to _ (always follow_not) open_or_closed comparison_rule) refl refl (starts_negation any) (leaves_start (k.Not ∷ []) (always follow_not) refl (starts_comparison any))

  pub and_item_rule : Rule limit (λ m. both (one_of and_operators) (At any g.not_level m)) (always follow_not) (read_and_item w n u (AnyHeight any))
  unfolding read_and_item same_kind
  and_item_rule = seq (tok_one_of and_operators (k.And, op.And) refl) not_rule (leaves_all _ (always follow_not))

  and_rule : Rule limit (At any g.and_level) (always follow_and) (read_and_level w n u (AnyHeight any))
  unfolding read_and_level read_more_and same_kind
  and_rule = chain (kinds_of and_operators) follow_and joined not_rule and_item_rule
      (starts_dep _ (starts_table and_operators _ refl)) refl refl refl (leaves_many follow_not follow_and refl refl (starts_dep _ (starts_table and_operators (kinds_of and_operators) refl)))

  pub or_item_rule : Rule limit (λ m. both (one_of or_operators) (At any g.and_level m)) (always follow_and) (read_or_item w n u (AnyHeight any))
  unfolding read_or_item same_kind
  or_item_rule = seq (tok_one_of or_operators (k.Or, op.Or) refl) and_rule (leaves_all _ (always follow_and))

  or_rule : Rule limit (At any g.or_level) (always follow_or) (read_or_level w n u (AnyHeight any))
  unfolding read_or_level read_more_or same_kind
  or_rule = chain (kinds_of or_operators) follow_or joined and_rule or_item_rule
      (starts_dep _ (starts_table or_operators _ refl)) refl refl refl (leaves_many follow_and follow_or refl refl (starts_dep _ (starts_table or_operators (kinds_of or_operators) refl)))

  pub iff_item_rule : Rule limit (λ m. both (one_of iff_operators) (At any g.or_level m)) (always follow_or) (read_iff_item w n u (AnyHeight any))
  unfolding read_iff_item same_kind
  iff_item_rule = seq (tok_one_of iff_operators (k.Iff, op.Iff) refl) or_rule (leaves_all _ (always follow_or))

  iff_rule : Rule limit (At any g.iff_level) (always follow_iff) (read_iff_level w n u (AnyHeight any))
  unfolding read_iff_level read_more_iff same_kind
  iff_rule = chain (kinds_of iff_operators) follow_iff joined or_rule iff_item_rule
      (starts_dep _ (starts_table iff_operators _ refl)) refl refl refl (leaves_many follow_or follow_iff refl refl (starts_dep _ (starts_table iff_operators (kinds_of iff_operators) refl)))

  whole_rule : Rule limit (At any g.whole) (always follow_expr) (read_whole w n u (AnyHeight any))
  unfolding read_whole read_conclusion same_kind
  whole_rule = map _ (seq iff_rule (maybe (k.Implies ∷ []) follow_expr (map _ (after k.Implies iw)) refl refl refl (starts_implied any)) (leaves_opt follow_iff follow_expr refl refl (starts_implied any)))

-- ---- at every limit

pub signed_bars : (any : Bool) (limit : ℕ) (ts : Tokens) → is_barred any ts ≡ true → read_signed_expr limit (AnyHeight any) ts ≡ Stop Wide ts
unfolding read_expr read_too_deep read_negatable read_single read_last read_limited same_kind
signed_bars true limit ts bar = cc
signed_bars false zero ts bar = rw bar refl
signed_bars false (suc limit) ts bar = rw (begins_within (k.WideNumeral ∷ []) number_kinds refl ts bar, bar) refl

pub record ExprRules (any : Bool) (limit : ℕ) : Type 0 where
  pub whole : Rule limit (expr any) (always follow_expr) (read_expr limit (AnyHeight any))
  pub negated : Rule limit (not_expr any) (always follow_not) (read_not limit (AnyHeight any))
  pub signed : Rule limit (signed_expr any) (always follow_unary) (read_signed_expr limit (AnyHeight any))

pub expr_rules : (any : Bool) (limit : ℕ) → ExprRules any limit
unfolding read_expr same_kind
expr_rules any zero = record {
  whole = at_depth_limit any first_expr (always follow_expr) refl (expr_under any) (expr_lang any) (starts_expr any) (no_opener (Lone any g.whole) (lone_whole any)) (small_expr any) (expr_begins any);
  negated = at_depth_limit any first_expr (always follow_not) refl (not_under any) (not_lang any) (starts_not_expr any) (no_opener (Lone any g.not_level) (lone_not any)) (small_not_expr any) (not_begins any);
  signed = at_depth_limit any first_unary (always follow_unary) refl (signed_under any) (signed_lang any) (starts_signed_expr any) (no_opener (Lone any g.negated) (lone_negated any)) (small_signed_expr any) (signed_begins any);
}
expr_rules any (suc limit) = let s = expr_rules any limit in let b = signed_bars any limit in record {
  whole = deeper (expr_under any) (expr_lang any) (whole_rule any limit (read_expr limit) (read_not limit) (read_signed_expr limit) s.whole s.negated s.signed b);
  negated = deeper (not_under any) (not_lang any) (not_rule any limit (read_expr limit) (read_not limit) (read_signed_expr limit) s.whole s.negated s.signed b);
  signed = deeper (signed_under any) (signed_lang any) (negatable_rule any limit (read_expr limit) (read_not limit) (read_signed_expr limit) s.whole s.negated s.signed b);
}
