-- Each level of the grammar of expressions takes what the level below it takes, and one operator with two operands.
use Rattle.std.proofs.Common.{◌≡◌, Bool, true, false, List, [], ◌∷◌, Some, None, fold, refl, sym, append-nil, inl, inr}
use Rattle.smv_ast.specs.declared.syntax.Op.{Op}
use Rattle.smv_ast.specs.declared.syntax.Op.TheVariants as op
use Rattle.smv_ast.specs.declared.syntax.Expr.{Expr}
use Rattle.smv_ast.specs.declared.syntax.Expr.TheVariants as e
use Rattle.smv_ast.specs.declared.syntax.Choice.{Choice}
use Rattle.smv_expr.specs.declared.kind.Kind.{Kind}
use Rattle.smv_expr.specs.declared.kind.Kind.TheVariants as k
use Rattle.smv_expr.specs.Language.{Tokens, word, digits, one_of, both, many, row, by_test, either, mapped}
use Rattle.smv_expr.specs.ExprGrammar as g
use Rattle.smv_expr.specs.ExprGrammar.{number_expr, is_closed, ends_closed, joined_operand, never_ends, within_operand, open_operand, joined, Operand, term_operators, sum_operators, comparisons, and_operators, or_operators, iff_operators}
use Rattle.smv_expr.proofs.Inside.{Inside, itself, through, both_inside}

-- ---- rows

either_way : (v : Bool) {X Y : Type 0} → X → Y → by_test v X Y
either_way true x y = x
either_way false x y = y

where_false : (v : Bool) (X Y : Type 0) → v ≡ false → Y → by_test v X Y
where_false true X Y e y = cc
where_false false X Y e y = y

module _ {A B : Type 0} (ended : B → Bool) (ends : A → Bool) (step : B → A → B) (L : B → Tokens → Type 0) (M : A → Tokens → Type 0) where
  row_alone : (b : B) (ts : Tokens) → L b ts → row ended ends step L M b ts
  row_alone b ts h = ((b, []), record { prefix = ts; suffix = []; split = sym (append-nil ts); first = h; second = either_way (ended b) (refl, refl) refl }, refl)

  row_one : (b : B) (a : A) (ts : Tokens) → ended b ≡ false → both L M (b, a) ts → row ended ends step L M (step b a) ts
  row_one b a ts e h = (
    (b, a ∷ []),
    record {
      prefix = h.prefix;
      suffix = h.suffix;
      split = h.split;
      first = h.first;
      second = where_false (ended b) _ _ e (h.suffix, [], sym (append-nil h.suffix), h.second, either_way (ends a) (refl, refl) refl);
    },
    refl,
  )

-- an operand, an operator of the table and another operand
abbrev pub joins : (Expr → Tokens → Type 0) → List (Kind × Op) → Expr × (Op × Expr) → Tokens → Type 0
joins L table = both L (both (one_of table) L)

abbrev pub binary : Expr × (Op × Expr) → Expr
binary v = e.Binary v.1.0 v.0 v.1.1

chain_alone : {L : Expr → Tokens → Type 0} (table : List (Kind × Op)) → Inside L (mapped (λ v. fold joined v.0 v.1) (both L (many (both (one_of table) L))))
chain_alone table = record { at = λ a ts h. ((a, []), record { prefix = ts; suffix = []; split = sym (append-nil ts); first = h; second = refl }, refl) }

chain_one : {L : Expr → Tokens → Type 0} (table : List (Kind × Op)) (v : Expr × (Op × Expr)) (ts : Tokens) → joins L table v ts → mapped (λ v. fold joined v.0 v.1) (both L (many (both (one_of table) L))) (binary v) ts
chain_one table v ts h = ((v.0, v.1 ∷ []), record { prefix = h.prefix; suffix = h.suffix; split = h.split; first = h.first; second = (h.suffix, [], sym (append-nil h.suffix), h.second, refl) }, refl)

joins_inside : {L L' : Expr → Tokens → Type 0} (table : List (Kind × Op)) → Inside L L' → Inside (joins L table) (joins L' table)
joins_inside table f = both_inside f (both_inside itself f)

module _ (any : Bool) (W N U : Expr → Tokens → Type 0) where
  -- what stands as an operand in a canonical text: a numeral, or what begins with no sign
  abbrev pub simple : Expr → Tokens → Type 0
  simple = either (mapped number_expr (digits any)) (g.primary any W N U)

  -- the levels with operands, for operands that are not closed
  abbrev open_in : (Operand → Tokens → Type 0) → Expr → Tokens → Type 0
  open_in L a ts = L (open_operand a) ts

  row_join : (L : Operand → Tokens → Type 0) (table : List (Kind × Op)) (v : Expr × (Op × Expr)) (ts : Tokens) → joins (open_in L) table v ts
      → row is_closed ends_closed joined_operand L (both (one_of table) (g.right_of any W N U L)) (open_operand (binary v)) ts
  row_join L table v ts h = row_one is_closed ends_closed joined_operand L (both (one_of table) (g.right_of any W N U L)) (open_operand v.0) (v.1.0, open_operand v.1.1) ts refl
      (record { prefix = h.prefix; suffix = h.suffix; split = h.split; first = h.first; second = record { prefix = h.second.prefix; suffix = h.second.suffix; split = h.second.split; first = h.second.first; second = inr h.second.second } })

  -- ---- from each level to the next

  number_alone : (a : Expr) (ts : Tokens) → mapped number_expr (digits any) a ts → g.number any a ts
  number_alone a ts h = ((h.0, None), record { prefix = ts; suffix = []; split = sym (append-nil ts); first = h.1; second = inr (refl, refl) }, h.2)

  pub in_unary : Inside simple (g.unary any W N U)
  in_unary = record { at = go } where
    go : (a : Expr) (ts : Tokens) → simple a ts → g.unary any W N U a ts
    go a ts (inl h) = inl (number_alone a ts h)
    go a ts (inr h) = inr (inr h)

  pub in_negated : Inside simple (g.negated any W N U)
  in_negated = record { at = go } where
    go : (a : Expr) (ts : Tokens) → simple a ts → g.negated any W N U a ts
    go a ts (inl h) = inl h
    go a ts (inr h) = inr (inr h)

  unary_up : Inside (g.unary any W N U) (open_in (mapped open_operand (g.unary any W N U)))
  unary_up = record { at = λ a ts h. (a, h, refl) }

  factor_up : Inside (open_in (mapped open_operand (g.unary any W N U))) (open_in (g.term any W N U))
  factor_up = record { at = λ a ts h. row_alone _ _ _ _ _ (open_operand a) ts h }

  term_up : Inside (open_in (g.term any W N U)) (open_in (g.sum any W N U))
  term_up = record { at = λ a ts h. row_alone _ _ _ _ _ (open_operand a) ts h }

  sum_up : Inside (open_in (g.sum any W N U)) (open_in (g.within any W N U))
  sum_up = record { at = λ a ts h. row_alone is_closed never_ends within_operand (g.sum any W N U) (g.in_choice any W N U) (open_operand a) ts h }

  within_up : Inside (open_in (g.within any W N U)) (open_in (g.comparison any W N U))
  within_up = record { at = λ a ts h. row_alone _ _ _ _ _ (open_operand a) ts h }

  comparison_up : Inside (open_in (g.comparison any W N U)) (g.not_level any W N U)
  comparison_up = record { at = λ a ts h. inr (open_operand a, h, refl) }

  iff_up : Inside (g.iff_level any W N U) (g.whole any W N U)
  iff_up = record { at = λ a ts h. ((a, None), record { prefix = ts; suffix = []; split = sym (append-nil ts); first = h; second = inr (refl, refl) }, refl) }

  -- ---- from each level to whole expressions

  or_whole : Inside (g.or_level any W N U) (g.whole any W N U)
  or_whole = through (chain_alone iff_operators) iff_up

  and_whole : Inside (g.and_level any W N U) (g.whole any W N U)
  and_whole = through (chain_alone or_operators) or_whole

  pub not_whole : Inside (g.not_level any W N U) (g.whole any W N U)
  not_whole = through (chain_alone and_operators) and_whole

  comparison_whole : Inside (open_in (g.comparison any W N U)) (g.whole any W N U)
  comparison_whole = through comparison_up not_whole

  within_whole : Inside (open_in (g.within any W N U)) (g.whole any W N U)
  within_whole = through within_up comparison_whole

  sum_whole : Inside (open_in (g.sum any W N U)) (g.whole any W N U)
  sum_whole = through sum_up within_whole

  term_whole : Inside (open_in (g.term any W N U)) (g.whole any W N U)
  term_whole = through term_up sum_whole

  pub unary_whole : Inside (g.unary any W N U) (g.whole any W N U)
  unary_whole = through unary_up (through factor_up term_whole)

  -- from what may stand between the operators of products to what a `!` takes
  pub unary_not : Inside (g.unary any W N U) (g.not_level any W N U)
  unary_not = through unary_up (through factor_up (through term_up (through sum_up (through within_up comparison_up))))

  -- ---- from operands to each level

  in_factor : Inside simple (open_in (mapped open_operand (g.unary any W N U)))
  in_factor = through in_unary unary_up

  in_term : Inside simple (open_in (g.term any W N U))
  in_term = through in_factor factor_up

  in_sum : Inside simple (open_in (g.sum any W N U))
  in_sum = through in_term term_up

  in_within : Inside simple (open_in (g.within any W N U))
  in_within = through in_sum sum_up

  pub in_not : Inside simple (g.not_level any W N U)
  in_not = through in_within (through within_up comparison_up)

  in_and : Inside simple (g.and_level any W N U)
  in_and = through in_not (chain_alone and_operators)

  in_or : Inside simple (g.or_level any W N U)
  in_or = through in_and (chain_alone or_operators)

  in_iff : Inside simple (g.iff_level any W N U)
  in_iff = through in_or (chain_alone iff_operators)

  pub in_whole : Inside simple (g.whole any W N U)
  in_whole = through in_iff iff_up

  -- ---- two operands

  abbrev pub Joins : List (Kind × Op) → Type 0
  Joins table = (v : Expr × (Op × Expr)) (ts : Tokens) → joins simple table v ts → g.whole any W N U (binary v) ts

  pub term_joins : Joins term_operators
  term_joins v ts h = term_whole.at (binary v) ts (row_join _ term_operators v ts ((joins_inside term_operators in_factor).at v ts h))

  pub sum_joins : Joins sum_operators
  sum_joins v ts h = sum_whole.at (binary v) ts (row_join _ sum_operators v ts ((joins_inside sum_operators in_term).at v ts h))

  pub comparison_joins : Joins comparisons
  comparison_joins v ts h = comparison_whole.at (binary v) ts (row_join _ comparisons v ts ((joins_inside comparisons in_within).at v ts h))

  pub and_joins : Joins and_operators
  and_joins v ts h = and_whole.at (binary v) ts (chain_one and_operators v ts ((joins_inside and_operators in_not).at v ts h))

  pub or_joins : Joins or_operators
  or_joins v ts h = or_whole.at (binary v) ts (chain_one or_operators v ts ((joins_inside or_operators in_and).at v ts h))

  pub iff_joins : Joins iff_operators
  iff_joins v ts h = iff_up.at (binary v) ts (chain_one iff_operators v ts ((joins_inside iff_operators in_or).at v ts h))

  -- a premise and a conclusion
  pub implies_joins : (v : Expr × (_ × Expr)) (ts : Tokens) → both simple (both (word k.Implies) W) v ts → g.whole any W N U (e.Binary op.Implies v.0 v.1.1) ts
  implies_joins v ts h = ((v.0, Some v.1.1), record { prefix = h.prefix; suffix = h.suffix; split = h.split; first = in_iff.at v.0 h.prefix h.first; second = inl (v.1.1, (v.1, h.second, refl), refl) }, refl)

  -- an operand and a choice
  pub within_joins : (v : Expr × (_ × Choice)) (ts : Tokens) → both simple (both (word k.In) (g.some_choice any W N U)) v ts → g.whole any W N U (e.Within v.0 v.1.1) ts
  within_joins v ts h = within_whole.at (e.Within v.0 v.1.1) ts (row_one is_closed never_ends within_operand (g.sum any W N U) (g.in_choice any W N U) (open_operand v.0) v.1.1 ts refl
      (record { prefix = h.prefix; suffix = h.suffix; split = h.split; first = in_sum.at v.0 h.prefix h.first; second = (v.1, h.second, refl) }))

  -- `!` and its operand
  pub not_joins : (v : _ × Expr) (ts : Tokens) → both (word k.Not) N v ts → g.whole any W N U (e.Not v.1) ts
  not_joins v ts h = not_whole.at (e.Not v.1) ts (inl (v, h, refl))

  -- `-` and its operand
  pub minus_joins : (v : _ × Expr) (ts : Tokens) → both (word k.Minus) U v ts → g.whole any W N U (e.Neg v.1) ts
  minus_joins v ts h = unary_whole.at (e.Neg v.1) ts (inr (inl ((v.0, e.Neg v.1), record { prefix = h.prefix; suffix = h.suffix; split = h.split; first = h.first; second = inr (v.1, h.second, refl) }, refl)))
