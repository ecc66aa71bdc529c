-- Expressions nested deeper: what is read within a number is read within each greater one, for the same tree.
use Rattle.std.proofs.Common.{ℕ, zero, suc, Bool, true, false, [], ◌∷◌, None, fold, refl, sym, inl, inr, append-nil, arith}
use Rattle.smv_ast.specs.declared.syntax.Expr.{Expr}
use Rattle.smv_ast.specs.declared.syntax.Expr.TheVariants as e
use Rattle.smv_expr.specs.declared.kind.Kind.TheVariants as k
use Rattle.smv_expr.specs.Lexicon.{same_kind}
use Rattle.smv_expr.specs.Language.{Tokens, both, many, by_test, until, row, mapped, nothing}
use Rattle.smv_expr.specs.ExprGrammar.{branch_of, cases_of}
use Rattle.smv_expr.specs.ExprGrammar as g
use Rattle.smv_expr.specs.ExprGrammar.{expr, not_expr, signed_expr, is_closed, ends_closed, joined_operand, never_ends, within_operand, closed_operand, open_operand, joined, Operand}
use Rattle.smv_expr.proofs.Rules.{IsLang}
use Rattle.smv_expr.proofs.Nesting.{IsUnder, deeper_inside}
use Rattle.smv_expr.proofs.Words.{some_token}
use Rattle.smv_expr.proofs.Inside.{Inside, itself, both_inside, after_inside, mapped_inside, either_inside, opt_inside, many_inside, row_inside}

module _ (any : Bool) {W W' N N' U U' : Expr → Tokens → Type 0} (w : Inside W W') (n : Inside N N') (u : Inside U U') where
  parens_inside : Inside (g.parens any W N U) (g.parens any W' N' U')
  parens_inside = mapped_inside _ (after_inside k.OpenParen (both_inside w itself))

  braces_inside : Inside (g.braces any W N U) (g.braces any W' N' U')
  braces_inside = mapped_inside _ (after_inside k.OpenBrace (both_inside (both_inside w (many_inside (mapped_inside _ (after_inside k.Comma w)))) itself))

  branch_inside : Inside (g.branch any W N U) (g.branch any W' N' U')
  branch_inside = mapped_inside branch_of (both_inside w (after_inside k.Colon (both_inside w itself)))

  cases_inside : Inside (g.cases any W N U) (g.cases any W' N' U')
  cases_inside = mapped_inside cases_of (after_inside k.Case (both_inside branch_inside (both_inside (many_inside branch_inside) itself)))

  primary_inside : Inside (g.primary any W N U) (g.primary any W' N' U')
  primary_inside = either_inside itself (either_inside itself (either_inside itself (either_inside parens_inside (either_inside (mapped_inside _ braces_inside)
      (either_inside (mapped_inside _ (after_inside k.Next parens_inside)) cases_inside)))))

  signed_inside : Inside (g.minus_or_primary any W N U) (g.minus_or_primary any W' N' U')
  signed_inside = either_inside (mapped_inside _ (after_inside k.Minus (either_inside itself (mapped_inside _ u)))) primary_inside

  negated_inside : Inside (g.negated any W N U) (g.negated any W' N' U')
  negated_inside = either_inside itself signed_inside

  unary_inside : Inside (g.unary any W N U) (g.unary any W' N' U')
  unary_inside = either_inside itself signed_inside

  negation_inside : Inside (g.negation any W N U) (g.negation any W' N' U')
  negation_inside = mapped_inside _ (after_inside k.Not n)

  right_inside : {L L' : Operand → Tokens → Type 0} → Inside L L' → Inside (g.right_of any W N U L) (g.right_of any W' N' U' L')
  right_inside l = either_inside (mapped_inside closed_operand negation_inside) l

  term_inside : Inside (g.term any W N U) (g.term any W' N' U')
  term_inside = row_inside is_closed ends_closed joined_operand (mapped_inside open_operand unary_inside) (both_inside itself (right_inside (mapped_inside open_operand unary_inside)))

  sum_inside : Inside (g.sum any W N U) (g.sum any W' N' U')
  sum_inside = row_inside is_closed ends_closed joined_operand term_inside (both_inside itself (right_inside term_inside))

  within_inside : Inside (g.within any W N U) (g.within any W' N' U')
  within_inside = row_inside is_closed never_ends within_operand sum_inside (mapped_inside _ (after_inside k.In (either_inside braces_inside itself)))

  comparison_inside : Inside (g.comparison any W N U) (g.comparison any W' N' U')
  comparison_inside = row_inside is_closed ends_closed joined_operand within_inside (both_inside itself (right_inside within_inside))

  not_inside : Inside (g.not_level any W N U) (g.not_level any W' N' U')
  not_inside = either_inside negation_inside (mapped_inside _ comparison_inside)

  and_inside : Inside (g.and_level any W N U) (g.and_level any W' N' U')
  and_inside = mapped_inside _ (both_inside not_inside (many_inside (both_inside itself not_inside)))

  or_inside : Inside (g.or_level any W N U) (g.or_level any W' N' U')
  or_inside = mapped_inside _ (both_inside and_inside (many_inside (both_inside itself and_inside)))

  iff_inside : Inside (g.iff_level any W N U) (g.iff_level any W' N' U')
  iff_inside = mapped_inside _ (both_inside or_inside (many_inside (both_inside itself or_inside)))

  whole_inside : Inside (g.whole any W N U) (g.whole any W' N' U')
  whole_inside = mapped_inside _ (both_inside iff_inside (opt_inside (mapped_inside _ (after_inside k.Implies w))))

record Steps (any : Bool) (m : ℕ) : Type 0 where
  whole : Inside (expr any m) (expr any (suc m))
  negated : Inside (not_expr any m) (not_expr any (suc m))
  signed : Inside (signed_expr any m) (signed_expr any (suc m))

steps : (any : Bool) (m : ℕ) → Steps any m
steps any zero = record { whole = record { at = λ a ts h. absurd h }; negated = record { at = λ a ts h. absurd h }; signed = record { at = λ a ts h. absurd h } }
steps any (suc m) = let s = steps any m in record {
  whole = record { at = (whole_inside any s.whole s.negated s.signed).at };
  negated = record { at = (not_inside any s.whole s.negated s.signed).at };
  signed = record { at = (negated_inside any s.whole s.negated s.signed).at };
}

-- ---- a text of each: TRUE

abbrev pub a_true : Tokens
a_true = some_token k.True ∷ []

whichever : (v : Bool) (X Y : Type 0) → X → Y → by_test v X Y
whichever true X Y x y = x
whichever false X Y x y = y

-- a row of its first value alone
alone : {A B : Type 0} (L : B → Tokens → Type 0) (M : A → Tokens → Type 0) (ended : B → Bool) (ends : A → Bool) (step : B → A → B) (b : B) (ts : Tokens) → L b ts → row ended ends step L M b ts
alone L M ended ends step b ts h = ((b, []), record { prefix = ts; suffix = []; split = sym (append-nil ts); first = h; second = whichever (ended b) (nothing [] [] []) (until ends M [] []) (refl, refl) refl }, refl)

-- an operand without an operator
single : {A B : Type 0} (L : B → Tokens → Type 0) (M : A → Tokens → Type 0) (step : B → A → B) (b : B) (ts : Tokens) → L b ts → mapped (λ v. fold step v.0 v.1) (both L (many M)) b ts
single L M step b ts h = ((b, []), record { prefix = ts; suffix = []; split = sym (append-nil ts); first = h; second = refl }, refl)

module _ (any : Bool) (W N U : Expr → Tokens → Type 0) where
  primary_true : g.primary any W N U e.True a_true
  unfolding same_kind
  primary_true = inl ((some_token k.True).at, (some_token k.True, refl, refl), refl)

  not_true : g.not_level any W N U e.True a_true
  not_true = inr (
    (e.True, false),
    alone (g.within any W N U) _ is_closed ends_closed joined_operand (e.True, false) a_true (alone (g.sum any W N U) _ is_closed never_ends within_operand (e.True, false) a_true
        (alone (g.term any W N U) _ is_closed ends_closed joined_operand (e.True, false) a_true (alone (mapped open_operand (g.unary any W N U)) _ is_closed ends_closed joined_operand (e.True, false) a_true
        (e.True, inr (inr primary_true), refl)))),
    refl,
  )

  whole_true : g.whole any W N U e.True a_true
  whole_true = (
    (e.True, None),
    record {
      prefix = a_true;
      suffix = [];
      split = refl;
      first = single (g.or_level any W N U) _ joined e.True a_true (single (g.and_level any W N U) _ joined e.True a_true (single (g.not_level any W N U) _ joined e.True a_true not_true));
      second = inr (refl, refl);
    },
    refl,
  )

-- ---- the three languages

pub expr_true : (any : Bool) → expr any 1 e.True a_true
expr_true any = whole_true any (expr any 0) (not_expr any 0) (signed_expr any 0)

pub not_expr_true : (any : Bool) → not_expr any 1 e.True a_true
not_expr_true any = not_true any (expr any 0) (not_expr any 0) (signed_expr any 0)

pub signed_expr_true : (any : Bool) → signed_expr any 1 e.True a_true
signed_expr_true any = inr (inr (primary_true any (expr any 0) (not_expr any 0) (signed_expr any 0)))

pub expr_lang : (any : Bool) → IsLang (expr any)
expr_lang any = record { up = λ m n a ts h. (deeper_inside (expr any) (λ i. (steps any i).whole) m n).at a ts h; depth = 1; shallow = omega arith; value = e.True; text = a_true; reads = expr_true any }

pub not_lang : (any : Bool) → IsLang (not_expr any)
not_lang any = record { up = λ m n a ts h. (deeper_inside (not_expr any) (λ i. (steps any i).negated) m n).at a ts h; depth = 1; shallow = omega arith; value = e.True; text = a_true; reads = not_expr_true any }

pub signed_lang : (any : Bool) → IsLang (signed_expr any)
signed_lang any = record { up = λ m n a ts h. (deeper_inside (signed_expr any) (λ i. (steps any i).signed) m n).at a ts h; depth = 1; shallow = omega arith; value = e.True; text = a_true; reads = signed_expr_true any }

-- ---- each is its level, with one construct more that may be open

pub expr_under : (any : Bool) → IsUnder (λ m. g.whole any (expr any m) (not_expr any m) (signed_expr any m)) (expr any)
expr_under any = record { none = λ a ts h. h; inner = λ m a ts h. h; outer = λ m a ts h. h }

pub not_under : (any : Bool) → IsUnder (λ m. g.not_level any (expr any m) (not_expr any m) (signed_expr any m)) (not_expr any)
not_under any = record { none = λ a ts h. h; inner = λ m a ts h. h; outer = λ m a ts h. h }

pub signed_under : (any : Bool) → IsUnder (λ m. g.negated any (expr any m) (not_expr any m) (signed_expr any m)) (signed_expr any)
signed_under any = record { none = λ a ts h. h; inner = λ m a ts h. h; outer = λ m a ts h. h }
