-- Each token with which an expression may begin begins one.
use Rattle.std.proofs.Common.{◌≡◌, ◌+◌, ◌≤◌, Bool, true, false, ◌||◌, pos, [], ◌∷◌, Some, None, refl, sym, ◌∙◌, ap, subst, arith, inl, inr, cond}
use Rattle.smv_ast.specs.declared.syntax.Expr.{Expr}
use Rattle.smv_ast.specs.declared.syntax.Expr.TheVariants as e
use Rattle.smv_ast.specs.declared.syntax.Choice.TheVariants as choice
use Rattle.smv_ast.specs.declared.syntax.Branch.{Branch}
use Rattle.smv_expr.specs.declared.kind.Kind.{Kind}
use Rattle.smv_expr.specs.declared.kind.Kind.TheVariants as k
use Rattle.smv_expr.specs.Lexicon.{Token, same_kind}
use Rattle.smv_expr.specs.Language.{Tokens, word, has, begins, number_of, number_kinds, numeral_kinds}
use Rattle.smv_expr.specs.Answer.{openers, opens}
use Rattle.smv_expr.specs.ExprGrammar.{number_expr, branch_of}
use Rattle.smv_expr.specs.ExprGrammar as g
use Rattle.smv_expr.specs.ExprGrammar.{expr, not_expr, signed_expr}
use Rattle.smv_expr.specs.ExprReaders.{first_primary, first_unary, first_expr}
use Rattle.smv_expr.proofs.Nesting.{Begins}
use Rattle.smv_expr.proofs.Words.{is_barred, some_token}
use Rattle.smv_expr.proofs.NumberRules.{may_stand, of_kinds_has, numeral_stands}
use Rattle.smv_expr.proofs.ExprDepth.{expr_true, not_expr_true, signed_expr_true}
use Rattle.smv_expr.proofs.Levels as levels

-- some text that begins with the token
abbrev Text : (Expr → Tokens → Type 0) → Token → Type 0
Text L t = (a : Expr) × (more : Tokens) × L a (t ∷ more)

word_text : (kind : Kind) (t : Token) → same_kind t.kind kind ≡ true → word kind t.at (t ∷ [])
word_text kind t e = (t, refl, ap (λ v. cond (v || false) (Some t.at) None) e)

or_true : (v : Bool) → v || (true || false) ≡ true
or_true true = refl
or_true false = refl

-- the word or mark, and TRUE
abbrev some_word : Kind → Tokens
some_word kind = some_token kind ∷ []

abbrev the_branch : Branch
the_branch = branch_of (e.True, ((some_token k.Colon).at, (e.True, (some_token k.Semicolon).at)))

module _ (any : Bool) where
  abbrev W : Expr → Tokens → Type 0
  W = expr any 1

  abbrev N : Expr → Tokens → Type 0
  N = not_expr any 1

  abbrev U : Expr → Tokens → Type 0
  U = signed_expr any 1

  a_true : W e.True (some_word k.True)
  a_true = expr_true any

  a_word : (kind : Kind) → same_kind kind kind ≡ true → word kind (some_token kind).at (some_word kind)
  a_word kind e = word_text kind (some_token kind) e

  parens_text : (t : Token) → same_kind t.kind k.OpenParen ≡ true → g.parens any W N U e.True (t ∷ some_token k.True ∷ some_token k.CloseParen ∷ [])
  unfolding same_kind
  parens_text t s = (
    (t.at, (e.True, (some_token k.CloseParen).at)),
    record {
      prefix = t ∷ [];
      suffix = some_token k.True ∷ some_token k.CloseParen ∷ [];
      split = refl;
      first = word_text k.OpenParen t s;
      second = record { prefix = some_word k.True; suffix = some_word k.CloseParen; split = refl; first = a_true; second = a_word k.CloseParen refl };
    },
    refl,
  )

  braces_text : (t : Token) → same_kind t.kind k.OpenBrace ≡ true → g.braces any W N U (choice.Each (e.True ∷ [])) (t ∷ some_token k.True ∷ some_token k.CloseBrace ∷ [])
  unfolding same_kind
  braces_text t s = (
    (t.at, ((e.True, []), (some_token k.CloseBrace).at)),
    record {
      prefix = t ∷ [];
      suffix = some_token k.True ∷ some_token k.CloseBrace ∷ [];
      split = refl;
      first = word_text k.OpenBrace t s;
      second = record {
        prefix = some_word k.True;
        suffix = some_word k.CloseBrace;
        split = refl;
        first = record { prefix = some_word k.True; suffix = []; split = refl; first = a_true; second = refl };
        second = a_word k.CloseBrace refl;
      };
    },
    refl,
  )

  next_text : (t : Token) → same_kind t.kind k.Next ≡ true → g.next_value any W N U (e.Next e.True) (t ∷ some_token k.OpenParen ∷ some_token k.True ∷ some_token k.CloseParen ∷ [])
  unfolding same_kind
  next_text t s = (
    (t.at, e.True),
    record {
      prefix = t ∷ [];
      suffix = some_token k.OpenParen ∷ some_token k.True ∷ some_token k.CloseParen ∷ [];
      split = refl;
      first = word_text k.Next t s;
      second = parens_text (some_token k.OpenParen) refl;
    },
    refl,
  )

  -- TRUE : TRUE ;
  abbrev branch_tokens : Tokens
  branch_tokens = some_token k.True ∷ some_token k.Colon ∷ some_token k.True ∷ some_token k.Semicolon ∷ []

  branch_text : g.branch any W N U (branch_of (e.True, ((some_token k.Colon).at, (e.True, (some_token k.Semicolon).at)))) branch_tokens
  unfolding same_kind
  branch_text = (
    (e.True, ((some_token k.Colon).at, (e.True, (some_token k.Semicolon).at))),
    record {
      prefix = some_word k.True;
      suffix = some_token k.Colon ∷ some_token k.True ∷ some_token k.Semicolon ∷ [];
      split = refl;
      first = a_true;
      second = record {
        prefix = some_word k.Colon;
        suffix = some_token k.True ∷ some_token k.Semicolon ∷ [];
        split = refl;
        first = a_word k.Colon refl;
        second = record { prefix = some_word k.True; suffix = some_word k.Semicolon; split = refl; first = a_true; second = a_word k.Semicolon refl };
      };
    },
    refl,
  )

  cases_text : (t : Token) → same_kind t.kind k.Case ≡ true → g.cases any W N U (e.Cases (the_branch ∷ [])) (t ∷ some_token k.True ∷ some_token k.Colon ∷ some_token k.True ∷ some_token k.Semicolon ∷ some_token k.Esac ∷ [])
  unfolding same_kind
  cases_text t s = (
    (t.at, (the_branch, ([], (some_token k.Esac).at))),
    record {
      prefix = t ∷ [];
      suffix = some_token k.True ∷ some_token k.Colon ∷ some_token k.True ∷ some_token k.Semicolon ∷ some_token k.Esac ∷ [];
      split = refl;
      first = word_text k.Case t s;
      second = record {
        prefix = branch_tokens;
        suffix = some_word k.Esac;
        split = refl;
        first = branch_text;
        second = record { prefix = []; suffix = some_word k.Esac; split = refl; first = refl; second = a_word k.Esac refl };
      };
    },
    refl,
  )

  path_text : (t : Token) → same_kind t.kind k.Name ≡ true → g.path (g.path_of ((t.text, t.at), [])) (t ∷ [])
  path_text t s = (((t.text, t.at), []), record { prefix = t ∷ []; suffix = []; split = refl; first = (t, refl, ap (λ v. cond (v || false) (Some (t.text, t.at)) None) s); second = refl }, refl)

  primary_text : (t : Token) → has first_primary t.kind ≡ true → Text (g.primary any W N U) t
  primary_text t = by_true (same_kind t.kind k.True) refl where
    by_case : (v : Bool) → same_kind t.kind k.Case ≡ v → v || false ≡ true → Text (g.primary any W N U) t
    by_case true s h = (_, _, inr (inr (inr (inr (inr (inr (cases_text t s)))))))
    by_case false s h = cc

    by_next : (v : Bool) → same_kind t.kind k.Next ≡ v → v || (same_kind t.kind k.Case || false) ≡ true → Text (g.primary any W N U) t
    by_next true s h = (_, _, inr (inr (inr (inr (inr (inl (next_text t s)))))))
    by_next false s h = by_case (same_kind t.kind k.Case) refl h

    by_brace : (v : Bool) → same_kind t.kind k.OpenBrace ≡ v → v || (same_kind t.kind k.Next || (same_kind t.kind k.Case || false)) ≡ true → Text (g.primary any W N U) t
    by_brace true s h = (_, _, inr (inr (inr (inr (inl (_, braces_text t s, refl))))))
    by_brace false s h = by_next (same_kind t.kind k.Next) refl h

    by_paren : (v : Bool) → same_kind t.kind k.OpenParen ≡ v → v || (same_kind t.kind k.OpenBrace || (same_kind t.kind k.Next || (same_kind t.kind k.Case || false))) ≡ true → Text (g.primary any W N U) t
    by_paren true s h = (_, _, inr (inr (inr (inl (parens_text t s)))))
    by_paren false s h = by_brace (same_kind t.kind k.OpenBrace) refl h

    by_name : (v : Bool) → same_kind t.kind k.Name ≡ v → v || (same_kind t.kind k.OpenParen || (same_kind t.kind k.OpenBrace || (same_kind t.kind k.Next || (same_kind t.kind k.Case || false)))) ≡ true → Text (g.primary any W N U) t
    by_name true s h = (_, _, inr (inr (inl (path_text t s))))
    by_name false s h = by_paren (same_kind t.kind k.OpenParen) refl h

    by_false : (v : Bool) → same_kind t.kind k.False ≡ v → v || (same_kind t.kind k.Name || (same_kind t.kind k.OpenParen || (same_kind t.kind k.OpenBrace || (same_kind t.kind k.Next || (same_kind t.kind k.Case || false))))) ≡ true → Text (g.primary any W N U) t
    by_false true s h = (_, [], inr (inl (t.at, word_text k.False t s, refl)))
    by_false false s h = by_name (same_kind t.kind k.Name) refl h

    by_true : (v : Bool) → same_kind t.kind k.True ≡ v → v || has (k.False ∷ k.Name ∷ k.OpenParen ∷ k.OpenBrace ∷ k.Next ∷ k.Case ∷ []) t.kind ≡ true → Text (g.primary any W N U) t
    by_true true s h = (_, [], inl (t.at, word_text k.True t s, refl))
    by_true false s h = by_false (same_kind t.kind k.False) refl h

  -- a numeral that may stand
  number_text : (t : Token) → has (numeral_kinds any) t.kind ≡ true → Text (levels.simple any W N U) t
  number_text t h = (number_expr (number_of t), [], inl (number_of t, (t, refl, ap (λ v. cond v (Some (number_of t)) None) h), refl))

  minus_text : (t : Token) → same_kind t.kind k.Minus ≡ true → g.minus any W N U (e.Neg e.True) (t ∷ some_token k.True ∷ [])
  minus_text t s = ((t.at, e.Neg e.True), record { prefix = t ∷ []; suffix = some_word k.True; split = refl; first = word_text k.Minus t s; second = inr (e.True, signed_expr_true any, refl) }, refl)

  not_text : (t : Token) → same_kind t.kind k.Not ≡ true → g.negation any W N U (e.Not e.True) (t ∷ some_token k.True ∷ [])
  not_text t s = ((t.at, e.True), record { prefix = t ∷ []; suffix = some_word k.True; split = refl; first = word_text k.Not t s; second = not_expr_true any }, refl)

  -- of a level that takes numerals, what begins with `-`, and primaries
  module _ (L : Expr → Tokens → Type 0) (simple : (a : Expr) (ts : Tokens) → levels.simple any W N U a ts → L a ts) (minus : (a : Expr) (ts : Tokens) → g.minus any W N U a ts → L a ts)
      (t : Token) (fits : has number_kinds t.kind ≡ true → has (numeral_kinds any) t.kind ≡ true) where
    by_minus : (v : Bool) → same_kind t.kind k.Minus ≡ v → v || has first_primary t.kind ≡ true → Text L t
    by_minus true s h = (_, _, minus _ _ (minus_text t s))
    by_minus false s h = let p = primary_text t h in (p.0, p.1, simple p.0 (t ∷ p.1) (inr p.2))

    numeral : has number_kinds t.kind ≡ true → Text L t
    numeral h = let p = number_text t (fits h) in (p.0, p.1, simple p.0 (t ∷ p.1) p.2)

    by_wide : (v : Bool) → same_kind t.kind k.WideNumeral ≡ v → v || (same_kind t.kind k.Minus || has first_primary t.kind) ≡ true → Text L t
    by_wide true s h = numeral (ap (λ v. same_kind t.kind k.Numeral || (v || false)) s ∙ or_true (same_kind t.kind k.Numeral))
    by_wide false s h = by_minus (same_kind t.kind k.Minus) refl h

    by_numeral : (v : Bool) → same_kind t.kind k.Numeral ≡ v → v || (same_kind t.kind k.WideNumeral || (same_kind t.kind k.Minus || has first_primary t.kind)) ≡ true → Text L t
    by_numeral true s h = numeral (ap (λ v. v || (same_kind t.kind k.WideNumeral || false)) s)
    by_numeral false s h = by_wide (same_kind t.kind k.WideNumeral) refl h

    level_text : has first_unary t.kind ≡ true → Text L t
    level_text h = by_numeral (same_kind t.kind k.Numeral) refl h

  module _ (t : Token) (fits : has number_kinds t.kind ≡ true → has (numeral_kinds any) t.kind ≡ true) where
    signed_level : has first_unary t.kind ≡ true → Text (g.negated any W N U) t
    signed_level = level_text (g.negated any W N U) (levels.in_negated any W N U).at (λ a ts h. inr (inl h)) t fits

    unary_level : has first_unary t.kind ≡ true → Text (g.unary any W N U) t
    unary_level = level_text (g.unary any W N U) (levels.in_unary any W N U).at (λ a ts h. inr (inl h)) t fits

    by_not : (v : Bool) → same_kind t.kind k.Not ≡ v → v || has first_unary t.kind ≡ true → Text (g.not_level any W N U) t
    by_not true s h = (_, _, inl (not_text t s))
    by_not false s h = let p = unary_level h in (p.0, p.1, (levels.unary_not any W N U).at p.0 (t ∷ p.1) p.2)

    not_level : has first_expr t.kind ≡ true → Text (g.not_level any W N U) t
    not_level h = by_not (same_kind t.kind k.Not) refl h

    whole_level : has first_expr t.kind ≡ true → Text (g.whole any W N U) t
    whole_level h = let p = not_level h in (p.0, p.1, (levels.not_whole any W N U).at p.0 (t ∷ p.1) p.2)

-- ---- of tokens that open no construct: a text in which none is open

-- what begins with no sign and no digit, and opens no construct, is a constant or a name
none_left : (t : Token) → has first_primary t.kind ≡ true → has openers t.kind ≡ false → same_kind t.kind k.True ≡ false → same_kind t.kind k.False ≡ false → same_kind t.kind k.Name ≡ false → ⊥
none_left t h o a b c = grind (arith)

no_not : (t : Token) → has first_expr t.kind ≡ true → has openers t.kind ≡ false → has first_unary t.kind ≡ true
no_not t h o = grind (arith)

module _ (any : Bool) where
  abbrev Below : (Bool → (Expr → Tokens → Type 0) → (Expr → Tokens → Type 0) → (Expr → Tokens → Type 0) → Expr → Tokens → Type 0) → Expr → Tokens → Type 0
  Below F = F any (expr any 0) (not_expr any 0) (signed_expr any 0)

  lone_primary : (t : Token) → has first_primary t.kind ≡ true → has openers t.kind ≡ false → Text (Below g.primary) t
  lone_primary t h o = by_true (same_kind t.kind k.True) refl where
    by_name : (v : Bool) → same_kind t.kind k.Name ≡ v → same_kind t.kind k.True ≡ false → same_kind t.kind k.False ≡ false → Text (Below g.primary) t
    by_name true s a b = (_, [], inr (inr (inl (((t.text, t.at), []), record { prefix = t ∷ []; suffix = []; split = refl; first = (t, refl, ap (λ v. cond (v || false) (Some (t.text, t.at)) None) s); second = refl }, refl))))
    by_name false s a b = absurd (none_left t h o a b s)

    by_false : (v : Bool) → same_kind t.kind k.False ≡ v → same_kind t.kind k.True ≡ false → Text (Below g.primary) t
    by_false true s a = (_, [], inr (inl (t.at, word_text k.False t s, refl)))
    by_false false s a = by_name (same_kind t.kind k.Name) refl a s

    by_true : (v : Bool) → same_kind t.kind k.True ≡ v → Text (Below g.primary) t
    by_true true s = (_, [], inl (t.at, word_text k.True t s, refl))
    by_true false s = by_false (same_kind t.kind k.False) refl s

  -- - 0 .. 0
  lone_minus : (t : Token) → same_kind t.kind k.Minus ≡ true → Below g.minus (g.negative_interval_of (number_of (some_token k.Numeral), pos 0)) (t ∷ some_token k.Numeral ∷ some_token k.DotDot ∷ some_token k.Numeral ∷ [])
  unfolding same_kind
  lone_minus t s =
      let numeral = some_token k.Numeral in
      let stands = of_kinds_has (numeral_kinds any) number_of (some_token k.Numeral) (numeral_stands any) in (
        (t.at, g.negative_interval_of (number_of (some_token k.Numeral), pos 0)),
        record {
          prefix = t ∷ [];
          suffix = some_token k.Numeral ∷ some_token k.DotDot ∷ some_token k.Numeral ∷ [];
          split = refl;
          first = word_text k.Minus t s;
          second = inl (
            (number_of (some_token k.Numeral), pos 0),
            record {
              prefix = some_word k.Numeral;
              suffix = some_token k.DotDot ∷ some_token k.Numeral ∷ [];
              split = refl;
              first = (some_token k.Numeral, refl, stands);
              second = (
                ((some_token k.DotDot).at, pos 0),
                record { prefix = some_word k.DotDot; suffix = some_word k.Numeral; split = refl; first = word_text k.DotDot (some_token k.DotDot) refl; second = inr (number_of (some_token k.Numeral), (some_token k.Numeral, refl, stands), refl) },
                refl,
              );
            },
            refl,
          );
        },
        refl,
      )

  module _ (L : Expr → Tokens → Type 0) (simple : (a : Expr) (ts : Tokens) → Below levels.simple a ts → L a ts) (minus : (a : Expr) (ts : Tokens) → Below g.minus a ts → L a ts)
      (t : Token) (fits : has number_kinds t.kind ≡ true → has (numeral_kinds any) t.kind ≡ true) (o : has openers t.kind ≡ false) where
    lone_by_minus : (v : Bool) → same_kind t.kind k.Minus ≡ v → v || has first_primary t.kind ≡ true → Text L t
    lone_by_minus true s h = (_, _, minus _ _ (lone_minus t s))
    lone_by_minus false s h = let p = lone_primary t h o in (p.0, p.1, simple p.0 (t ∷ p.1) (inr p.2))

    lone_numeral : has number_kinds t.kind ≡ true → Text L t
    lone_numeral h = (number_expr (number_of t), [], simple (number_expr (number_of t)) (t ∷ []) (inl (number_of t, (t, refl, ap (λ v. cond v (Some (number_of t)) None) (fits h)), refl)))

    lone_by_wide : (v : Bool) → same_kind t.kind k.WideNumeral ≡ v → v || (same_kind t.kind k.Minus || has first_primary t.kind) ≡ true → Text L t
    lone_by_wide true s h = lone_numeral (ap (λ v. same_kind t.kind k.Numeral || (v || false)) s ∙ or_true (same_kind t.kind k.Numeral))
    lone_by_wide false s h = lone_by_minus (same_kind t.kind k.Minus) refl h

    lone_by_numeral : (v : Bool) → same_kind t.kind k.Numeral ≡ v → v || (same_kind t.kind k.WideNumeral || (same_kind t.kind k.Minus || has first_primary t.kind)) ≡ true → Text L t
    lone_by_numeral true s h = lone_numeral (ap (λ v. v || (same_kind t.kind k.WideNumeral || false)) s)
    lone_by_numeral false s h = lone_by_wide (same_kind t.kind k.WideNumeral) refl h

    lone_level : has first_unary t.kind ≡ true → Text L t
    lone_level h = lone_by_numeral (same_kind t.kind k.Numeral) refl h

  module _ (t : Token) (fits : has number_kinds t.kind ≡ true → has (numeral_kinds any) t.kind ≡ true) (o : has openers t.kind ≡ false) where
    lone_signed : has first_unary t.kind ≡ true → Text (Below g.negated) t
    lone_signed = lone_level (Below g.negated) (levels.in_negated any (expr any 0) (not_expr any 0) (signed_expr any 0)).at (λ a ts h. inr (inl h)) t fits o

    lone_not : has first_expr t.kind ≡ true → Text (Below g.not_level) t
    lone_not h =
        let p = lone_level (Below g.unary) (levels.in_unary any (expr any 0) (not_expr any 0) (signed_expr any 0)).at (λ a ts h. inr (inl h)) t fits o (no_not t h o) in
        (p.0, p.1, (levels.unary_not any (expr any 0) (not_expr any 0) (signed_expr any 0)).at p.0 (t ∷ p.1) p.2)

    lone_whole : has first_expr t.kind ≡ true → Text (Below g.whole) t
    lone_whole h = let p = lone_not h in (p.0, p.1, (levels.not_whole any (expr any 0) (not_expr any 0) (signed_expr any 0)).at p.0 (t ∷ p.1) p.2)

-- ---- of the three languages

near_by : (t : Token) (ts : Tokens) (v : Bool) → has openers t.kind ≡ v → cond v 2 1 ≤ 1 + opens (t ∷ ts)
unfolding opens
near_by t ts true e = subst (λ (w : Bool). 2 ≤ 1 + cond w 1 0) (sym e) (omega arith)
near_by t ts false e = subst (λ (w : Bool). 1 ≤ 1 + cond w 1 0) (sym e) (omega arith)

pub expr_begins : (any : Bool) (ts : Tokens) → begins first_expr ts ≡ true → is_barred any ts ≡ false → Begins (expr any) ts
expr_begins any [] h b = cc
expr_begins any (t ∷ ts) h b = by_opens (has openers t.kind) refl where
  by_opens : (v : Bool) → has openers t.kind ≡ v → Begins (expr any) (t ∷ ts)
  by_opens true o = let w = whole_level any t (λ n. may_stand any t ts n b) h in record { token = t; next = refl; depth = 2; near = near_by t ts true o; value = w.0; more = w.1; reads = w.2 }
  by_opens false o = let w = lone_whole any t (λ n. may_stand any t ts n b) o h in record { token = t; next = refl; depth = 1; near = near_by t ts false o; value = w.0; more = w.1; reads = w.2 }

pub not_begins : (any : Bool) (ts : Tokens) → begins first_expr ts ≡ true → is_barred any ts ≡ false → Begins (not_expr any) ts
not_begins any [] h b = cc
not_begins any (t ∷ ts) h b = by_opens (has openers t.kind) refl where
  by_opens : (v : Bool) → has openers t.kind ≡ v → Begins (not_expr any) (t ∷ ts)
  by_opens true o = let w = not_level any t (λ n. may_stand any t ts n b) h in record { token = t; next = refl; depth = 2; near = near_by t ts true o; value = w.0; more = w.1; reads = w.2 }
  by_opens false o = let w = lone_not any t (λ n. may_stand any t ts n b) o h in record { token = t; next = refl; depth = 1; near = near_by t ts false o; value = w.0; more = w.1; reads = w.2 }

pub signed_begins : (any : Bool) (ts : Tokens) → begins first_unary ts ≡ true → is_barred any ts ≡ false → Begins (signed_expr any) ts
signed_begins any [] h b = cc
signed_begins any (t ∷ ts) h b = by_opens (has openers t.kind) refl where
  by_opens : (v : Bool) → has openers t.kind ≡ v → Begins (signed_expr any) (t ∷ ts)
  by_opens true o = let w = signed_level any t (λ n. may_stand any t ts n b) h in record { token = t; next = refl; depth = 2; near = near_by t ts true o; value = w.0; more = w.1; reads = w.2 }
  by_opens false o = let w = lone_signed any t (λ n. may_stand any t ts n b) o h in record { token = t; next = refl; depth = 1; near = near_by t ts false o; value = w.0; more = w.1; reads = w.2 }
