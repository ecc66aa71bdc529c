-- What is answered of the canonical text of a printable expression.
use Rattle.std.proofs.Common.{◌≡◌, ℕ, Bool, true, false, ◌||◌, [], ◌∷◌, ◌++◌, refl, sym, ◌∙◌, ap, subst, append-nil, arith}
use Rattle.std.specs.Prelude.{not, Result, Ok, Err}
use Rattle.smv_ast.specs.declared.syntax.Expr.{Expr}
use Rattle.smv_ast.specs.declared.fault.Fault.{Fault}
use Rattle.smv_ast.specs.declared.fault.Fault.TheVariants as fault
use Rattle.smv_ast.specs.PrintedExpr.{printed_expr}
use Rattle.smv_ast.specs.IgnoringSpans.{SameExpr}
use Rattle.smv_expr.specs.declared.kind.Kind.TheVariants as k
use Rattle.smv_expr.specs.Lexicon.{Bytes, same_kind, tokens}
use Rattle.smv_expr.specs.Language.{Tokens, begins}
use Rattle.smv_expr.specs.Reading.{Outcome}
use Rattle.smv_expr.specs.Reading.Outcome.{Read, Stop}
use Rattle.smv_expr.specs.Reading.Cause.{UnexpectedToken, Wide, Deep}
use Rattle.smv_expr.specs.Answer.{unlimited, StopsAt, Verdict, Reports, result_of}
use Rattle.smv_expr.specs.ExprAnswer.{is_low, limited_expr, ExprAnswer}
use Rattle.smv_expr.specs.ExprGrammar.{expr}
use Rattle.smv_expr.specs.RoundTrip.{Printable, IsRoundTrip}
use Rattle.smv_expr.proofs.Booleans.{both_left, both_right}
use Rattle.smv_expr.proofs.Cuts.{is_narrow}
use Rattle.smv_expr.proofs.RoundTrip.{expr_spells}

-- the tokens stand for the same tree, and none is a numeral over the limit
record IsTextOf (e : Expr) (ts : Tokens) : Type 0 where
  value : Expr
  reads : unlimited expr value ts
  same : SameExpr value e
  narrow : is_narrow ts ≡ true

printed_text : (file : ℕ) (e : Expr) → Printable e → IsTextOf e (tokens file (printed_expr e))
printed_text file e h =
    let x = expr_spells e h in
    let c = x.at x.depth (omega arith) file 0 [] refl in
    let all : tokens file (printed_expr e) ≡ c.prefix = ap (tokens file) (sym (append-nil (printed_expr e))) ∙ c.split ∙ append-nil c.prefix in
    record {
      value = c.value;
      reads = (x.depth, subst (λ (ts : Tokens). expr true x.depth c.value ts) (sym all) c.reads);
      same = c.keeps;
      narrow = ap is_narrow all ∙ c.narrow;
    }

no_stop : (e : Expr) (ts remaining : Tokens) → IsTextOf e ts → StopsAt expr ts remaining → ⊥
no_stop e ts remaining x s = s.dead (record { more = remaining; next = refl; value = x.value; viable = subst (λ (all : Tokens). unlimited expr x.value all) s.before.split x.reads })

pub narrow_suffix : (prefix remaining : Tokens) → is_narrow (prefix ++ remaining) ≡ true → is_narrow remaining ≡ true
narrow_suffix [] remaining h = h
narrow_suffix (t ∷ prefix) remaining h = narrow_suffix prefix remaining (both_right _ _ h)

pub no_wide : (remaining : Tokens) → is_narrow remaining ≡ true → begins (k.WideNumeral ∷ []) remaining ≡ true → ⊥
no_wide [] h b = cc
no_wide (t ∷ remaining) h b = by_kind (same_kind t.kind k.WideNumeral) b (both_left _ _ h) where
  by_kind : (wide : Bool) → wide || false ≡ true → not wide ≡ true → ⊥
  by_kind true b n = cc
  by_kind false b n = cc

result_round_trips : (file : ℕ) (bytes : Bytes) (e : Expr) (o : Outcome Expr) → IsTextOf e (tokens file bytes) → Verdict expr is_low (tokens file bytes) o → IsRoundTrip file bytes e (result_of file bytes o)
result_round_trips file bytes e (Read a []) x v = subst (λ (b : Expr). SameExpr b e) (v.only x.value x.reads) x.same
result_round_trips file bytes e (Read a (t ∷ remaining)) x v = absurd (no_stop e (tokens file bytes) (t ∷ remaining) x v)
result_round_trips file bytes e (Stop UnexpectedToken remaining) x v = absurd (no_stop e (tokens file bytes) remaining x v)
result_round_trips file bytes e (Stop Wide remaining) x v = absurd (no_wide remaining (narrow_suffix v.before.prefix remaining (ap is_narrow (sym v.before.split) ∙ x.narrow)) v.wide)
result_round_trips file bytes e (Stop Deep remaining) x v = v.unfit

reports_round_trip : (file : ℕ) (bytes : Bytes) (e : Expr) (result : Result Expr Fault) → Printable e → bytes ≡ printed_expr e → Reports expr is_low limited_expr file bytes result → IsRoundTrip file bytes e result
reports_round_trip file bytes e result h same t = subst (λ (r : Result Expr Fault). IsRoundTrip file bytes e r) (sym t.is)
    (result_round_trips file bytes e (limited_expr (tokens file bytes)) (subst (λ (text : Bytes). IsTextOf e (tokens file text)) (sym same) (printed_text file e h)) t.verdict)

-- What is answered of the canonical text is the same tree, or that the text is not within the limits of nesting.
pub answers_round_trip : (file : ℕ) (bytes : Bytes) (e : Expr) (result : Result Expr Fault) → Printable e → bytes ≡ printed_expr e → ExprAnswer file bytes result → IsRoundTrip file bytes e result
answers_round_trip file bytes e (Ok a) h same t = reports_round_trip file bytes e (Ok a) h same t
answers_round_trip file bytes e (Err fault.NoMemory) h same t = tt
answers_round_trip file bytes e (Err _) h same t = reports_round_trip file bytes e _ h same t
