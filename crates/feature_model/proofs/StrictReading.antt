-- The reader of texts that stops at the first constraint that is not propositional, beside the reader of all texts.
use Rattle.std.proofs.Common.{◌≡◌, ◌<◌, Bool, true, false, cond, [], ◌∷◌, ◌++◌, length, length-append, refl, sym, ◌∙◌, ap, arith}
use Rattle.std.proofs.lemmas.List.{append_cancel_right}
use Rattle.smv_ast.specs.declared.syntax.Span.{Span}
use Rattle.smv_ast.specs.declared.syntax.Expr.{Expr}
use Rattle.smv_expr.specs.declared.kind.Kind.TheVariants as k
use Rattle.smv_expr.specs.Language.{Tokens}
use Rattle.smv_expr.specs.Reading.{remaining_of, read_word, read_mapped}
use Rattle.smv_expr.specs.Reading.Outcome.{Read, Stop}
use Rattle.smv_expr.specs.Reading.Cause.{Deep}
use Rattle.smv_expr.proofs.Rounds.{Consumes}
use Rattle.smv_expr.proofs.Local.{Local, put, nothing_local, mapped_local, both_local, first_consumes, both_consumes, mapped_consumes, either_consumes}
use Rattle.smv_expr.proofs.ExprLocal.{word_local, word_consumes}
use Rattle.smv_expr.proofs.ExprAnswering.{limited_local}
use Rattle.feature_model.specs.Propositional.{is_propositional}
use Rattle.feature_model.specs.TextReaders as r
use Rattle.feature_model.specs.declared.text.LineReading.TheVariants.{Line, Refused}
use Rattle.feature_model.specs.declared.text.TextLine.TheVariants.{Constraint}
use Rattle.feature_model.proofs.TextRules.{group_consumes}

-- ---- each line takes a token at least

start_leaves : (ts : Tokens) → remaining_of (r.read_start ts) ≡ ts
unfolding r.read_start
start_leaves [] = refl
start_leaves (t ∷ ts) = refl

start_same : (c x x' left : Tokens) → 0 < length left → remaining_of (r.read_start (c ++ x)) ≡ left ++ x → r.read_start (c ++ x') ≡ put (r.read_start (c ++ x)) (left ++ x')
unfolding r.read_start
start_same [] x x' left some e = absurd (omega (arith, some, ap length (sym (start_leaves x) ∙ e), length-append left x))
start_same (t ∷ c) x x' left some e = ap (λ z. Read t.at (z ++ x')) (append_cancel_right (t ∷ c) left x e)

start_ends : (ts : Tokens) → r.read_start ts ≡ Stop Deep [] → ⊥
unfolding r.read_start
start_ends [] e = cc
start_ends (t ∷ ts) e = cc

start_local : Local r.read_start
start_local = record { near = λ ts. ([], sym (start_leaves ts)); same = λ c x x' mid left dots s some e. start_same c x x' left some e; ends = start_ends }

end_local : (at : Span) (e : Expr) → Local (r.read_constraint_end at e)
unfolding r.read_constraint_end
end_local at e = by_test (is_propositional e) where
  by_test : (v : Bool) → Local (λ ts. cond v (read_mapped (λ end. Line (Constraint e)) (read_word k.Semicolon) ts) (Read (Refused at) ts))
  by_test true = mapped_local _ (word_local k.Semicolon)
  by_test false = nothing_local (Refused at)

constraint_consumes : Consumes r.read_strict_constraint
unfolding r.read_strict_constraint
constraint_consumes = first_consumes (both_consumes (word_consumes k.Constraint) (both_local start_local limited_local)) (λ p. end_local p.1.0 p.1.1)

pub strict_line_consumes : Consumes r.read_strict_line
unfolding r.read_strict_line
strict_line_consumes = either_consumes (k.Constraint ∷ []) constraint_consumes (mapped_consumes Line group_consumes)
