-- Marks and operators of canonical texts, with the spaces round them, wherever they stand.
use Rattle.std.proofs.Common.{◌≡◌, ℕ, ◌+◌, Bool, true, false, ◌&&◌, ◌||◌, List, [], ◌∷◌, Some, None, cond, refl, sym, ◌∙◌, ap, subst, arith}
use Rattle.std.specs.Prelude.{codes, nat_eq, ◌==◌}
use Rattle.std.proofs.lemmas.Bool.Decides.{nat_tests}
use Rattle.smv_expr.specs.declared.kind.Kind.{Kind}
use Rattle.smv_expr.specs.declared.kind.Kind.TheVariants as k
use Rattle.smv_expr.specs.Lexicon.{Bytes, is_name_part, words, marks, word_lexeme, mark_lexeme, begins_comment, first_lexeme, same_kind}
use Rattle.smv_ast.specs.declared.syntax.Op.{Op}
use Rattle.smv_ast.specs.declared.syntax.Op.TheVariants as op
use Rattle.smv_ast.specs.PrintedExpr.{op_text}
use Rattle.smv_expr.specs.ExprGrammar.{term_operators, sum_operators, comparisons, and_operators, or_operators, iff_operators}
use Rattle.smv_expr.specs.Language.{one_of, find_kind, word}
use Rattle.smv_expr.proofs.Booleans.{cond_false}
use Rattle.smv_expr.proofs.Cuts.{Spells, OneToken, one_token}
use Rattle.smv_expr.proofs.CutWords.{any, plain, by_lexeme}

-- ---- marks

-- a word or mark that the text holds, with what stands round it
pub mark : {text : Bytes} (kind : Kind) (spelling : Bytes) → same_kind kind k.WideNumeral ≡ false → same_kind kind kind ≡ true
    → ((file start : ℕ) (remaining : Bytes) → OneToken kind spelling file start text remaining) → Spells (λ m. word kind) (λ at. Unit {0}) any text
mark kind spelling small same cuts = one_token kind spelling (λ span. span) (λ span. ap (λ v. cond (v || false) (Some span) None) same) (λ span. tt) small (λ file start remaining e. cuts file start remaining)

pub open_paren : Spells (λ m. word k.OpenParen) (λ at. Unit {0}) any (codes "(")
unfolding first_lexeme mark_lexeme word_lexeme words marks same_kind
open_paren = mark k.OpenParen (codes "(") refl refl (λ file start remaining. record { span = record { file = file; at = start }; after_it = start + 1; is = refl })

pub close_paren : Spells (λ m. word k.CloseParen) (λ at. Unit {0}) any (codes ")")
unfolding first_lexeme mark_lexeme word_lexeme words marks same_kind
close_paren = mark k.CloseParen (codes ")") refl refl (λ file start remaining. record { span = record { file = file; at = start }; after_it = start + 1; is = refl })

pub open_brace : Spells (λ m. word k.OpenBrace) (λ at. Unit {0}) any (codes "{")
unfolding first_lexeme mark_lexeme word_lexeme words marks same_kind
open_brace = mark k.OpenBrace (codes "{") refl refl (λ file start remaining. record { span = record { file = file; at = start }; after_it = start + 1; is = refl })

pub close_brace : Spells (λ m. word k.CloseBrace) (λ at. Unit {0}) any (codes "}")
unfolding first_lexeme mark_lexeme word_lexeme words marks same_kind
close_brace = mark k.CloseBrace (codes "}") refl refl (λ file start remaining. record { span = record { file = file; at = start }; after_it = start + 1; is = refl })

pub comma : Spells (λ m. word k.Comma) (λ at. Unit {0}) any (codes ", ")
unfolding first_lexeme mark_lexeme word_lexeme words marks same_kind
comma = mark k.Comma (codes ",") refl refl (λ file start remaining. record { span = record { file = file; at = start }; after_it = start + 1 + 1; is = refl })

pub colon : Spells (λ m. word k.Colon) (λ at. Unit {0}) any (codes " : ")
unfolding first_lexeme mark_lexeme word_lexeme words marks same_kind
colon = mark k.Colon (codes ":") refl refl (λ file start remaining. record { span = record { file = file; at = start + 1 }; after_it = start + 1 + 1 + 1; is = refl })

pub semicolon : Spells (λ m. word k.Semicolon) (λ at. Unit {0}) any (codes "; ")
unfolding first_lexeme mark_lexeme word_lexeme words marks same_kind
semicolon = mark k.Semicolon (codes ";") refl refl (λ file start remaining. record { span = record { file = file; at = start }; after_it = start + 1 + 1; is = refl })

pub dot_dot : Spells (λ m. word k.DotDot) (λ at. Unit {0}) any (codes "..")
unfolding first_lexeme mark_lexeme word_lexeme words marks same_kind
dot_dot = mark k.DotDot (codes "..") refl refl (λ file start remaining. record { span = record { file = file; at = start }; after_it = start + 1 + 1; is = refl })

pub in_word : Spells (λ m. word k.In) (λ at. Unit {0}) any (codes " in ")
unfolding first_lexeme mark_lexeme word_lexeme words marks same_kind
in_word = mark k.In (codes "in") refl refl (λ file start remaining. record { span = record { file = file; at = start + 1 }; after_it = start + 1 + 1 + 1 + 1; is = refl })

pub case_word : Spells (λ m. word k.Case) (λ at. Unit {0}) any (codes "case ")
unfolding first_lexeme mark_lexeme word_lexeme words marks same_kind
case_word = mark k.Case (codes "case") refl refl (λ file start remaining. record { span = record { file = file; at = start }; after_it = start + 1 + 1 + 1 + 1 + 1; is = refl })

pub implies_mark : Spells (λ m. word k.Implies) (λ at. Unit {0}) any (codes " -> ")
unfolding first_lexeme mark_lexeme word_lexeme words marks same_kind
implies_mark = mark k.Implies (codes "->") refl refl (λ file start remaining. record { span = record { file = file; at = start + 1 }; after_it = start + 1 + 1 + 1 + 1; is = refl })

-- ---- marks before a word, a numeral or a parenthesis

plain_no : (c b : ℕ) (more : Bytes) → is_name_part c || c == 40 ≡ false → plain (b ∷ more) ≡ true → nat_eq c b ≡ false
plain_no c b more h h' = by_case (nat_eq c b) refl where
  by_case : (v : Bool) → nat_eq c b ≡ v → nat_eq c b ≡ false
  by_case true e = let same : c ≡ b = grind (arith, nat_tests) in let p : plain (c ∷ more) ≡ true = subst (λ (x : ℕ). plain (x ∷ more) ≡ true) (sym same) h' in cc
  by_case false e = e

-- a mark that only what comes after it could make longer
mark_first : (kind : Kind) (c : ℕ) → same_kind kind k.Space ≡ false → same_kind kind k.WideNumeral ≡ false → same_kind kind kind ≡ true
    → ((b : ℕ) (more : Bytes) → plain (b ∷ more) ≡ true → record { kind = kind; len = 1 } ≡ first_lexeme (c ∷ b ∷ more)) → Spells (λ m. word kind) (λ at. Unit {0}) plain (c ∷ [])
mark_first kind c other small same first = one_token kind (c ∷ []) (λ span. span) (λ span. ap (λ v. cond (v || false) (Some span) None) same) (λ span. tt) small cuts where
  cuts : (file start : ℕ) (remaining : Bytes) → plain remaining ≡ true → OneToken kind (c ∷ []) file start (c ∷ []) remaining
  cuts file start [] e = cc
  cuts file start (b ∷ more) e = by_lexeme kind (c ∷ []) file start (b ∷ more) (omega arith) other (first b more e)

pub minus : Spells (λ m. word k.Minus) (λ at. Unit {0}) plain (codes "-")
unfolding first_lexeme mark_lexeme marks same_kind
minus = mark_first k.Minus 45 refl refl refl (λ b more e. sym (
    cond_false (begins_comment (45 ∷ b ∷ more)) _ _ (ap (λ v. v && true) (plain_no 45 b more refl e))
    ∙ cond_false (nat_eq 62 b && true) _ _ (ap (λ v. v && true) (plain_no 62 b more refl e))))

pub not_mark : Spells (λ m. word k.Not) (λ at. Unit {0}) plain (codes "!")
unfolding first_lexeme mark_lexeme marks same_kind
not_mark = mark_first k.Not 33 refl refl refl (λ b more e. sym (cond_false (nat_eq 61 b && true) _ _ (ap (λ v. v && true) (plain_no 61 b more refl e))))

pub dot : Spells (λ m. word k.Dot) (λ at. Unit {0}) plain (codes ".")
unfolding first_lexeme mark_lexeme marks same_kind
dot = mark_first k.Dot 46 refl refl refl (λ b more e. sym (cond_false (nat_eq 46 b && true) _ _ (ap (λ v. v && true) (plain_no 46 b more refl e))))

-- ---- operators

-- an operator of a table
operator : {text : Bytes} (table : List (Kind × Op)) (kind : Kind) (op : Op) (spelling : Bytes) → same_kind kind k.WideNumeral ≡ false → find_kind table kind ≡ Some op
    → ((file start : ℕ) (remaining : Bytes) → OneToken kind spelling file start text remaining) → Spells (λ m. one_of table) (λ o. o ≡ op) any text
operator table kind op spelling small found cuts = one_token kind spelling (λ span. op) (λ span. found) (λ span. refl) small (λ file start remaining e. cuts file start remaining)

pub op_add : Spells (λ m. one_of sum_operators) (λ o. o ≡ op.Add) any (op_text op.Add)
unfolding first_lexeme mark_lexeme word_lexeme words marks same_kind
op_add = operator sum_operators k.Plus op.Add (codes "+") refl refl (λ file start remaining. record { span = record { file = file; at = start + 1 }; after_it = start + 1 + 1 + 1; is = refl })

pub op_sub : Spells (λ m. one_of sum_operators) (λ o. o ≡ op.Sub) any (op_text op.Sub)
unfolding first_lexeme mark_lexeme word_lexeme words marks same_kind
op_sub = operator sum_operators k.Minus op.Sub (codes "-") refl refl (λ file start remaining. record { span = record { file = file; at = start + 1 }; after_it = start + 1 + 1 + 1; is = refl })

pub op_mul : Spells (λ m. one_of term_operators) (λ o. o ≡ op.Mul) any (op_text op.Mul)
unfolding first_lexeme mark_lexeme word_lexeme words marks same_kind
op_mul = operator term_operators k.Star op.Mul (codes "*") refl refl (λ file start remaining. record { span = record { file = file; at = start + 1 }; after_it = start + 1 + 1 + 1; is = refl })

pub op_mod : Spells (λ m. one_of term_operators) (λ o. o ≡ op.Mod) any (op_text op.Mod)
unfolding first_lexeme mark_lexeme word_lexeme words marks same_kind
op_mod = operator term_operators k.Mod op.Mod (codes "mod") refl refl (λ file start remaining. record { span = record { file = file; at = start + 1 }; after_it = start + 1 + 1 + 1 + 1 + 1; is = refl })

pub op_eq : Spells (λ m. one_of comparisons) (λ o. o ≡ op.Eq) any (op_text op.Eq)
unfolding first_lexeme mark_lexeme word_lexeme words marks same_kind
op_eq = operator comparisons k.Equal op.Eq (codes "=") refl refl (λ file start remaining. record { span = record { file = file; at = start + 1 }; after_it = start + 1 + 1 + 1; is = refl })

pub op_ne : Spells (λ m. one_of comparisons) (λ o. o ≡ op.Ne) any (op_text op.Ne)
unfolding first_lexeme mark_lexeme word_lexeme words marks same_kind
op_ne = operator comparisons k.NotEqual op.Ne (codes "!=") refl refl (λ file start remaining. record { span = record { file = file; at = start + 1 }; after_it = start + 1 + 1 + 1 + 1; is = refl })

pub op_lt : Spells (λ m. one_of comparisons) (λ o. o ≡ op.Lt) any (op_text op.Lt)
unfolding first_lexeme mark_lexeme word_lexeme words marks same_kind
op_lt = operator comparisons k.Less op.Lt (codes "<") refl refl (λ file start remaining. record { span = record { file = file; at = start + 1 }; after_it = start + 1 + 1 + 1; is = refl })

pub op_gt : Spells (λ m. one_of comparisons) (λ o. o ≡ op.Gt) any (op_text op.Gt)
unfolding first_lexeme mark_lexeme word_lexeme words marks same_kind
op_gt = operator comparisons k.Greater op.Gt (codes ">") refl refl (λ file start remaining. record { span = record { file = file; at = start + 1 }; after_it = start + 1 + 1 + 1; is = refl })

pub op_le : Spells (λ m. one_of comparisons) (λ o. o ≡ op.Le) any (op_text op.Le)
unfolding first_lexeme mark_lexeme word_lexeme words marks same_kind
op_le = operator comparisons k.LessEqual op.Le (codes "<=") refl refl (λ file start remaining. record { span = record { file = file; at = start + 1 }; after_it = start + 1 + 1 + 1 + 1; is = refl })

pub op_ge : Spells (λ m. one_of comparisons) (λ o. o ≡ op.Ge) any (op_text op.Ge)
unfolding first_lexeme mark_lexeme word_lexeme words marks same_kind
op_ge = operator comparisons k.GreaterEqual op.Ge (codes ">=") refl refl (λ file start remaining. record { span = record { file = file; at = start + 1 }; after_it = start + 1 + 1 + 1 + 1; is = refl })

pub op_and : Spells (λ m. one_of and_operators) (λ o. o ≡ op.And) any (op_text op.And)
unfolding first_lexeme mark_lexeme word_lexeme words marks same_kind
op_and = operator and_operators k.And op.And (codes "&") refl refl (λ file start remaining. record { span = record { file = file; at = start + 1 }; after_it = start + 1 + 1 + 1; is = refl })

pub op_or : Spells (λ m. one_of or_operators) (λ o. o ≡ op.Or) any (op_text op.Or)
unfolding first_lexeme mark_lexeme word_lexeme words marks same_kind
op_or = operator or_operators k.Or op.Or (codes "|") refl refl (λ file start remaining. record { span = record { file = file; at = start + 1 }; after_it = start + 1 + 1 + 1; is = refl })

pub op_xor : Spells (λ m. one_of or_operators) (λ o. o ≡ op.Xor) any (op_text op.Xor)
unfolding first_lexeme mark_lexeme word_lexeme words marks same_kind
op_xor = operator or_operators k.Xor op.Xor (codes "xor") refl refl (λ file start remaining. record { span = record { file = file; at = start + 1 }; after_it = start + 1 + 1 + 1 + 1 + 1; is = refl })

pub op_xnor : Spells (λ m. one_of or_operators) (λ o. o ≡ op.Xnor) any (op_text op.Xnor)
unfolding first_lexeme mark_lexeme word_lexeme words marks same_kind
op_xnor = operator or_operators k.Xnor op.Xnor (codes "xnor") refl refl (λ file start remaining. record { span = record { file = file; at = start + 1 }; after_it = start + 1 + 1 + 1 + 1 + 1 + 1; is = refl })

pub op_iff : Spells (λ m. one_of iff_operators) (λ o. o ≡ op.Iff) any (op_text op.Iff)
unfolding first_lexeme mark_lexeme word_lexeme words marks same_kind
op_iff = operator iff_operators k.Iff op.Iff (codes "<->") refl refl (λ file start remaining. record { span = record { file = file; at = start + 1 }; after_it = start + 1 + 1 + 1 + 1 + 1; is = refl })
