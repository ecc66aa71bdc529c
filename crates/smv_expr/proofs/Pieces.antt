-- Canonical texts of expressions, form by form: where the texts of the parts are read, so is the text of the whole.
use Rattle.std.proofs.Common.{◌≡◌, ℕ, suc, Bool, true, ◌&&◌, ℤ, pos, neg_ℤ, List, [], ◌∷◌, ◌++◌, map, codes, Some, refl, sym, ◌∙◌, ap, append_assoc, inl, inr}
use Rattle.std.specs.List.{list_all}
use Rattle.std.specs.Fmt.{decimal, signed_decimal}
use Rattle.smv_ast.specs.declared.syntax.Op.{Op}
use Rattle.smv_ast.specs.declared.syntax.Op.TheVariants as op
use Rattle.smv_ast.specs.declared.syntax.Path.{Path}
use Rattle.smv_ast.specs.declared.syntax.Expr.{Expr}
use Rattle.smv_ast.specs.declared.syntax.Expr.TheVariants as e
use Rattle.smv_ast.specs.declared.syntax.Choice.{Choice}
use Rattle.smv_ast.specs.declared.syntax.Choice.TheVariants as choice
use Rattle.smv_ast.specs.PrintedExpr.{Piece, primary_piece, compound_piece, operand, op_text, joined, each_after}
use Rattle.smv_ast.specs.IgnoringSpans.{spanless_expr}
use Rattle.smv_expr.specs.declared.kind.Kind.{Kind}
use Rattle.smv_expr.specs.declared.kind.Kind.TheVariants as k
use Rattle.smv_expr.specs.Lexicon.{Bytes, words, same_kind}
use Rattle.smv_expr.specs.Language.{Tokens, one_of}
use Rattle.smv_expr.specs.ExprGrammar as g
use Rattle.smv_expr.specs.ExprGrammar.{expr, not_expr, signed_expr, number_expr}
use Rattle.smv_expr.specs.RoundTrip.{is_name, is_path, is_small, is_small_sign, all_are}
use Rattle.smv_expr.proofs.Booleans.{both_left, both_right}
use Rattle.smv_expr.proofs.Cuts.{Spells, then, spelled_as, spelled_mapped, weakened, retext, nested, in_row, many_spells}
use Rattle.smv_expr.proofs.CutWords.{any, ends, plain, word_spells, name_spells, name_plain, numeral_spells, decimal_plain}
use Rattle.smv_expr.proofs.CutMarks.{open_paren, close_paren, dot_dot, dot, minus, not_mark, in_word, implies_mark, op_add, op_sub, op_mul, op_mod, op_eq, op_ne, op_lt, op_gt, op_le, op_ge, op_and, op_or, op_xor, op_xnor, op_iff}
use Rattle.smv_expr.proofs.Levels as levels
use Rattle.smv_expr.proofs.Levels.{simple, binary}
use Rattle.smv_expr.proofs.Forms.{IsSame, IsSameChoice, spanless_choice, same_name, same_neg, same_not, same_next, same_binary, same_within}

-- a part of the grammar, at each depth
abbrev pub At : {A : Type 0} → (Bool → (Expr → Tokens → Type 0) → (Expr → Tokens → Type 0) → (Expr → Tokens → Type 0) → A → Tokens → Type 0) → ℕ → A → Tokens → Type 0
At F m = F true (expr true m) (not_expr true m) (signed_expr true m)

-- A piece is read, alone and as an operand, as a tree that keeps P.
pub record IsRead (P : Expr → Type 0) (p : Piece) : Type 0 where
  pub whole : Spells (At g.whole) P ends p.text
  pub part : Spells (At simple) P ends (operand p)
  pub prefix : (remaining : Bytes) → plain (operand p ++ remaining) ≡ true

-- a text that is a primary
pub primary_read : {P : Expr → Type 0} {text : Bytes} → ((remaining : Bytes) → plain (text ++ remaining) ≡ true) → Spells (At simple) P ends text → IsRead P (primary_piece text)
primary_read prefix x = record {
  whole = spelled_as (λ a. a) (λ m a ts h. (levels.in_whole true (expr true m) (not_expr true m) (signed_expr true m)).at a ts h) (λ a h. h) x;
  part = x;
  prefix = prefix;
}

pub as_expr : {P : Expr → Type 0} {text : Bytes} → Spells (At g.whole) P ends text → Spells (expr true) P ends text
as_expr x = nested (λ m a ts h. h) x

parens_read : {P : Expr → Type 0} {text : Bytes} → Spells (At g.whole) P ends text → Spells (At g.parens) P any (codes "(" ++ text ++ codes ")")
parens_read x = spelled_mapped (λ v. v.1.0) (λ v h. h.1.0) (then open_paren (then (as_expr x) close_paren (λ remaining h. refl)) (λ remaining h. refl))

-- a text that stands in parentheses as an operand
open_read : {P : Expr → Type 0} {text : Bytes} → Spells (At g.whole) P ends text → IsRead P (compound_piece text)
open_read x = record {
  whole = x;
  part = weakened ends (λ remaining h. refl) (spelled_as (λ a. a) (λ m a ts h. inr (inr (inr (inr (inl h))))) (λ a h. h) (parens_read x));
  prefix = λ remaining. refl;
}

-- ---- leaves

pub true_read : IsRead (IsSame e.True) (primary_piece (codes "TRUE"))
unfolding same_kind words
true_read = primary_read (λ remaining. refl) (spelled_as (λ at. e.True) (λ m at ts h. inr (inl (at, h, refl))) (λ at h. refl) (word_spells k.True (codes "TRUE") refl refl refl refl refl))

pub false_read : IsRead (IsSame e.False) (primary_piece (codes "FALSE"))
unfolding same_kind words
false_read = primary_read (λ remaining. refl) (spelled_as (λ at. e.False) (λ m at ts h. inr (inr (inl (at, h, refl)))) (λ at h. refl) (word_spells k.False (codes "FALSE") refl refl refl refl refl))

pub number_read : (n : ℕ) → is_small n ≡ true → IsRead (IsSame (e.Number n)) (primary_piece (decimal n))
number_read n small = primary_read (λ remaining. decimal_plain n remaining small) (spelled_as number_expr (λ m v ts h. inl (v, h, refl)) (λ v h. ap (λ x. spanless_expr (e.Number x)) h) (numeral_spells n small))

-- ---- one operand

pub neg_read : (a : Expr) (p : Piece) → IsRead (IsSame a) p → IsRead (IsSame (e.Neg a)) (compound_piece (codes "-" ++ operand p))
neg_read a p x = open_read (spelled_as (λ v. e.Neg v.1) (λ m v ts h. levels.minus_joins true (expr true m) (not_expr true m) (signed_expr true m) v ts h) (λ v h. same_neg a v.1 h.1)
    (then minus (nested (λ m b ts h. (levels.in_negated true (expr true m) (not_expr true m) (signed_expr true m)).at b ts h) x.part) (λ remaining h. x.prefix remaining)))

pub not_read : (a : Expr) (p : Piece) → IsRead (IsSame a) p → IsRead (IsSame (e.Not a)) (compound_piece (codes "!" ++ operand p))
not_read a p x = open_read (spelled_as (λ v. e.Not v.1) (λ m v ts h. levels.not_joins true (expr true m) (not_expr true m) (signed_expr true m) v ts h) (λ v h. same_not a v.1 h.1)
    (then not_mark (nested (λ m b ts h. (levels.in_not true (expr true m) (not_expr true m) (signed_expr true m)).at b ts h) x.part) (λ remaining h. x.prefix remaining)))

pub next_read : (a : Expr) (p : Piece) → IsRead (IsSame a) p → IsRead (IsSame (e.Next a)) (primary_piece (codes "next(" ++ p.text ++ codes ")"))
unfolding same_kind words
next_read a p x = primary_read (λ remaining. refl) (weakened ends (λ remaining h. refl) (spelled_as (λ v. e.Next v.1) (λ m v ts h. inr (inr (inr (inr (inr (inr (inl (v, h, refl)))))))) (λ v h. same_next a v.1 h.1)
    (then (word_spells k.Next (codes "next") refl refl refl refl refl) (parens_read x.whole) (λ remaining h. refl))))

-- ---- two operands

module _ (a b : Expr) (p q : Piece) (x : IsRead (IsSame a) p) (y : IsRead (IsSame b) q) where
  abbrev Binary : Op → Type 0
  Binary o = IsRead (IsSame (e.Binary o a b)) (compound_piece (operand p ++ op_text o ++ operand q))

  with_operator : (o : Op) (table : List (Kind × Op)) → ((remaining : Bytes) → ends (op_text o ++ remaining) ≡ true) → ((m : ℕ) → levels.Joins true (expr true m) (not_expr true m) (signed_expr true m) table)
      → Spells (λ m. one_of table) (λ o'. o' ≡ o) any (op_text o) → Binary o
  with_operator o table spaced joins mark = open_read (spelled_as binary (λ m v ts h. joins m v ts h) (λ v h. same_binary o v.1.0 a v.0 b v.1.1 h.1.0 h.0 h.1.1)
      (retext (sym (append_assoc (operand p) (op_text o) (operand q)))
      (then x.part (then mark y.part (λ remaining h. refl)) (λ remaining h. ap ends (append_assoc (op_text o) (operand q) remaining) ∙ spaced (operand q ++ remaining)))))

  implies_read : Binary op.Implies
  implies_read = open_read (spelled_as (λ v. e.Binary op.Implies v.0 v.1.1) (λ m v ts h. levels.implies_joins true (expr true m) (not_expr true m) (signed_expr true m) v ts h)
      (λ v h. same_binary op.Implies op.Implies a v.0 b v.1.1 refl h.0 h.1.1)
      (retext (sym (append_assoc (operand p) (op_text op.Implies) (operand q)))
      (then x.part (then implies_mark (nested (λ m c ts h. (levels.in_whole true (expr true m) (not_expr true m) (signed_expr true m)).at c ts h) y.part) (λ remaining h. refl)) (λ remaining h. refl))))

  pub binary_read : (o : Op) → Binary o
  binary_read op.Add = with_operator op.Add g.sum_operators (λ remaining. refl) (λ m. levels.sum_joins true (expr true m) (not_expr true m) (signed_expr true m)) op_add
  binary_read op.Sub = with_operator op.Sub g.sum_operators (λ remaining. refl) (λ m. levels.sum_joins true (expr true m) (not_expr true m) (signed_expr true m)) op_sub
  binary_read op.Mul = with_operator op.Mul g.term_operators (λ remaining. refl) (λ m. levels.term_joins true (expr true m) (not_expr true m) (signed_expr true m)) op_mul
  binary_read op.Mod = with_operator op.Mod g.term_operators (λ remaining. refl) (λ m. levels.term_joins true (expr true m) (not_expr true m) (signed_expr true m)) op_mod
  binary_read op.Eq = with_operator op.Eq g.comparisons (λ remaining. refl) (λ m. levels.comparison_joins true (expr true m) (not_expr true m) (signed_expr true m)) op_eq
  binary_read op.Ne = with_operator op.Ne g.comparisons (λ remaining. refl) (λ m. levels.comparison_joins true (expr true m) (not_expr true m) (signed_expr true m)) op_ne
  binary_read op.Lt = with_operator op.Lt g.comparisons (λ remaining. refl) (λ m. levels.comparison_joins true (expr true m) (not_expr true m) (signed_expr true m)) op_lt
  binary_read op.Gt = with_operator op.Gt g.comparisons (λ remaining. refl) (λ m. levels.comparison_joins true (expr true m) (not_expr true m) (signed_expr true m)) op_gt
  binary_read op.Le = with_operator op.Le g.comparisons (λ remaining. refl) (λ m. levels.comparison_joins true (expr true m) (not_expr true m) (signed_expr true m)) op_le
  binary_read op.Ge = with_operator op.Ge g.comparisons (λ remaining. refl) (λ m. levels.comparison_joins true (expr true m) (not_expr true m) (signed_expr true m)) op_ge
  binary_read op.And = with_operator op.And g.and_operators (λ remaining. refl) (λ m. levels.and_joins true (expr true m) (not_expr true m) (signed_expr true m)) op_and
  binary_read op.Or = with_operator op.Or g.or_operators (λ remaining. refl) (λ m. levels.or_joins true (expr true m) (not_expr true m) (signed_expr true m)) op_or
  binary_read op.Xor = with_operator op.Xor g.or_operators (λ remaining. refl) (λ m. levels.or_joins true (expr true m) (not_expr true m) (signed_expr true m)) op_xor
  binary_read op.Xnor = with_operator op.Xnor g.or_operators (λ remaining. refl) (λ m. levels.or_joins true (expr true m) (not_expr true m) (signed_expr true m)) op_xnor
  binary_read op.Iff = with_operator op.Iff g.iff_operators (λ remaining. refl) (λ m. levels.iff_joins true (expr true m) (not_expr true m) (signed_expr true m)) op_iff
  binary_read op.Implies = implies_read

-- ---- paths

dotted_read : (spelling : Bytes) → is_name spelling ≡ true → Spells (λ m. g.dotted) (λ v. v ≡ spelling) ends (codes "." ++ spelling)
dotted_read spelling h = spelled_mapped (λ v. v.1.0) (λ v keeps. keeps.1) (then dot (name_spells spelling h) (λ remaining h'. name_plain spelling remaining h))

dots_end : (names : List Bytes) (remaining : Bytes) → ends remaining ≡ true → ends (in_row (λ n. codes "." ++ n) names ++ remaining) ≡ true
dots_end [] remaining h = h
dots_end (n ∷ names) remaining h = refl

dots_row : (names : List Bytes) → in_row (λ n. codes "." ++ n) names ≡ each_after (codes ".") names
dots_row [] = refl
dots_row (n ∷ names) = ap (λ t. (codes "." ++ n) ++ t) (dots_row names)

all_names : (names : List Bytes) → list_all is_name names ≡ true → all_are (map is_name names) ≡ true
all_names [] h = refl
all_names (n ∷ names) h = ap (λ v. v && all_are (map is_name names)) (both_left _ _ h) ∙ all_names names (both_right _ _ h)

same_names : (names others : List Bytes) → map (λ n. n) others ≡ map (λ n. n) names → others ≡ names
same_names names others h = sym (map-id others) ∙ h ∙ map-id names where
  map-id : (xs : List Bytes) → map (λ n. n) xs ≡ xs
  map-id [] = refl
  map-id (x ∷ xs) = ap (λ ys. x ∷ ys) (map-id xs)

pub name_read : (path : Path) (names : List Bytes) → names ≡ path.names → is_path names ≡ true → IsRead (IsSame (e.Name path)) (primary_piece (joined (codes ".") names))
name_read path [] same h = cc
name_read path (n ∷ names) same h = primary_read (λ remaining. ap plain (append_assoc n _ remaining) ∙ name_plain n _ (both_left _ _ h))
    (spelled_as g.path_of (λ m v ts r. inr (inr (inr (inl (v, r, refl)))))
    (λ v keeps. same_name path (v.0.0 ∷ v.1) v.0.1 (ap (λ x. x ∷ v.1) keeps.0 ∙ ap (λ xs. n ∷ xs) (same_names names v.1 keeps.1) ∙ same))
    (then (name_spells n (both_left _ _ h)) (retext (dots_row names) (many_spells (λ x. x) (λ x. x) is_name (λ x. codes "." ++ x) dots_end dotted_read names (all_names names (both_right _ _ h))))
    (λ remaining r. ap (λ t. ends (t ++ remaining)) (sym (dots_row names)) ∙ dots_end names remaining r)))

-- ---- sets of values

-- the text of a set is read after `in`, and as an expression
pub record IsChoiceRead (c : Choice) (text : Bytes) : Type 0 where
  pub choice : Spells (At g.some_choice) (IsSameChoice c) ends text
  pub pick : Spells (At g.whole) (IsSame (e.Pick c)) ends text

pub within_read : (a : Expr) (c : Choice) (p : Piece) (text : Bytes) → IsRead (IsSame a) p → IsChoiceRead c text → IsRead (IsSame (e.Within a c)) (compound_piece (operand p ++ codes " in " ++ text))
within_read a c p text x y = open_read (spelled_as (λ v. e.Within v.0 v.1.1) (λ m v ts h. levels.within_joins true (expr true m) (not_expr true m) (signed_expr true m) v ts h) (λ v h. same_within a v.0 c v.1.1 h.0 h.1.1)
    (retext (sym (append_assoc (operand p) (codes " in ") text)) (then x.part (then in_word y.choice (λ remaining h. refl)) (λ remaining h. refl))))

pub pick_read : (c : Choice) (text : Bytes) → IsChoiceRead c text → IsRead (IsSame (e.Pick c)) (compound_piece text)
pick_read c text y = open_read y.pick

-- ---- intervals

pub sign_read : (z : ℤ) → is_small_sign z ≡ true → Spells (λ m. g.sign true) (λ v. v ≡ z) ends (signed_decimal z)
sign_read (ℤ.pos n) small = spelled_as (λ v. pos v.0) (λ m v ts h. inr (v, h, refl)) (λ v h. ap pos h) (numeral_spells n small)
sign_read (ℤ.negsuc n) small = spelled_as (λ v. neg_ℤ (pos v.1.0)) (λ m v ts h. inl (v, h, refl)) (λ v h. ap (λ x. neg_ℤ (pos x)) h.1)
    (then minus (numeral_spells (suc n) small) (λ remaining h. decimal_plain (suc n) remaining small))

pub up_to_read : (z : ℤ) → is_small_sign z ≡ true → Spells (λ m. g.up_to true) (λ v. v ≡ z) ends (codes ".." ++ signed_decimal z)
up_to_read z small = spelled_mapped (λ v. v.1) (λ v h. h.1) (then dot_dot (sign_read z small) (λ remaining h. refl))

abbrev interval_text : ℤ → ℤ → Bytes
interval_text low high = signed_decimal low ++ codes ".." ++ signed_decimal high

interval_choice : (low high : ℤ) → is_small_sign low ≡ true → is_small_sign high ≡ true → Spells (At g.some_choice) (IsSameChoice (choice.Between low high)) ends (interval_text low high)
interval_choice low high small small' = spelled_as (λ v. choice.Between v.0 v.1) (λ m v ts h. inr (v, h, refl))
    (λ v h. ap (λ x. spanless_choice (choice.Between x v.1)) h.0 ∙ ap (λ x. spanless_choice (choice.Between low x)) h.1)
    (retext (sym (append_assoc (signed_decimal low) (codes "..") (signed_decimal high))) (then (sign_read low small) (up_to_read high small') (λ remaining h. refl)))

same_interval : (low low' high high' : ℤ) → low' ≡ low → high' ≡ high → IsSame (e.Pick (choice.Between low high)) (e.Pick (choice.Between low' high'))
same_interval low low' high high' h h' = ap (λ x. spanless_expr (e.Pick (choice.Between x high'))) h ∙ ap (λ x. spanless_expr (e.Pick (choice.Between low x))) h'

interval_pick : (low high : ℤ) → is_small_sign low ≡ true → is_small_sign high ≡ true → Spells (At g.whole) (IsSame (e.Pick (choice.Between low high))) ends (interval_text low high)
interval_pick (ℤ.pos n) high small small' = spelled_as (λ v. e.Pick (choice.Between (pos v.0.0) v.1))
    (λ m v ts h. (levels.unary_whole true (expr true m) (not_expr true m) (signed_expr true m)).at (e.Pick (choice.Between (pos v.0.0) v.1)) ts
    (inl ((v.0, Some v.1), record { prefix = h.prefix; suffix = h.suffix; split = h.split; first = h.first; second = inl (v.1, h.second, refl) }, refl)))
    (λ v h. same_interval (pos n) (pos v.0.0) high v.1 (ap pos h.0) h.1)
    (retext (sym (append_assoc (decimal n) (codes "..") (signed_decimal high))) (then (numeral_spells n small) (up_to_read high small') (λ remaining h. refl)))
interval_pick (ℤ.negsuc n) high small small' = spelled_as (λ v. e.Pick (choice.Between (neg_ℤ (pos v.1.0.0)) v.1.1))
    (λ m v ts h. (levels.unary_whole true (expr true m) (not_expr true m) (signed_expr true m)).at (e.Pick (choice.Between (neg_ℤ (pos v.1.0.0)) v.1.1)) ts
    (inr (inl ((v.0, e.Pick (choice.Between (neg_ℤ (pos v.1.0.0)) v.1.1)), record { prefix = h.prefix; suffix = h.suffix; split = h.split; first = h.first; second = inl (v.1, h.second, refl) }, refl))))
    (λ v h. same_interval (ℤ.negsuc n) (neg_ℤ (pos v.1.0.0)) high v.1.1 (ap (λ x. neg_ℤ (pos x)) h.1.0) h.1.1)
    (retext (ap (λ t. codes "-" ++ t) (sym (append_assoc (decimal (suc n)) (codes "..") (signed_decimal high))))
    (then minus (then (numeral_spells (suc n) small) (up_to_read high small') (λ remaining h. refl))
    (λ remaining h. ap plain (append_assoc (decimal (suc n)) _ remaining) ∙ decimal_plain (suc n) _ small)))

pub interval_read : (low high : ℤ) → is_small_sign low && is_small_sign high ≡ true → IsChoiceRead (choice.Between low high) (interval_text low high)
interval_read low high small = record {
  choice = interval_choice low high (both_left _ _ small) (both_right _ _ small);
  pick = interval_pick low high (both_left _ _ small) (both_right _ _ small);
}
