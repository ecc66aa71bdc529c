-- Each tree that is read from a file is printable: its names are names, its numbers are within the limit, and its paths, sets
-- and cases have parts.
use Rattle.std.proofs.Common.{◌≡◌, ℕ, zero, suc, ◌+◌, ◌-◌, Bool, true, false, ◌&&◌, ◌||◌, ℤ, pos, neg_ℤ, List, [], ◌∷◌, ◌++◌, Option, Some, None, map, fold, refl, sym, ◌∙◌, subst, inl, inr, cond}
use Rattle.std.specs.Prelude.{Result, Ok, Err, IfOk}
use Rattle.std.specs.List.{list_all}
use Rattle.smv_ast.specs.declared.syntax.Span.{Span}
use Rattle.smv_ast.specs.declared.syntax.Op.{Op}
use Rattle.smv_ast.specs.declared.syntax.Expr as X
use Rattle.smv_ast.specs.declared.syntax.Choice as C
use denote.Hole.Carrier.{roll}
use Rattle.smv_ast.specs.declared.syntax.Expr.{Expr, Expr-F, fold-roll-Expr}
use Rattle.smv_ast.specs.declared.syntax.Expr.TheVariants as e
use Rattle.smv_ast.specs.declared.syntax.Choice.{Choice, Choice-F, fold-roll-Choice}
use Rattle.smv_ast.specs.declared.syntax.Choice.TheVariants as choice
use Rattle.smv_ast.specs.declared.syntax.Branch.{Branch, roll-Branch, fold-roll-Branch}
use Rattle.smv_expr.specs.declared.kind.Kind.{Kind}
use Rattle.smv_expr.specs.declared.kind.Kind.TheVariants as k
use Rattle.smv_expr.specs.Lexicon.{Bytes, Token, numeral_value, first_lexeme, same_kind, tokens_in, tokens}
use Rattle.smv_expr.specs.Language.{Tokens, leaf, of_kind, name_of, number_of, digits, name, both, many, by_test, until, row, either, mapped, opt, nothing}
use Rattle.smv_expr.specs.ExprGrammar as g
use Rattle.smv_expr.specs.ExprGrammar.{expr, not_expr, signed_expr, number_expr, number_or_interval, negative_interval_of, path_of, branch_of, cases_of, implied, joined, joined_operand, within_operand, open_operand, closed_operand, is_closed, ends_closed, never_ends, Operand}
use Rattle.smv_expr.specs.RoundTrip.{is_name, is_small, is_small_sign, is_printable, is_printable_choice, is_printable_branch, all_are, some_are, choice_layer, expr_layer, branch_layer}
use Rattle.smv_ast.specs.declared.fault.Fault.{Fault}
use Rattle.smv_expr.specs.Reading.{Outcome}
use Rattle.smv_expr.specs.Reading.Outcome.{Read, Stop}
use Rattle.smv_expr.specs.Reading.Cause.{UnexpectedToken, Wide, Deep}
use Rattle.smv_expr.specs.Limits.{nesting_bound}
use Rattle.smv_expr.specs.Answer.{Verdict, result_of}
use Rattle.smv_expr.specs.ExprAnswer.{is_low, limited_expr, ExprAnswer}
use Rattle.smv_expr.specs.Names as lists
use Rattle.smv_expr.proofs.Booleans as booleans
use Rattle.smv_expr.proofs.Spellings.{name_spelled, numeral_spelled}

-- ---- the tokens of a file

pub record IsSpelled (t : Token) : Type 0 where
  pub name : same_kind t.kind k.Name ≡ true → is_name t.text ≡ true
  pub number : same_kind t.kind k.Numeral ≡ true → is_small (numeral_value t.text) ≡ true

abbrev pub AreSpelled : Tokens → Type 0
AreSpelled [] = Unit {0}
AreSpelled (t ∷ ts) = IsSpelled t × AreSpelled ts

spelled_in : (left file at : ℕ) (text : Bytes) → AreSpelled (tokens_in left file at text)
spelled_in left file at [] = tt
spelled_in (suc left) file at (b ∷ more) = spelled_in left file (at + 1) more
spelled_in zero file at (b ∷ more) =
    let later = spelled_in ((first_lexeme (b ∷ more)).len - 1) file (at + 1) more in
    booleans.by_test AreSpelled (same_kind (first_lexeme (b ∷ more)).kind k.Space) _ _ (λ e. later) (λ e. (record { name = λ h. name_spelled b more h; number = λ h. numeral_spelled b more h }, later))

pub file_spelled : (file : ℕ) (bytes : Bytes) → AreSpelled (tokens file bytes)
file_spelled file bytes = spelled_in zero file 0 bytes

split_left : (x y : Tokens) → AreSpelled (x ++ y) → AreSpelled x
split_left [] y h = tt
split_left (t ∷ x) y h = (h.0, split_left x y h.1)

split_right : (x y : Tokens) → AreSpelled (x ++ y) → AreSpelled y
split_right [] y h = h
split_right (t ∷ x) y h = split_right x y h.1

-- ---- what is read of such tokens

-- each value that such tokens stand for has the property
pub record Keeps {A : Type 0} (P : A → Type 0) (L : A → Tokens → Type 0) : Type 0 where
  pub at : (a : A) (ts : Tokens) → AreSpelled ts → L a ts → P a

pub both_true : (v w : Bool) → v ≡ true → w ≡ true → v && w ≡ true
both_true true true e f = refl
both_true true false e f = cc
both_true false w e f = cc

kind_value : {A : Type 0} (kind : Kind) (f : Token → A) (t : Token) (a : A) → of_kind kind f t ≡ Some a → (same_kind t.kind kind ≡ true) × (f t ≡ a)
kind_value kind f t a = by_case (same_kind t.kind kind) refl where
  by_case : (v : Bool) → same_kind t.kind kind ≡ v → cond (v || false) (Some (f t)) None ≡ Some a → (same_kind t.kind kind ≡ true) × (f t ≡ a)
  by_case true e h = (e, (cc))
  by_case false e h = cc

keeps_leaf : {A : Type 0} {P : A → Type 0} (f : Token → Option A) → ((t : Token) (a : A) → IsSpelled t → f t ≡ Some a → P a) → Keeps P (leaf f)
keeps_leaf f h = record { at = λ a ts s w. let one : AreSpelled (w.0 ∷ []) = subst AreSpelled w.1 s in h w.0 a one.0 w.2 }

pub keeps_name : Keeps (λ n. is_name n.0 ≡ true) name
keeps_name = keeps_leaf (of_kind k.Name name_of) (λ t a s e. let v = kind_value k.Name name_of t a e in subst (λ (n : Bytes × Span). is_name n.0 ≡ true) v.1 (s.name v.0))

keeps_digits : Keeps (λ n. is_small n.0 ≡ true) (digits false)
keeps_digits = keeps_leaf (of_kind k.Numeral number_of) (λ t a s e. let v = kind_value k.Numeral number_of t a e in subst (λ (n : ℕ × Span). is_small n.0 ≡ true) v.1 (s.number v.0))

pub keeps_all : {A : Type 0} {L : A → Tokens → Type 0} → Keeps (λ a. Unit {0}) L
keeps_all = record { at = λ a ts s h. tt {0} }

pub keeps_both : {A B : Type 0} {P : A → Type 0} {Q : B → Type 0} {L : A → Tokens → Type 0} {M : B → Tokens → Type 0} → Keeps P L → Keeps Q M → Keeps (λ v. P v.0 × Q v.1) (both L M)
keeps_both p q = record { at = λ v ts s h. let all = subst AreSpelled h.split s in (p.at v.0 h.prefix (split_left h.prefix h.suffix all) h.first, q.at v.1 h.suffix (split_right h.prefix h.suffix all) h.second) }

pub keeps_first : {A B : Type 0} {P : A → Type 0} {L : A → Tokens → Type 0} {M : B → Tokens → Type 0} → Keeps P L → Keeps (λ v. P v.0) (both L M)
keeps_first p = record { at = λ v ts s h. let all = subst AreSpelled h.split s in p.at v.0 h.prefix (split_left h.prefix h.suffix all) h.first }

pub keeps_second : {A B : Type 0} {Q : B → Type 0} {L : A → Tokens → Type 0} {M : B → Tokens → Type 0} → Keeps Q M → Keeps (λ v. Q v.1) (both L M)
keeps_second q = record { at = λ v ts s h. let all = subst AreSpelled h.split s in q.at v.1 h.suffix (split_right h.prefix h.suffix all) h.second }

pub keeps_mapped : {A B : Type 0} {P : A → Type 0} {Q : B → Type 0} {L : A → Tokens → Type 0} (fun : A → B) → ((a : A) → P a → Q (fun a)) → Keeps P L → Keeps Q (mapped fun L)
keeps_mapped {Q = Q} fun f p = record { at = λ b ts s h. subst Q h.2 (f h.0 (p.at h.0 ts s h.1)) }

pub keeps_either : {A : Type 0} {P : A → Type 0} {L M : A → Tokens → Type 0} → Keeps P L → Keeps P M → Keeps P (either L M)
keeps_either {A = A} {P = P} {L = L} {M = M} p q = record { at = go } where
  go : (a : A) (ts : Tokens) → AreSpelled ts → either L M a ts → P a
  go a ts s (inl h) = p.at a ts s h
  go a ts s (inr h) = q.at a ts s h

pub keeps_nothing : {A : Type 0} {P : A → Type 0} (v : A) → P v → Keeps P (nothing v)
keeps_nothing {P = P} v p = record { at = λ a ts s h. subst P (sym h.0) p }

abbrev pub IfSome : {A : Type 0} → (A → Type 0) → Option A → Type 0
IfSome P None = Unit {0}
IfSome P (Some a) = P a

pub keeps_opt : {A : Type 0} {P : A → Type 0} {L : A → Tokens → Type 0} → Keeps P L → Keeps (IfSome P) (opt L)
keeps_opt p = keeps_either (keeps_mapped Some (λ a h. h) p) (keeps_nothing None tt)

abbrev pub Each : {A : Type 0} → (A → Type 0) → List A → Type 0
Each P [] = Unit {0}
Each P (a ∷ more) = P a × Each P more

pub keeps_many : {A : Type 0} {P : A → Type 0} {L : A → Tokens → Type 0} → Keeps P L → Keeps (Each P) (many L)
keeps_many {A = A} {P = P} {L = L} p = record { at = go } where
  go : (a : List A) (ts : Tokens) → AreSpelled ts → many L a ts → Each P a
  go [] ts s h = tt
  go (a ∷ more) ts s h = let all = subst AreSpelled h.2 s in (p.at a h.0 (split_left h.0 h.1 all) h.3, go more h.1 (split_right h.0 h.1 all) h.4)

by_end : {A : Type 0} (P : A → Type 0) (v : Bool) (more : List A) (ts : Tokens) (Y : Type 0) → (Y → Each P more) → by_test v (nothing [] more ts) Y → Each P more
by_end P true more ts Y f h = subst (Each P) (sym h.0) tt
by_end P false more ts Y f h = f h

keeps_until : {A : Type 0} {P : A → Type 0} {L : A → Tokens → Type 0} (ends : A → Bool) → Keeps P L → Keeps (Each P) (until ends L)
keeps_until {A = A} {P = P} {L = L} ends p = record { at = go } where
  go : (a : List A) (ts : Tokens) → AreSpelled ts → until ends L a ts → Each P a
  go [] ts s h = tt
  go (a ∷ more) ts s h = let all = subst AreSpelled h.2 s in
      (p.at a h.0 (split_left h.0 h.1 all) h.3, by_end P (ends a) more h.1 (until ends L more h.1) (go more h.1 (split_right h.0 h.1 all)) h.4)

pub folded : {A B : Type 0} (P : B → Type 0) (Q : A → Type 0) (step : B → A → B) → ((b : B) (a : A) → P b → Q a → P (step b a)) → (b : B) (items : List A) → P b → Each Q items → P (fold step b items)
folded P Q step f b [] p q = p
folded P Q step f b (a ∷ items) p q = folded P Q step f (step b a) items (f b a p q.0) q.1

keeps_row : {A B : Type 0} {P : B → Type 0} {Q : A → Type 0} {L : B → Tokens → Type 0} {M : A → Tokens → Type 0} (ended : B → Bool) (ends : A → Bool) (step : B → A → B) → ((b : B) (a : A) → P b → Q a → P (step b a)) → Keeps P L → Keeps Q M → Keeps P (row ended ends step L M)
keeps_row {P = P} {Q = Q} {M = M} ended ends step f p q = record {
  at = λ b ts s h.
      let v = h.0 in let all = subst AreSpelled h.1.split s in
      subst P h.2 (folded P Q step f v.0 v.1 (p.at v.0 h.1.prefix (split_left h.1.prefix h.1.suffix all) h.1.first)
      (by_end Q (ended v.0) v.1 h.1.suffix (until ends M v.1 h.1.suffix) ((keeps_until ends q).at v.1 h.1.suffix (split_right h.1.prefix h.1.suffix all)) h.1.second));
}

pub keeps_chain : {A B : Type 0} {P : B → Type 0} {Q : A → Type 0} {L : B → Tokens → Type 0} {M : A → Tokens → Type 0} (step : B → A → B) → ((b : B) (a : A) → P b → Q a → P (step b a)) → Keeps P L → Keeps Q M → Keeps P (mapped (λ v. fold step v.0 v.1) (both L (many M)))
keeps_chain {P = P} {Q = Q} step f p q = keeps_mapped _ (λ v h. folded P Q step f v.0 v.1 h.0 h.1) (keeps_both p (keeps_many q))

pub all_true : {A : Type 0} (test : A → Bool) (items : List A) → Each (λ a. test a ≡ true) items → all_are (map test items) ≡ true
all_true test [] h = refl
all_true test (a ∷ items) h = both_true _ _ h.0 (all_true test items h.1)

each_true : {A : Type 0} (test : A → Bool) (items : List A) → Each (λ a. test a ≡ true) items → list_all test items ≡ true
each_true test [] h = refl
each_true test (a ∷ items) h = both_true _ _ h.0 (each_true test items h.1)

-- ---- which forms are printable

pub p_true : is_printable e.True ≡ true
unfolding X.roll-Expr roll
p_true = fold-roll-Expr Bool Bool Bool choice_layer expr_layer branch_layer Expr-F.True

p_false : is_printable e.False ≡ true
unfolding X.roll-Expr roll
p_false = fold-roll-Expr Bool Bool Bool choice_layer expr_layer branch_layer Expr-F.False

p_number : (n : ℕ) → is_printable (e.Number n) ≡ is_small n
unfolding X.roll-Expr roll
p_number n = fold-roll-Expr Bool Bool Bool choice_layer expr_layer branch_layer (Expr-F.Number n)

p_name : (names : List Bytes) (n : Bytes) (at : Span) → is_printable (e.Name (record { names = n ∷ names; at = at })) ≡ is_name n && list_all is_name names
unfolding X.roll-Expr roll
p_name names n at = fold-roll-Expr Bool Bool Bool choice_layer expr_layer branch_layer (Expr-F.Name (record { names = n ∷ names; at = at }))

p_neg : (a : Expr) → is_printable (e.Neg a) ≡ is_printable a
unfolding X.roll-Expr roll
p_neg a = fold-roll-Expr Bool Bool Bool choice_layer expr_layer branch_layer (Expr-F.Neg a)

p_not : (a : Expr) → is_printable (e.Not a) ≡ is_printable a
unfolding X.roll-Expr roll
p_not a = fold-roll-Expr Bool Bool Bool choice_layer expr_layer branch_layer (Expr-F.Not a)

p_next : (a : Expr) → is_printable (e.Next a) ≡ is_printable a
unfolding X.roll-Expr roll
p_next a = fold-roll-Expr Bool Bool Bool choice_layer expr_layer branch_layer (Expr-F.Next a)

p_binary : (op : Op) (a b : Expr) → is_printable (e.Binary op a b) ≡ is_printable a && is_printable b
unfolding X.roll-Expr roll
p_binary op a b = fold-roll-Expr Bool Bool Bool choice_layer expr_layer branch_layer (Expr-F.Binary op a b)

p_within : (a : Expr) (c : Choice) → is_printable (e.Within a c) ≡ is_printable a && is_printable_choice c
unfolding X.roll-Expr roll
p_within a c = fold-roll-Expr Bool Bool Bool choice_layer expr_layer branch_layer (Expr-F.Within a c)

p_cases : (bs : List Branch) → is_printable (e.Cases bs) ≡ some_are (map is_printable_branch bs)
unfolding X.roll-Expr roll
p_cases bs = fold-roll-Expr Bool Bool Bool choice_layer expr_layer branch_layer (Expr-F.Cases bs)

p_pick : (c : Choice) → is_printable (e.Pick c) ≡ is_printable_choice c
unfolding X.roll-Expr roll
p_pick c = fold-roll-Expr Bool Bool Bool choice_layer expr_layer branch_layer (Expr-F.Pick c)

p_each : (parts : List Expr) → is_printable_choice (choice.Each parts) ≡ some_are (map is_printable parts)
unfolding C.roll-Choice roll
p_each parts = fold-roll-Choice Bool Bool Bool choice_layer expr_layer branch_layer (Choice-F.Each parts)

p_between : (low high : ℤ) → is_printable_choice (choice.Between low high) ≡ is_small_sign low && is_small_sign high
unfolding C.roll-Choice roll
p_between low high = fold-roll-Choice Bool Bool Bool choice_layer expr_layer branch_layer (Choice-F.Between low high)

p_branch : (cond value : Expr) → is_printable_branch (roll-Branch (record { cond = cond; value = value })) ≡ is_printable cond && is_printable value
p_branch cond value = fold-roll-Branch Bool Bool Bool choice_layer expr_layer branch_layer (record { cond = cond; value = value })

-- ---- numbers and paths

abbrev pub IsSmallSign : ℤ → Type 0
IsSmallSign z = is_small_sign z ≡ true

neg_small : (n : ℕ) → is_small n ≡ true → IsSmallSign (neg_ℤ (pos n))
neg_small zero h = h
neg_small (suc n) h = h

pub keeps_sign : Keeps IsSmallSign (g.sign false)
keeps_sign = keeps_either (keeps_mapped _ (λ v h. neg_small v.1.0 h) (keeps_second keeps_digits)) (keeps_mapped _ (λ v h. h) keeps_digits)

pub keeps_up_to : Keeps IsSmallSign (g.up_to false)
keeps_up_to = keeps_mapped _ (λ v h. h) (keeps_second keeps_sign)

abbrev pub IsOk : Expr → Type 0
IsOk a = is_printable a ≡ true

number_ok : (n : ℕ) (high : Option ℤ) → is_small n ≡ true → IfSome IsSmallSign high → IsOk (number_or_interval n high)
number_ok n None h i = p_number n ∙ h
number_ok n (Some z) h i = p_pick (choice.Between (pos n) z) ∙ p_between (pos n) z ∙ both_true _ _ h i

keeps_number : Keeps IsOk (g.number false)
keeps_number = keeps_mapped _ (λ v h. number_ok v.0.0 v.1 h.0 h.1) (keeps_both keeps_digits (keeps_opt keeps_up_to))

keeps_negative : Keeps IsOk (g.negative_interval false)
keeps_negative = keeps_mapped negative_interval_of (λ v h. p_pick (choice.Between (neg_ℤ (pos v.0.0)) v.1) ∙ p_between (neg_ℤ (pos v.0.0)) v.1 ∙ both_true _ _ (neg_small v.0.0 h.0) h.1) (keeps_both keeps_digits keeps_up_to)

keeps_path : Keeps IsOk g.path
keeps_path = keeps_mapped path_of (λ v h. p_name v.1 v.0.0 v.0.1 ∙ both_true _ _ h.0 (each_true is_name v.1 h.1)) (keeps_both keeps_name (keeps_many (keeps_mapped _ (λ v h. h) (keeps_second keeps_name))))

-- ---- expressions

abbrev IsOkOperand : Operand → Type 0
IsOkOperand a = IsOk a.0

abbrev IsOkItem : Op × Operand → Type 0
IsOkItem b = IsOk b.1.0

module _ (W N U : Expr → Tokens → Type 0) (w : Keeps IsOk W) (n : Keeps IsOk N) (u : Keeps IsOk U) where
  keeps_parens : Keeps IsOk (g.parens false W N U)
  keeps_parens = keeps_mapped _ (λ v h. h) (keeps_second (keeps_first w))

  keeps_next : Keeps IsOk (g.next_value false W N U)
  keeps_next = keeps_mapped _ (λ v h. p_next v.1 ∙ h) (keeps_second keeps_parens)

  keeps_braces : Keeps (λ c. is_printable_choice c ≡ true) (g.braces false W N U)
  keeps_braces = keeps_mapped _ (λ v h. p_each (v.1.0.0 ∷ v.1.0.1) ∙ both_true _ _ h.0 (all_true is_printable v.1.0.1 h.1))
      (keeps_second (keeps_first (keeps_both w (keeps_many (keeps_mapped _ (λ v h. h) (keeps_second w))))))

  keeps_choice : Keeps (λ c. is_printable_choice c ≡ true) (g.some_choice false W N U)
  keeps_choice = keeps_either keeps_braces (keeps_mapped _ (λ v h. p_between v.0 v.1 ∙ both_true _ _ h.0 h.1) (keeps_both keeps_sign keeps_up_to))

  keeps_branch : Keeps (λ b. is_printable_branch b ≡ true) (g.branch false W N U)
  keeps_branch = keeps_mapped branch_of (λ v h. p_branch v.0 v.1.1.0 ∙ both_true _ _ h.0 h.1) (keeps_both w (keeps_second (keeps_first w)))

  keeps_cases : Keeps IsOk (g.cases false W N U)
  keeps_cases = keeps_mapped cases_of (λ v h. p_cases (v.1.0 ∷ v.1.1.0) ∙ both_true _ _ h.0 (all_true is_printable_branch v.1.1.0 h.1)) (keeps_second (keeps_both keeps_branch (keeps_first (keeps_many keeps_branch))))

  keeps_primary : Keeps IsOk (g.primary false W N U)
  keeps_primary = keeps_either (keeps_mapped _ (λ v h. p_true) keeps_all) (keeps_either (keeps_mapped _ (λ v h. p_false) keeps_all) (keeps_either keeps_path (
      keeps_either keeps_parens (keeps_either (keeps_mapped e.Pick (λ c h. p_pick c ∙ h) keeps_braces) (keeps_either keeps_next keeps_cases)))))

  keeps_signed : Keeps IsOk (g.minus_or_primary false W N U)
  keeps_signed = keeps_either (keeps_mapped _ (λ v h. h) (keeps_second (keeps_either keeps_negative (keeps_mapped e.Neg (λ a h. p_neg a ∙ h) u)))) keeps_primary

  keeps_negated : Keeps IsOk (g.negated false W N U)
  keeps_negated = keeps_either (keeps_mapped number_expr (λ v h. p_number v.0 ∙ h) keeps_digits) keeps_signed

  keeps_operand : Keeps IsOkOperand (mapped open_operand (g.unary false W N U))
  keeps_operand = keeps_mapped open_operand (λ a h. h) (keeps_either keeps_number keeps_signed)

  keeps_negation : Keeps IsOk (g.negation false W N U)
  keeps_negation = keeps_mapped _ (λ v h. p_not v.1 ∙ h) (keeps_second n)

  keeps_right : {L : Operand → Tokens → Type 0} → Keeps IsOkOperand L → Keeps IsOkOperand (g.right_of false W N U L)
  keeps_right l = keeps_either (keeps_mapped closed_operand (λ a h. h) keeps_negation) l

  -- a row of binary operators
  keeps_level : {L M : Operand → Tokens → Type 0} {I : Op → Tokens → Type 0} → Keeps IsOkOperand L → Keeps IsOkOperand M → Keeps IsOkOperand (row is_closed ends_closed joined_operand L (both I (g.right_of false W N U M)))
  keeps_level l m = keeps_row {P = IsOkOperand} {Q = IsOkItem} is_closed ends_closed joined_operand (λ a b x y. p_binary b.0 a.0 b.1.0 ∙ both_true _ _ x y) l (keeps_second (keeps_right m))

  keeps_term : Keeps IsOkOperand (g.term false W N U)
  keeps_term = keeps_level keeps_operand keeps_operand

  keeps_sum : Keeps IsOkOperand (g.sum false W N U)
  keeps_sum = keeps_level keeps_term keeps_term

  keeps_within : Keeps IsOkOperand (g.within false W N U)
  keeps_within = keeps_row {P = IsOkOperand} {Q = λ c. is_printable_choice c ≡ true} is_closed never_ends within_operand (λ a c x y. p_within a.0 c ∙ both_true _ _ x y) keeps_sum (keeps_mapped _ (λ v h. h) (keeps_second keeps_choice))

  keeps_not : Keeps IsOk (g.not_level false W N U)
  keeps_not = keeps_either keeps_negation (keeps_mapped _ (λ p h. h) (keeps_level keeps_within keeps_within))

  keeps_joined : {L : Expr → Tokens → Type 0} {I : Op → Tokens → Type 0} → Keeps IsOk L → Keeps IsOk (mapped (λ v. fold joined v.0 v.1) (both L (many (both I L))))
  keeps_joined l = keeps_chain {P = IsOk} {Q = λ b. IsOk b.1} joined (λ a b x y. p_binary b.0 a b.1 ∙ both_true _ _ x y) l (keeps_second l)

  keeps_iff : Keeps IsOk (g.iff_level false W N U)
  keeps_iff = keeps_joined (keeps_joined (keeps_joined keeps_not))

  implied_ok : (a : Expr) (b : Option Expr) → IsOk a → IfSome IsOk b → IsOk (implied a b)
  implied_ok a None h i = h
  implied_ok a (Some b) h i = p_binary _ a b ∙ both_true _ _ h i

  keeps_whole : Keeps IsOk (g.whole false W N U)
  keeps_whole = keeps_mapped _ (λ v h. implied_ok v.0 v.1 h.0 h.1) (keeps_both keeps_iff (keeps_opt (keeps_mapped _ (λ v h. h) (keeps_second w))))

record ExprKeeps (m : ℕ) : Type 0 where
  whole : Keeps IsOk (expr false m)
  negated : Keeps IsOk (not_expr false m)
  signed : Keeps IsOk (signed_expr false m)

expr_keeps : (m : ℕ) → ExprKeeps m
expr_keeps zero = record { whole = record { at = λ a ts s h. absurd h }; negated = record { at = λ a ts s h. absurd h }; signed = record { at = λ a ts s h. absurd h } }
expr_keeps (suc m) = let x = expr_keeps m in record {
  whole = record { at = (keeps_whole (expr false m) (not_expr false m) (signed_expr false m) x.whole x.negated x.signed).at };
  negated = record { at = (keeps_not (expr false m) (not_expr false m) (signed_expr false m) x.whole x.negated x.signed).at };
  signed = record { at = (keeps_negated (expr false m) (not_expr false m) (signed_expr false m) x.whole x.negated x.signed).at };
}

pub keeps_expr : (m : ℕ) → Keeps IsOk (expr false m)
keeps_expr m = (expr_keeps m).whole

-- ---- lists of names

pub keeps_names : Keeps (λ names. some_are (map is_name names) ≡ true) lists.names
keeps_names = keeps_mapped lists.names_of (λ v h. both_true _ _ h.0 (all_true is_name v.1 h.1)) (keeps_both keeps_name (keeps_many (keeps_mapped _ (λ v h. h) (keeps_second keeps_name))))

-- ---- what is answered

-- where the answer is Ok, the whole file was read as its value
pub text_read : {A : Type 0} (G : Bool → ℕ → A → Tokens → Type 0) (low : A → Bool) (file : ℕ) (bytes : Bytes) (a : A) (o : Outcome A) → Ok a ≡ result_of file bytes o → Verdict G low (tokens file bytes) o → G false nesting_bound a (tokens file bytes)
text_read G low file bytes a (Read b []) e v = let same : b ≡ a = cc in subst (λ x. G false nesting_bound x (tokens file bytes)) same v.reads
text_read G low file bytes a (Read b (t ∷ ts)) e v = cc
text_read G low file bytes a (Stop UnexpectedToken ts) e v = cc
text_read G low file bytes a (Stop Wide ts) e v = cc
text_read G low file bytes a (Stop Deep ts) e v = cc

pub answer_printable : (file : ℕ) (bytes : Bytes) (result : Result Expr Fault) → ExprAnswer file bytes result → IfOk result IsOk
answer_printable file bytes (Ok a) x = (keeps_expr nesting_bound).at a (tokens file bytes) (file_spelled file bytes) (text_read expr is_low file bytes a (limited_expr (tokens file bytes)) x.is x.verdict)
answer_printable file bytes (Err f) x = tt
