-- Each reader of a part of an expression, within limits and without.
use Rattle.std.proofs.Common.{◌≡◌, ℕ, zero, suc, ◌≤◌, ◌-◌, Bool, true, false, ◌&&◌, List, [], ◌∷◌, max, Option, Some, None, refl, sym, ◌∙◌, ap, subst, arith, cond}
use Rattle.std.specs.Prelude.{nat_lt, map}
use Rattle.std.proofs.lemmas.Bool.Decides.{nat_tests}
use Rattle.smv_ast.specs.declared.syntax.Span.{Span}
use Rattle.smv_ast.specs.declared.syntax.Op.{Op}
use Rattle.smv_ast.specs.declared.syntax.Op.TheVariants as op
use Rattle.smv_ast.specs.declared.syntax.Expr.{Expr}
use Rattle.smv_ast.specs.declared.syntax.Expr.TheVariants as e
use Rattle.smv_ast.specs.declared.syntax.Choice.{Choice}
use Rattle.smv_ast.specs.declared.syntax.Choice.TheVariants as choice
use Rattle.smv_ast.specs.declared.syntax.Branch.{Branch}
use Rattle.smv_expr.specs.declared.kind.Kind.{Kind}
use Rattle.smv_expr.specs.declared.kind.Kind.TheVariants as k
use Rattle.smv_expr.specs.Lexicon.{Token, same_kind}
use Rattle.smv_expr.specs.Language.{Tokens, begins, has, of_kind, of_kinds, span_of, name_of, number_of, number_kinds, kinds_of, find_kind, followed_by}
use Rattle.smv_expr.specs.Reading.{Outcome, Reader, read_if, read_leaf, read_word, read_name, read_digits, read_one_of, read_both}
use Rattle.smv_expr.specs.Reading.Outcome.{Read, Stop}
use Rattle.smv_expr.specs.Reading.Cause.{UnexpectedToken, Wide}
use Rattle.smv_expr.specs.ExprGrammar.{number_expr, branch_of, cases_of}
use Rattle.smv_expr.specs.ExprGrammar as g
use Rattle.smv_expr.specs.ExprReaders as r
use Rattle.smv_expr.specs.ExprReaders.{read_limited, read_last, read_close, read_sign, read_up_to, read_first_name, read_path, read_dotted, read_dotted_names, read_single, read_interval_expr, read_number, read_negative_interval}
use Rattle.smv_expr.specs.Heights.{height, choice_height, branch_height, greatest}
use Rattle.smv_expr.specs.Limits.{Limit, capped, fits, beside, nesting_bound}
use Rattle.smv_expr.specs.Limits.Limit.{AnyHeight, Below}
use Rattle.smv_expr.proofs.HeightLemmas as h
use Rattle.smv_expr.proofs.NextToken.{leaf_stop}
use Rattle.smv_expr.specs.Answer.{expr_ends}
use Rattle.smv_expr.proofs.Sets.{within, has_within, begins_within, begins_apart}
use Rattle.smv_expr.proofs.Limited.{Obeys, Beyond, always_fits, all_pass, leaf_obeys, wide_obeys, nothing_obeys, allowed_obeys, dep_obeys, mapped_obeys, either_obeys, test_obeys, many_obeys, row_obeys, retested, and_true, and_and, deep_obeys}

-- ---- tests of heights

abbrev pub low : Limit → Expr → Bool
low limit a = fits limit (height a)

-- where the second holds, so does the first
implied_first : (v w : Bool) → (w ≡ true → v ≡ true) → w ≡ (v && w)
implied_first true w f = refl
implied_first false true f = sym (f refl)
implied_first false false f = refl

below_more : (x b : ℕ) → b ≤ nesting_bound → nat_lt x b ≡ true → nat_lt x nesting_bound ≡ true
below_more x b small t = grind (arith, nat_tests)

inside_low : (x b : ℕ) → b ≤ nesting_bound → nat_lt (capped (suc x)) b ≡ nat_lt (capped x) (b - 1)
inside_low x b small = grind (arith, nat_tests)

beside_low : (x y b : ℕ) → b ≤ nesting_bound → nat_lt (capped (suc (max x y))) b ≡ (nat_lt (capped x) b && nat_lt (capped y) (cond (nat_lt (capped x) (b - 1)) (b - 1) 0))
beside_low x y b small = grind (arith, nat_tests)

-- ---- one token

wide_reads : (t : Token) → has (k.WideNumeral ∷ []) t.kind ≡ true → (n : ℕ × Span) × (of_kinds number_kinds number_of t ≡ Some n)
unfolding same_kind
wide_reads t h = (number_of t, ap (λ v. cond v (Some (number_of t)) None) (has_within (k.WideNumeral ∷ []) number_kinds t.kind refl h))

limited_obeys : (any : Bool) → Obeys any always_fits (read_limited false) (read_limited any)
unfolding read_limited
limited_obeys any = wide_obeys any (of_kinds number_kinds number_of) wide_reads

no_number : (t : Token) → has (k.Numeral ∷ []) t.kind ≡ false → has (k.WideNumeral ∷ []) t.kind ≡ false → has number_kinds t.kind ≡ false
no_number t a b = grind (arith)

kinds_stop : {A : Type 0} (kinds : List Kind) (f : Token → A) (t : Token) (ts : Tokens) → has kinds t.kind ≡ false → read_leaf (of_kinds kinds f) (t ∷ ts) ≡ Stop UnexpectedToken (t ∷ ts)
kinds_stop kinds f t ts n = ap (λ v. read_if (cond v (Some (f t)) None) (t ∷ ts) ts) n

no_limited : (ts : Tokens) (a : ℕ × Span) (remaining : Tokens) → begins (k.Numeral ∷ []) ts ≡ false → read_limited false ts ≡ Read a remaining → ⊥
unfolding read_limited
no_limited [] a remaining n e = cc
no_limited (t ∷ ts) a remaining n e = by_wide (has (k.WideNumeral ∷ []) t.kind) refl e where
  by_wide : (v : Bool) → has (k.WideNumeral ∷ []) t.kind ≡ v → cond v (Stop Wide (t ∷ ts)) (read_digits (t ∷ ts)) ≡ Read a remaining → ⊥
  by_wide true h e = cc
  by_wide false h e = let s = kinds_stop number_kinds number_of t ts (no_number t n h) in cc

-- a token of these kinds is read
kinds_take : {A : Type 0} (kinds : List Kind) (f : Token → A) (ts : Tokens) → begins kinds ts ≡ true → Beyond ts (read_leaf (of_kinds kinds f) ts)
kinds_take kinds f [] h = cc
kinds_take {A = A} kinds f (t ∷ ts) h = subst (λ (o : Outcome A). Beyond (t ∷ ts) o) (sym (ap (λ v. read_if (cond v (Some (f t)) None) (t ∷ ts) ts) h)) ([], refl)

limited_takes : (any : Bool) (ts : Tokens) → begins (k.Numeral ∷ []) ts ≡ true → Beyond ts (read_limited any ts)
unfolding read_limited same_kind
limited_takes true ts h = kinds_take number_kinds number_of ts (begins_within (k.Numeral ∷ []) number_kinds refl ts h)
limited_takes false ts h = subst (λ (v : Bool). Beyond ts (cond v (Stop Wide ts) (read_digits ts))) (sym (begins_apart (k.Numeral ∷ []) (k.WideNumeral ∷ []) refl ts h))
    (kinds_take number_kinds number_of ts (begins_within (k.Numeral ∷ []) number_kinds refl ts h))

-- with each of these tokens an expression may end
ends_numeral : within (k.Numeral ∷ []) expr_ends ≡ true
unfolding same_kind
ends_numeral = refl

ends_name : within (k.Name ∷ []) expr_ends ≡ true
unfolding same_kind
ends_name = refl

ends_true : within (k.True ∷ []) expr_ends ≡ true
unfolding same_kind
ends_true = refl

ends_false : within (k.False ∷ []) expr_ends ≡ true
unfolding same_kind
ends_false = refl

ends_paren : within (k.CloseParen ∷ []) expr_ends ≡ true
unfolding same_kind
ends_paren = refl

ends_brace : within (k.CloseBrace ∷ []) expr_ends ≡ true
unfolding same_kind
ends_brace = refl

ends_case : within (k.Esac ∷ []) expr_ends ≡ true
unfolding same_kind
ends_case = refl

pub last_obeys : (any ok : Bool) → Obeys any (λ n. ok) (read_last false ok) (read_limited any)
unfolding read_last
last_obeys any ok = allowed_obeys ok (k.Numeral ∷ []) (read_limited false) (read_limited any) (limited_obeys any) no_limited (limited_takes any) ends_numeral

no_word : {A : Type 0} (kind : Kind) (f : Token → A) (ts : Tokens) (a : A) (remaining : Tokens) → begins (kind ∷ []) ts ≡ false → read_leaf (of_kind kind f) ts ≡ Read a remaining → ⊥
no_word kind f ts a remaining n e = let s = leaf_stop kind f ts n in cc

close_obeys : {any : Bool} (ok : Bool) (kind : Kind) → within (kind ∷ []) expr_ends ≡ true → Obeys any (λ at. ok) (read_close ok kind) (read_word kind)
unfolding read_close
close_obeys ok kind ends = allowed_obeys ok (kind ∷ []) (read_word kind) (read_word kind) (leaf_obeys (of_kind kind span_of)) (no_word kind span_of) (kinds_take (kind ∷ []) span_of) ends

first_name_obeys : {any : Bool} (ok : Bool) → Obeys any (λ n. ok) (read_first_name ok) read_name
unfolding read_first_name
first_name_obeys ok = allowed_obeys ok (k.Name ∷ []) read_name read_name (leaf_obeys (of_kind k.Name name_of)) (no_word k.Name name_of) (kinds_take (k.Name ∷ []) name_of) ends_name

-- a word, and then the other
pub word_then : {B : Type 0} {any : Bool} {test : B → Bool} {p' p : Reader B} (kind : Kind) → Obeys any test p' p → Obeys any (λ v. test v.1) (read_both (read_word kind) p') (read_both (read_word kind) p)
word_then {test = test} {p' = p'} {p = p} kind o = dep_obeys _ always_fits (λ a. test) (λ a. p') (λ a. p) (λ a. o) (read_word kind) (read_word kind) (leaf_obeys (of_kind kind span_of))

-- the one, and then the other
pub both_then : {A B : Type 0} {any : Bool} {test : A → Bool} {test' : B → Bool} {p' p : Reader A} {q' q : Reader B} → Obeys any test p' p → Obeys any test' q' q → Obeys any (λ v. test v.0 && test' v.1) (read_both p' q') (read_both p q)
both_then {test = test} {test' = test'} {p' = p'} {p = p} {q' = q'} {q = q} a b = dep_obeys _ test (λ x. test') (λ x. q') (λ x. q) (λ x. b) p' p a

-- ---- numbers and paths

pub sign_obeys : (any ok : Bool) → Obeys any (λ z. ok) (read_sign false ok) (read_sign any true)
unfolding read_sign read_last
sign_obeys any ok = either_obeys (k.Minus ∷ []) (mapped_obeys _ _ _ (λ a. refl) (word_then k.Minus (last_obeys any ok))) (mapped_obeys _ _ _ (λ a. refl) (last_obeys any ok))

pub up_to_obeys : (any ok : Bool) → Obeys any (λ z. ok) (read_up_to false ok) (read_up_to any true)
unfolding read_up_to
up_to_obeys any ok = mapped_obeys _ _ _ (λ a. refl) (word_then k.DotDot (sign_obeys any ok))

interval_expr_obeys : (any : Bool) (b : ℕ) → Obeys any (low (Below b)) (read_interval_expr false (fits (Below b) 1)) (read_interval_expr any true)
unfolding read_interval_expr
interval_expr_obeys any b = mapped_obeys _ _ (low (Below b)) (λ a. ap (fits (Below b)) (h.height_interval _ _)) (both_then (limited_obeys any) (up_to_obeys any (fits (Below b) 1)))

negative_interval_obeys : (any : Bool) (b : ℕ) → Obeys any (low (Below b)) (read_negative_interval false (fits (Below b) 1)) (read_negative_interval any true)
unfolding read_negative_interval
negative_interval_obeys any b = mapped_obeys _ _ (low (Below b)) (λ a. ap (fits (Below b)) (h.height_interval _ _)) (both_then (limited_obeys any) (up_to_obeys any (fits (Below b) 1)))

single_obeys : (any : Bool) (b : ℕ) → Obeys any (low (Below b)) (read_single false (fits (Below b) 1)) (read_single any true)
unfolding read_single read_last
single_obeys any b = mapped_obeys number_expr _ (low (Below b)) (λ a. ap (fits (Below b)) (h.height_number a.0)) (last_obeys any (fits (Below b) 1))

number_obeys : (any : Bool) (b : ℕ) → Obeys any (low (Below b)) (read_number false (fits (Below b) 1)) (read_number any true)
unfolding read_number
number_obeys any b = test_obeys (followed_by k.DotDot) (interval_expr_obeys any b) (single_obeys any b)

dotted_obeys : {any : Bool} → Obeys any always_fits read_dotted read_dotted
unfolding read_dotted
dotted_obeys = mapped_obeys _ _ _ (λ a. refl) (word_then k.Dot (leaf_obeys (of_kind k.Name name_of)))

all_always : {A : Type 0} (items : List A) → true ≡ all_pass always_fits items
all_always [] = refl
all_always (a ∷ items) = all_always items

pub dotted_names_obeys : {any : Bool} → Obeys any always_fits read_dotted_names read_dotted_names
unfolding read_dotted_names
dotted_names_obeys = retested (all_pass always_fits) always_fits all_always (many_obeys (k.Dot ∷ []) dotted_obeys)

path_obeys : {any : Bool} → (b : ℕ) → Obeys any (low (Below b)) (read_path (fits (Below b) 1)) (read_path true)
unfolding read_path read_first_name
path_obeys b = mapped_obeys g.path_of _ (low (Below b)) (λ a. ap (fits (Below b)) (h.height_name _) ∙ sym (and_true _)) (both_then (first_name_obeys (fits (Below b) 1)) dotted_names_obeys)

-- ---- expressions, from readers of those one level deeper

all_low : (parts : List Expr) (b : ℕ) → b ≤ nesting_bound → nat_lt (capped (greatest (map height parts))) b ≡ true → all_pass (low (Below nesting_bound)) parts ≡ true
all_low [] b small t = refl
all_low (a ∷ more) b small t =
    let e = h.greatest_first (height a) (map height more) in
    let one : nat_lt (capped (height a)) nesting_bound ≡ true = grind (arith, nat_tests) in
    let others : nat_lt (capped (greatest (map height more))) b ≡ true = grind (arith, nat_tests) in
    rw one (all_low more b small others)

abbrev low_branch : Branch → Bool
low_branch branch = fits (Below nesting_bound) (branch_height branch)

all_low_branches : (branches : List Branch) (b : ℕ) → b ≤ nesting_bound → nat_lt (capped (greatest (map branch_height branches))) b ≡ true → all_pass low_branch branches ≡ true
all_low_branches [] b small t = refl
all_low_branches (a ∷ more) b small t =
    let e = h.greatest_first (branch_height a) (map branch_height more) in
    let one : nat_lt (capped (branch_height a)) nesting_bound ≡ true = grind (arith, nat_tests) in
    let others : nat_lt (capped (greatest (map branch_height more))) b ≡ true = grind (arith, nat_tests) in
    rw one (all_low_branches more b small others)

branch_low : (x y : ℕ) → nat_lt (capped (max x y)) nesting_bound ≡ (nat_lt (capped x) nesting_bound && (nat_lt (capped y) nesting_bound && true))
branch_low x y = grind (arith, nat_tests)

less : (b : ℕ) → b ≤ nesting_bound → b - 1 ≤ nesting_bound
less b small = omega arith

-- what an operand of this height leaves for the other
abbrev pub left_over : ℕ → ℕ → ℕ
left_over height b = cond (nat_lt (capped height) (b - 1)) (b - 1) 0

pub left_small : (height b : ℕ) → b ≤ nesting_bound → left_over height b ≤ nesting_bound
left_small height b small = by_case (nat_lt (capped height) (b - 1)) where
  by_case : (v : Bool) → cond v (b - 1) 0 ≤ nesting_bound
  by_case true = omega arith
  by_case false = omega arith

module _ (any : Bool) (w n u : Limit → Reader Expr) (ow : (b : ℕ) → b ≤ nesting_bound → Obeys any (low (Below b)) (w (Below b)) (w (AnyHeight any))) (on : (b : ℕ) → b ≤ nesting_bound → Obeys any (low (Below b)) (n (Below b)) (n (AnyHeight any)))
    (ou : (b : ℕ) → b ≤ nesting_bound → Obeys any (low (Below b)) (u (Below b)) (u (AnyHeight any))) where
  inner : Obeys any (low (Below nesting_bound)) (w (Below nesting_bound)) (w (AnyHeight any))
  inner = ow nesting_bound (omega arith)

  abbrev lowo : Limit → g.Operand → Bool
  lowo limit a = low limit a.0

  parens_obeys : (b : ℕ) → b ≤ nesting_bound → Obeys any (low (Below b)) (r.read_parens w n u (Below b)) (r.read_parens w n u (AnyHeight any))
  unfolding r.read_parens read_close
  parens_obeys b small = mapped_obeys _ _ (low (Below b)) (λ v. implied_first _ _ (below_more (capped (height v.1.0)) b small))
      (word_then k.OpenParen (dep_obeys any (low (Below nesting_bound)) (λ a at. low (Below b) a) _ _ (λ a. close_obeys (low (Below b) a) k.CloseParen ends_paren) _ _ inner))

  next_obeys : (b : ℕ) → b ≤ nesting_bound → Obeys any (low (Below b)) (r.read_next_value w n u (Below b)) (r.read_next_value w n u (AnyHeight any))
  unfolding r.read_next_value
  next_obeys b small = mapped_obeys _ _ (low (Below b)) (λ v. ap (fits (Below b)) (h.height_next v.1) ∙ inside_low (height v.1) b small) (word_then k.Next (parens_obeys (b - 1) (less b small)))

  pub listed_obeys : (b : ℕ) → Obeys any (low (Below nesting_bound)) (r.read_listed w n u (Below b)) (r.read_listed w n u (AnyHeight any))
  unfolding r.read_listed
  listed_obeys b = mapped_obeys _ _ (low (Below nesting_bound)) (λ v. refl) (word_then k.Comma inner)

  more_listed_obeys : (b : ℕ) → Obeys any (all_pass (low (Below nesting_bound))) (r.read_more_listed w n u (Below b)) (r.read_more_listed w n u (AnyHeight any))
  unfolding r.read_more_listed
  more_listed_obeys b = many_obeys (k.Comma ∷ []) (listed_obeys b)

  parts_low : (first : Expr) (more : List Expr) (b : ℕ) → b ≤ nesting_bound → fits (Below b) (choice_height (choice.Each (first ∷ more))) ≡ true → (low (Below nesting_bound) first && all_pass (low (Below nesting_bound)) more) ≡ true
  parts_low first more b small t = all_low (first ∷ more) b small (sym (ap (fits (Below b)) (h.height_each (first ∷ more))) ∙ t)

  braces_obeys : (b : ℕ) → b ≤ nesting_bound → Obeys any (λ c. fits (Below b) (choice_height c)) (r.read_braces w n u (Below b)) (r.read_braces w n u (AnyHeight any))
  unfolding r.read_braces read_close
  braces_obeys b small = mapped_obeys _ _ (λ c. fits (Below b) (choice_height c)) (λ v. implied_first _ _ (parts_low v.1.0.0 v.1.0.1 b small))
      (word_then k.OpenBrace (dep_obeys any (λ v. low (Below nesting_bound) v.0 && all_pass (low (Below nesting_bound)) v.1) (λ v at. fits (Below b) (choice_height (choice.Each (v.0 ∷ v.1)))) _ _ (λ v. close_obeys _ k.CloseBrace ends_brace) _ _ (both_then inner (more_listed_obeys b))))

  interval_obeys : (b : ℕ) → Obeys any (λ c. fits (Below b) (choice_height c)) (r.read_interval w n u (Below b)) (r.read_interval w n u (AnyHeight any))
  unfolding r.read_interval
  interval_obeys b = mapped_obeys _ _ (λ c. fits (Below b) (choice_height c)) (λ v. ap (fits (Below b)) (h.height_between v.0 v.1)) (both_then (sign_obeys any true) (up_to_obeys any (fits (Below b) 0)))

  choice_obeys : (b : ℕ) → b ≤ nesting_bound → Obeys any (λ c. fits (Below b) (choice_height c)) (r.read_choice w n u (Below b)) (r.read_choice w n u (AnyHeight any))
  unfolding r.read_choice
  choice_obeys b small = either_obeys (k.OpenBrace ∷ []) (braces_obeys b small) (interval_obeys b)

  pub branch_obeys : (b : ℕ) → Obeys any low_branch (r.read_branch w n u (Below b)) (r.read_branch w n u (AnyHeight any))
  unfolding r.read_branch
  branch_obeys b = mapped_obeys branch_of _ low_branch (λ v. ap (fits (Below nesting_bound)) (h.height_branch v.0 v.1.1.0) ∙ branch_low (height v.0) (height v.1.1.0))
      (both_then inner (word_then k.Colon (both_then inner (leaf_obeys (of_kind k.Semicolon span_of)))))

  branches_obey : (b : ℕ) → Obeys any (all_pass low_branch) (r.read_branches w n u (Below b)) (r.read_branches w n u (AnyHeight any))
  unfolding r.read_branches
  branches_obey b = many_obeys r.first_expr (branch_obeys b)

  cases_low : (first : Branch) (more : List Branch) (b : ℕ) → b ≤ nesting_bound → low (Below b) (e.Cases (first ∷ more)) ≡ true → (low_branch first && all_pass low_branch more) ≡ true
  cases_low first more b small t = all_low_branches (first ∷ more) (b - 1) (less b small) (sym (ap (fits (Below b)) (h.height_cases (first ∷ more)) ∙ inside_low _ b small) ∙ t)

  cases_obey : (b : ℕ) → b ≤ nesting_bound → Obeys any (low (Below b)) (r.read_cases w n u (Below b)) (r.read_cases w n u (AnyHeight any))
  unfolding r.read_cases read_close
  cases_obey b small = mapped_obeys cases_of _ (low (Below b)) (λ v. implied_first _ _ (cases_low v.1.0 v.1.1.0 b small) ∙ sym (and_and (low_branch v.1.0) (all_pass low_branch v.1.1.0) _))
      (word_then k.Case (dep_obeys any low_branch (λ first v. all_pass low_branch v.0 && low (Below b) (e.Cases (first ∷ v.0))) _ _
      (λ first. dep_obeys any (all_pass low_branch) (λ more at. low (Below b) (e.Cases (first ∷ more))) _ _ (λ more. close_obeys _ k.Esac ends_case) _ _ (branches_obey b)) _ _ (branch_obeys b)))

  primary_obeys : (b : ℕ) → b ≤ nesting_bound → Obeys any (low (Below b)) (r.read_primary w n u (Below b)) (r.read_primary w n u (AnyHeight any))
  unfolding r.read_primary read_close
  primary_obeys b small =
      either_obeys (k.True ∷ []) (mapped_obeys _ _ (low (Below b)) (λ at. ap (fits (Below b)) (h.height_constant true)) (close_obeys (fits (Below b) 1) k.True ends_true)) (
      either_obeys (k.False ∷ []) (mapped_obeys _ _ (low (Below b)) (λ at. ap (fits (Below b)) (h.height_constant false)) (close_obeys (fits (Below b) 1) k.False ends_false)) (
      either_obeys (k.Name ∷ []) (path_obeys b) (
      either_obeys (k.OpenParen ∷ []) (parens_obeys b small) (
      either_obeys (k.OpenBrace ∷ []) (mapped_obeys e.Pick _ (low (Below b)) (λ c. ap (fits (Below b)) (h.height_pick c) ∙ inside_low (choice_height c) b small) (braces_obeys (b - 1) (less b small))) (
      either_obeys (k.Next ∷ []) (next_obeys b small) (cases_obey b small))))))

  negated_obeys : (b : ℕ) → b ≤ nesting_bound → Obeys any (low (Below b)) (r.read_negated w n u (Below b)) (r.read_negated w n u (AnyHeight any))
  unfolding r.read_negated
  negated_obeys b small = test_obeys (λ ts. begins number_kinds ts && followed_by k.DotDot ts) (negative_interval_obeys any b)
      (mapped_obeys e.Neg _ (low (Below b)) (λ a. ap (fits (Below b)) (h.height_neg a) ∙ inside_low (height a) b small) (ou (b - 1) (less b small)))

  minus_obeys : (b : ℕ) → b ≤ nesting_bound → Obeys any (low (Below b)) (r.read_minus w n u (Below b)) (r.read_minus w n u (AnyHeight any))
  unfolding r.read_minus
  minus_obeys b small = mapped_obeys _ _ (low (Below b)) (λ v. refl) (word_then k.Minus (negated_obeys b small))

  signed_obeys : (b : ℕ) → b ≤ nesting_bound → Obeys any (low (Below b)) (r.read_signed w n u (Below b)) (r.read_signed w n u (AnyHeight any))
  unfolding r.read_signed
  signed_obeys b small = either_obeys (k.Minus ∷ []) (minus_obeys b small) (primary_obeys b small)

  unary_obeys : (b : ℕ) → b ≤ nesting_bound → Obeys any (low (Below b)) (r.read_unary w n u (Below b)) (r.read_unary w n u (AnyHeight any))
  unfolding r.read_unary
  unary_obeys b small = either_obeys number_kinds (number_obeys any b) (signed_obeys b small)

  negatable_obeys : (b : ℕ) → b ≤ nesting_bound → Obeys any (low (Below b)) (r.read_negatable w n u (Below b)) (r.read_negatable w n u (AnyHeight any))
  unfolding r.read_negatable
  negatable_obeys b small = either_obeys number_kinds (single_obeys any b) (signed_obeys b small)

  negation_obeys : (b : ℕ) → b ≤ nesting_bound → Obeys any (low (Below b)) (r.read_negation w n u (Below b)) (r.read_negation w n u (AnyHeight any))
  unfolding r.read_negation
  negation_obeys b small = mapped_obeys _ _ (low (Below b)) (λ v. ap (fits (Below b)) (h.height_not v.1) ∙ inside_low (height v.1) b small) (word_then k.Not (on (b - 1) (less b small)))

  closed_obeys : (b : ℕ) → b ≤ nesting_bound → Obeys any (lowo (Below b)) (r.read_closed w n u (Below b)) (r.read_closed w n u (AnyHeight any))
  unfolding r.read_closed
  closed_obeys b small = mapped_obeys g.closed_operand _ (lowo (Below b)) (λ a. refl) (negation_obeys b small)

  operand_obeys : (b : ℕ) → b ≤ nesting_bound → Obeys any (lowo (Below b)) (r.read_operand w n u (Below b)) (r.read_operand w n u (AnyHeight any))
  unfolding r.read_operand
  operand_obeys b small = mapped_obeys g.open_operand _ (lowo (Below b)) (λ a. refl) (unary_obeys b small)

  -- an operator and its right operand, of a level that obeys
  item_obeys : (table : List (Kind × Op)) (p : Limit → Reader g.Operand) (b : ℕ) → b ≤ nesting_bound → Obeys any (lowo (Below b)) (p (Below b)) (p (AnyHeight any))
      → Obeys any (λ v. lowo (Below b) v.1) (read_both (read_one_of table) (r.read_right_of w n u (p (Below b)) (Below b))) (read_both (read_one_of table) (r.read_right_of w n u (p (AnyHeight any)) (AnyHeight any)))
  item_obeys table p b small o = both_then (leaf_obeys (λ t. find_kind table t.kind)) (either_obeys (k.Not ∷ []) (closed_obeys b small) o)

  joined_low : (b : ℕ) → b ≤ nesting_bound → (op : Op) (x y : Expr) → low (Below b) (e.Binary op x y) ≡ (low (Below b) x && low (beside (height x) (Below b)) y)
  joined_low b small op x y = ap (fits (Below b)) (h.height_binary op x y) ∙ beside_low (height x) (height y) b small

  pub term_item_obeys : (b : ℕ) → b ≤ nesting_bound → Obeys any (λ v. lowo (Below b) v.1) (r.read_term_item w n u (Below b)) (r.read_term_item w n u (AnyHeight any))
  unfolding r.read_term_item
  term_item_obeys b small = item_obeys g.term_operators (r.read_operand w n u) b small (operand_obeys b small)

  term_obeys : (b : ℕ) → b ≤ nesting_bound → Obeys any (lowo (Below b)) (r.read_term w n u (Below b)) (r.read_term w n u (AnyHeight any))
  unfolding r.read_term r.read_more_term
  term_obeys b small = row_obeys (kinds_of g.term_operators) g.is_closed _ _ g.joined_operand (lowo (Below b)) (λ x v. lowo (beside (height x.0) (Below b)) v.1) (λ x v. joined_low b small v.0 x.0 v.1.0)
      (λ x. term_item_obeys (left_over (height x.0) b) (left_small (height x.0) b small)) (operand_obeys b small)

  pub sum_item_obeys : (b : ℕ) → b ≤ nesting_bound → Obeys any (λ v. lowo (Below b) v.1) (r.read_sum_item w n u (Below b)) (r.read_sum_item w n u (AnyHeight any))
  unfolding r.read_sum_item
  sum_item_obeys b small = item_obeys g.sum_operators (r.read_term w n u) b small (term_obeys b small)

  sum_obeys : (b : ℕ) → b ≤ nesting_bound → Obeys any (lowo (Below b)) (r.read_sum w n u (Below b)) (r.read_sum w n u (AnyHeight any))
  unfolding r.read_sum r.read_more_sum
  sum_obeys b small = row_obeys (kinds_of g.sum_operators) g.is_closed _ _ g.joined_operand (lowo (Below b)) (λ x v. lowo (beside (height x.0) (Below b)) v.1) (λ x v. joined_low b small v.0 x.0 v.1.0)
      (λ x. sum_item_obeys (left_over (height x.0) b) (left_small (height x.0) b small)) (term_obeys b small)

  pub in_obeys : (b : ℕ) → b ≤ nesting_bound → Obeys any (λ c. fits (Below b) (choice_height c)) (r.read_in_choice w n u (Below b)) (r.read_in_choice w n u (AnyHeight any))
  unfolding r.read_in_choice
  in_obeys b small = mapped_obeys _ _ _ (λ v. refl) (word_then k.In (choice_obeys b small))

  within_low : (b : ℕ) → b ≤ nesting_bound → (x : Expr) (c : Choice) → low (Below b) (e.Within x c) ≡ (low (Below b) x && fits (beside (height x) (Below b)) (choice_height c))
  within_low b small x c = ap (fits (Below b)) (h.height_within x c) ∙ beside_low (height x) (choice_height c) b small

  within_obeys : (b : ℕ) → b ≤ nesting_bound → Obeys any (lowo (Below b)) (r.read_within w n u (Below b)) (r.read_within w n u (AnyHeight any))
  unfolding r.read_within r.read_more_within
  within_obeys b small = row_obeys (k.In ∷ []) g.is_closed _ _ g.within_operand (lowo (Below b)) (λ x c. fits (beside (height x.0) (Below b)) (choice_height c)) (λ x c. within_low b small x.0 c)
      (λ x. in_obeys (left_over (height x.0) b) (left_small (height x.0) b small)) (sum_obeys b small)

  pub comparison_item_obeys : (b : ℕ) → b ≤ nesting_bound → Obeys any (λ v. lowo (Below b) v.1) (r.read_comparison_item w n u (Below b)) (r.read_comparison_item w n u (AnyHeight any))
  unfolding r.read_comparison_item
  comparison_item_obeys b small = item_obeys g.comparisons (r.read_within w n u) b small (within_obeys b small)

  comparison_obeys : (b : ℕ) → b ≤ nesting_bound → Obeys any (lowo (Below b)) (r.read_comparison w n u (Below b)) (r.read_comparison w n u (AnyHeight any))
  unfolding r.read_comparison r.read_more_comparison
  comparison_obeys b small = row_obeys (kinds_of g.comparisons) g.is_closed _ _ g.joined_operand (lowo (Below b)) (λ x v. lowo (beside (height x.0) (Below b)) v.1) (λ x v. joined_low b small v.0 x.0 v.1.0)
      (λ x. comparison_item_obeys (left_over (height x.0) b) (left_small (height x.0) b small)) (within_obeys b small)

  not_obeys : (b : ℕ) → b ≤ nesting_bound → Obeys any (low (Below b)) (r.read_not_level w n u (Below b)) (r.read_not_level w n u (AnyHeight any))
  unfolding r.read_not_level
  not_obeys b small = either_obeys (k.Not ∷ []) (negation_obeys b small) (mapped_obeys _ _ (low (Below b)) (λ a. refl) (comparison_obeys b small))

  pub and_item_obeys : (b : ℕ) → b ≤ nesting_bound → Obeys any (λ v. low (Below b) v.1) (r.read_and_item w n u (Below b)) (r.read_and_item w n u (AnyHeight any))
  unfolding r.read_and_item
  and_item_obeys b small = both_then (leaf_obeys (λ t. find_kind g.and_operators t.kind)) (not_obeys b small)

  and_obeys : (b : ℕ) → b ≤ nesting_bound → Obeys any (low (Below b)) (r.read_and_level w n u (Below b)) (r.read_and_level w n u (AnyHeight any))
  unfolding r.read_and_level r.read_more_and
  and_obeys b small = row_obeys (kinds_of g.and_operators) g.never_ends _ _ g.joined (low (Below b)) (λ x v. low (beside (height x) (Below b)) v.1) (λ x v. joined_low b small v.0 x v.1)
      (λ x. and_item_obeys (left_over (height x) b) (left_small (height x) b small)) (not_obeys b small)

  pub or_item_obeys : (b : ℕ) → b ≤ nesting_bound → Obeys any (λ v. low (Below b) v.1) (r.read_or_item w n u (Below b)) (r.read_or_item w n u (AnyHeight any))
  unfolding r.read_or_item
  or_item_obeys b small = both_then (leaf_obeys (λ t. find_kind g.or_operators t.kind)) (and_obeys b small)

  or_obeys : (b : ℕ) → b ≤ nesting_bound → Obeys any (low (Below b)) (r.read_or_level w n u (Below b)) (r.read_or_level w n u (AnyHeight any))
  unfolding r.read_or_level r.read_more_or
  or_obeys b small = row_obeys (kinds_of g.or_operators) g.never_ends _ _ g.joined (low (Below b)) (λ x v. low (beside (height x) (Below b)) v.1) (λ x v. joined_low b small v.0 x v.1)
      (λ x. or_item_obeys (left_over (height x) b) (left_small (height x) b small)) (and_obeys b small)

  pub iff_item_obeys : (b : ℕ) → b ≤ nesting_bound → Obeys any (λ v. low (Below b) v.1) (r.read_iff_item w n u (Below b)) (r.read_iff_item w n u (AnyHeight any))
  unfolding r.read_iff_item
  iff_item_obeys b small = both_then (leaf_obeys (λ t. find_kind g.iff_operators t.kind)) (or_obeys b small)

  iff_obeys : (b : ℕ) → b ≤ nesting_bound → Obeys any (low (Below b)) (r.read_iff_level w n u (Below b)) (r.read_iff_level w n u (AnyHeight any))
  unfolding r.read_iff_level r.read_more_iff
  iff_obeys b small = row_obeys (kinds_of g.iff_operators) g.never_ends _ _ g.joined (low (Below b)) (λ x v. low (beside (height x) (Below b)) v.1) (λ x v. joined_low b small v.0 x v.1)
      (λ x. iff_item_obeys (left_over (height x) b) (left_small (height x) b small)) (or_obeys b small)

  conclusion_obeys : (b : ℕ) → b ≤ nesting_bound → Obeys any (low (Below b)) (r.read_conclusion w n u (Below b)) (r.read_conclusion w n u (AnyHeight any))
  unfolding r.read_conclusion
  conclusion_obeys b small = mapped_obeys _ _ (low (Below b)) (λ v. refl) (word_then k.Implies (ow b small))

  -- what may be there is low where it is
  low_option : Limit → Option Expr → Bool
  low_option limit None = true
  low_option limit (Some a) = low limit a

  implied_low : (b : ℕ) → b ≤ nesting_bound → (a : Expr) (o : Option Expr) → low (Below b) (g.implied a o) ≡ (low (Below b) a && low_option (beside (height a) (Below b)) o)
  unfolding low_option
  implied_low b small a None = sym (and_true (low (Below b) a))
  implied_low b small a (Some c) = joined_low b small op.Implies a c

  whole_obeys : (b : ℕ) → b ≤ nesting_bound → Obeys any (low (Below b)) (r.read_whole w n u (Below b)) (r.read_whole w n u (AnyHeight any))
  unfolding r.read_whole low_option
  whole_obeys b small = mapped_obeys _ _ (low (Below b)) (λ v. implied_low b small v.0 v.1)
      (dep_obeys any (low (Below b)) (λ a o. low_option (beside (height a) (Below b)) o) _ _
      (λ a. either_obeys (k.Implies ∷ []) (mapped_obeys Some _ _ (λ c. refl) (conclusion_obeys (left_over (height a) b) (left_small (height a) b small))) (nothing_obeys _ None refl)) _ _ (iff_obeys b small))

-- ---- at every limit of open constructs

pub record ExprObeys (any : Bool) (m : ℕ) : Type 0 where
  pub whole : (b : ℕ) → b ≤ nesting_bound → Obeys any (low (Below b)) (r.read_expr m (Below b)) (r.read_expr m (AnyHeight any))
  pub negated : (b : ℕ) → b ≤ nesting_bound → Obeys any (low (Below b)) (r.read_not m (Below b)) (r.read_not m (AnyHeight any))
  pub signed : (b : ℕ) → b ≤ nesting_bound → Obeys any (low (Below b)) (r.read_signed_expr m (Below b)) (r.read_signed_expr m (AnyHeight any))

wide_first : (first : List Kind) → within (k.WideNumeral ∷ []) first ≡ true → (ts : Tokens) → begins (k.WideNumeral ∷ []) ts ≡ true → begins first ts ≡ true
wide_first first w ts h = begins_within (k.WideNumeral ∷ []) first w ts h

pub expr_obeys : (any : Bool) (m : ℕ) → ExprObeys any m
unfolding r.read_expr r.read_too_deep same_kind
expr_obeys any zero = record {
  whole = λ b small. deep_obeys any (low (Below b)) r.first_expr (wide_first r.first_expr refl);
  negated = λ b small. deep_obeys any (low (Below b)) r.first_expr (wide_first r.first_expr refl);
  signed = λ b small. deep_obeys any (low (Below b)) r.first_unary (wide_first r.first_unary refl);
}
expr_obeys any (suc m) = let s = expr_obeys any m in record {
  whole = λ b small. whole_obeys any (r.read_expr m) (r.read_not m) (r.read_signed_expr m) s.whole s.negated s.signed b small;
  negated = λ b small. not_obeys any (r.read_expr m) (r.read_not m) (r.read_signed_expr m) s.whole s.negated s.signed b small;
  signed = λ b small. negatable_obeys any (r.read_expr m) (r.read_not m) (r.read_signed_expr m) s.whole s.negated s.signed b small;
}
