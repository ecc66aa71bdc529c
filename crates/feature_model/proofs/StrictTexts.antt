-- What the reader of texts with propositional constraints reads, or where it stops.
use Rattle.std.proofs.Common.{◌≡◌, ℕ, zero, suc, ◌≤◌, Bool, true, false, ◌&&◌, cond, List, [], ◌∷◌, ◌++◌, length, append_assoc, append-nil, Option, Some, None, refl, sym, ◌∙◌, ap, subst, arith}
use Rattle.std.specs.List.{list_all}
use Rattle.std.proofs.lemmas.List.{append_cancel_right}
use Rattle.smv_ast.specs.declared.syntax.Span.{Span}
use Rattle.smv_ast.specs.declared.syntax.Expr.{Expr}
use Rattle.smv_ast.specs.declared.model.GroupKind.{GroupKind}
use Rattle.smv_expr.specs.declared.kind.Kind.{Kind}
use Rattle.smv_expr.specs.declared.kind.Kind.TheVariants as k
use Rattle.smv_expr.specs.Lexicon.{Token}
use Rattle.smv_expr.specs.Language.{Tokens, next_of, begins}
use Rattle.smv_expr.specs.Reading.{Outcome, Reader, and_then, read_word, read_one_of, read_both, read_mapped, read_more, read_rounds, read_fold, pushed}
use Rattle.smv_expr.specs.Reading.Outcome.{Read, Stop}
use Rattle.smv_expr.specs.Reading.Cause.{UnexpectedToken, Wide, Deep}
use Rattle.smv_expr.specs.Limits.{nesting_bound}
use Rattle.smv_expr.specs.ExprGrammar.{expr}
use Rattle.smv_expr.specs.ExprReaders.{first_expr}
use Rattle.smv_expr.specs.ExprAnswer.{is_low, limited_expr}
use Rattle.smv_expr.specs.Answer.{unlimited, GoesOn, Verdict}
use Rattle.smv_expr.proofs.Rules.{Rule, Good, Took}
use Rattle.smv_expr.proofs.Words.{always, tok}
use Rattle.smv_expr.proofs.Rounds.{one_round, rounds_end}
use Rattle.smv_expr.proofs.RowRounds.{next_round, more_ended, more_end}
use Rattle.smv_expr.proofs.Limited.{Obeys, Sim, LeavesSuffix}
use Rattle.smv_expr.proofs.ExprRules.{expr_rules, starts_expr}
use Rattle.smv_expr.proofs.ExprAnswering as exprs
use Rattle.smv_expr.proofs.ExprAnswering.{limited_obeys, limited_local}
use Rattle.feature_model.specs.Propositional.{is_propositional}
use Rattle.feature_model.specs.TextGrammar as g
use Rattle.feature_model.specs.TextGrammar.{first_line, constraint_of, group_of, text_of, model_text, low_line, low_text, is_logical_line, has_formulas}
use Rattle.feature_model.specs.TextReaders as r
use Rattle.feature_model.specs.TextReaders.{with_line, is_refused, reading_of}
use Rattle.feature_model.specs.TextAnswer.{IsModelText, IsOtherConstraint, EndsLines, EndsText, TextVerdict, ReadVerdict}
use Rattle.feature_model.specs.declared.text.FeatureName.{FeatureName}
use Rattle.feature_model.specs.declared.text.TextLine.{TextLine}
use Rattle.feature_model.specs.declared.text.TextLine.TheVariants.{Constraint}
use Rattle.feature_model.specs.declared.text.ModelText.{ModelText}
use Rattle.feature_model.specs.declared.text.LineReading.{LineReading}
use Rattle.feature_model.specs.declared.text.LineReading.TheVariants.{Line, Refused}
use Rattle.feature_model.specs.declared.text.LinesReading.{LinesReading}
use Rattle.feature_model.specs.declared.text.TextReading.{TextReading}
use Rattle.feature_model.proofs.TextRules as rules
use Rattle.feature_model.proofs.TextRules.{the_limit, a_word, header_rule, header_obeys, line_rule, line_obeys, line_consumes}
use Rattle.feature_model.proofs.StrictReading.{strict_line_consumes}

-- ---- what is read is a text

-- the tokens before the remaining ones are a text of the value
record Cut {A : Type 0} (L : ℕ → A → Tokens → Type 0) (test : A → Bool) (ts : Tokens) (a : A) (remaining : Tokens) : Type 0 where
  text : Tokens
  split : ts ≡ text ++ remaining
  reads : L nesting_bound a text
  passes : test a ≡ true

cut : {A : Type 0} {L : ℕ → A → Tokens → Type 0} {follow : List Kind} {test : A → Bool} {p s : Reader A} → Rule nesting_bound L (always follow) s → Obeys false test p s → (ts : Tokens) (a : A) (remaining : Tokens) → p ts ≡ Read a remaining → Cut L test ts a remaining
cut {A} {L} {follow} {test} {p} {s} rule obeys ts a remaining e =
    let sim : Sim false test (Read a remaining) (s ts) = subst (λ (o : Outcome A). Sim false test o (s ts)) e (obeys.at ts) in
    let took : Took nesting_bound L (always follow) ts a remaining = subst (λ (o : Outcome A). Good nesting_bound L (always follow) ts o) sim.0 (rule.good ts) in
    record { text = took.prefix; split = took.split; reads = took.reads; passes = sim.1 }

-- ---- lists of lines

and_assoc : (a b c : Bool) → ((a && b) && c) ≡ (a && (b && c))
and_assoc true b c = refl
and_assoc false b c = refl

and_true : (a : Bool) → (a && true) ≡ a
and_true true = refl
and_true false = refl

true_both : (a b : Bool) → a ≡ true → b ≡ true → (a && b) ≡ true
true_both a b h k' = ap (λ x. x && b) h ∙ k'

all_pushed : {A : Type 0} (test : A → Bool) (items : List A) (a : A) → list_all test (items ++ a ∷ []) ≡ (list_all test items && test a)
all_pushed test [] a = and_true (test a)
all_pushed test (x ∷ items) a = ap (λ v. test x && v) (all_pushed test items a) ∙ sym (and_assoc (test x) (list_all test items) (test a))

false_pushed : {A : Type 0} (test : A → Bool) (items : List A) (a : A) → list_all test items ≡ false → list_all test (items ++ a ∷ []) ≡ false
false_pushed test items a h = all_pushed test items a ∙ ap (λ v. v && test a) h

false_last : {A : Type 0} (test : A → Bool) (items : List A) (a : A) → list_all test items ≡ true → test a ≡ false → list_all test (items ++ a ∷ []) ≡ false
false_last test items a h k' = all_pushed test items a ∙ ap (λ v. v && test a) h ∙ k'

true_last : {A : Type 0} (test : A → Bool) (items : List A) (a : A) → list_all test items ≡ true → test a ≡ true → list_all test (items ++ a ∷ []) ≡ true
true_last test items a h k' = all_pushed test items a ∙ true_both (list_all test items) (test a) h k'

-- what more is read leaves a failure
module _ {A : Type 0} (set : List Kind) (p : Reader A) (test : A → Bool) where
  keeps_to : (n : ℕ) (found : List A) (ts : Tokens) → list_all test found ≡ false → (all : List A) (remaining : Tokens) → read_rounds n set p pushed found ts ≡ Read all remaining → list_all test all ≡ false
  keeps_to zero found ts h all remaining e = let same : found ≡ all = cc in subst (λ (x : List A). list_all test x ≡ false) same h
  keeps_to (suc n) found ts h all remaining e = by_begin (begins set ts) (p ts) e (λ a rest q. keeps_to n (pushed found a) rest (false_pushed test found a h) all remaining q) where
    by_begin : (v : Bool) (o : Outcome A) → cond v (and_then o (λ a rest. read_rounds n set p pushed (pushed found a) rest)) (Read found ts) ≡ Read all remaining
        → ((a : A) (rest : Tokens) → read_rounds n set p pushed (pushed found a) rest ≡ Read all remaining → list_all test all ≡ false) → list_all test all ≡ false
    by_begin false o e next = let same : found ≡ all = cc in subst (λ (x : List A). list_all test x ≡ false) same h
    by_begin true (Stop cause x) e next = cc
    by_begin true (Read a x) e next = next a x e

  keeps : (found : List A) (ts : Tokens) → list_all test found ≡ false → (all : List A) (remaining : Tokens) → read_fold set p pushed found ts ≡ Read all remaining → list_all test all ≡ false
  unfolding read_fold
  keeps found ts h all remaining e = keeps_to (length ts) found ts h all remaining e

-- ---- an expression

-- no expression is read at the end
no_more : (mid : Tokens) (t : Token) (ts : Tokens) → [] ≡ mid ++ t ∷ ts → ⊥
no_more [] t ts e = cc
no_more (x ∷ mid) t ts e = cc

none_at_end : limited_expr [] ≡ Stop UnexpectedToken []
none_at_end = by_outcome (limited_expr []) refl (exprs.verdict []) (limited_local.near []) where
  by_outcome : (o : Outcome Expr) → limited_expr [] ≡ o → Verdict expr is_low [] o → LeavesSuffix [] o → o ≡ Stop UnexpectedToken []
  by_outcome (Read a []) e v near = let begun : begins first_expr [] ≡ true = (starts_expr false).at nesting_bound a [] v.reads in let none : false ≡ true = begun in cc
  by_outcome (Read a (t ∷ ts)) e v near = absurd (no_more near.0 t ts near.1)
  by_outcome (Stop UnexpectedToken []) e v near = refl
  by_outcome (Stop UnexpectedToken (t ∷ ts)) e v near = absurd (no_more near.0 t ts near.1)
  by_outcome (Stop Wide []) e v near = let none : false ≡ true = v.wide in cc
  by_outcome (Stop Wide (t ∷ ts)) e v near = absurd (no_more near.0 t ts near.1)
  by_outcome (Stop Deep []) e v near = absurd (limited_local.ends [] e)
  by_outcome (Stop Deep (t ∷ ts)) e v near = absurd (no_more near.0 t ts near.1)

-- what is read of an expression is as long as it can be
ends_of : (ts more text : Tokens) (e : Expr) → ts ≡ text ++ more → Verdict expr is_low ts (Read e more) → (next : Token) → next_of more ≡ Some next → GoesOn (unlimited expr) text more → ⊥
ends_of ts [] text e s v next n goes = cc
ends_of ts (y ∷ ys) text e s v next n goes = v.dead (subst (λ (c : Tokens). GoesOn (unlimited expr) c (y ∷ ys)) (append_cancel_right text v.before.prefix (y ∷ ys) (sym s ∙ v.before.split)) goes)

start_of : (t : Token) (ts text more : Tokens) → begins first_expr text ≡ true → t ∷ ts ≡ text ++ more → (first : Token) × (next_of text ≡ Some first) × (first.at ≡ t.at)
start_of t ts [] more h e = let none : false ≡ true = h in cc
start_of t ts (u ∷ text) more h e = let same : t ≡ u = cc in (u, refl, ap (λ (x : Token). x.at) (sym same))

-- ---- a constraint

-- how the two readings of a line agree: the strict one, and that of any line
abbrev LineAgrees : Tokens → Outcome LineReading → Outcome TextLine → Type 0
LineAgrees ts (Read (Line line) remaining) o = (o ≡ Read line remaining) × (is_logical_line line ≡ true)
LineAgrees ts (Read (Refused at) remaining) o = IsOtherConstraint ts at × ((line : TextLine) (rest : Tokens) → o ≡ Read line rest → is_logical_line line ≡ false)
LineAgrees ts (Stop cause remaining) o = o ≡ Stop cause remaining

abbrev strict_of : Outcome Span → Outcome LineReading
strict_of o = and_then {A = Span × (Span × Expr)} (and_then o (λ a rest. and_then (read_both r.read_start limited_expr rest) (λ b rest'. Read (a, b) rest'))) (λ p. r.read_constraint_end p.1.0 p.1.1)

abbrev plain_of : Outcome Span → Outcome TextLine
plain_of o = and_then (and_then o (λ a rest. and_then (read_both limited_expr (read_word k.Semicolon) rest) (λ b rest'. Read (a, b) rest'))) (λ p rest. Read (constraint_of p) rest)

-- the end of a constraint whose expression was read
module _ (ts : Tokens) (place : Span) (t : Token) (rest : Tokens) (e : Expr) (more : Tokens) (taken : read_word k.Constraint ts ≡ Read place (t ∷ rest)) (found : limited_expr (t ∷ rest) ≡ Read e more) where
  abbrev plain_end : Outcome Span → Outcome TextLine
  plain_end o = and_then (and_then (and_then o (λ c rest'. Read (e, c) rest')) (λ b rest'. Read (place, b) rest')) (λ p rest'. Read (constraint_of p) rest')

  other : is_propositional e ≡ false → IsOtherConstraint ts t.at
  other h =
      let word = cut (tok k.Constraint) (a_word k.Constraint) ts place (t ∷ rest) taken in
      let body = cut (expr_rules false nesting_bound).whole (limited_obeys false) (t ∷ rest) e more found in
      record {
        constraint = word.text;
        place = place;
        is_word = word.reads;
        text = body.text;
        more = more;
        split = word.split ∙ ap (λ x. word.text ++ x) body.split;
        formula = e;
        reads = body.reads;
        low = body.passes;
        other = h;
        start = start_of t rest body.text more ((starts_expr false).at nesting_bound e body.text body.reads) body.split;
        ends = ends_of (t ∷ rest) more body.text e body.split (subst (λ (o : Outcome Expr). Verdict expr is_low (t ∷ rest) o) found (exprs.verdict (t ∷ rest)));
      }

  not_logical : is_propositional e ≡ false → (o : Outcome Span) (line : TextLine) (rest' : Tokens) → plain_end o ≡ Read line rest' → is_logical_line line ≡ false
  not_logical h (Stop cause x) line rest' q = cc
  not_logical h (Read s x) line rest' q = let same : Constraint e ≡ line = cc in subst (λ (l : TextLine). is_logical_line l ≡ false) same h

  end_agrees : (v : Bool) → is_propositional e ≡ v → LineAgrees ts (cond v (read_mapped (λ end. Line (Constraint e)) (read_word k.Semicolon) more) (Read (Refused t.at) more)) (plain_end (read_word k.Semicolon more))
  end_agrees true h = by_end (read_word k.Semicolon more) where
    by_end : (o : Outcome Span) → LineAgrees ts (and_then o (λ end rest'. Read (Line (Constraint e)) rest')) (plain_end o)
    by_end (Stop cause x) = refl
    by_end (Read s x) = (refl, h)
  end_agrees false h = (other h, λ line rest' q. not_logical h (read_word k.Semicolon more) line rest' q)

constraint_agrees : (ts : Tokens) → LineAgrees ts (strict_of (read_word k.Constraint ts)) (plain_of (read_word k.Constraint ts))
unfolding r.read_start r.read_constraint_end
constraint_agrees ts = by_word (read_word k.Constraint ts) refl where
  by_word : (o : Outcome Span) → read_word k.Constraint ts ≡ o → LineAgrees ts (strict_of o) (plain_of o)
  by_word (Stop cause x) e = refl
  by_word (Read place []) e = ap (λ (o : Outcome Expr). and_then (and_then (and_then o (λ b rest. and_then (read_word k.Semicolon rest) (λ c rest'. Read (b, c) rest'))) (λ b rest. Read (place, b) rest)) (λ p rest. Read (constraint_of p) rest)) none_at_end
  by_word (Read place (t ∷ rest)) e = by_expr (limited_expr (t ∷ rest)) refl where
    by_expr : (o : Outcome Expr) → limited_expr (t ∷ rest) ≡ o
        → LineAgrees ts (and_then {A = Span × (Span × Expr)} (and_then (and_then o (λ b rest'. Read (t.at, b) rest')) (λ b rest'. Read (place, b) rest')) (λ p. r.read_constraint_end p.1.0 p.1.1))
        (and_then (and_then (and_then o (λ b rest'. and_then (read_word k.Semicolon rest') (λ c rest''. Read (b, c) rest''))) (λ b rest'. Read (place, b) rest')) (λ p rest'. Read (constraint_of p) rest'))
    by_expr (Stop cause x) q = refl
    by_expr (Read b more) q = end_agrees ts place t rest b more e q (is_propositional b) refl

-- ---- a line

group_agrees : (ts : Tokens) → LineAgrees ts (read_mapped Line r.read_group ts) (r.read_group ts)
unfolding r.read_group
group_agrees ts = by_outcome (read_both (read_one_of g.group_kinds) (read_both r.read_feature_name (read_both (read_word k.Colon) (read_both r.read_feature_names (read_word k.Semicolon)))) ts) where
  by_outcome : (o : Outcome (GroupKind × (FeatureName × (Span × (List FeatureName × Span))))) → LineAgrees ts (and_then (and_then o (λ p rest. Read (group_of p) rest)) (λ line rest. Read (Line line) rest)) (and_then o (λ p rest. Read (group_of p) rest))
  by_outcome (Stop cause x) = refl
  by_outcome (Read p x) = (refl, refl)

line_agrees : (ts : Tokens) → LineAgrees ts (r.read_strict_line ts) (r.read_line the_limit ts)
unfolding r.read_strict_line r.read_line r.read_strict_constraint r.read_constraint
line_agrees ts = by_begin (begins (k.Constraint ∷ []) ts) where
  by_begin : (v : Bool) → LineAgrees ts (cond v (strict_of (read_word k.Constraint ts)) (read_mapped Line r.read_group ts)) (cond v (plain_of (read_word k.Constraint ts)) (r.read_group ts))
  by_begin true = constraint_agrees ts
  by_begin false = group_agrees ts

-- ---- lines

abbrev LinesAfter : List TextLine → Tokens → List TextLine → Option Span → Tokens → Outcome (List TextLine) → Type 0
LinesAfter found ts lines None remaining o = (o ≡ Read lines remaining) × (list_all is_logical_line lines ≡ true)
LinesAfter found ts lines (Some at) remaining o =
    (new : List TextLine) × (lines ≡ found ++ new) × EndsLines ts new at × ((all : List TextLine) (rest : Tokens) → o ≡ Read all rest → list_all is_logical_line all ≡ false)

-- how the two readings of lines agree, after those that were found
abbrev LinesAgree : List TextLine → Tokens → Outcome LinesReading → Outcome (List TextLine) → Type 0
LinesAgree found ts (Read got remaining) o = LinesAfter found ts got.lines got.refused remaining o
LinesAgree found ts (Stop cause remaining) o = o ≡ Stop cause remaining

abbrev strict_rounds : LinesReading → Reader LinesReading
strict_rounds = read_more first_line is_refused (λ got. r.read_strict_line) with_line

abbrev plain_rounds : List TextLine → Reader (List TextLine)
plain_rounds = read_fold first_line (r.read_line the_limit) pushed

abbrev so_far : List TextLine → LinesReading
so_far found = record { lines = found; refused = None }

-- one line more before the others
widen_after : (found : List TextLine) (line : TextLine) (ts rest : Tokens) → Cut (λ m. g.line (expr false m)) low_line ts line rest → is_logical_line line ≡ true
    → (lines : List TextLine) (refused : Option Span) (remaining : Tokens) (o : Outcome (List TextLine)) → LinesAfter (found ++ line ∷ []) rest lines refused remaining o → LinesAfter found ts lines refused remaining o
widen_after found line ts rest c l lines None remaining o h = h
widen_after found line ts rest c l lines (Some at) remaining o h = (
  line ∷ h.0,
  h.1 ∙ append_assoc found (line ∷ []) h.0,
  record {
    before = c.text ++ h.2.before;
    remaining = h.2.remaining;
    split = c.split ∙ ap (λ x. c.text ++ x) h.2.split ∙ sym (append_assoc c.text h.2.before h.2.remaining);
    reads = (c.text, h.2.before, refl, c.reads, h.2.reads);
    low = true_both (low_line line) (list_all low_line h.0) c.passes h.2.low;
    formulas = true_both (is_logical_line line) (list_all is_logical_line h.0) l h.2.formulas;
    stop = h.2.stop;
  },
  h.3,
)

widen : (found : List TextLine) (line : TextLine) (ts rest : Tokens) → Cut (λ m. g.line (expr false m)) low_line ts line rest → is_logical_line line ≡ true
    → (o' : Outcome LinesReading) (o : Outcome (List TextLine)) → LinesAgree (found ++ line ∷ []) rest o' o → LinesAgree found ts o' o
widen found line ts rest c l (Stop cause remaining) o h = h
widen found line ts rest c l (Read got remaining) o h = widen_after found line ts rest c l got.lines got.refused remaining o h

-- after a line that is refused
refused_after : (found : List TextLine) (ts : Tokens) (at : Span) → list_all is_logical_line found ≡ true → IsOtherConstraint ts at → (o : Outcome TextLine) → ((line : TextLine) (rest : Tokens) → o ≡ Read line rest → is_logical_line line ≡ false)
    → (remaining : Tokens) → LinesAfter found ts found (Some at) remaining (and_then o (λ a rest. plain_rounds (pushed found a) rest))
refused_after found ts at l other o fails remaining = ([], sym (append-nil found), record { before = []; remaining = ts; split = refl; reads = refl; low = refl; formulas = refl; stop = other }, by_outcome o fails) where
  by_outcome : (o : Outcome TextLine) → ((line : TextLine) (rest : Tokens) → o ≡ Read line rest → is_logical_line line ≡ false) → (all : List TextLine) (rest : Tokens) → and_then o (λ a rest. plain_rounds (pushed found a) rest) ≡ Read all rest → list_all is_logical_line all ≡ false
  by_outcome (Stop cause x) fails all rest e = cc
  by_outcome (Read line x) fails all rest e = keeps first_line (r.read_line the_limit) is_logical_line (found ++ line ∷ []) x (false_last is_logical_line found line l (fails line x refl)) all rest e

-- no line comes
ended : (found : List TextLine) (ts : Tokens) → list_all is_logical_line found ≡ true → begins first_line ts ≡ false → LinesAgree found ts (strict_rounds (so_far found) ts) (plain_rounds found ts)
ended found ts l e =
    subst (λ (o : Outcome LinesReading). LinesAgree found ts o (plain_rounds found ts)) (sym (more_end first_line is_refused (λ got. r.read_strict_line) with_line (so_far found) ts refl e))
    (rounds_end first_line (r.read_line the_limit) pushed found ts e, l)

abbrev Below : ℕ → Type 0
Below n = (rest : Tokens) → length rest ≤ n → (found : List TextLine) → list_all is_logical_line found ≡ true → LinesAgree found rest (strict_rounds (so_far found) rest) (plain_rounds found rest)

-- a line, and then the others
module _ (n : ℕ) (next : Below n) (ts : Tokens) (small : length ts ≤ suc n) (found : List TextLine) (l : list_all is_logical_line found ≡ true) where
  strict_next : LineReading → Tokens → Outcome LinesReading
  strict_next a rest = strict_rounds (with_line (so_far found) a) rest

  plain_next : TextLine → Tokens → Outcome (List TextLine)
  plain_next a rest = plain_rounds (pushed found a) rest

  step : (o' : Outcome LineReading) (o : Outcome TextLine) → r.read_line the_limit ts ≡ o → LineAgrees ts o' o → LinesAgree found ts (and_then o' (λ a rest. strict_rounds (with_line (so_far found) a) rest)) (and_then o (λ a rest. plain_rounds (pushed found a) rest))
  step (Stop cause x) o e w = ap (λ (y : Outcome TextLine). and_then y (λ a rest. plain_rounds (pushed found a) rest)) w
  step (Read (Line line) rest) o e w =
      let read : r.read_line the_limit ts ≡ Read line rest = e ∙ w.0 in
      let less = line_consumes.less ts line rest read in
      subst (λ (y : Outcome TextLine). LinesAgree found ts (strict_rounds (so_far (found ++ line ∷ [])) rest) (and_then y (λ a rest'. plain_rounds (pushed found a) rest'))) (sym w.0)
      (widen found line ts rest (cut (line_rule false) line_obeys ts line rest read) w.1 (strict_rounds (so_far (found ++ line ∷ [])) rest) (plain_rounds (found ++ line ∷ []) rest)
      (next rest (omega (arith, less, small)) (found ++ line ∷ []) (true_last is_logical_line found line l w.1)))
  step (Read (Refused at) rest) o e w =
      subst (λ (y : Outcome LinesReading). LinesAgree found ts y (and_then o (λ a rest'. plain_rounds (pushed found a) rest')))
      (sym (more_ended first_line is_refused (λ got. r.read_strict_line) with_line (record { lines = found; refused = Some at }) rest refl))
      (refused_after found ts at l w.0 o w.1 rest)

  one_more : begins first_line ts ≡ true → LinesAgree found ts (strict_rounds (so_far found) ts) (plain_rounds found ts)
  one_more e =
      subst (λ (y : Outcome LinesReading). LinesAgree found ts y (plain_rounds found ts)) (sym (next_round first_line is_refused (λ got. r.read_strict_line) with_line (λ got. strict_line_consumes) (so_far found) ts refl e))
      (subst (λ (y : Outcome (List TextLine)). LinesAgree found ts (and_then (r.read_strict_line ts) (λ a rest. strict_rounds (with_line (so_far found) a) rest)) y) (sym (one_round first_line (r.read_line the_limit) pushed line_consumes found ts e))
      (step (r.read_strict_line ts) (r.read_line the_limit ts) refl (line_agrees ts)))

none_left : (ts : Tokens) → length ts ≤ 0 → begins first_line ts ≡ false
none_left [] h = refl
none_left (t ∷ ts) h = absurd (omega (arith, h))

lines_agree : (n : ℕ) → Below n
lines_agree zero ts small found l = ended found ts l (none_left ts small)
lines_agree (suc n) ts small found l = by_begin (begins first_line ts) refl (one_more n (lines_agree n) ts small found l) where
  by_begin : (v : Bool) → begins first_line ts ≡ v → (begins first_line ts ≡ true → LinesAgree found ts (strict_rounds (so_far found) ts) (plain_rounds found ts)) → LinesAgree found ts (strict_rounds (so_far found) ts) (plain_rounds found ts)
  by_begin true e more = more e
  by_begin false e more = ended found ts l e

-- ---- texts

abbrev TextAfter : Tokens → ModelText → Option Span → Tokens → Outcome ModelText → Type 0
TextAfter ts t None remaining o = (o ≡ Read t remaining) × (has_formulas t ≡ true)
TextAfter ts t (Some at) remaining o = EndsText ts t at × ((t' : ModelText) (rest : Tokens) → o ≡ Read t' rest → has_formulas t' ≡ false)

-- how the two readings of a text agree
abbrev TextAgrees : Tokens → Outcome TextReading → Outcome ModelText → Type 0
TextAgrees ts (Read got remaining) o = TextAfter ts got.text got.refused remaining o
TextAgrees ts (Stop cause remaining) o = o ≡ Stop cause remaining

-- what follows the header
module _ (ts : Tokens) (root : FeatureName) (rest : Tokens) (taken : r.read_header ts ≡ Read root rest) where
  abbrev strict_tail : Outcome LinesReading → Outcome TextReading
  strict_tail o = and_then {A = FeatureName × LinesReading} (and_then o (λ b x. Read (root, b) x)) (λ p. r.read_text_end p.0 p.1)

  abbrev plain_tail : Outcome (List TextLine) → Outcome ModelText
  plain_tail o = and_then (and_then (and_then o (λ b x. and_then (read_word k.End x) (λ c y. Read (b, c) y))) (λ b x. Read (root, b) x)) (λ p x. Read (text_of p) x)

  abbrev plain_word : List TextLine → Outcome Span → Outcome ModelText
  plain_word lines o = and_then (and_then (and_then o (λ c y. Read (lines, c) y)) (λ b x. Read (root, b) x)) (λ p x. Read (text_of p) x)

  word_fails : (lines : List TextLine) → list_all is_logical_line lines ≡ false → (o : Outcome Span) (t' : ModelText) (x : Tokens) → plain_word lines o ≡ Read t' x → has_formulas t' ≡ false
  word_fails lines h (Stop cause y) t' x e = cc
  word_fails lines h (Read s y) t' x e = let same : record { root = root; lines = lines } ≡ t' = cc in subst (λ (u : ModelText). has_formulas u ≡ false) same h

  tail_fails : (o : Outcome (List TextLine)) → ((all : List TextLine) (x : Tokens) → o ≡ Read all x → list_all is_logical_line all ≡ false) → (t' : ModelText) (x : Tokens) → plain_tail o ≡ Read t' x → has_formulas t' ≡ false
  tail_fails (Stop cause y) fails t' x e = cc
  tail_fails (Read lines y) fails t' x e = word_fails lines (fails lines y refl) (read_word k.End y) t' x e

  end_agrees_of : (lines : List TextLine) → list_all is_logical_line lines ≡ true → (o : Outcome Span) → TextAgrees ts (and_then o (λ at y. Read (reading_of root (so_far lines)) y)) (plain_word lines o)
  end_agrees_of lines h (Stop cause x) = refl
  end_agrees_of lines h (Read s x) = (refl, h)

  lines_then : (lines : List TextLine) (refused : Option Span) (x : Tokens) (o : Outcome (List TextLine)) → LinesAfter [] rest lines refused x o → TextAgrees ts (r.read_text_end root (record { lines = lines; refused = refused }) x) (plain_tail o)
  unfolding r.read_text_end
  lines_then lines None x o w = subst (λ (y : Outcome (List TextLine)). TextAgrees ts (and_then (read_word k.End x) (λ at z. Read (reading_of root (so_far lines)) z)) (plain_tail y)) (sym w.0) (end_agrees_of lines w.1 (read_word k.End x))
  lines_then lines (Some at) x o w =
      let head = cut header_rule header_obeys ts root rest taken in
      (record { before = head.text; remaining = rest; split = head.split; reads = head.reads; stop = subst (λ (ls : List TextLine). EndsLines rest ls at) (sym w.1) w.2 }, tail_fails o w.3)

  tail_agrees : (o' : Outcome LinesReading) (o : Outcome (List TextLine)) → LinesAgree [] rest o' o → TextAgrees ts (strict_tail o') (plain_tail o)
  tail_agrees (Stop cause x) o w = ap plain_tail w
  tail_agrees (Read got x) o w = lines_then got.lines got.refused x o w

header_first : (ts : Tokens) → TextAgrees ts (r.read_strict_text ts) (r.read_text the_limit ts)
unfolding r.read_strict_text r.read_text r.read_lines r.read_strict_lines
header_first ts = by_header (r.read_header ts) refl where
  by_header : (o : Outcome FeatureName) → r.read_header ts ≡ o
      → TextAgrees ts (and_then {A = FeatureName × LinesReading} (and_then o (λ a x. and_then (strict_rounds (so_far []) x) (λ b y. Read (a, b) y))) (λ p. r.read_text_end p.0 p.1))
      (and_then (and_then o (λ a x. and_then (and_then (plain_rounds [] x) (λ b y. and_then (read_word k.End y) (λ c z. Read (b, c) z))) (λ b y. Read (a, b) y))) (λ p x. Read (text_of p) x))
  by_header (Stop cause x) e = refl
  by_header (Read root x) e = tail_agrees ts root x e (strict_rounds (so_far []) x) (plain_rounds [] x) (lines_agree (length x) x (omega arith) [] refl)

-- ---- what is read, and where the reading ends

pub verdict : (ts : Tokens) → TextVerdict ts (r.read_strict_text ts)
verdict ts = by_outcome (r.read_strict_text ts) (r.read_text the_limit ts) (header_first ts) (rules.verdict ts) where
  by_refused : (t : ModelText) (refused : Option Span) (x : Tokens) (o : Outcome ModelText) → TextAfter ts t refused x o → Verdict model_text low_text ts o → ReadVerdict ts t refused x
  by_refused t None x o w v = (subst (λ (y : Outcome ModelText). Verdict model_text low_text ts y) w.0 v, w.1)
  by_refused t (Some at) x o w v = w.0

  by_outcome : (o' : Outcome TextReading) (o : Outcome ModelText) → TextAgrees ts o' o → Verdict model_text low_text ts o → TextVerdict ts o'
  by_outcome (Stop cause x) o w v = subst (λ (y : Outcome ModelText). Verdict model_text low_text ts y) w v
  by_outcome (Read got x) o w v = by_refused got.text got.refused x o w v

-- the reading of a whole text
abbrev pub whole : ModelText → TextReading
whole t = record { text = t; refused = None }

-- Each text is read.
pub complete : (ts : Tokens) (t : ModelText) → IsModelText ts t → r.read_strict_text ts ≡ Read (whole t) []
complete ts t x = by_outcome (r.read_strict_text ts) (r.read_text the_limit ts) (header_first ts) (rules.complete ts t x.reads) where
  by_refused : (t' : ModelText) (refused : Option Span) (y : Tokens) (o : Outcome ModelText) → TextAfter ts t' refused y o → o ≡ Read t [] → Read (record { text = t'; refused = refused }) y ≡ Read (whole t) []
  by_refused t' None y o w e =
      let both : Read t' y ≡ Read t [] = sym w.0 ∙ e in
      let same : t' ≡ t = cc in
      let none : y ≡ [] = cc in
      ap (λ u. Read (whole u) y) same ∙ ap (λ z. Read (whole t) z) none
  by_refused t' (Some at) y o w e = let both : true ≡ false = sym x.formulas ∙ w.1 t [] e in cc

  by_outcome : (o' : Outcome TextReading) (o : Outcome ModelText) → TextAgrees ts o' o → o ≡ Read t [] → o' ≡ Read (whole t) []
  by_outcome (Stop cause y) o w e = let both : Stop cause y ≡ Read t [] = sym w ∙ e in cc
  by_outcome (Read got y) o w e = by_refused got.text got.refused y o w e
