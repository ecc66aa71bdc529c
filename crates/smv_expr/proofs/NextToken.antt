-- What a cursor's methods say of its next token.
use Rattle.std.proofs.Common.{◌≡◌, ◌+◌, ◌<◌, Bool, true, false, ◌||◌, List, [], ◌∷◌, take, drop, Option, Some, None, refl, sym, ◌∙◌, ap, subst, rules, cond}
use Rattle.std.specs.Prelude.{option_map, IsSome, IsTrue, ◌↔◌, is_some, not, All}
use Rattle.smv_ast.specs.declared.syntax.Span.{Span}
use Rattle.smv_expr.specs.declared.kind.Kind.{Kind}
use Rattle.smv_expr.specs.declared.kind.Kind.TheVariants as k
use Rattle.smv_expr.specs.declared.lexeme.Lexeme.{Lexeme}
use Rattle.smv_expr.specs.declared.cursor.Cursor.TheInside.{Inside}
use Rattle.smv_expr.specs.CursorView.{tokens_left, IsReady, IsNext}
use Rattle.smv_expr.specs.Lexicon.{Bytes, Token, IsNumeral, same_kind, tokens_from}
use Rattle.smv_expr.specs.Language.{Tokens, begins, begins_name, named, span_of, has, kinds_of, find_kind, of_kind, next_of, kind_of, number_of}
use Rattle.smv_expr.specs.Reading.{read_if, read_leaf, read_one_of, read_digits, read_numeral}
use Rattle.smv_expr.specs.ExprReaders.{read_limited}
use Rattle.smv_expr.specs.Reading.Outcome.{Read, Stop}
use Rattle.smv_expr.specs.Reading.Cause.{UnexpectedToken, Wide}
use Rattle.smv_expr.proofs.Lexemes.{Fits}
use Rattle.smv_expr.proofs.Spellings.{name_ascii, left_out_ascii, numeral_digits}
use Rattle.smv_expr.proofs.Cutting.{token_at, cut_token, first_fits}

-- ---- what the fields say

is_next_by : (text : Bytes) (next next' : Option Lexeme) → IsNext text next → next ≡ next' → IsNext text next'
is_next_by text next next' h e = subst (IsNext text) e h

-- the first token, and the tokens after it
pub first_token : (c : Inside) (l : Lexeme) → IsReady c → c.next ≡ Some l
    → tokens_left c ≡ token_at c.file c.at l c.remaining.now ∷ tokens_from c.file (c.at + l.len) (drop l.len c.remaining.now)
first_token c l ready is = let h = is_next_by c.remaining.now c.next (Some l) ready.1 is in cut_token c.file c.at l c.remaining.now h.0 h.2 h.1

pub no_token : (c : Inside) → IsReady c → c.next ≡ None → tokens_left c ≡ []
no_token c ready is = ap (tokens_from c.file c.at) (is_next_by c.remaining.now c.next None ready.1 is)

pub next_fits : (c : Inside) (l : Lexeme) → IsReady c → c.next ≡ Some l → Fits c.remaining.now l
next_fits c l ready is = let h = is_next_by c.remaining.now c.next (Some l) ready.1 is in first_fits l c.remaining.now h.0 h.2

is_true : (r : Bool) → false ≡ not r → IsTrue r
is_true true e = search rules
is_true false e = cc

is_false : (r : Bool) → true ≡ not r → IsTrue r → ⊥
is_false true e h = cc
is_false false e h = search rules

-- ---- reading one token

pub some_next : (set : List Kind) (ts : Tokens) → begins set ts ≡ true → IsSome (next_of ts)
some_next set [] h = cc
some_next set (t ∷ ts) h = search rules

pub leaf_read : {A : Type 0} (kind : Kind) (f : Token → A) (ts : Tokens) (a : A) → begins (kind ∷ []) ts ≡ true → option_map f (next_of ts) ≡ Some a
    → read_leaf (of_kind kind f) ts ≡ Read a (drop 1 ts)
leaf_read kind f [] a h e = cc
leaf_read kind f (t ∷ ts) a h e = ap (λ found. read_if found (t ∷ ts) ts) (ap (λ v. cond v (Some (f t)) None) h ∙ e)

pub leaf_stop : {A : Type 0} (kind : Kind) (f : Token → A) (ts : Tokens) → begins (kind ∷ []) ts ≡ false → read_leaf (of_kind kind f) ts ≡ Stop UnexpectedToken ts
leaf_stop kind f [] h = refl
leaf_stop kind f (t ∷ ts) h = ap (λ found. read_if found (t ∷ ts) ts) (ap (λ v. cond v (Some (f t)) None) h)

pub named_read : (name : Bytes) (ts : Tokens) (at : Span) → begins_name name ts ≡ true → option_map span_of (next_of ts) ≡ Some at → read_leaf (named name) ts ≡ Read at (drop 1 ts)
named_read name [] at h e = cc
named_read name (t ∷ ts) at h e = ap (λ found. read_if found (t ∷ ts) ts) (ap (λ v. cond v (Some t.at) None) h ∙ e)

pub named_stop : (name : Bytes) (ts : Tokens) → begins_name name ts ≡ false → read_leaf (named name) ts ≡ Stop UnexpectedToken ts
named_stop name [] h = refl
named_stop name (t ∷ ts) h = ap (λ found. read_if found (t ∷ ts) ts) (ap (λ v. cond v (Some t.at) None) h)

pub some_named : (name : Bytes) (ts : Tokens) → begins_name name ts ≡ true → IsSome (next_of ts)
some_named name [] h = cc
some_named name (t ∷ ts) h = search rules

first_or_more : {A : Type 0} (v : Bool) (a : A) (found : Option A) (among : Bool) → is_some found ≡ among → is_some (cond v (Some a) found) ≡ v || among
first_or_more true a found among e = refl
first_or_more false a found among e = e

-- a kind of the table, or of none of its entries
pub find_has : {A : Type 0} (table : List (Kind × A)) (kind : Kind) → is_some (find_kind table kind) ≡ has (kinds_of table) kind
find_has [] kind = refl
find_has (entry ∷ more) kind = first_or_more (same_kind kind entry.0) entry.1 (find_kind more kind) (has (kinds_of more) kind) (find_has more kind)

pub table_read : {A : Type 0} (table : List (Kind × A)) (ts : Tokens) (kind : Kind) (a : A) → option_map kind_of (next_of ts) ≡ Some kind → find_kind table kind ≡ Some a
    → (begins (kinds_of table) ts ≡ true) × (read_one_of table ts ≡ Read a (drop 1 ts))
table_read table [] kind a h e = cc
table_read {A = A} table (t ∷ ts) kind a h e =
    let same : find_kind table t.kind ≡ Some a = let one : t.kind ≡ kind = cc in ap (find_kind table) one ∙ e in
    (sym (find_has table t.kind) ∙ ap (is_some {T = A}) same, ap (λ found. read_if found (t ∷ ts) ts) same)

pub table_other : {A : Type 0} (table : List (Kind × A)) (ts : Tokens) (kind : Kind) → option_map kind_of (next_of ts) ≡ Some kind → find_kind table kind ≡ None
    → begins (kinds_of table) ts ≡ false
table_other table [] kind h e = refl
table_other {A = A} table (t ∷ ts) kind h e =
    let same : find_kind table t.kind ≡ None = let one : t.kind ≡ kind = cc in ap (find_kind table) one ∙ e in
    sym (find_has table t.kind) ∙ ap (is_some {T = A}) same

pub table_stops : {A : Type 0} (table : List (Kind × A)) (ts : Tokens) → begins (kinds_of table) ts ≡ false → read_one_of table ts ≡ Stop UnexpectedToken ts
table_stops table [] h = refl
table_stops {A = A} table (t ∷ ts) h = ap (λ found. read_if found (t ∷ ts) ts) (is_none_found (find_kind table t.kind) (find_has table t.kind ∙ h)) where
  is_none_found : (found : Option A) → is_some found ≡ false → found ≡ None
  is_none_found None e = refl
  is_none_found (Some a) e = cc

-- whether the table has the kind of the next token
pub table_seen : {A : Type 0} (table : List (Kind × A)) (c : Inside) (l : Lexeme) (r : Bool) → IsReady c → c.next ≡ Some l → r ≡ is_some (find_kind table l.kind) → r ≡ begins (kinds_of table) (tokens_left c)
unfolding token_at
table_seen table c l r ready is e = e ∙ find_has table l.kind ∙ sym (ap (begins (kinds_of table)) (first_token c l ready is))

pub pair_read : {A B : Type 0} (f : Token → A) (g : Token → B) (ts : Tokens) (a : A) (b : B) → option_map f (next_of ts) ≡ Some a → option_map g (next_of ts) ≡ Some b
    → option_map {U = A × B} (λ t. (f t, g t)) (next_of ts) ≡ Some (a, b)
pair_read f g [] a b p q = cc
pair_read {A = A} {B = B} f g (t ∷ ts) a b p q = let one : f t ≡ a = cc in let two : g t ≡ b = cc in let P : A → B → Option (A × B) = λ x y. Some (x, y) in ap (λ x. P x (g t)) one ∙ ap (P a) two

pub has_one : (found kind : Kind) → has (kind ∷ []) found ≡ same_kind found kind
has_one found kind = or_false (same_kind found kind) where
  or_false : (b : Bool) → b || false ≡ b
  or_false true = refl
  or_false false = refl

pub first_kind : (c : Inside) (l : Lexeme) (kind : Kind) → IsReady c → c.next ≡ Some l → begins (kind ∷ []) (tokens_left c) ≡ same_kind l.kind kind
unfolding token_at
first_kind c l kind ready is = ap (begins (kind ∷ [])) (first_token c l ready is) ∙ has_one l.kind kind

pub name_is_ascii : (c : Inside) (l : Lexeme) → IsReady c → c.next ≡ Some l → begins (k.Name ∷ []) (tokens_left c) ≡ true → All (λ b. b < 128) (take l.len c.remaining.now)
name_is_ascii c l ready is h = let n = is_next_by c.remaining.now c.next (Some l) ready.1 is in name_ascii l c.remaining.now n.0 n.2 (sym (first_kind c l k.Name ready is) ∙ h)

pub left_out_is_ascii : (c : Inside) (l : Lexeme) → IsReady c → c.next ≡ Some l → begins (k.LeftOut ∷ []) (tokens_left c) ≡ true → All (λ b. b < 128) (take l.len c.remaining.now)
left_out_is_ascii c l ready is h = let n = is_next_by c.remaining.now c.next (Some l) ready.1 is in left_out_ascii l c.remaining.now n.0 n.2 (sym (first_kind c l k.LeftOut ready is) ∙ h)

pub numeral_is_digits : (c : Inside) (l : Lexeme) → IsReady c → c.next ≡ Some l → begins (k.Numeral ∷ []) (tokens_left c) ≡ true → IsNumeral (take l.len c.remaining.now)
numeral_is_digits c l ready is h = let n = is_next_by c.remaining.now c.next (Some l) ready.1 is in numeral_digits l c.remaining.now n.0 n.2 (sym (first_kind c l k.Numeral ready is) ∙ h)

pub ends_where_none : (c : Inside) → IsReady c → (r : Bool) → is_some c.next ≡ not r → IsTrue r ↔ (tokens_left c ≡ [])
ends_where_none c ready r e = by_next c.next refl where
  by_next : (next : Option Lexeme) → c.next ≡ next → IsTrue r ↔ (tokens_left c ≡ [])
  by_next None is = (λ h. no_token c ready is, λ h. let none : false ≡ not r = ap is_some (sym is) ∙ e in is_true r none)
  by_next (Some l) is = (λ h. absurd (let some : true ≡ not r = ap is_some (sym is) ∙ e in is_false r some h), λ h. absurd (let some = sym (first_token c l ready is) ∙ h in cc))

-- a numeral that is not over the limit, or no numeral at all
pub narrow_digits : (ts : Tokens) → begins (k.WideNumeral ∷ []) ts ≡ false → read_limited false ts ≡ read_numeral ts
unfolding read_limited
narrow_digits [] h = refl
narrow_digits (t ∷ ts) h = ap (λ v. cond v (Stop Wide (t ∷ ts)) (read_digits (t ∷ ts))) h ∙ ap (λ v. read_if (cond v (Some (number_of t)) None) (t ∷ ts) ts) (one_kind (same_kind t.kind k.Numeral) _ h)
  where
    one_kind : (v w : Bool) → w ≡ false → v || w ≡ v || false
    one_kind v w e = ap (λ x. v || x) e

pub wide_stops : (ts : Tokens) → begins (k.WideNumeral ∷ []) ts ≡ true → read_limited false ts ≡ Stop Wide ts
unfolding read_limited
wide_stops ts h = ap (λ v. cond v (Stop Wide ts) (read_digits ts)) h
