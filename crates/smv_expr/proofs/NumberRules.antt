-- Numerals and intervals, with and without a `-` before them. Where an interval may begin with a numeral, two tokens
-- tell which it is.
use Rattle.std.specs.Prelude.{if◌then◌else◌}
use Rattle.std.proofs.Common.{◌≡◌, ℕ, Bool, true, false, ◌&&◌, ◌||◌, ℤ, pos, List, [], ◌∷◌, ◌++◌, Option, Some, None, refl, sym, ◌∙◌, ap, subst, arith, inl, inr, cond, append-nil}
use Rattle.smv_ast.specs.declared.syntax.Span.{Span}
use Rattle.smv_ast.specs.declared.syntax.Expr.{Expr}
use Rattle.smv_ast.specs.declared.syntax.Expr.TheVariants as e
use Rattle.smv_expr.specs.declared.kind.Kind.{Kind}
use Rattle.smv_expr.specs.declared.kind.Kind.TheVariants as k
use Rattle.smv_expr.specs.Lexicon.{Token, same_kind}
use Rattle.smv_expr.specs.Language.{Tokens, word, either, mapped, begins, has, next_of, followed_by, number_kinds, numeral_kinds, digits, number_of, of_kinds}
use Rattle.smv_expr.specs.Reading.{Cause, Alike, Outcome, Reader, and_then, read_both, read_mapped, read_opt, read_deep}
use Rattle.smv_expr.specs.Reading.Outcome.{Read, Stop}
use Rattle.smv_expr.specs.Reading.Cause.{UnexpectedToken, Wide, Deep}
use Rattle.smv_expr.specs.Answer.{openers}
use Rattle.smv_expr.specs.ExprGrammar.{number_expr}
use Rattle.smv_expr.specs.ExprGrammar as g
use Rattle.smv_expr.specs.ExprReaders.{first_expr, first_signed, interval_of, read_limited, read_last, read_up_to, read_interval_expr, read_single, read_number, read_too_deep}
use Rattle.smv_expr.proofs.Nesting.{IsUnder, Begins, at_limit, deepest}
use Rattle.smv_expr.proofs.Rules.{Rule, Good, IsLang, Halts, Covers, Starts, begins-append, begins-next, alike_next, either_lang}
use Rattle.smv_expr.proofs.Words.{always, map, is_barred, has_number, starts_word, starts_leaf, starts_dep, starts_mapped, kinds_have, some_token, within_itself}
use Rattle.smv_expr.proofs.Sets.{within, begins_apart, begins_none, begins_within}

pub starts_up_to : (any : Bool) → Starts (k.DotDot ∷ []) (λ m. g.up_to any)
unfolding same_kind
starts_up_to any = starts_mapped _ (starts_dep _ (starts_word k.DotDot _ refl))

abbrev pub follow_number : List Kind
follow_number = k.DotDot ∷ []

-- ---- a number is an interval where `..` is after its first token

-- the number as the grammar has it, which looks at one token
abbrev plain_number : Bool → Reader Expr
plain_number any = read_mapped (λ p. g.number_or_interval p.0.0 p.1) (read_both (read_limited any) (read_opt (k.DotDot ∷ []) (read_up_to any true)))

either_way : {A : Type 0} (v : Bool) (x : A) → x ≡ cond v x x
either_way true x = refl
either_way false x = refl

upper_end : (n : ℕ × Span) (o : Outcome ℤ)
    → and_then {A = (ℕ × Span) × Option ℤ} (and_then {B = (ℕ × Span) × Option ℤ} (and_then {B = Option ℤ} o (λ a remaining. Read (Some a) remaining)) (λ a remaining. Read (n, a) remaining)) (λ p remaining. Read (g.number_or_interval p.0.0 p.1) remaining)
    ≡ and_then {A = (ℕ × Span) × ℤ} (and_then {B = (ℕ × Span) × ℤ} o (λ a remaining. Read (n, a) remaining)) (λ p remaining. Read (interval_of p) remaining)
upper_end n (Read a remaining) = refl
upper_end n (Stop cause remaining) = refl

by_upper : (any : Bool) (n : ℕ × Span) (v : Bool) (ts : Tokens)
    → and_then {A = (ℕ × Span) × Option ℤ} (and_then {B = (ℕ × Span) × Option ℤ} (cond v (and_then {B = Option ℤ} (read_up_to any true ts) (λ a remaining. Read (Some a) remaining)) (Read None ts)) (λ a remaining. Read (n, a) remaining)) (λ p remaining. Read (g.number_or_interval p.0.0 p.1) remaining)
    ≡ cond v (and_then {A = (ℕ × Span) × ℤ} (and_then {B = (ℕ × Span) × ℤ} (read_up_to any true ts) (λ a remaining. Read (n, a) remaining)) (λ p remaining. Read (interval_of p) remaining)) (Read (number_expr n) ts)
by_upper any n true ts = upper_end n (read_up_to any true ts)
by_upper any n false ts = refl

pub number_is : (any : Bool) (ts : Tokens) → plain_number any ts ≡ read_number any true ts
unfolding read_number read_interval_expr read_single read_last read_limited
number_is true [] = refl
number_is false [] = refl
number_is true (t ∷ ts) = by_first (of_kinds number_kinds number_of t) refl where
  by_first : (found : Option (ℕ × Span)) → of_kinds number_kinds number_of t ≡ found → plain_number true (t ∷ ts) ≡ read_number true true (t ∷ ts)
  by_first None h = rw h (either_way (begins (k.DotDot ∷ []) ts) (Stop UnexpectedToken (t ∷ ts)))
  by_first (Some n) h = rw h (by_upper true n (begins (k.DotDot ∷ []) ts) ts)
number_is false (t ∷ ts) = by_wide (has (k.WideNumeral ∷ []) t.kind) refl where
  by_first : (found : Option (ℕ × Span)) → of_kinds number_kinds number_of t ≡ found → has (k.WideNumeral ∷ []) t.kind ≡ false → plain_number false (t ∷ ts) ≡ read_number false true (t ∷ ts)
  by_first None h w = rw (h, w) (either_way (begins (k.DotDot ∷ []) ts) (Stop UnexpectedToken (t ∷ ts)))
  by_first (Some n) h w = rw (h, w) (by_upper false n (begins (k.DotDot ∷ []) ts) ts)

  by_wide : (v : Bool) → has (k.WideNumeral ∷ []) t.kind ≡ v → plain_number false (t ∷ ts) ≡ read_number false true (t ∷ ts)
  by_wide true w = rw w (either_way (begins (k.DotDot ∷ []) ts) (Stop Wide (t ∷ ts)))
  by_wide false w = by_first (of_kinds number_kinds number_of t) refl w

-- ---- after a `-`: an interval, or what negates

-- a numeral with `..` after it
abbrev pub begins_interval : Tokens → Bool
begins_interval ts = begins number_kinds ts && followed_by k.DotDot ts

-- one numeral, or something that begins with none
pub data IsNegatable : Tokens → Type 0 where
  one : (t : Token) → IsNegatable (t ∷ [])
  other : (f : Tokens) → begins first_signed f ≡ true → IsNegatable f

both_true : (v w : Bool) → v ≡ true → w ≡ true → v && w ≡ true
both_true true true e f = refl
both_true true false e f = cc
both_true false w e f = cc

first_false : (v w : Bool) → v ≡ false → v && w ≡ false
first_false true w e = cc
first_false false w e = refl

second_false : (v w : Bool) → w ≡ false → v && w ≡ false
second_false true w e = e
second_false false w e = refl

has_of_word : (kind : Kind) (f : Tokens) (at : Span) → word kind at f → begins (kind ∷ []) f ≡ true
has_of_word kind f at h = (starts_word kind (kind ∷ []) (within_itself kind)).at 0 at f h

-- what follows the first token of a list that begins with `..`
suffix_first : (t : Token) (x y : Tokens) → begins (k.DotDot ∷ []) x ≡ true → followed_by k.DotDot (t ∷ (x ++ y)) ≡ true
suffix_first t x y h = begins-append (k.DotDot ∷ []) x y h

interval_begins : (any : Bool) (a : Expr) (f r : Tokens) → g.negative_interval any a f → begins_interval (f ++ r) ≡ true
unfolding same_kind
interval_begins any a f r h =
    let parts = h.1 in
    let numeral = parts.first in
    let dots : begins (k.DotDot ∷ []) parts.suffix ≡ true = (starts_up_to any).at 0 h.0.1 parts.suffix parts.second in
    let shape : f ++ r ≡ numeral.0 ∷ (parts.suffix ++ r) = ap (λ x. x ++ r) (parts.split ∙ ap (λ x. x ++ parts.suffix) numeral.1) in
    let kinds : has number_kinds numeral.0.kind ≡ true = has_number any numeral.0 (kinds_have (numeral_kinds any) number_of numeral.0 h.0.0 numeral.2) in
    rw shape (both_true _ _ kinds (suffix_first numeral.0 parts.suffix r dots))

negatable_begins_none : (f r : Tokens) → IsNegatable f → begins (k.DotDot ∷ []) r ≡ false → begins_interval (f ++ r) ≡ false
unfolding same_kind
negatable_begins_none f r (one t) z = second_false _ _ z
negatable_begins_none f r (other x h) z = first_false _ _ (begins_apart first_signed number_kinds refl (x ++ r) (begins-append first_signed x r h))

-- the test looks at two tokens
same_begins : (prefix remaining y : Tokens) → next_of y ≡ next_of remaining → (prefix ≡ [] → begins_interval y ≡ begins_interval remaining) → begins_interval (prefix ++ y) ≡ begins_interval (prefix ++ remaining)
same_begins [] remaining y n h = h refl
same_begins (t ∷ []) remaining y n h = ap (λ v. begins number_kinds (t ∷ []) && v) (begins-next (k.DotDot ∷ []) y remaining n)
same_begins (t ∷ t' ∷ prefix) remaining y n h = refl

alike_begins : (y remaining : Tokens) → Alike Deep y remaining → begins_interval y ≡ begins_interval remaining
alike_begins y remaining a = ap (λ v. v && followed_by k.DotDot y) (begins-next number_kinds y remaining a.0) ∙ ap (λ v. begins number_kinds remaining && v) a.1

pub of_kinds_has : {A : Type 0} (kinds : List Kind) (f : Token → A) (t : Token) → has kinds t.kind ≡ true → of_kinds kinds f t ≡ Some (f t)
of_kinds_has kinds f t h = ap (λ v. cond v (Some (f t)) None) h

left_true : (v w : Bool) → v && w ≡ true → v ≡ true
left_true true w e = refl
left_true false w e = cc

right_true : (v w : Bool) → v && w ≡ true → w ≡ true
right_true true w e = e
right_true false w e = cc

-- a numeral within the limit is one that each text may have
pub numeral_stands : (any : Bool) → has (numeral_kinds any) k.Numeral ≡ true
unfolding same_kind
numeral_stands true = refl
numeral_stands false = refl

-- some interval that begins with the same token
record SomeInterval (any : Bool) (ts : Tokens) : Type 0 where
  text : Tokens
  next : next_of text ≡ next_of ts
  value : Expr
  reads : g.negative_interval any value text

-- a numeral that is not barred is one that a text may have
pub may_stand : (any : Bool) (t : Token) (ts : Tokens) → has number_kinds t.kind ≡ true → is_barred any (t ∷ ts) ≡ false → has (numeral_kinds any) t.kind ≡ true
may_stand true t ts h b = h
may_stand false t ts h b = small (same_kind t.kind k.Numeral) (same_kind t.kind k.WideNumeral) h b where
  small : (v w : Bool) → v || (w || false) ≡ true → w || false ≡ false → v || false ≡ true
  small true w h b = refl
  small false true h b = cc
  small false false h b = cc

some_interval : (any : Bool) (ts : Tokens) → begins_interval ts ≡ true → is_barred any ts ≡ false → SomeInterval any ts
some_interval any [] h b = cc
some_interval any (t ∷ []) h b = let none = right_true (has number_kinds t.kind) false h in cc
some_interval any (t ∷ d ∷ more) h b = record {
  text = t ∷ d ∷ some_token k.Numeral ∷ [];
  next = refl;
  value = g.negative_interval_of (number_of t, pos 0);
  reads = (
    (number_of t, pos 0),
    record {
      prefix = t ∷ [];
      suffix = d ∷ some_token k.Numeral ∷ [];
      split = refl;
      first = (t, refl, of_kinds_has (numeral_kinds any) number_of t (may_stand any t (d ∷ more) (left_true _ _ h) b));
      second = (
        (d.at, pos 0),
        record {
          prefix = d ∷ [];
          suffix = some_token k.Numeral ∷ [];
          split = refl;
          first = (d, refl, of_kinds_has (k.DotDot ∷ []) (λ x. x.at) d (right_true (has number_kinds t.kind) _ h));
          second = inr (number_of (some_token k.Numeral), (some_token k.Numeral, refl, of_kinds_has (numeral_kinds any) number_of (some_token k.Numeral) (numeral_stands any)), refl);
        },
        refl,
      );
    },
    refl,
  );
}

negatable_some : (f : Tokens) → f ≡ [] → IsNegatable f → ⊥
unfolding same_kind
negatable_some f e (one t) = cc
negatable_some f e (other x h) = let none : begins first_signed [] ≡ true = subst (λ (y : Tokens). begins first_signed y ≡ true) e h in cc

-- what an expression begins with, a numeral over the limit left out
abbrev pub small_first : List Kind
small_first = k.Not ∷ k.Numeral ∷ first_signed

-- what begins with no numeral over the limit, where none may stand
abbrev pub IsSmall : Bool → Tokens → Type 0
IsSmall true f = Unit {0}
IsSmall false f = begins small_first f ≡ true

barred_apart : (any : Bool) (ts y f r : Tokens) → f ++ r ≡ y → next_of y ≡ next_of ts → IsSmall any f → is_barred any ts ≡ true → ⊥
unfolding same_kind
barred_apart true ts y f r e n s bar = cc
barred_apart false ts y f r e n s bar =
    let none : begins (k.WideNumeral ∷ []) (f ++ r) ≡ false = begins_apart small_first (k.WideNumeral ∷ []) refl (f ++ r) (begins-append small_first f r s) in
    let some : begins (k.WideNumeral ∷ []) (f ++ r) ≡ true = ap (begins (k.WideNumeral ∷ [])) e ∙ begins-next (k.WideNumeral ∷ []) y ts n ∙ bar in cc

or_first : (any : Bool) (f : Tokens) → begins (numeral_kinds any) f ≡ true → IsSmall any f
unfolding same_kind
or_first true f s = tt
or_first false f s = begins_within (k.Numeral ∷ []) small_first refl f s

pub starts_small : (any : Bool) → Starts (numeral_kinds any) (λ m. digits any)
starts_small any = starts_leaf (numeral_kinds any) (λ t a e. kinds_have (numeral_kinds any) number_of t a e)

both_ways : {A : Type 0} (v : Bool) (x y z : A) → x ≡ z → y ≡ z → cond v x y ≡ z
both_ways true x y z e f = e
both_ways false x y z e f = f

module _ {limit : ℕ} (any : Bool) {U : ℕ → Expr → Tokens → Type 0} {u : Reader Expr} (follow : List Kind) (dots : (r : Tokens) → begins follow r ≡ false → begins (k.DotDot ∷ []) r ≡ false) (iu : Rule limit U (always follow) u)
    (shape : (m : ℕ) (a : Expr) (f : Tokens) → U m a f → IsNegatable f) (single : (t : Token) → has (numeral_kinds any) t.kind ≡ true → (m : ℕ) × (a : Expr) × U m a (t ∷ []))
    (small : (m : ℕ) (a : Expr) (f : Tokens) → U m a f → IsSmall any f) where
  abbrev Negated : ℕ → Expr → Tokens → Type 0
  Negated m = either (g.negative_interval any) (mapped e.Neg (U m))

  -- no text of the one begins as one of the other does
  apart : (m : ℕ) (b a : Expr) (f r x y : Tokens) → f ++ r ≡ x → begins_interval x ≡ true → mapped e.Neg (U m) b f → begins follow r ≡ false → ⊥
  apart m b a f r x y e t h z = let none = negatable_begins_none f r (shape m h.0 f h.1) (dots r z) in let some : begins_interval (f ++ r) ≡ true = ap begins_interval e ∙ t in cc

  interval_stops : (cause : Cause) (ts remaining y : Tokens) → (w : Halts limit (λ m. g.negative_interval any) (always []) cause ts remaining) → begins_interval ts ≡ true → is_barred any ts ≡ false → Alike cause y remaining → begins_interval (w.prefix ++ y) ≡ true
  interval_stops cause ts remaining y w t b n = same_begins w.prefix remaining y (alike_next cause y remaining n) (at_first cause w n) ∙ ap begins_interval (sym w.split) ∙ t where
    met : (cause : Cause) (w : Halts limit (λ m. g.negative_interval any) (always []) cause ts remaining) → ((m : ℕ) → Covers limit cause remaining m) → ((x : Tokens) → next_of x ≡ next_of remaining → Alike cause x remaining) → w.prefix ≡ [] → ⊥
    met cause w covers alike none =
        let same : ts ≡ remaining = w.split ∙ ap (λ x. x ++ remaining) none in
        let i = some_interval any ts t b in
        w.dead 0 i.text i.text [] i.value (covers 0) (alike i.text (i.next ∙ ap next_of same)) (append-nil i.text ∙ ap (λ x. x ++ i.text) (sym none)) i.reads refl

    at_first : (cause : Cause) (w : Halts limit (λ m. g.negative_interval any) (always []) cause ts remaining) → Alike cause y remaining → w.prefix ≡ [] → begins_interval y ≡ begins_interval remaining
    at_first UnexpectedToken w n none = absurd (met UnexpectedToken w (λ m. tt) (λ x e. e) none)
    at_first Wide w n none = absurd (met Wide w (λ m. tt) (λ x e. e) none)
    at_first Deep w n none = alike_begins y remaining n

  take_interval : (ts : Tokens) (o : Outcome Expr) → begins_interval ts ≡ true → is_barred any ts ≡ false → Good limit (λ m. g.negative_interval any) (always []) ts o → Good limit Negated (always follow) ts o
  take_interval ts (Read a remaining) t bar w = record { prefix = w.prefix; split = w.split; reads = inl w.reads; only = only } where
    only : (m : ℕ) (y f r : Tokens) (b : Expr) → next_of y ≡ next_of remaining → f ++ r ≡ w.prefix ++ y → Negated m b f → begins follow r ≡ false → (b ≡ a) × (f ≡ w.prefix) × (r ≡ y)
    only m y f r b n e (inl h) z = w.only m y f r b n e h (begins_none r)
    only m y f r b n e (inr h) z = absurd (apart m b a f r (w.prefix ++ y) y e (interval_begins any a w.prefix y w.reads) h z)
  take_interval ts (Stop cause remaining) t bar w = record { prefix = w.prefix; split = w.split; depth = w.depth; value = w.value; more = w.more; viable = inl w.viable; begun = w.begun; near = w.near; dead = dead } where
    dead : (m : ℕ) (y f r : Tokens) (b : Expr) → Covers limit cause remaining m → Alike cause y remaining → f ++ r ≡ w.prefix ++ y → Negated m b f → begins follow r ≡ false → ⊥
    dead m y f r b u n e (inl h) z = w.dead m y f r b u n e h (begins_none r)
    dead m y f r b u n e (inr h) z = apart m b b f r (w.prefix ++ y) y e (interval_stops cause ts remaining y w t bar n) h z

  negated_stops : (cause : Cause) (ts remaining y : Tokens) → (w : Halts limit (λ m. mapped e.Neg (U m)) (always follow) cause ts remaining) → begins_interval ts ≡ false → is_barred any ts ≡ false → Alike cause y remaining → begins_interval (w.prefix ++ y) ≡ false
  negated_stops cause ts remaining y w t b n = same_begins w.prefix remaining y (alike_next cause y remaining n) (at_first cause w n) ∙ ap begins_interval (sym w.split) ∙ t where
    met : (cause : Cause) (w : Halts limit (λ m. mapped e.Neg (U m)) (always follow) cause ts remaining) → ((m : ℕ) → Covers limit cause remaining m) → ((x : Tokens) → next_of x ≡ next_of remaining → Alike cause x remaining) → w.prefix ≡ [] → (x : Tokens) → x ≡ remaining → begins number_kinds x ≡ true → ⊥
    met cause w covers alike none [] same h = cc
    met cause w covers alike none (x ∷ more) same h =
        let bar : is_barred any (x ∷ more) ≡ false = ap (is_barred any) (same ∙ sym (w.split ∙ ap (λ z. z ++ remaining) none)) ∙ b in
        let one = single x (may_stand any x more h bar) in
        w.dead one.0 (x ∷ []) (x ∷ []) [] (e.Neg one.1) (covers one.0) (alike (x ∷ []) (ap next_of same)) (ap (λ z. z ++ x ∷ []) (sym none)) (one.1, one.2, refl) refl

    by_number : (cause : Cause) (w : Halts limit (λ m. mapped e.Neg (U m)) (always follow) cause ts remaining) → ((m : ℕ) → Covers limit cause remaining m) → ((x : Tokens) → next_of x ≡ next_of remaining → Alike cause x remaining) → next_of y ≡ next_of remaining → w.prefix ≡ [] → (v : Bool) → begins number_kinds remaining ≡ v → begins_interval y ≡ begins_interval remaining
    by_number cause w covers alike n none true e = absurd (met cause w covers alike none remaining refl e)
    by_number cause w covers alike n none false e = first_false _ _ (begins-next number_kinds y remaining n ∙ e) ∙ sym (first_false _ _ e)

    at_first : (cause : Cause) (w : Halts limit (λ m. mapped e.Neg (U m)) (always follow) cause ts remaining) → Alike cause y remaining → w.prefix ≡ [] → begins_interval y ≡ begins_interval remaining
    at_first UnexpectedToken w n none = by_number UnexpectedToken w (λ m. tt) (λ x e. e) n none (begins number_kinds remaining) refl
    at_first Wide w n none = by_number Wide w (λ m. tt) (λ x e. e) n none (begins number_kinds remaining) refl
    at_first Deep w n none = alike_begins y remaining n

  no_interval : (b : Expr) (f r x : Tokens) → f ++ r ≡ x → begins_interval x ≡ false → g.negative_interval any b f → ⊥
  no_interval b f r x e t h = let some = interval_begins any b f r h in let none : begins_interval (f ++ r) ≡ false = ap begins_interval e ∙ t in cc

  take_negated : (ts : Tokens) (o : Outcome Expr) → begins_interval ts ≡ false → is_barred any ts ≡ false → Good limit (λ m. mapped e.Neg (U m)) (always follow) ts o → Good limit Negated (always follow) ts o
  take_negated ts (Read a remaining) t bar w = record { prefix = w.prefix; split = w.split; reads = inr w.reads; only = only } where
    here : (y : Tokens) → next_of y ≡ next_of remaining → begins_interval (w.prefix ++ y) ≡ false
    here y n = same_begins w.prefix remaining y n (λ none. absurd (negatable_some w.prefix none (shape limit w.reads.0 w.prefix w.reads.1))) ∙ ap begins_interval (sym w.split) ∙ t

    only : (m : ℕ) (y f r : Tokens) (b : Expr) → next_of y ≡ next_of remaining → f ++ r ≡ w.prefix ++ y → Negated m b f → begins follow r ≡ false → (b ≡ a) × (f ≡ w.prefix) × (r ≡ y)
    only m y f r b n e (inl h) z = absurd (no_interval b f r (w.prefix ++ y) e (here y n) h)
    only m y f r b n e (inr h) z = w.only m y f r b n e h z
  take_negated ts (Stop cause remaining) t bar w = record { prefix = w.prefix; split = w.split; depth = w.depth; value = w.value; more = w.more; viable = inr w.viable; begun = w.begun; near = w.near; dead = dead } where
    dead : (m : ℕ) (y f r : Tokens) (b : Expr) → Covers limit cause remaining m → Alike cause y remaining → f ++ r ≡ w.prefix ++ y → Negated m b f → begins follow r ≡ false → ⊥
    dead m y f r b u n e (inl h) z = no_interval b f r (w.prefix ++ y) e (negated_stops cause ts remaining y w t bar n) h
    dead m y f r b u n e (inr h) z = w.dead m y f r b u n e h z

  by_test_of : (ts : Tokens) (v : Bool) (o o' : Outcome Expr) → begins_interval ts ≡ v → is_barred any ts ≡ false → Good limit (λ m. g.negative_interval any) (always []) ts o → Good limit (λ m. mapped e.Neg (U m)) (always follow) ts o' → Good limit Negated (always follow) ts (cond v o o')
  by_test_of ts true o o' e bar w w' = take_interval ts o e bar w
  by_test_of ts false o o' e bar w w' = take_negated ts o' e bar w'

  -- a numeral over the limit where none may stand
  bar_dead : (ts : Tokens) → is_barred any ts ≡ true → (m : ℕ) (y f r : Tokens) (b : Expr) → next_of y ≡ next_of ts → f ++ r ≡ y → Negated m b f → ⊥
  bar_dead ts bar m y f r b n q (inl h) =
      let s : begins (numeral_kinds any) f ≡ true = (starts_mapped g.negative_interval_of (starts_dep (λ m a. g.up_to any) (starts_small any))).at m b f h in
      barred_apart any ts y f r q n (or_first any f s) bar
  bar_dead ts bar m y f r b n q (inr h) = barred_apart any ts y f r q n (small m h.0 f h.1) bar

  barred : (ts : Tokens) (v : Bool) (o o' : Outcome Expr) → is_barred any ts ≡ true → o ≡ Stop Wide ts → o' ≡ Stop Wide ts → Good limit Negated (always follow) ts (cond v o o')
  barred ts v o o' bar x x' = subst (λ (z : Outcome Expr). Good limit Negated (always follow) ts z) (sym (both_ways v o o' (Stop Wide ts) x x')) (record {
    prefix = [];
    split = refl;
    depth = iu.lang.depth;
    value = e.Neg iu.lang.value;
    more = iu.lang.text;
    viable = inr (iu.lang.value, iu.lang.reads, refl);
    begun = tt;
    near = omega (arith, iu.lang.shallow);
    dead = λ m y f r b u n q h z. bar_dead ts bar m y f r b n q h;
  })

  by_barred : (ts : Tokens) (v b : Bool) (o o' : Outcome Expr) → begins_interval ts ≡ v → is_barred any ts ≡ b → (b ≡ true → o ≡ Stop Wide ts) → (b ≡ true → o' ≡ Stop Wide ts)
      → Good limit (λ m. g.negative_interval any) (always []) ts o → Good limit (λ m. mapped e.Neg (U m)) (always follow) ts o' → Good limit Negated (always follow) ts (cond v o o')
  by_barred ts v true o o' q bar x x' w w' = barred ts v o o' bar (x refl) (x' refl)
  by_barred ts v false o o' q bar x x' w w' = by_test_of ts v o o' q bar w w'

  -- an interval where one begins, and else what negates
  pub negated_rule : {p : Reader Expr} → ((ts : Tokens) → is_barred any ts ≡ true → p ts ≡ Stop Wide ts) → ((ts : Tokens) → is_barred any ts ≡ true → u ts ≡ Stop Wide ts)
      → Rule limit (λ m. g.negative_interval any) (always []) p → Rule limit Negated (always follow) (λ ts. if begins_interval ts then p ts else read_mapped e.Neg u ts)
  negated_rule {p = p} bp bu ip = let negated = map e.Neg iu in record {
    lang = either_lang limit (λ m. g.negative_interval any) (λ m. mapped e.Neg (U m)) ip.lang negated.lang;
    good = λ ts. by_barred ts (begins_interval ts) (is_barred any ts) (p ts) (read_mapped e.Neg u ts) refl refl (bp ts) (λ bar. ap (λ (o : Outcome Expr). and_then o (λ a remaining. Read (e.Neg a) remaining)) (bu ts bar)) (ip.good ts) (negated.good ts);
  }

-- the rule where no construct may be opened
pub at_depth_limit : {A : Type 0} {F E : ℕ → A → Tokens → Type 0} (any : Bool) (first : List Kind) (g : A → List Kind) → within first first_expr ≡ true → IsUnder F E → IsLang E → Starts first E
    → ((a : A) (f : Tokens) → F 0 a f → begins openers f ≡ false) → ((m : ℕ) (a : A) (f : Tokens) → E m a f → IsSmall any f) → ((ts : Tokens) → begins first ts ≡ true → is_barred any ts ≡ false → Begins E ts) → Rule 0 E g (read_too_deep any first)
unfolding read_too_deep
at_depth_limit true first g inside under l starts lone small texts = at_limit first g inside under l starts lone (λ ts b. texts ts b refl)
at_depth_limit {A = A} {E = E} false first g inside under l starts lone small texts = record { lang = l; good = λ ts. by_wide ts (begins (k.WideNumeral ∷ []) ts) refl } where
  by_wide : (ts : Tokens) (v : Bool) → begins (k.WideNumeral ∷ []) ts ≡ v → Good 0 E g ts (cond v (Stop Wide ts) (read_deep first ts))
  by_wide ts true h = record {
    prefix = [];
    split = refl;
    depth = l.depth;
    value = l.value;
    more = l.text;
    viable = l.reads;
    begun = tt;
    near = omega (arith, l.shallow);
    dead = λ m y f r b u n e t z. barred_apart false ts y f r e n (small m b f t) h;
  }
  by_wide ts false h = deepest under l first inside starts lone g ts (λ b. texts ts b h)
