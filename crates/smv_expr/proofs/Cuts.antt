-- Texts that are cut into tokens which stand for a value, whatever comes after them.
use Rattle.std.proofs.Common.{◌≡◌, ℕ, zero, suc, ◌+◌, ◌≤◌, Bool, true, false, ◌&&◌, List, [], ◌∷◌, ◌++◌, map, Option, Some, refl, sym, ◌∙◌, ap, subst, append_assoc, arith}
use Rattle.std.specs.Prelude.{not}
use Rattle.smv_ast.specs.declared.syntax.Span.{Span}
use Rattle.smv_expr.specs.declared.kind.Kind.{Kind}
use Rattle.smv_expr.specs.declared.kind.Kind.TheVariants as k
use Rattle.smv_expr.specs.Lexicon.{Bytes, Token, same_kind, tokens_from}
use Rattle.smv_expr.specs.RoundTrip.{all_are}
use Rattle.smv_expr.proofs.Booleans.{both_left, both_right}
use Rattle.smv_expr.specs.Language.{Tokens, leaf, both, many, mapped}

-- no token is a numeral over the limit
abbrev pub is_narrow : Tokens → Bool
is_narrow [] = true
is_narrow (t ∷ ts) = not (same_kind t.kind k.WideNumeral) && is_narrow ts

by_first : (first before after : Bool) → (before ≡ true → after ≡ true) → first && before ≡ true → first && after ≡ true
by_first true before after f e = f e
by_first false before after f e = cc

narrow_append : (prefix suffix : Tokens) → is_narrow prefix ≡ true → is_narrow suffix ≡ true → is_narrow (prefix ++ suffix) ≡ true
narrow_append [] suffix h h' = h'
narrow_append (t ∷ prefix) suffix h h' = by_first (not (same_kind t.kind k.WideNumeral)) _ _ (λ e. narrow_append prefix suffix e h') h

-- The tokens of the text, before those of what comes after it, stand for a value that keeps P.
pub record Cut {A : Type 0} (L : A → Tokens → Type 0) (P : A → Type 0) (file start : ℕ) (text remaining : Bytes) : Type 0 where
  pub prefix : Tokens
  pub after_it : ℕ
  pub value : A
  pub split : tokens_from file start (text ++ remaining) ≡ prefix ++ tokens_from file after_it remaining
  pub reads : L value prefix
  pub keeps : P value
  pub narrow : is_narrow prefix ≡ true

-- so it is wherever the text stands, with anything after it that passes the test
pub record Spells {A : Type 0} (L : ℕ → A → Tokens → Type 0) (P : A → Type 0) (ends : Bytes → Bool) (text : Bytes) : Type 0 where
  pub depth : ℕ
  pub at : (m : ℕ) → depth ≤ m → (file start : ℕ) (remaining : Bytes) → ends remaining ≡ true → Cut (L m) P file start text remaining

-- ---- texts out of texts

cut_both : {A B : Type 0} {L : A → Tokens → Type 0} {M : B → Tokens → Type 0} {P : A → Type 0} {Q : B → Type 0} {file start : ℕ} {text text' remaining : Bytes}
    (x : Cut L P file start text (text' ++ remaining)) → Cut M Q file x.after_it text' remaining → Cut (both L M) (λ v. P v.0 × Q v.1) file start (text ++ text') remaining
cut_both {file = file} {start = start} {text = text} {text' = text'} {remaining = remaining} x y = record {
  prefix = x.prefix ++ y.prefix;
  after_it = y.after_it;
  value = (x.value, y.value);
  split = ap (tokens_from file start) (append_assoc text text' remaining) ∙ x.split ∙ ap (λ ts. x.prefix ++ ts) y.split ∙ sym (append_assoc x.prefix y.prefix (tokens_from file y.after_it remaining));
  reads = record { prefix = x.prefix; suffix = y.prefix; split = refl; first = x.reads; second = y.reads };
  keeps = (x.keeps, y.keeps);
  narrow = narrow_append x.prefix y.prefix x.narrow y.narrow;
}

-- the one, and then the other
pub then : {A B : Type 0} {L : ℕ → A → Tokens → Type 0} {M : ℕ → B → Tokens → Type 0} {P : A → Type 0} {Q : B → Type 0} {ends ends' : Bytes → Bool} {text text' : Bytes}
    → Spells L P ends text → Spells M Q ends' text' → ((remaining : Bytes) → ends' remaining ≡ true → ends (text' ++ remaining) ≡ true)
    → Spells (λ m. both (L m) (M m)) (λ v. P v.0 × Q v.1) ends' (text ++ text')
then {text' = text'} x y meets = record {
  depth = x.depth + y.depth;
  at = λ m h file start remaining e.
      let c = x.at m (omega (arith, h)) file start (text' ++ remaining) (meets remaining e) in
      cut_both c (y.at m (omega (arith, h)) file c.after_it remaining e);
}

-- what stands for a value in the one language stands for f of it in the other
pub spelled_as : {A B : Type 0} {L : ℕ → A → Tokens → Type 0} {M : ℕ → B → Tokens → Type 0} {P : A → Type 0} {Q : B → Type 0} {ends : Bytes → Bool} {text : Bytes} (f : A → B)
    → ((m : ℕ) (a : A) (ts : Tokens) → L m a ts → M m (f a) ts) → ((a : A) → P a → Q (f a)) → Spells L P ends text → Spells M Q ends text
spelled_as f reads keeps x = record {
  depth = x.depth;
  at = λ m h file start remaining e. let c = x.at m h file start remaining e in record {
    prefix = c.prefix;
    after_it = c.after_it;
    value = f c.value;
    split = c.split;
    reads = reads m c.value c.prefix c.reads;
    keeps = keeps c.value c.keeps;
    narrow = c.narrow;
  };
}

-- where less may come after it
pub weakened : {A : Type 0} {L : ℕ → A → Tokens → Type 0} {P : A → Type 0} {ends : Bytes → Bool} {text : Bytes} (ends' : Bytes → Bool)
    → ((remaining : Bytes) → ends' remaining ≡ true → ends remaining ≡ true) → Spells L P ends text → Spells L P ends' text
weakened ends' less x = record { depth = x.depth; at = λ m h file start remaining e. x.at m h file start remaining (less remaining e) }

-- the same text, written otherwise
pub retext : {A : Type 0} {L : ℕ → A → Tokens → Type 0} {P : A → Type 0} {ends : Bytes → Bool} {text text' : Bytes} → text ≡ text' → Spells L P ends text → Spells L P ends text'
retext {L = L} {P = P} {ends = ends} same x = subst (λ (t : Bytes). Spells L P ends t) same x

-- a language that nests in another one
pub nested : {A : Type 0} {L M : ℕ → A → Tokens → Type 0} {P : A → Type 0} {ends : Bytes → Bool} {text : Bytes} → ((m : ℕ) (a : A) (ts : Tokens) → L m a ts → M (suc m) a ts) → Spells L P ends text → Spells M P ends text
nested {M = M} {P = P} {ends = ends} {text = text} inside x = record { depth = suc x.depth; at = go } where
  go : (m : ℕ) → suc x.depth ≤ m → (file start : ℕ) (remaining : Bytes) → ends remaining ≡ true → Cut (M m) P file start text remaining
  go zero h file start remaining e = absurd (omega (arith, h))
  go (suc m) h file start remaining e = let c = x.at m (omega (arith, h)) file start remaining e in record {
    prefix = c.prefix;
    after_it = c.after_it;
    value = c.value;
    split = c.split;
    reads = inside m c.value c.prefix c.reads;
    keeps = c.keeps;
    narrow = c.narrow;
  }

-- mapped by f
pub spelled_mapped : {A B : Type 0} {L : ℕ → A → Tokens → Type 0} {P : A → Type 0} {Q : B → Type 0} {ends : Bytes → Bool} {text : Bytes} (f : A → B) → ((a : A) → P a → Q (f a))
    → Spells L P ends text → Spells (λ m. mapped f (L m)) Q ends text
spelled_mapped f keeps x = spelled_as f (λ m a ts h. (a, h, refl)) keeps x

-- ---- one token

-- the text is one token, wherever it stands
pub record OneToken (kind : Kind) (spelling : Bytes) (file start : ℕ) (text remaining : Bytes) : Type 0 where
  pub span : Span
  pub after_it : ℕ
  pub is : tokens_from file start (text ++ remaining) ≡ record { kind = kind; at = span; text = spelling } ∷ tokens_from file after_it remaining

abbrev pub token : Kind → Bytes → Span → Token
token kind spelling span = record { kind = kind; at = span; text = spelling }

-- a token to which f gives a value
pub one_token : {A : Type 0} {f : Token → Option A} {P : A → Type 0} {ends : Bytes → Bool} {text : Bytes} (kind : Kind) (spelling : Bytes) (value : Span → A)
    → ((span : Span) → f (token kind spelling span) ≡ Some (value span)) → ((span : Span) → P (value span)) → same_kind kind k.WideNumeral ≡ false
    → ((file start : ℕ) (remaining : Bytes) → ends remaining ≡ true → OneToken kind spelling file start text remaining) → Spells (λ m. leaf f) P ends text
one_token kind spelling value gives keeps small cuts = record {
  depth = 0;
  at = λ m h file start remaining e. let c = cuts file start remaining e in record {
    prefix = token kind spelling c.span ∷ [];
    after_it = c.after_it;
    value = value c.span;
    split = c.is;
    reads = (token kind spelling c.span, refl, gives c.span);
    keeps = keeps c.span;
    narrow = ap (λ wide. not wide && true) small;
  };
}

-- ---- rows

abbrev pub in_row : {X : Type 0} → (X → Bytes) → List X → Bytes
in_row text [] = []
in_row text (x ∷ xs) = text x ++ in_row text xs

-- any number of texts, each of which may stand before the others
pub many_spells : {A K X : Type 0} {L : ℕ → A → Tokens → Type 0} {ends : Bytes → Bool} (u : A → K) (w : X → K) (ok : X → Bool) (text : X → Bytes)
    → ((xs : List X) (remaining : Bytes) → ends remaining ≡ true → ends (in_row text xs ++ remaining) ≡ true)
    → ((x : X) → ok x ≡ true → Spells L (λ v. u v ≡ w x) ends (text x))
    → (xs : List X) → all_are (map ok xs) ≡ true → Spells (λ m. many (L m)) (λ vs. map u vs ≡ map w xs) ends (in_row text xs)
many_spells u w ok text follow each [] h = record {
  depth = 0;
  at = λ m h file start remaining e. record { prefix = []; after_it = start; value = []; split = refl; reads = refl; keeps = refl; narrow = refl };
}
many_spells u w ok text follow each (x ∷ xs) h = spelled_as (λ v. v.0 ∷ v.1) (λ m v ts r. (r.prefix, r.suffix, r.split, r.first, r.second))
    (λ v keeps. ap (λ y. y ∷ map u v.1) keeps.0 ∙ ap (λ ys. w x ∷ ys) keeps.1)
    (then (each x (both_left _ _ h)) (many_spells u w ok text follow each xs (both_right _ _ h)) (λ remaining e. follow xs remaining e))
