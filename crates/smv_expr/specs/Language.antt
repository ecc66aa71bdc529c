-- Languages: which value a list of tokens stands for. A grammar is written with these words.
use Rattle.std.specs.Prelude.{◌≡◌, ℕ, Bool, true, false, ◌||◌, ◌&&◌, if◌then◌else◌, List, [], ◌∷◌, ◌++◌, map, fold, drop, Option, Some, None, ◌⊎◌}
use Rattle.std.specs.Str.{bytes_eq}
use Rattle.smv_ast.specs.declared.syntax.Span.{Span}
use Rattle.smv_expr.specs.declared.kind.Kind.{Kind}
use Rattle.smv_expr.specs.declared.kind.Kind.TheVariants as k
use Rattle.smv_expr.specs.Lexicon.{Bytes, Token, numeral_value, same_kind}

-- what a language speaks of
abbrev pub Tokens : Type 0
Tokens = List Token

-- a language says which lists of tokens stand for which value
abbrev pub Lang : Type 0 → Type 1
Lang A = A → Tokens → Type 0

-- ---- kinds

-- whether the kind is in the list
abbrev pub has : List Kind → Kind → Bool
has [] kind = false
has (one ∷ more) kind = same_kind kind one || has more kind

-- the kinds of a table
abbrev pub kinds_of : {A : Type 0} → List (Kind × A) → List Kind
kinds_of table = map (λ entry. entry.0) table

-- what stands with the kind in a table
abbrev pub find_kind : {A : Type 0} → List (Kind × A) → Kind → Option A
find_kind [] kind = None
find_kind (entry ∷ more) kind = if same_kind kind entry.0 then Some entry.1 else find_kind more kind

-- ---- single tokens

-- one token, to which f gives the value
abbrev pub leaf : {A : Type 0} → (Token → Option A) → A → Tokens → Type 0
leaf f a ts = (t : Token) × (ts ≡ t ∷ []) × (f t ≡ Some a)

-- of one of these kinds, mapped by f
abbrev pub of_kinds : {A : Type 0} → List Kind → (Token → A) → Token → Option A
of_kinds kinds f t = if has kinds t.kind then Some (f t) else None

-- of this kind, mapped by f
abbrev pub of_kind : {A : Type 0} → Kind → (Token → A) → Token → Option A
of_kind kind f = of_kinds (kind ∷ []) f

-- the kind of a token
abbrev pub kind_of : Token → Kind
kind_of t = t.kind

-- the span of a token
abbrev pub span_of : Token → Span
span_of t = t.at

-- the spelling of a token
abbrev pub text_of : Token → Bytes
text_of t = t.text

-- the value of a name: its spelling and its span
abbrev pub name_of : Token → Bytes × Span
name_of t = (t.text, t.at)

-- the value of a numeral: its number and its span
abbrev pub number_of : Token → ℕ × Span
number_of t = (numeral_value t.text, t.at)

-- a reserved word or a mark, for its span
abbrev pub word : Kind → Lang Span
word kind = leaf (of_kind kind span_of)

-- a name, for its spelling and its span
abbrev pub name : Lang (Bytes × Span)
name = leaf (of_kind k.Name name_of)

-- the span of a name of this spelling
abbrev pub named : Bytes → Token → Option Span
named text t = if has (k.Name ∷ []) t.kind && bytes_eq t.text text then Some t.at else None

-- a numeral, for its value and its span
abbrev pub numeral : Lang (ℕ × Span)
numeral = leaf (of_kind k.Numeral number_of)

-- the kinds of numerals: within the limit, and over it
abbrev pub number_kinds : List Kind
number_kinds = k.Numeral ∷ k.WideNumeral ∷ []

-- the kinds of numerals that a text may have: of any size, or within the limit
abbrev pub numeral_kinds : Bool → List Kind
numeral_kinds true = number_kinds
numeral_kinds false = k.Numeral ∷ []

-- a numeral of any size, or within the limit, for its number and its span
abbrev pub digits : Bool → (ℕ × Span) → Tokens → Type 0
digits any = leaf (of_kinds (numeral_kinds any) number_of)

-- a word or mark of the table, for what stands with it
abbrev pub one_of : {A : Type 0} → List (Kind × A) → A → Tokens → Type 0
one_of table = leaf (λ t. find_kind table t.kind)

-- ---- languages out of languages

-- the one, and then the other, which depends on the value of the one
pub record dep {A B : Type 0} (L : A → Tokens → Type 0) (M : A → B → Tokens → Type 0) (v : A × B) (ts : Tokens) : Type 0 where
  pub prefix : Tokens
  pub suffix : Tokens
  pub split : ts ≡ prefix ++ suffix
  pub first : L v.0 prefix
  pub second : M v.0 v.1 suffix

-- the one, and then the other
abbrev pub both : {A B : Type 0} → (A → Tokens → Type 0) → (B → Tokens → Type 0) → A × B → Tokens
    → Type 0
both L M = dep L (λ a. M)

-- any number of them
abbrev pub many : {A : Type 0} → (A → Tokens → Type 0) → List A → Tokens → Type 0
many L [] ts = ts ≡ []
many L (a ∷ more) ts = (prefix : Tokens) × (suffix : Tokens) × (ts ≡ prefix ++ suffix) × L a prefix
    × many L more suffix

-- mapped by f
abbrev pub mapped : {A B : Type 0} → (A → B) → (A → Tokens → Type 0) → B → Tokens → Type 0
mapped {A} f L b ts = (a : A) × L a ts × (f a ≡ b)

-- no token, for the value v
abbrev pub nothing : {A : Type 0} → A → A → Tokens → Type 0
nothing v a ts = (a ≡ v) × (ts ≡ [])

-- the first statement where the test holds, else the second
abbrev pub by_test : Bool → Type 0 → Type 0 → Type 0
by_test true X Y = X
by_test false X Y = Y

-- any number of them, of which only the last may be one that ends the row
abbrev pub until : {A : Type 0} → (A → Bool) → (A → Tokens → Type 0) → List A → Tokens → Type 0
until ends L [] ts = ts ≡ []
until ends L (a ∷ more) ts = (prefix : Tokens) × (suffix : Tokens) × (ts ≡ prefix ++ suffix)
    × L a prefix × by_test (ends a) (nothing [] more suffix) (until ends L more suffix)

-- a first value and what `step` adds to it, item by item, until a value or an item ends the row
abbrev pub row : {A B : Type 0} → (B → Bool) → (A → Bool) → (B → A → B) → (B → Tokens → Type 0)
    → (A → Tokens → Type 0) → B → Tokens → Type 0
row ended ends step L M = mapped (λ v. fold step v.0 v.1)
    (dep L (λ b more ts. by_test (ended b) (nothing [] more ts) (until ends M more ts)))

-- the one or the other
abbrev pub either : {A : Type 0} → (A → Tokens → Type 0) → (A → Tokens → Type 0) → A → Tokens
    → Type 0
either L M a ts = L a ts ⊎ M a ts

-- one, or none
abbrev pub opt : {A : Type 0} → (A → Tokens → Type 0) → Option A → Tokens → Type 0
opt L = either (mapped Some L) (nothing None)

-- ---- the next token

-- The next token, or that there is none: the end of a text counts as a token of its own.
abbrev pub next_of : Tokens → Option Token
next_of [] = None
next_of (t ∷ ts) = Some t

-- whether the first token is of one of these kinds
abbrev pub begins : List Kind → Tokens → Bool
begins set [] = false
begins set (t ∷ ts) = has set t.kind

-- whether the token after the first is of this kind
abbrev pub followed_by : Kind → Tokens → Bool
followed_by kind ts = begins (kind ∷ []) (drop 1 ts)

-- whether the first token is a name of this spelling
abbrev pub begins_name : Bytes → Tokens → Bool
begins_name text [] = false
begins_name text (t ∷ ts) = has (k.Name ∷ []) t.kind && bytes_eq t.text text
