-- What is answered of a whole text, by a reader of a language whose texts nest.
use Rattle.std.specs.Prelude.{◌≡◌, ℕ, suc, ◌+◌, ◌≤◌, ◌⊎◌, Bool, true, false, if◌then◌else◌, List, [], ◌∷◌, ◌++◌, length, Some, Result, Ok, Err}
use Rattle.smv_ast.specs.declared.syntax.Span.{Span}
use Rattle.smv_ast.specs.declared.fault.Fault.{Fault}
use Rattle.smv_ast.specs.declared.fault.Fault.TheVariants as fault
use Rattle.smv_expr.specs.declared.kind.Kind.{Kind}
use Rattle.smv_expr.specs.declared.kind.Kind.TheVariants as k
use Rattle.smv_expr.specs.declared.error.ReadError.{ReadError}
use Rattle.smv_expr.specs.declared.error.ReadError.TheVariants as error
use Rattle.smv_expr.specs.Lexicon.{Bytes, tokens}
use Rattle.smv_expr.specs.Language.{Tokens, next_of, followed_by, begins}
use Rattle.smv_expr.specs.Reading.{Outcome, Reader, remaining_of}
use Rattle.smv_expr.specs.Reading.Outcome.{Read, Stop}
use Rattle.smv_expr.specs.Reading.Cause.{UnexpectedToken, Wide, Deep}
use Rattle.smv_expr.specs.Limits.{nesting_bound}
use Rattle.smv_expr.specs.ExprReaders.{first_expr}

-- ---- what a list of tokens is

-- A grammar here is a family of languages. The truth value tells whether numerals may be of any size or have to be within
-- the limit; the number says that fewer constructs than it are open at each point.

-- a text of the grammar, however deep it nests, however high its trees and however great its numbers are
abbrev pub unlimited : {A : Type 0} → (Bool → ℕ → A → Tokens → Type 0) → A → Tokens → Type 0
unlimited G a ts = (m : ℕ) × G true m a ts

-- a text of the grammar whose numerals are within the limit, however deep it nests and however high its trees are
abbrev pub small : {A : Type 0} → (Bool → ℕ → A → Tokens → Type 0) → A → Tokens → Type 0
small G a ts = (m : ℕ) × G false m a ts

-- the same, with a thousand and one constructs open at each point at most: one more than there may be
abbrev pub almost : {A : Type 0} → (Bool → ℕ → A → Tokens → Type 0) → A → Tokens → Type 0
almost G a ts = (m : ℕ) × (m ≤ suc nesting_bound) × G false m a ts

-- The whole list stands for this value, and for no other. Its numerals are within the limit, at no point are more than a
-- thousand constructs open, and no tree of it is too high.
pub record IsText {A : Type 0} (G : Bool → ℕ → A → Tokens → Type 0) (is_low : A → Bool) (ts : Tokens) (a : A) : Type 0 where
  pub reads : G false nesting_bound a ts
  pub low : is_low a ≡ true
  pub only : (b : A) → unlimited G b ts → b ≡ a

-- The tokens before the remaining ones are a viable prefix: some text of the language begins with them.
pub record IsViable {A : Type 0} (L : A → Tokens → Type 0) (ts remaining : Tokens) : Type 0 where
  pub prefix : Tokens
  pub split : ts ≡ prefix ++ remaining
  pub more : Tokens
  pub value : A
  pub viable : L value (prefix ++ more)

-- Some text of the language begins with these tokens and the next of the remaining ones. Where none is next, the text is
-- these tokens.
pub record GoesOn {A : Type 0} (L : A → Tokens → Type 0) (prefix remaining : Tokens) : Type 0 where
  pub more : Tokens
  pub next : next_of more ≡ next_of remaining
  pub value : A
  pub viable : L value (prefix ++ more)

-- No text begins with the tokens up to the next one, whatever its numerals are. A text with numerals within the limit begins
-- with the tokens before it, with no more than a thousand and one constructs open at each point.
pub record StopsAt {A : Type 0} (G : Bool → ℕ → A → Tokens → Type 0) (ts remaining : Tokens) : Type 0 where
  pub before : IsViable (almost G) ts remaining
  pub dead : GoesOn (unlimited G) before.prefix remaining → ⊥

-- The next token is a numeral over the limit, and some text begins with the tokens up to it. None does whose numerals are
-- within the limit, but one begins with the tokens before it, with no more than a thousand and one constructs open.
pub record StopsWide {A : Type 0} (G : Bool → ℕ → A → Tokens → Type 0) (ts remaining : Tokens) : Type 0 where
  pub wide : begins (k.WideNumeral ∷ []) remaining ≡ true
  pub before : IsViable (almost G) ts remaining
  pub live : GoesOn (unlimited G) before.prefix remaining
  pub dead : GoesOn (small G) before.prefix remaining → ⊥

-- Some text within all limits begins with these tokens and the next one of the remaining, with `..` after it or not as here.
pub record GoesOnWithin {A : Type 0} (G : Bool → ℕ → A → Tokens → Type 0) (is_low : A → Bool) (prefix remaining : Tokens) : Type 0 where
  pub more : Tokens
  pub next : next_of more ≡ next_of remaining
  pub dots : followed_by k.DotDot more ≡ followed_by k.DotDot remaining
  pub value : A
  pub reads : G false nesting_bound value (prefix ++ more)
  pub low : is_low value ≡ true

-- the tokens that open a construct of an expression, the word of `next(` among them; a `-` opens one only where it negates
abbrev pub openers : List Kind
openers = k.OpenParen ∷ k.OpenBrace ∷ k.Case ∷ k.Not ∷ k.Next ∷ k.Implies ∷ []

-- how many constructs the next token opens
unfoldable pub opens : Tokens → ℕ
opens ts = if begins openers ts then 1 else 0

-- the tokens with which an expression may end
abbrev pub expr_ends : List Kind
expr_ends = k.True ∷ k.False ∷ k.Numeral ∷ k.Name ∷ k.CloseParen ∷ k.CloseBrace ∷ k.Esac ∷ []

-- Some text begins with these tokens and the next of the remaining ones, with fewer constructs open at each point than the
-- number.
pub record GoesOnBelow {A : Type 0} (G : Bool → ℕ → A → Tokens → Type 0) (number : ℕ) (prefix remaining : Tokens) : Type 0 where
  pub depth : ℕ
  pub below : depth ≤ number
  pub more : Tokens
  pub next : next_of more ≡ next_of remaining
  pub value : A
  pub viable : G false depth value (prefix ++ more)

-- The next token begins an expression, and a thousand and one constructs are open before it. Beside the one that the token
-- opens itself, a text that begins with the tokens up to it, with `..` after it or not as here, has more than a thousand open
-- at some point; and some text has no more than a thousand and one.
pub record HasTooManyOpen {A : Type 0} (G : Bool → ℕ → A → Tokens → Type 0) (prefix remaining : Tokens) : Type 0 where
  pub begun : begins first_expr remaining ≡ true
  pub live : GoesOnBelow G (suc nesting_bound + opens remaining) prefix remaining
  pub dead : (m : ℕ) (y : Tokens) (a : A) → m ≤ nesting_bound + opens remaining → next_of y ≡ next_of remaining
      → followed_by k.DotDot y ≡ followed_by k.DotDot remaining → G false m a (prefix ++ y) → ⊥

-- A text with numerals within the limit begins with the tokens up to the next one. Before that a thousand and one
-- constructs are open, or it is one with which an expression may end. No text within the limits begins with the tokens up to
-- it, and the list is none, whatever its numerals are.
pub record StopsDeep {A : Type 0} (G : Bool → ℕ → A → Tokens → Type 0) (is_low : A → Bool) (ts remaining : Tokens) : Type 0 where
  pub before : IsViable (small G) ts remaining
  pub live : GoesOn (small G) before.prefix remaining
  pub cause : HasTooManyOpen G before.prefix remaining ⊎ (begins expr_ends remaining ≡ true)
  pub dead : GoesOnWithin G is_low before.prefix remaining → ⊥
  pub unfit : (m : ℕ) (a : A) → m ≤ nesting_bound → G true m a ts → is_low a ≡ true → ⊥

-- Each beginning of the list that is a text, and ends before the remaining tokens, is a text within the limits: none of them
-- is passed that is not. A numeral that `..` follows ends no text.
abbrev pub AreWithin : {A : Type 0} → (Bool → ℕ → A → Tokens → Type 0) → (A → Bool) → Tokens → Tokens → Type 0
AreWithin {A} G is_low ts remaining = (c r mid : Tokens) (a : A) → ts ≡ c ++ r → r ≡ mid ++ remaining → begins (k.DotDot ∷ []) r ≡ false
    → unlimited G a c → IsText G is_low c a

-- What a reading says of the whole list. Where a text is read and tokens remain, the fault is at the next of them.
abbrev pub Verdict : {A : Type 0} → (Bool → ℕ → A → Tokens → Type 0) → (A → Bool) → Tokens → Outcome A → Type 0
Verdict G is_low ts (Read a []) = IsText G is_low ts a
Verdict G is_low ts (Read a (t ∷ remaining)) = StopsAt G ts (t ∷ remaining)
Verdict G is_low ts (Stop UnexpectedToken remaining) = StopsAt G ts remaining
Verdict G is_low ts (Stop Wide remaining) = StopsWide G ts remaining
Verdict G is_low ts (Stop Deep remaining) = StopsDeep G is_low ts remaining

-- ---- how it is reported

-- where the next token stands, or the end of the file
abbrev pub next_span : ℕ → Bytes → Tokens → Span
next_span file bytes [] = record { file = file; at = length bytes }
next_span file bytes (t ∷ ts) = t.at

-- the fault of a token up to which no text begins: LeftOut where it is a word or mark of SMV that is left out here
abbrev pub syntax_fault : ℕ → Bytes → Tokens → Fault
syntax_fault file bytes [] = fault.Syntax (Some (next_span file bytes []))
syntax_fault file bytes (t ∷ remaining) = if begins (k.LeftOut ∷ []) (t ∷ remaining) then
    fault.LeftOut (Some t.at) t.text else fault.Syntax (Some t.at)

-- the fault of a reader that stopped so, at the remaining tokens
abbrev pub IsFaultOf : ℕ → Bytes → ReadError → Tokens → Fault → Type 0
IsFaultOf file bytes error.NoMemory remaining f = ⊥
IsFaultOf file bytes error.Unexpected remaining f = f ≡ syntax_fault file bytes remaining
IsFaultOf file bytes error.WideNumber remaining f = f
    ≡ fault.WideNumber (Some (next_span file bytes remaining))
IsFaultOf file bytes error.TooNested remaining f = f
    ≡ fault.TooNested (Some (next_span file bytes remaining))

-- how a reading of a whole file is reported
abbrev pub result_of : {A : Type 0} → ℕ → Bytes → Outcome A → Result A Fault
result_of file bytes (Read a []) = Ok a
result_of file bytes (Read a (t ∷ remaining)) = Err (syntax_fault file bytes (t ∷ remaining))
result_of file bytes (Stop UnexpectedToken remaining) = Err (syntax_fault file bytes remaining)
result_of file bytes (Stop Wide remaining) = Err
    (fault.WideNumber (Some (next_span file bytes remaining)))
result_of file bytes (Stop Deep remaining) = Err
    (fault.TooNested (Some (next_span file bytes remaining)))

-- the reading is reported, unless memory runs out
abbrev pub IsResultOf : {A : Type 0} → ℕ → Bytes → Outcome A → Result A Fault → Type 0
IsResultOf file bytes o (Err fault.NoMemory) = Unit {0}
IsResultOf file bytes o result = result ≡ result_of file bytes o

-- The answer reports the reading within the limits, and what that says of the text.
pub record Reports {A : Type 0} (G : Bool → ℕ → A → Tokens → Type 0) (is_low : A → Bool) (reader : Reader A) (file : ℕ) (bytes : Bytes) (result : Result A Fault) : Type 0 where
  pub is : result ≡ result_of file bytes (reader (tokens file bytes))
  pub verdict : Verdict G is_low (tokens file bytes) (reader (tokens file bytes))
  pub within : AreWithin G is_low (tokens file bytes) (remaining_of (reader (tokens file bytes)))

-- what is answered of the bytes of a file, unless memory runs out
abbrev pub Answers : {A : Type 0} → (Bool → ℕ → A → Tokens → Type 0) → (A → Bool) → Reader A → ℕ → Bytes
    → Result A Fault → Type 0
Answers G is_low reader file bytes (Err fault.NoMemory) = Unit {0}
Answers G is_low reader file bytes result = Reports G is_low reader file bytes result

-- the value is answered, unless memory runs out
abbrev pub IsAnswered : {A : Type 0} → A → Result A Fault → Type 0
IsAnswered a (Err fault.NoMemory) = Unit {0}
IsAnswered a result = result ≡ Ok a
