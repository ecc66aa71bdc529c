-- Reading from the left, token by token, with one token of lookahead: the words of the grammar once more, as functions.
use Rattle.std.specs.Prelude.{◌≡◌, ℕ, zero, suc, Bool, true, false, if◌then◌else◌, List, [], ◌∷◌, ◌++◌, Option, Some, None, length, fold, Result, Ok, Err}
use Rattle.smv_ast.specs.declared.syntax.Span.{Span}
use Rattle.smv_expr.specs.declared.kind.Kind.{Kind}
use Rattle.smv_expr.specs.declared.kind.Kind.TheVariants as k
use Rattle.smv_expr.specs.declared.error.ReadError.{ReadError}
use Rattle.smv_expr.specs.declared.error.ReadError.TheVariants as e
use Rattle.smv_expr.specs.Lexicon.{Bytes, Token}
use Rattle.smv_expr.specs.Language.{Tokens, next_of, followed_by, begins, of_kind, of_kinds, number_kinds, find_kind, span_of, name_of, number_of}

-- why a reader stops before the end of what it reads
pub data Cause : Type 0 where
  -- no text of the language goes on with the next token
  UnexpectedToken : Cause
  -- the next token is a numeral over the limit
  Wide : Cause
  -- what begins here would nest too deep
  Deep : Cause

-- The two lists begin alike as far as a reader looks that stops for this cause: they have the same next token, and,
-- where it stops for nesting, both or neither have `..` after it.
abbrev pub Alike : Cause → Tokens → Tokens → Type 0
Alike UnexpectedToken y z = next_of y ≡ next_of z
Alike Wide y z = next_of y ≡ next_of z
Alike Deep y z = (next_of y ≡ next_of z) × (followed_by k.DotDot y ≡ followed_by k.DotDot z)

-- A value and the tokens after it; or a cause, and the tokens from the one at which it comes on.
pub data Outcome (A : Type 0) : Type 0 where
  Read : A → Tokens → Outcome A
  Stop : Cause → Tokens → Outcome A

-- the tokens that are left
abbrev pub remaining_of : {A : Type 0} → Outcome A → Tokens
remaining_of (Read a remaining) = remaining
remaining_of (Stop cause remaining) = remaining

-- a reader takes tokens from the start of a list
abbrev pub Reader : Type 0 → Type 0
Reader A = Tokens → Outcome A

-- goes on with what was read; a stop stays
abbrev pub and_then : {A B : Type 0} → Outcome A → (A → Reader B) → Outcome B
and_then (Read a remaining) f = f a remaining
and_then (Stop cause remaining) f = Stop cause remaining

-- ---- single tokens

-- the value of the next token, where it has one; else it does not fit
abbrev pub read_if : {A : Type 0} → Option A → Tokens → Tokens → Outcome A
read_if None ts remaining = Stop UnexpectedToken ts
read_if (Some a) ts remaining = Read a remaining

-- one token that has a value
abbrev pub read_leaf : {A : Type 0} → (Token → Option A) → Reader A
read_leaf f [] = Stop UnexpectedToken []
read_leaf f (t ∷ ts) = read_if (f t) (t ∷ ts) ts

-- one token of this kind, with its span
abbrev pub read_word : Kind → Reader Span
read_word kind = read_leaf (of_kind kind span_of)

-- a name, with its spelling and its span
abbrev pub read_name : Reader (Bytes × Span)
read_name = read_leaf (of_kind k.Name name_of)

-- a numeral, with its number and its span
abbrev pub read_numeral : Reader (ℕ × Span)
read_numeral = read_leaf (of_kind k.Numeral number_of)

-- a numeral of any size, with its number and its span
abbrev pub read_digits : Reader (ℕ × Span)
read_digits = read_leaf (of_kinds number_kinds number_of)

-- one token of a table, with what stands beside its kind
abbrev pub read_one_of : {A : Type 0} → List (Kind × A) → Reader A
read_one_of table = read_leaf (λ t. find_kind table t.kind)

-- ---- readers out of readers

-- the one, and then the other, which depends on the value of the one
abbrev pub read_dep : {A B : Type 0} → Reader A → (A → Reader B) → Reader (A × B)
read_dep p q ts = and_then (p ts)
    (λ a remaining. and_then (q a remaining) (λ b remaining'. Read (a, b) remaining'))

-- the one, and then the other
abbrev pub read_both : {A B : Type 0} → Reader A → Reader B → Reader (A × B)
read_both p q = read_dep p (λ a. q)

-- mapped by a function
abbrev pub read_mapped : {A B : Type 0} → (A → B) → Reader A → Reader B
read_mapped f p ts = and_then (p ts) (λ a remaining. Read (f a) remaining)

-- the one where the next token is of one of these kinds, else the other
abbrev pub read_either : {A : Type 0} → List Kind → Reader A → Reader A → Reader A
read_either set p q ts = if begins set ts then p ts else q ts

-- no token, for this value
abbrev pub read_nothing : {A : Type 0} → A → Reader A
read_nothing a ts = Read a ts

-- one, where one of these kinds comes, or none
abbrev pub read_opt : {A : Type 0} → List Kind → Reader A → Reader (Option A)
read_opt set p = read_either set (read_mapped Some p) (read_nothing None)

-- Goes on while one of `set` comes, and adds what it reads by `step`. The number bounds the rounds.
abbrev pub read_rounds : {A B : Type 0} → ℕ → List Kind → Reader A → (B → A → B) → B → Reader B
read_rounds zero set p step b ts = Read b ts
read_rounds (suc n) set p step b ts = if begins set ts then and_then (p ts)
    (λ a remaining. read_rounds n set p step (step b a) remaining) else Read b ts

-- a round takes a token at least, so there are no more rounds than tokens
unfoldable pub read_fold : {A B : Type 0} → List Kind → Reader A → (B → A → B) → B → Reader B
read_fold set p step b ts = read_rounds (length ts) set p step b ts

-- the list with one more at its end
abbrev pub pushed : {A : Type 0} → List A → A → List A
pushed found a = found ++ a ∷ []

-- any number of them, as long as one of these kinds comes
abbrev pub read_many : {A : Type 0} → List Kind → Reader A → Reader (List A)
read_many set p = read_fold set p pushed []

-- nothing more, where the row is ended
abbrev pub read_unless : {A : Type 0} → Bool → Reader (List A) → Reader (List A)
read_unless ended p ts = if ended then Read [] ts else p ts

-- Goes on while one of `set` comes and no item ends the row. The number bounds the rounds.
abbrev pub read_until_to : {A : Type 0} → ℕ → List Kind → (A → Bool) → Reader A → Reader (List A)
read_until_to zero set ends p ts = Read [] ts
read_until_to (suc n) set ends p ts = read_either set
    (read_mapped (λ v. v.0 ∷ v.1)
    (read_dep p (λ a. read_unless (ends a) (read_until_to n set ends p)))) (read_nothing []) ts

-- a list that goes on while one of `set` comes and no item ends it
abbrev pub read_until : {A : Type 0} → List Kind → (A → Bool) → Reader A → Reader (List A)
read_until set ends p ts = read_until_to (length ts) set ends p ts

-- a first value and what `step` adds to it, while one of `set` comes and nothing ends the row
abbrev pub read_row : {A B : Type 0} → List Kind → (B → Bool) → (A → Bool) → (B → A → B) → Reader B
    → Reader A → Reader B
read_row set ended ends step p q = read_mapped (λ v. fold step v.0 v.1)
    (read_dep p (λ b. read_unless (ended b) (read_until set ends q)))

-- Goes on while one of `set` comes and the value does not end its row, and adds what it reads by `step`. What it reads
-- may depend on the value so far. The number bounds the rounds.
abbrev pub read_more_to : {A B : Type 0} → ℕ → List Kind → (B → Bool) → (B → Reader A) → (B → A → B)
    → B → Reader B
read_more_to zero set ended p step b ts = Read b ts
read_more_to (suc n) set ended p step b ts = if ended b then Read b ts else
    (if begins set ts then and_then (p b ts)
    (λ a remaining. read_more_to n set ended p step (step b a) remaining) else Read b ts)

-- a round takes a token at least, so there are no more rounds than tokens
unfoldable pub read_more : {A B : Type 0} → List Kind → (B → Bool) → (B → Reader A) → (B → A → B)
    → B → Reader B
read_more set ended p step b ts = read_more_to (length ts) set ended p step b ts

-- Stops for this cause where one of these kinds comes, unless that is allowed.
abbrev pub read_allowed : {A : Type 0} → Bool → Cause → List Kind → Reader A → Reader A
read_allowed true cause set p = p
read_allowed false cause set p = read_either set (Stop cause) p

-- what begins with one of `first`, at the limit of nesting: nothing is read
abbrev pub read_deep : {A : Type 0} → List Kind → Reader A
read_deep first ts = if begins first ts then Stop Deep ts else Stop UnexpectedToken ts

-- ---- what a function that reads ensures

-- An Ok is what the reader reads, and the cursor stands after it. Where the reader stops for a cause, the cursor
-- stands at the token at which it does. Memory may run out at any time, and then nothing is said.
abbrev pub Gives : {A : Type 0} → Outcome A → Result A ReadError → Tokens → Type 0
Gives o (Ok a) new = o ≡ Read a new
Gives o (Err e.NoMemory) new = Unit {0}
Gives o (Err e.Unexpected) new = o ≡ Stop UnexpectedToken new
Gives o (Err e.WideNumber) new = o ≡ Stop Wide new
Gives o (Err e.TooNested) new = o ≡ Stop Deep new

-- what the reader reads, if one of these kinds comes; else nothing
abbrev pub Eats : {A : Type 0} → List Kind → Reader A → Tokens → Option A → Tokens → Type 0
Eats set p old None new = (begins set old ≡ false) × (new ≡ old)
Eats set p old (Some a) new = (begins set old ≡ true) × (p old ≡ Read a new)
