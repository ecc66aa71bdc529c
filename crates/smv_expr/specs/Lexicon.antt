-- The tokens of a text: what is cut from its bytes, and where each token stands.
use Rattle.std.specs.Prelude.{ℕ, zero, suc, ◌+◌, ◌*◌, ◌-◌, Bool, ◌||◌, ◌&&◌, if◌then◌else◌, ◌==◌, nat_eq, nat_le, List, [], ◌∷◌, length, map, take, take_while, fold, codes, not, ◌≤◌, All}
use Rattle.std.specs.List.{starts_with}
use lib.Pointwise.{pointwise}
use denote.Enum.Bare.{sameb}
use denote.Ref.{Bor}
use Rattle.smv_ast.specs.declared.syntax.Span.{Span}
use Rattle.smv_expr.specs.contracts.kind.Kind.{the_type}
use Rattle.smv_expr.specs.declared.kind.Kind.{Kind}
use Rattle.smv_expr.specs.declared.kind.Kind.TheVariants as k
use Rattle.smv_expr.specs.declared.lexeme.Lexeme.{Lexeme}

-- the bytes of a text
abbrev pub Bytes : Type 0
Bytes = List ℕ

-- ---- bytes

-- space, tab, carriage return, line feed, form feed
abbrev pub is_blank : ℕ → Bool
is_blank b = b == 32 || (b == 9 || (b == 13 || (b == 10 || b == 12)))

-- a letter or `_`, with which a name begins
abbrev pub is_letter : ℕ → Bool
is_letter b = (nat_le 97 b && nat_le b 122) || ((nat_le 65 b && nat_le b 90) || b == 95)

-- a decimal digit
abbrev pub is_digit : ℕ → Bool
is_digit b = nat_le 48 b && nat_le b 57

-- what may follow the letter with which a name begins: letters, digits, `$` and `#`
abbrev pub is_name_part : ℕ → Bool
is_name_part b = is_letter b || (is_digit b || (b == 36 || b == 35))

-- a comment goes on up to the line feed
abbrev pub is_in_line : ℕ → Bool
is_in_line b = not (b == 10)

-- ---- words and marks

-- The reserved words. Those that this language leaves out of SMV have one kind.
unfoldable pub words : List (Bytes × Kind)
words =
    (codes "MODULE", k.Module) ∷ (codes "VAR", k.Var) ∷ (codes "ASSIGN", k.Assign) ∷ (codes "DEFINE", k.Define)
    ∷ (codes "INIT", k.InitSection) ∷ (codes "INVAR", k.InvarSection) ∷ (codes "TRANS", k.TransSection) ∷ (codes "INVARSPEC", k.InvarSpec)
    ∷ (codes "SPEC", k.Spec) ∷ (codes "CTLSPEC", k.CtlSpec) ∷ (codes "LTLSPEC", k.LtlSpec)
    ∷ (codes "FAIRNESS", k.Fairness) ∷ (codes "JUSTICE", k.Justice) ∷ (codes "COMPASSION", k.Compassion)
    ∷ (codes "boolean", k.Boolean) ∷ (codes "TRUE", k.True) ∷ (codes "FALSE", k.False) ∷ (codes "case", k.Case) ∷ (codes "esac", k.Esac)
    ∷ (codes "init", k.Init) ∷ (codes "next", k.Next) ∷ (codes "in", k.In) ∷ (codes "mod", k.Mod) ∷ (codes "xor", k.Xor) ∷ (codes "xnor", k.Xnor)
    ∷ (codes "FEATURE", k.Feature) ∷ (codes "REQUIRE", k.Require) ∷ (codes "INTRODUCE", k.Introduce) ∷ (codes "CHANGE", k.Change)
    ∷ (codes "IF", k.If) ∷ (codes "THEN", k.Then) ∷ (codes "IMPOSE", k.Impose) ∷ (codes "TREAT", k.Treat) ∷ (codes "END", k.End)
    ∷ (codes "FEATUREMODEL", k.FeatureModel) ∷ (codes "ROOT", k.Root) ∷ (codes "MANDATORY", k.Mandatory) ∷ (codes "OPTIONAL", k.Optional)
    ∷ (codes "OR", k.OrGroup) ∷ (codes "ALTERNATIVE", k.Alternative) ∷ (codes "CONSTRAINT", k.Constraint)
    ∷ (codes "process", k.LeftOut) ∷ (codes "self", k.LeftOut) ∷ (codes "word", k.LeftOut) ∷ (codes "unsigned", k.LeftOut) ∷ (codes "signed", k.LeftOut)
    ∷ (codes "array", k.LeftOut) ∷ (codes "of", k.LeftOut) ∷ (codes "real", k.LeftOut) ∷ (codes "integer", k.LeftOut) ∷ (codes "union", k.LeftOut)
    ∷ (codes "ISA", k.LeftOut) ∷ (codes "FROZENVAR", k.LeftOut) ∷ (codes "IVAR", k.LeftOut) ∷ (codes "CONSTANTS", k.LeftOut) ∷ (codes "COMPUTE", k.LeftOut)
    ∷ (codes "PSLSPEC", k.LeftOut) ∷ (codes "NAME", k.LeftOut) ∷ []

-- The marks, the longest first.
unfoldable pub marks : List (Bytes × Kind)
marks =
    (codes "<->", k.Iff) ∷ (codes "..", k.DotDot) ∷ (codes "!=", k.NotEqual) ∷ (codes "<=", k.LessEqual) ∷ (codes ">=", k.GreaterEqual)
    ∷ (codes "->", k.Implies) ∷ (codes ":=", k.Becomes) ∷ (codes "<<", k.LeftOut) ∷ (codes ">>", k.LeftOut) ∷ (codes "::", k.LeftOut)
    ∷ (codes ";", k.Semicolon) ∷ (codes ":", k.Colon) ∷ (codes ",", k.Comma) ∷ (codes ".", k.Dot)
    ∷ (codes "(", k.OpenParen) ∷ (codes ")", k.CloseParen) ∷ (codes "{", k.OpenBrace) ∷ (codes "}", k.CloseBrace)
    ∷ (codes "=", k.Equal) ∷ (codes "<", k.Less) ∷ (codes ">", k.Greater) ∷ (codes "+", k.Plus) ∷ (codes "-", k.Minus) ∷ (codes "*", k.Star)
    ∷ (codes "!", k.Not) ∷ (codes "&", k.And) ∷ (codes "|", k.Or)
    ∷ (codes "/", k.LeftOut) ∷ (codes "?", k.LeftOut) ∷ (codes "[", k.LeftOut) ∷ (codes "]", k.LeftOut) ∷ []

-- a table of the code, with the spellings themselves in place of references to them
abbrev pub spelled : List (Bor Bytes × Kind) → List (Bytes × Kind)
spelled table = map (λ entry. (entry.0.now, entry.1)) table

-- the kind that stands with the word in a table; each other word is a name
abbrev pub find_word : List (Bytes × Kind) → Bytes → Kind
find_word [] word = k.Name
find_word (entry ∷ more) word = if pointwise nat_eq entry.0 word then entry.1 else find_word more
    word

-- the first mark of a table with which the text begins; a byte that begins no mark is unknown
abbrev pub find_mark : List (Bytes × Kind) → Bytes → Lexeme
find_mark [] text = record { kind = k.Unknown; len = 1 }
find_mark (entry ∷ more) text = if starts_with nat_eq text entry.0 then record
    { kind = entry.1; len = length entry.0 } else find_mark more text

-- ---- what stands at the start of a text

-- a name or a reserved word, as long as it goes
unfoldable pub word_lexeme : Bytes → Lexeme
word_lexeme text =
    let spelling = take_while is_name_part text in
    record { kind = find_word words spelling; len = length spelling }

-- the number that digits stand for
abbrev pub numeral_value : Bytes → ℕ
numeral_value digits = fold (λ n b. 10 * n + (b - 48)) 0 digits

-- the greatest number for which a numeral may stand
abbrev pub greatest_number : ℕ
greatest_number = 2147483647

-- a numeral is wide where it stands for a greater number
abbrev pub numeral_kind : Bytes → Kind
numeral_kind digits = if nat_le (numeral_value digits) greatest_number then k.Numeral else
    k.WideNumeral

-- a run of digits, as long as it goes
unfoldable pub numeral_lexeme : Bytes → Lexeme
numeral_lexeme text =
    let digits = take_while is_digit text in
    record { kind = numeral_kind digits; len = length digits }

-- the longest mark that stands there
unfoldable pub mark_lexeme : Bytes → Lexeme
mark_lexeme text = find_mark marks text

-- a comment goes from `--` to the end of its line, and may hold any bytes
abbrev pub begins_comment : Bytes → Bool
begins_comment text = starts_with nat_eq text (codes "--")

-- white space, a comment, a word, a numeral or a mark
unfoldable pub first_lexeme : Bytes → Lexeme
first_lexeme [] = record { kind = k.Unknown; len = 1 }
first_lexeme (b ∷ more) =
    if is_blank b then record { kind = k.Space; len = 1 } else (
    if begins_comment (b ∷ more) then record
    { kind = k.Space; len = length (take_while is_in_line (b ∷ more)) } else (
    if is_letter b then word_lexeme (b ∷ more) else (
    if is_digit b then numeral_lexeme (b ∷ more) else mark_lexeme (b ∷ more))))

-- ---- tokens

-- a token with its span and its spelling
pub record Token : Type 0 where
  pub kind : Kind
  pub at : Span
  pub text : Bytes

-- whether two kinds are one
unfoldable pub same_kind : Kind → Kind → Bool
same_kind = sameb the_type

-- The tokens of a text that stands at an offset of a file, after `left` bytes of the lexeme before.
abbrev pub tokens_in : ℕ → ℕ → ℕ → Bytes → List Token
tokens_in left file at [] = []
tokens_in (suc left) file at (b ∷ more) = tokens_in left file (at + 1) more
tokens_in zero file at (b ∷ more) =
    let next = first_lexeme (b ∷ more) in
    let later = tokens_in (next.len - 1) file (at + 1) more in
    if same_kind next.kind k.Space then later
    else record {
      kind = next.kind;
      at = record { file = file; at = at };
      text = take next.len
          (b ∷ more);
    } ∷ later

-- the tokens of a text that stands at an offset of a file
abbrev pub tokens_from : ℕ → ℕ → Bytes → List Token
tokens_from file at text = tokens_in zero file at text

-- the tokens of a file
abbrev pub tokens : ℕ → Bytes → List Token
tokens file bytes = tokens_from file 0 bytes

-- each byte is a decimal digit
abbrev pub AreDigits : Bytes → Type 0
AreDigits digits = All (λ b. (48 ≤ b) × (b ≤ 57)) digits

-- the spelling of a numeral that is not wide
pub record IsNumeral (digits : Bytes) : Type 0 where
  pub within : numeral_value digits ≤ greatest_number
  pub digit : AreDigits digits
