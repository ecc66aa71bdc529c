-- What a cursor keeps: the text from its next token on.
use Rattle.std.specs.Prelude.{◌≡◌, ◌+◌, ◌<◌, ◌^◌, false, List, [], length, Option, Some, None}
use Rattle.smv_expr.specs.declared.kind.Kind.TheVariants as k
use Rattle.smv_expr.specs.declared.lexeme.Lexeme.{Lexeme}
use Rattle.smv_expr.specs.declared.cursor.Cursor.TheInside.{Inside}
use Rattle.smv_expr.specs.Lexicon.{Bytes, Token, first_lexeme, same_kind, tokens_from}

-- the lexeme at the start of the text, which is a token; or none, at the end
abbrev pub IsNext : Bytes → Option Lexeme → Type 0
IsNext text None = text ≡ []
IsNext text (Some next) = (next ≡ first_lexeme text) × (same_kind next.kind k.Space ≡ false)
    × (0 < length text)

-- the tokens from the next one on
abbrev pub tokens_left : Inside → List Token
tokens_left c = tokens_from c.file c.at c.remaining.now

-- what a cursor keeps of its next token
abbrev pub IsReady : Inside → Type 0
IsReady c = (c.at + length c.remaining.now < 2 ^ 32) × IsNext c.remaining.now c.next
