-- Lists of names: their grammar and its reader.
use Rattle.std.specs.Prelude.{List, [], ◌∷◌}
use Rattle.smv_ast.specs.declared.syntax.Span.{Span}
use Rattle.smv_expr.specs.declared.kind.Kind.TheVariants as k
use Rattle.smv_expr.specs.Lexicon.{Bytes}
use Rattle.smv_expr.specs.Language.{Lang, word, name, both, many, mapped}
use Rattle.smv_expr.specs.Reading.{Reader, read_word, read_name, read_both, read_mapped, read_many}

-- ---- the grammar

-- , id
abbrev pub next_name : Lang Bytes
next_name = mapped (λ p. p.1.0) (both (word k.Comma) name)

-- the names of a list
abbrev pub names_of : (Bytes × Span) × List Bytes → List Bytes
names_of p = p.0.0 ∷ p.1

-- id { , id }
abbrev pub names : Lang (List Bytes)
names = mapped names_of (both name (many next_name))

-- ---- the reader

-- , id
unfoldable pub read_next_name : Reader Bytes
read_next_name = read_mapped (λ p. p.1.0) (read_both (read_word k.Comma) read_name)

-- { , id }
unfoldable pub read_more_names : Reader (List Bytes)
read_more_names = read_many (k.Comma ∷ []) read_next_name

-- id { , id }
unfoldable pub read_names : Reader (List Bytes)
read_names = read_mapped names_of (read_both read_name read_more_names)
