use Rattle.std.proofs.Common.{ap, ◌∙◌, length, ℕ}
use Rattle.smv_expr.specs.Lexicon.{Bytes, find_word, words, word_lexeme}
use Rattle.smv_expr.specs.declared.kind.Kind.{Kind}
use Rattle.smv_expr.specs.declared.lexeme.Lexeme.{Lexeme}
use Rattle.smv_expr.proofs.lexeme.word_lexeme.Goals as goal

of_kind : ℕ → Kind → Lexeme
of_kind len kind = record { kind = kind; len = len }

of_word : Bytes → Lexeme
of_word word = record { kind = find_word words word; len = length word }

pub returns : goal.returns
unfolding word_lexeme of_kind of_word
returns c = ap (of_kind (length c.name_part-word.result.now)) c.word_kind.ensures ∙ ap of_word c.name_part-word.ensures
