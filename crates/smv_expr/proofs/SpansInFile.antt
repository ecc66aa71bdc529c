-- Each token of a file stands in the file.
use Rattle.std.proofs.Common.{◌≡◌, ℕ, zero, suc, ◌+◌, ◌-◌, ◌≤◌, [], ◌∷◌, ◌++◌, length, refl, subst, arith}
use Rattle.smv_expr.specs.declared.kind.Kind.TheVariants as k
use Rattle.smv_expr.specs.Lexicon.{Bytes, Token, first_lexeme, same_kind, tokens_in, tokens}
use Rattle.smv_expr.specs.Language.{Tokens}
use Rattle.smv_expr.specs.Answer.{next_span}
use Rattle.smv_expr.proofs.Booleans.{by_test}

pub record IsInFile (file len : ℕ) (t : Token) : Type 0 where
  pub in_file : t.at.file ≡ file
  pub within : t.at.at ≤ len

abbrev pub AreInFile : ℕ → ℕ → Tokens → Type 0
AreInFile file len [] = Unit {0}
AreInFile file len (t ∷ ts) = IsInFile file len t × AreInFile file len ts

tokens_in_file : (left file at len : ℕ) (text : Bytes) → at + length text ≤ len → AreInFile file len (tokens_in left file at text)
tokens_in_file left file at len [] h = tt
tokens_in_file (suc left) file at len (b ∷ more) h = tokens_in_file left file (at + 1) len more (omega arith)
tokens_in_file zero file at len (b ∷ more) h =
    let remaining = tokens_in_file ((first_lexeme (b ∷ more)).len - 1) file (at + 1) len more (omega arith) in
    by_test (AreInFile file len) (same_kind (first_lexeme (b ∷ more)).kind k.Space) _ _ (λ e. remaining) (λ e. (record { in_file = refl; within = omega arith }, remaining))

from_remaining : (file len : ℕ) (prefix remaining : Tokens) → AreInFile file len (prefix ++ remaining) → AreInFile file len remaining
from_remaining file len [] remaining h = h
from_remaining file len (t ∷ prefix) remaining h = from_remaining file len prefix remaining h.1

pub suffix_in_file : (file : ℕ) (bytes : Bytes) (prefix remaining : Tokens) → tokens file bytes ≡ prefix ++ remaining → AreInFile file (length bytes) remaining
suffix_in_file file bytes prefix remaining e = from_remaining file (length bytes) prefix remaining (subst (AreInFile file (length bytes)) e (tokens_in_file zero file 0 (length bytes) bytes (omega arith)))

pub file_tokens_in_file : (file : ℕ) (bytes : Bytes) (remaining : Tokens) → AreInFile file (length bytes) remaining → (next_span file bytes remaining).file ≡ file
file_tokens_in_file file bytes [] h = refl
file_tokens_in_file file bytes (t ∷ ts) h = h.0.in_file

pub next_span_in_file : (file : ℕ) (bytes : Bytes) (remaining : Tokens) → AreInFile file (length bytes) remaining → (next_span file bytes remaining).at ≤ length bytes
next_span_in_file file bytes [] h = omega arith
next_span_in_file file bytes (t ∷ ts) h = h.0.within
