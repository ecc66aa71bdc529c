-- The tokens of a text: first that of the lexeme at its start, then those after it.
use Rattle.std.proofs.Common.{◌≡◌, ℕ, zero, suc, ◌+◌, ◌-◌, ◌<◌, [], ◌∷◌, length, take, drop, refl, sym, ◌∙◌, ap, subst, arith, true, false}
use Rattle.smv_expr.specs.declared.kind.Kind.TheVariants as k
use Rattle.smv_expr.specs.declared.lexeme.Lexeme.{Lexeme}
use Rattle.smv_expr.specs.Lexicon.{Bytes, Token, first_lexeme, same_kind, tokens_from, tokens_in}
use Rattle.smv_expr.proofs.Booleans.{cond_true, cond_false}
use Rattle.smv_expr.proofs.Lexemes.{Fits, lexeme_fits}

-- bytes of the lexeme before are skipped
pub tokens_in-drop : (left file at : ℕ) (text : Bytes) → tokens_in left file at text ≡ tokens_from file (at + left) (drop left text)
tokens_in-drop zero file at text = ap (λ n. tokens_in zero file n text) (let e : at ≡ at + 0 = omega arith in e)
tokens_in-drop (suc left) file at [] = refl
tokens_in-drop (suc left) file at (b ∷ more) = tokens_in-drop left file (at + 1) more ∙ ap (λ n. tokens_from file n (drop left more)) (let e : at + 1 + left ≡ at + suc left = omega arith in e)

after_it : (len file at : ℕ) (b : ℕ) (more : Bytes) → 0 < len → tokens_in (len - 1) file (at + 1) more ≡ tokens_from file (at + len) (drop len (b ∷ more))
after_it zero file at b more h = absurd (omega arith)
after_it (suc n) file at b more h = ap (λ x. tokens_in x file (at + 1) more) (let e : suc n - 1 ≡ n = omega arith in e) ∙ tokens_in-drop n file (at + 1) more
    ∙ ap (λ x. tokens_from file x (drop n more)) (let e : at + 1 + n ≡ at + suc n = omega arith in e)

unfoldable pub token_at : ℕ → ℕ → Lexeme → Bytes → Token
token_at file at l text = record { kind = l.kind; at = record { file = file; at = at }; text = take l.len text }

space_first : (file at : ℕ) (text : Bytes) → 0 < length text → same_kind (first_lexeme text).kind k.Space ≡ true
    → tokens_from file at text ≡ tokens_from file (at + (first_lexeme text).len) (drop (first_lexeme text).len text)
space_first file at [] some e = absurd (omega arith)
space_first file at (b ∷ more) some e = cond_true _ _ _ e ∙ after_it (first_lexeme (b ∷ more)).len file at b more (lexeme_fits b more).some

token_first : (file at : ℕ) (text : Bytes) → 0 < length text → same_kind (first_lexeme text).kind k.Space ≡ false
    → tokens_from file at text ≡ token_at file at (first_lexeme text) text ∷ tokens_from file (at + (first_lexeme text).len) (drop (first_lexeme text).len text)
unfolding token_at
token_first file at [] some e = absurd (omega arith)
token_first file at (b ∷ more) some e = cond_false _ _ _ e ∙ ap (λ x. token_at file at (first_lexeme (b ∷ more)) (b ∷ more) ∷ x) (after_it (first_lexeme (b ∷ more)).len file at b more (lexeme_fits b more).some)

-- a space at the front stands for no token
pub skipped_space : (file at : ℕ) (l : Lexeme) (text remaining : Bytes) → l ≡ first_lexeme text → 0 < length text → same_kind l.kind k.Space ≡ true → remaining ≡ drop l.len text
    → tokens_from file (at + l.len) remaining ≡ tokens_from file at text
skipped_space file at l text remaining e some space d = ap (tokens_from file (at + l.len)) d
    ∙ sym (subst (λ (x : Lexeme). same_kind x.kind k.Space ≡ true → tokens_from file at text ≡ tokens_from file (at + x.len) (drop x.len text)) (sym e) (space_first file at text some) space)

-- any other lexeme is the first token
pub cut_token : (file at : ℕ) (l : Lexeme) (text : Bytes) → l ≡ first_lexeme text → 0 < length text → same_kind l.kind k.Space ≡ false
    → tokens_from file at text ≡ token_at file at l text ∷ tokens_from file (at + l.len) (drop l.len text)
cut_token file at l text e some other =
    subst (λ (x : Lexeme). same_kind x.kind k.Space ≡ false → tokens_from file at text ≡ token_at file at x text ∷ tokens_from file (at + x.len) (drop x.len text)) (sym e) (token_first file at text some) other

pub first_fits : (l : Lexeme) (text : Bytes) → l ≡ first_lexeme text → 0 < length text → Fits text l
first_fits l [] e some = absurd (omega arith)
first_fits l (b ∷ more) e some = subst (Fits (b ∷ more)) (sym e) (lexeme_fits b more)
