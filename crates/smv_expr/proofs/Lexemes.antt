-- Facts about what stands at the start of a text.
use Rattle.std.proofs.Common.{◌≡◌, ℕ, ◌≤◌, ◌<◌, Bool, true, false, ◌||◌, List, [], ◌∷◌, length, take, take_while, refl, sym, ap, subst, arith}
use Rattle.std.specs.Prelude.{nat_eq, codes, ◌==◌}
use Rattle.std.specs.List.{starts_with}
use Rattle.std.specs.Cmp.Lexicographic.{same_text}
use Rattle.std.proofs.lemmas.List.{length-take}
use Rattle.std.proofs.lemmas.List.Folds.{length-prefix_len}
use Rattle.std.proofs.lemmas.List.Sums.{prefix_len-le-length, take_while-cons}
use Rattle.smv_expr.specs.declared.kind.Kind.{Kind}
use Rattle.smv_expr.specs.declared.kind.Kind.TheVariants as k
use Rattle.smv_expr.specs.declared.lexeme.Lexeme.{Lexeme}
use Rattle.smv_expr.proofs.Booleans.{by_test}
use Rattle.smv_expr.specs.Lexicon.{Bytes, is_blank, is_letter, is_digit, is_name_part, is_in_line, marks, find_mark, word_lexeme, numeral_lexeme, mark_lexeme, begins_comment, first_lexeme}

-- ---- a lexeme takes some of the text, and no more than there is

pub record Fits (text : Bytes) (l : Lexeme) : Type 0 where
  pub some : 0 < l.len
  pub within : l.len ≤ length text

first_passes : (p : ℕ → Bool) (b : ℕ) (more : Bytes) → p b ≡ true → 0 < length (take_while p (b ∷ more))
first_passes p b more h = rw (take_while-cons p b more, h) (omega arith)

run_within : (p : ℕ → Bool) (text : Bytes) → length (take_while p text) ≤ length text
run_within p text = omega (arith, length-prefix_len p text, prefix_len-le-length p text)

run_fits : (p : ℕ → Bool) (kind : Kind) (b : ℕ) (more : Bytes) → p b ≡ true → Fits (b ∷ more) (record { kind = kind; len = length (take_while p (b ∷ more)) })
run_fits p kind b more h = record { some = first_passes p b more h; within = run_within p (b ∷ more) }

one_fits : (kind : Kind) (b : ℕ) (more : Bytes) → Fits (b ∷ more) (record { kind = kind; len = 1 })
one_fits kind b more = record { some = omega arith; within = omega arith }

-- each mark of a table has a spelling
abbrev pub no_empty : List (Bytes × Kind) → Bool
no_empty [] = true
no_empty (([], kind) ∷ more) = false
no_empty ((b ∷ spelling, kind) ∷ more) = no_empty more

mark_within : (text spelling : Bytes) → starts_with nat_eq text spelling ≡ true → length spelling ≤ length text
mark_within text spelling h = omega (arith, ap length (same_text spelling (take (length spelling) text) (sym h)), length-take (length spelling) text)

mark_fits : (table : List (Bytes × Kind)) (b : ℕ) (more : Bytes) → no_empty table ≡ true → Fits (b ∷ more) (find_mark table (b ∷ more))
mark_fits [] b more h = one_fits k.Unknown b more
mark_fits (([], kind) ∷ table) b more h = cc
mark_fits ((c ∷ spelling, kind) ∷ table) b more h = by_test (Fits (b ∷ more)) (starts_with nat_eq (b ∷ more) (c ∷ spelling)) _ _
    (λ e. record { some = omega arith; within = mark_within (b ∷ more) (c ∷ spelling) e })
    (λ e. mark_fits table b more h)

letter_in_name : (b : ℕ) → is_letter b ≡ true → is_name_part b ≡ true
letter_in_name b h = ap (λ x. x || (is_digit b || (b == 36 || b == 35))) h

-- a comment begins with a dash, which is not the end of a line
dash_in_line : (b : ℕ) (more : Bytes) → begins_comment (b ∷ more) ≡ true → is_in_line b ≡ true
dash_in_line b more h =
    let same : codes "--" ≡ take 2 (b ∷ more) = same_text (codes "--") (take 2 (b ∷ more)) (sym h) in
    let dash : 45 ≡ b = cc in
    subst (λ (x : ℕ). is_in_line x ≡ true) dash refl

pub lexeme_fits : (b : ℕ) (more : Bytes) → Fits (b ∷ more) (first_lexeme (b ∷ more))
unfolding first_lexeme word_lexeme numeral_lexeme mark_lexeme marks
lexeme_fits b more = let P : Lexeme → Type 0 = Fits (b ∷ more) in
    by_test P (is_blank b) _ _ (λ e. one_fits k.Space b more) (λ e0.
    by_test P (begins_comment (b ∷ more)) _ _ (λ e. run_fits is_in_line k.Space b more (dash_in_line b more e)) (λ e1.
    by_test P (is_letter b) _ _ (λ e. run_fits is_name_part _ b more (letter_in_name b e)) (λ e2.
    by_test P (is_digit b) _ _ (λ e. run_fits is_digit _ b more e) (λ e3. mark_fits marks b more refl))))
