-- Words and numerals of canonical texts, wherever they stand.
use Rattle.std.proofs.Common.{◌≡◌, ℕ, ◌+◌, ◌/◌, ◌%◌, ◌<◌, ◌≤◌, ◌^◌, Bool, true, false, ◌&&◌, ◌||◌, [], ◌∷◌, ◌++◌, length, length-append, take, drop, take_while, Some, None, cond, refl, sym, ◌∙◌, ap, arith}
use Rattle.std.specs.Prelude.{not, nat_eq, ◌==◌}
use Rattle.std.specs.List.{list_all}
use Rattle.std.specs.Fmt.{decimal}
use Rattle.std.proofs.lemmas.Bool.Decides.{nat_tests}
use Rattle.std.proofs.lemmas.List.Sums.{take_while-cons, fold-append}
use Rattle.std.proofs.lemmas.Fmt.{decimal_by_steps}
use Rattle.std.proofs.Math.Seq.{take-append_seam, drop-append_seam}
use lib.Pointwise.{pointwise}
use Rattle.smv_expr.specs.declared.kind.Kind.{Kind}
use Rattle.smv_expr.specs.declared.kind.Kind.TheVariants as k
use Rattle.smv_expr.specs.declared.lexeme.Lexeme.{Lexeme}
use Rattle.smv_expr.specs.Lexicon.{Bytes, is_blank, is_letter, is_digit, is_name_part, words, find_word, word_lexeme, numeral_kind, numeral_lexeme, numeral_value, begins_comment, first_lexeme, same_kind, tokens_from}
use Rattle.smv_expr.specs.RoundTrip.{is_name, is_small}
use Rattle.smv_expr.specs.Language.{word, name, digits}
use Rattle.smv_expr.proofs.Booleans.{cond_true, cond_false, both_left, both_right}
use Rattle.smv_expr.proofs.Sets.{same_kind_true}
use Rattle.smv_expr.proofs.Cutting.{token_at, cut_token}
use Rattle.smv_expr.proofs.Cuts.{Spells, OneToken, token, one_token}

-- ---- what comes after a lexeme

-- anything
abbrev pub any : Bytes → Bool
any remaining = true

-- nothing that goes on with a word or a numeral
abbrev pub ends : Bytes → Bool
ends [] = true
ends (b ∷ more) = not (is_name_part b)

-- a word, a numeral or a parenthesis
abbrev pub plain : Bytes → Bool
plain [] = false
plain (b ∷ more) = is_name_part b || b == 40

-- ---- runs

run_ends : (p : ℕ → Bool) (run remaining : Bytes) → list_all p run ≡ true → take_while p remaining ≡ [] → take_while p (run ++ remaining) ≡ run
run_ends p [] remaining h e = e
run_ends p (b ∷ run) remaining h e = take_while-cons p b (run ++ remaining) ∙ cond_true (p b) _ _ (both_left _ _ h) ∙ ap (λ more. b ∷ more) (run_ends p run remaining (both_right _ _ h) e)

no_run : (p : ℕ → Bool) (remaining : Bytes) → ((b : ℕ) → p b ≡ true → is_name_part b ≡ true) → ends remaining ≡ true → take_while p remaining ≡ []
no_run p [] inside h = refl
no_run p (b ∷ more) inside h = take_while-cons p b more ∙ cond_false (p b) _ _ (by_case (p b) refl) where
  by_case : (v : Bool) → p b ≡ v → p b ≡ false
  by_case true e = let name = inside b e in cc
  by_case false e = e

-- one token before a text, by its lexeme
pub by_lexeme : (kind : Kind) (spelling : Bytes) (file start : ℕ) (remaining : Bytes) → 0 < length spelling → same_kind kind k.Space ≡ false
    → record { kind = kind; len = length spelling } ≡ first_lexeme (spelling ++ remaining) → OneToken kind spelling file start spelling remaining
unfolding token_at
by_lexeme kind spelling file start remaining some other e =
    let l : Lexeme = record { kind = kind; len = length spelling } in
    record {
      span = record { file = file; at = start };
      after_it = start + length spelling;
      is = cut_token file start l (spelling ++ remaining) e (omega (arith, some, length-append spelling remaining)) other
          ∙ ap (λ spelled. token kind spelled (record { file = file; at = start }) ∷ tokens_from file (start + length spelling) (drop (length spelling) (spelling ++ remaining))) (take-append_seam spelling remaining)
          ∙ ap (λ more. token kind spelling (record { file = file; at = start }) ∷ tokens_from file (start + length spelling) more) (drop-append_seam spelling remaining);
    }

-- ---- words

-- a letter, and then name parts
abbrev pub is_word : Bytes → Bool
is_word [] = false
is_word (b ∷ more) = is_letter b && list_all is_name_part more

part_no_blank : (b : ℕ) → is_name_part b ≡ true → is_blank b ≡ false
part_no_blank b h = grind (arith, nat_tests)

part_no_dash : (b : ℕ) → is_name_part b ≡ true → nat_eq 45 b ≡ false
part_no_dash b h = grind (arith, nat_tests)

letter_in_name : (b : ℕ) → is_letter b ≡ true → is_name_part b ≡ true
letter_in_name b h = ap (λ v. v || (is_digit b || (b == 36 || b == 35))) h

name_run : (b : ℕ) (more : Bytes) → is_letter b ≡ true → list_all is_name_part more ≡ true → list_all is_name_part (b ∷ more) ≡ true
name_run b more letter parts = ap (λ v. v && list_all is_name_part more) (letter_in_name b letter) ∙ parts

-- whether the text goes on with a dash
abbrev second_dash : Bytes → Bool
second_dash more = pointwise nat_eq (45 ∷ []) (take 1 more)

first_word : (b : ℕ) (more remaining : Bytes) → is_letter b ≡ true → list_all is_name_part more ≡ true → ends remaining ≡ true
    → record { kind = find_word words (b ∷ more); len = length (b ∷ more) } ≡ first_lexeme (b ∷ more ++ remaining)
unfolding first_lexeme word_lexeme
first_word b more remaining letter parts e =
    let run : take_while is_name_part (b ∷ more ++ remaining) ≡ b ∷ more = run_ends is_name_part (b ∷ more) remaining (name_run b more letter parts) (no_run is_name_part remaining (λ c h. h) e) in
    sym (cond_false (is_blank b) _ _ (part_no_blank b (letter_in_name b letter))
    ∙ cond_false (begins_comment (b ∷ more ++ remaining)) _ _ (ap (λ v. v && second_dash (more ++ remaining)) (part_no_dash b (letter_in_name b letter)))
    ∙ cond_true (is_letter b) _ _ letter
    ∙ ap (λ w. record { kind = find_word words w; len = length w }) run)

word_token : (kind : Kind) (spelling : Bytes) (file start : ℕ) (remaining : Bytes) → is_word spelling ≡ true → find_word words spelling ≡ kind → same_kind kind k.Space ≡ false → ends remaining ≡ true → OneToken kind spelling file start spelling remaining
word_token kind [] file start remaining h found other e = cc
word_token kind (b ∷ more) file start remaining h found other e = by_lexeme kind (b ∷ more) file start remaining (omega arith) other
    (ap (λ x. record { kind = x; len = length (b ∷ more) }) (sym found) ∙ first_word b more remaining (both_left _ _ h) (both_right _ _ h) e)

-- a reserved word
pub word_spells : (kind : Kind) (spelling : Bytes) → is_word spelling ≡ true → find_word words spelling ≡ kind → same_kind kind k.Space ≡ false → same_kind kind k.WideNumeral ≡ false → same_kind kind kind ≡ true
    → Spells (λ m. word kind) (λ at. Unit {0}) ends spelling
word_spells kind spelling h found other small same = one_token kind spelling (λ span. span) (λ span. ap (λ v. cond (v || false) (Some span) None) same) (λ span. tt) small
    (λ file start remaining e. word_token kind spelling file start remaining h found other e)

-- a name
pub name_spells : (spelling : Bytes) → is_name spelling ≡ true → Spells (λ m. name) (λ v. v.0 ≡ spelling) ends spelling
unfolding same_kind
name_spells [] h = cc
name_spells (b ∷ more) h = one_token k.Name (b ∷ more) (λ span. (b ∷ more, span)) (λ span. refl) (λ span. refl) refl
    (λ file start remaining e. word_token k.Name (b ∷ more) file start remaining (both_left _ _ h) (same_kind_true _ _ (both_right _ _ h)) refl e)

-- a mark before a name stays a mark of its own
pub name_plain : (spelling remaining : Bytes) → is_name spelling ≡ true → plain (spelling ++ remaining) ≡ true
name_plain [] remaining h = cc
name_plain (b ∷ more) remaining h = ap (λ v. v || b == 40) (letter_in_name b (both_left _ _ (both_left _ _ h)))

-- ---- numerals

-- digits that stand for n
record IsWritten (n : ℕ) (ds : Bytes) : Type 0 where
  some : 0 < length ds
  digit : list_all is_digit ds ≡ true
  value : numeral_value ds ≡ n

digit_is : (d : ℕ) → d < 10 → is_digit (48 + d) ≡ true
digit_is d h = grind (arith, nat_tests)

all_append : (p : ℕ → Bool) (xs ys : Bytes) → list_all p xs ≡ true → list_all p ys ≡ true → list_all p (xs ++ ys) ≡ true
all_append p [] ys h h' = h'
all_append p (x ∷ xs) ys h h' = ap (λ v. v && list_all p (xs ++ ys)) (both_left _ _ h) ∙ all_append p xs ys (both_right _ _ h) h'

one_digit : (n : ℕ) → n < 10 → IsWritten n ((48 + n) ∷ [])
one_digit n h = record { some = omega arith; digit = ap (λ v. v && true) (digit_is n h); value = omega arith }

more_digits : (n : ℕ) (ds : Bytes) → 10 ≤ n → IsWritten (n / 10) ds → IsWritten n (ds ++ (48 + n % 10) ∷ [])
more_digits n ds h w = record {
  some = omega (arith, length-append ds ((48 + n % 10) ∷ []));
  digit = all_append is_digit ds _ w.digit (ap (λ v. v && true) (digit_is (n % 10) (omega arith)));
  value = fold-append _ 0 ds ((48 + n % 10) ∷ []) ∙ (let e = w.value in omega (arith, e));
}

written : (n : ℕ) → n < 2 ^ 64 → IsWritten n (decimal n)
written = decimal_by_steps IsWritten one_digit more_digits

digit_no_letter : (b : ℕ) → is_digit b ≡ true → is_letter b ≡ false
digit_no_letter b h = grind (arith, nat_tests)

digit_in_name : (b : ℕ) → is_digit b ≡ true → is_name_part b ≡ true
digit_in_name b h = grind (arith, nat_tests)

first_numeral : (ds remaining : Bytes) → 0 < length ds → list_all is_digit ds ≡ true → ends remaining ≡ true → record { kind = numeral_kind ds; len = length ds } ≡ first_lexeme (ds ++ remaining)
unfolding first_lexeme numeral_lexeme
first_numeral [] remaining some digit e = absurd (omega arith)
first_numeral (b ∷ more) remaining some digit e =
    let run : take_while is_digit (b ∷ more ++ remaining) ≡ b ∷ more = run_ends is_digit (b ∷ more) remaining digit (no_run is_digit remaining digit_in_name e) in
    let here : is_digit b ≡ true = both_left _ _ digit in
    sym (cond_false (is_blank b) _ _ (part_no_blank b (digit_in_name b here))
    ∙ cond_false (begins_comment (b ∷ more ++ remaining)) _ _ (ap (λ v. v && second_dash (more ++ remaining)) (part_no_dash b (digit_in_name b here)))
    ∙ cond_false (is_letter b) _ _ (digit_no_letter b here)
    ∙ cond_true (is_digit b) _ _ here
    ∙ ap (λ w. record { kind = numeral_kind w; len = length w }) run)

small_kind : (n : ℕ) (ds : Bytes) → numeral_value ds ≡ n → is_small n ≡ true → numeral_kind ds ≡ k.Numeral
small_kind n ds value small = cond_true _ _ _ (ap is_small value ∙ small)

small_fits : (n : ℕ) → is_small n ≡ true → n < 2 ^ 64
small_fits n h = grind (arith, nat_tests)

digits_plain : (ds remaining : Bytes) → 0 < length ds → list_all is_digit ds ≡ true → plain (ds ++ remaining) ≡ true
digits_plain [] remaining some digit = absurd (omega arith)
digits_plain (b ∷ more) remaining some digit = ap (λ v. v || b == 40) (digit_in_name b (both_left _ _ digit))

-- the numeral of a number within the limit
pub numeral_spells : (n : ℕ) → is_small n ≡ true → Spells (λ m. digits true) (λ v. v.0 ≡ n) ends (decimal n)
unfolding same_kind
numeral_spells n small = let w = written n (small_fits n small) in
    one_token k.Numeral (decimal n) (λ span. (numeral_value (decimal n), span)) (λ span. refl) (λ span. w.value) refl
    (λ file start remaining e. by_lexeme k.Numeral (decimal n) file start remaining w.some refl
    (ap (λ kind. record { kind = kind; len = length (decimal n) }) (sym (small_kind n (decimal n) w.value small)) ∙ first_numeral (decimal n) remaining w.some w.digit e))

-- the same of a mark before a numeral
pub decimal_plain : (n : ℕ) (remaining : Bytes) → is_small n ≡ true → plain (decimal n ++ remaining) ≡ true
decimal_plain n remaining small = let w = written n (small_fits n small) in digits_plain (decimal n) remaining w.some w.digit
