-- What the spelling of a token is made of.
use Rattle.std.proofs.Common.{◌≡◌, ℕ, zero, suc, ◌≤◌, ◌<◌, Bool, true, false, ◌&&◌, List, [], ◌∷◌, length, take, take_while, refl, sym, ◌∙◌, ap, subst, arith, cond, ◌||◌}
use Rattle.std.specs.Prelude.{nat_le, nat_lt, nat_eq, not, All, ◌==◌}
use Rattle.std.specs.List.{starts_with, list_all}
use Rattle.std.specs.Cmp.Lexicographic.{same_text}
use Rattle.std.proofs.lemmas.Bool.Decides.{nat_tests}
use Rattle.std.proofs.lemmas.List.Folds.{length-prefix_len}
use Rattle.std.proofs.lemmas.List.Sums.{take_while-cons}
use Rattle.smv_expr.specs.declared.kind.Kind.{Kind}
use Rattle.smv_expr.specs.declared.kind.Kind.TheVariants as k
use Rattle.smv_expr.specs.declared.lexeme.Lexeme.{Lexeme}
use Rattle.smv_expr.specs.Lexicon.{Bytes, is_blank, is_letter, is_digit, is_name_part, words, marks, find_word, find_mark, word_lexeme, numeral_kind, numeral_lexeme, mark_lexeme, begins_comment, first_lexeme, same_kind, IsNumeral, AreDigits, numeral_value, greatest_number}
use Rattle.smv_expr.specs.RoundTrip.{is_name, is_small}
use Rattle.smv_expr.proofs.Booleans.{by_test, both_left, both_right, not_true, clash}

-- ---- a run of bytes

take_run : (p : ℕ → Bool) (text : Bytes) → take (length (take_while p text)) text ≡ take_while p text
take_run p text = ap (λ n. take n text) (length-prefix_len p text)

-- what each byte that passes the test keeps, each byte of a run keeps
one_more : (P : ℕ → Type 0) (b : ℕ) (more : Bytes) → P b → All P more → All P (b ∷ more)
one_more P b more here there zero d h = here
one_more P b more here there (suc i) d h = there i d (omega arith)

run_keeps : (p : ℕ → Bool) (P : ℕ → Type 0) → ((b : ℕ) → p b ≡ true → P b) → (text : Bytes) → All P (take_while p text)
run_keeps p P keeps [] = λ i d h. absurd (omega arith)
run_keeps p P keeps (b ∷ more) = subst (All P) (sym (take_while-cons p b more)) (by_test (All P) (p b) (b ∷ take_while p more) []
    (λ e. one_more P b (take_while p more) (keeps b e) (run_keeps p P keeps more)) (λ e i d h. absurd (omega arith)))

name_part_ascii : (b : ℕ) → is_name_part b ≡ true → b < 128
name_part_ascii b h = grind (arith, nat_tests)

digit_bounds : (b : ℕ) → is_digit b ≡ true → (48 ≤ b) × (b ≤ 57)
digit_bounds b h = (grind (arith, nat_tests), grind (arith, nat_tests))

-- ---- the kinds of a table

-- no entry of the table has this kind
abbrev pub lacks : Kind → List (Bytes × Kind) → Bool
lacks kind [] = true
lacks kind (entry ∷ more) = not (same_kind entry.1 kind) && lacks kind more

abbrev IsOther : Kind → Kind → Type 0
IsOther kind found = same_kind found kind ≡ false

find_word_other : (kind : Kind) (table : List (Bytes × Kind)) (text : Bytes) → IsOther kind k.Name → lacks kind table ≡ true → IsOther kind (find_word table text)
find_word_other kind [] text h l = h
find_word_other kind (entry ∷ more) text h l = by_test (IsOther kind) _ entry.1 (find_word more text)
    (λ e. not_true _ (both_left _ _ l)) (λ e. find_word_other kind more text h (both_right _ _ l))

find_mark_other : (kind : Kind) (table : List (Bytes × Kind)) (text : Bytes) → IsOther kind k.Unknown → lacks kind table ≡ true → IsOther kind (find_mark table text).kind
find_mark_other kind [] text h l = h
find_mark_other kind (entry ∷ more) text h l = by_test (λ (x : Lexeme). IsOther kind x.kind) _ (record { kind = entry.1; len = length entry.0 }) (find_mark more text)
    (λ e. not_true _ (both_left _ _ l)) (λ e. find_mark_other kind more text h (both_right _ _ l))

-- ---- spellings

-- where the lexeme is of this kind, its spelling keeps P
abbrev Spells : (kind : Kind) (P : Bytes → Type 0) (text : Bytes) → Lexeme → Type 0
Spells kind P text l = same_kind l.kind kind ≡ true → P (take l.len text)

numeral_kind_other : (kind : Kind) (digits : Bytes) → IsOther kind k.Numeral → IsOther kind k.WideNumeral → IsOther kind (numeral_kind digits)
numeral_kind_other kind digits h h' = by_test (IsOther kind) _ k.Numeral k.WideNumeral (λ e. h) (λ e. h')

name_spells : (b : ℕ) (more : Bytes) → Spells k.Name (All (λ c. c < 128)) (b ∷ more) (first_lexeme (b ∷ more))
unfolding first_lexeme word_lexeme numeral_lexeme mark_lexeme marks same_kind
name_spells b more = let ascii : Bytes → Type 0 = All (λ c. c < 128) in
    by_test (Spells k.Name ascii (b ∷ more)) (is_blank b) _ _ (λ e h. absurd (clash _ h refl)) (λ e0.
    by_test (Spells k.Name ascii (b ∷ more)) (begins_comment (b ∷ more)) _ _ (λ e h. absurd (clash _ h refl)) (λ e1.
    by_test (Spells k.Name ascii (b ∷ more)) (is_letter b) _ _ (λ e h. subst ascii (sym (take_run is_name_part (b ∷ more))) (run_keeps is_name_part (λ c. c < 128) name_part_ascii (b ∷ more))) (λ e2.
    by_test (Spells k.Name ascii (b ∷ more)) (is_digit b) _ _
    (λ e h. absurd (clash _ h (numeral_kind_other k.Name (take_while is_digit (b ∷ more)) refl refl)))
    (λ e3 h. absurd (clash _ h (find_mark_other k.Name marks (b ∷ more) refl refl))))))

-- ---- words and marks that are left out

-- each mark of the table is ASCII
abbrev pub is_ascii : Bytes → Bool
is_ascii [] = true
is_ascii (b ∷ more) = nat_lt b 128 && is_ascii more

abbrev pub are_ascii : List (Bytes × Kind) → Bool
are_ascii [] = true
are_ascii (entry ∷ more) = is_ascii entry.0 && are_ascii more

below_128 : (b : ℕ) → nat_lt b 128 ≡ true → b < 128
below_128 b h = grind (arith, nat_tests)

ascii_bytes : (bytes : Bytes) → is_ascii bytes ≡ true → All (λ c. c < 128) bytes
ascii_bytes [] h = λ i d h. absurd (omega arith)
ascii_bytes (b ∷ more) h = one_more (λ c. c < 128) b more (below_128 b (both_left _ _ h)) (ascii_bytes more (both_right _ _ h))

mark_ascii : (kind : Kind) (table : List (Bytes × Kind)) (text : Bytes) → IsOther kind k.Unknown → are_ascii table ≡ true → Spells kind (All (λ c. c < 128)) text (find_mark table text)
mark_ascii kind [] text h a = λ e. absurd (clash _ e h)
mark_ascii kind (entry ∷ more) text h a = by_test (Spells kind (All (λ c. c < 128)) text) (starts_with nat_eq text entry.0) (record { kind = entry.1; len = length entry.0 }) (find_mark more text)
    (λ e same. subst (All (λ c. c < 128)) (same_text entry.0 (take (length entry.0) text) (sym e)) (ascii_bytes entry.0 (both_left _ _ a)))
    (λ e. mark_ascii kind more text h (both_right _ _ a))

left_out_spells : (b : ℕ) (more : Bytes) → Spells k.LeftOut (All (λ c. c < 128)) (b ∷ more) (first_lexeme (b ∷ more))
unfolding first_lexeme word_lexeme numeral_lexeme mark_lexeme marks same_kind
left_out_spells b more = let ascii : Bytes → Type 0 = All (λ c. c < 128) in
    by_test (Spells k.LeftOut ascii (b ∷ more)) (is_blank b) _ _ (λ e h. absurd (clash _ h refl)) (λ e0.
    by_test (Spells k.LeftOut ascii (b ∷ more)) (begins_comment (b ∷ more)) _ _ (λ e h. absurd (clash _ h refl)) (λ e1.
    by_test (Spells k.LeftOut ascii (b ∷ more)) (is_letter b) _ _ (λ e h. subst ascii (sym (take_run is_name_part (b ∷ more))) (run_keeps is_name_part (λ c. c < 128) name_part_ascii (b ∷ more))) (λ e2.
    by_test (Spells k.LeftOut ascii (b ∷ more)) (is_digit b) _ _
    (λ e h. absurd (clash _ h (numeral_kind_other k.LeftOut (take_while is_digit (b ∷ more)) refl refl)))
    (λ e3. mark_ascii k.LeftOut marks (b ∷ more) refl refl))))

-- not wide, as `numeral_kind` says
small_numeral : (digits : Bytes) → same_kind (numeral_kind digits) k.Numeral ≡ true → numeral_value digits ≤ greatest_number
unfolding same_kind
small_numeral digits = by_test (λ kind. same_kind kind k.Numeral ≡ true → numeral_value digits ≤ greatest_number) (nat_le (numeral_value digits) greatest_number) k.Numeral k.WideNumeral (λ e h. grind (arith, nat_tests)) (λ e h. cc)

-- a run of digits
pub run_of_digits : (text : Bytes) → AreDigits (take_while is_digit text)
run_of_digits text = run_keeps is_digit (λ c. (48 ≤ c) × (c ≤ 57)) digit_bounds text

digits_are : (text : Bytes) → same_kind (numeral_kind (take_while is_digit text)) k.Numeral ≡ true → IsNumeral (take_while is_digit text)
digits_are text h = record { within = small_numeral (take_while is_digit text) h; digit = run_of_digits text }

numeral_spells : (b : ℕ) (more : Bytes) → Spells k.Numeral IsNumeral (b ∷ more) (first_lexeme (b ∷ more))
unfolding first_lexeme word_lexeme numeral_lexeme mark_lexeme marks words same_kind
numeral_spells b more =
    by_test (Spells k.Numeral IsNumeral (b ∷ more)) (is_blank b) _ _ (λ e h. absurd (clash _ h refl)) (λ e0.
    by_test (Spells k.Numeral IsNumeral (b ∷ more)) (begins_comment (b ∷ more)) _ _ (λ e h. absurd (clash _ h refl)) (λ e1.
    by_test (Spells k.Numeral IsNumeral (b ∷ more)) (is_letter b) _ _ (λ e h. absurd (clash _ h (find_word_other k.Numeral words (take_while is_name_part (b ∷ more)) refl refl))) (λ e2.
    by_test (Spells k.Numeral IsNumeral (b ∷ more)) (is_digit b) _ _
    (λ e h. subst IsNumeral (sym (take_run is_digit (b ∷ more))) (digits_are (b ∷ more) h))
    (λ e3 h. absurd (clash _ h (find_mark_other k.Numeral marks (b ∷ more) refl refl))))))

pub name_ascii : (l : Lexeme) (text : Bytes) → l ≡ first_lexeme text → 0 < length text → same_kind l.kind k.Name ≡ true → All (λ c. c < 128) (take l.len text)
name_ascii l [] e some h = absurd (omega arith)
name_ascii l (b ∷ more) e some h = subst (Spells k.Name (All (λ c. c < 128)) (b ∷ more)) (sym e) (name_spells b more) h

pub left_out_ascii : (l : Lexeme) (text : Bytes) → l ≡ first_lexeme text → 0 < length text → same_kind l.kind k.LeftOut ≡ true → All (λ c. c < 128) (take l.len text)
left_out_ascii l [] e some h = absurd (omega arith)
left_out_ascii l (b ∷ more) e some h = subst (Spells k.LeftOut (All (λ c. c < 128)) (b ∷ more)) (sym e) (left_out_spells b more) h

pub numeral_digits : (l : Lexeme) (text : Bytes) → l ≡ first_lexeme text → 0 < length text → same_kind l.kind k.Numeral ≡ true → IsNumeral (take l.len text)
numeral_digits l [] e some h = absurd (omega arith)
numeral_digits l (b ∷ more) e some h = subst (Spells k.Numeral IsNumeral (b ∷ more)) (sym e) (numeral_spells b more) h

-- ---- names

both : (v w : Bool) → v ≡ true → w ≡ true → v && w ≡ true
both true true e f = refl
both true false e f = cc
both false w e f = cc

each_part : (text : Bytes) → list_all is_name_part (take_while is_name_part text) ≡ true
each_part [] = refl
each_part (b ∷ more) = subst (λ (x : Bytes). list_all is_name_part x ≡ true) (sym (take_while-cons is_name_part b more))
    (by_test (λ (x : Bytes). list_all is_name_part x ≡ true) (is_name_part b) (b ∷ take_while is_name_part more) [] (λ e. both _ _ e (each_part more)) (λ e. refl))

letter_part : (b : ℕ) → is_letter b ≡ true → is_name_part b ≡ true
letter_part b e = ap (λ v. v || (is_digit b || (b == 36 || b == 35))) e

named : (b : ℕ) (more : Bytes) → is_letter b ≡ true → same_kind (find_word words (take_while is_name_part (b ∷ more))) k.Name ≡ true → is_name (take_while is_name_part (b ∷ more)) ≡ true
named b more e h =
    let run : take_while is_name_part (b ∷ more) ≡ b ∷ take_while is_name_part more = take_while-cons is_name_part b more ∙ ap (λ v. cond v (b ∷ take_while is_name_part more) []) (letter_part b e) in
    subst (λ (x : Bytes). is_name x ≡ true) (sym run) (both _ _ (both _ _ e (each_part more)) (subst (λ (x : Bytes). same_kind (find_word words x) k.Name ≡ true) run h))

name_is : (b : ℕ) (more : Bytes) → Spells k.Name (λ x. is_name x ≡ true) (b ∷ more) (first_lexeme (b ∷ more))
unfolding first_lexeme word_lexeme numeral_lexeme mark_lexeme marks same_kind
name_is b more = let known : Bytes → Type 0 = λ x. is_name x ≡ true in
    by_test (Spells k.Name known (b ∷ more)) (is_blank b) _ _ (λ e h. absurd (clash _ h refl)) (λ e0.
    by_test (Spells k.Name known (b ∷ more)) (begins_comment (b ∷ more)) _ _ (λ e h. absurd (clash _ h refl)) (λ e1.
    by_test (Spells k.Name known (b ∷ more)) (is_letter b) _ _ (λ e h. subst known (sym (take_run is_name_part (b ∷ more))) (named b more e h)) (λ e2.
    by_test (Spells k.Name known (b ∷ more)) (is_digit b) _ _
    (λ e h. absurd (clash _ h (numeral_kind_other k.Name (take_while is_digit (b ∷ more)) refl refl)))
    (λ e3 h. absurd (clash _ h (find_mark_other k.Name marks (b ∷ more) refl refl))))))

pub name_spelled : (b : ℕ) (more : Bytes) → same_kind (first_lexeme (b ∷ more)).kind k.Name ≡ true → is_name (take (first_lexeme (b ∷ more)).len (b ∷ more)) ≡ true
name_spelled b more h = name_is b more h

small_is : (n : ℕ) → n ≤ greatest_number → is_small n ≡ true
small_is n u = grind (arith, nat_tests)

pub numeral_spelled : (b : ℕ) (more : Bytes) → same_kind (first_lexeme (b ∷ more)).kind k.Numeral ≡ true → is_small (numeral_value (take (first_lexeme (b ∷ more)).len (b ∷ more))) ≡ true
numeral_spelled b more h = let n = numeral_spells b more h in small_is (numeral_value (take (first_lexeme (b ∷ more)).len (b ∷ more))) n.within
