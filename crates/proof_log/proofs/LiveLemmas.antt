-- The lines that stand, as lines are added and retired.
use Rattle.std.proofs.Common.{◌≡◌, ℕ, List, [], ◌∷◌, ◌++◌, Option, Some, None, arith, refl, ◌<◌, ◌≤◌, ◌⊎◌, inl, inr, length, get_or, set, take, slice_get, nat_lt, if◌then◌else◌, sym, ◌∙◌, ap}
use Rattle.std.specs.Prelude.{map}
use Rattle.std.specs.Option.{option_map}
use Rattle.std.proofs.lemmas.Bool.{cases_order}
use Rattle.std.proofs.lemmas.Bool.Decides.{nat_tests}
use Rattle.std.proofs.lemmas.List.{map-append, map-set, take-append-le, take-set-le, get_or-take}
use Rattle.std.proofs.lemmas.Option.{get_or_from_slice_get, slice_get-map}
use Rattle.std.proofs.Math.Seq.{take-length, take-set-lt, map-set_same}
use Rattle.sat_lits.proofs.Numbered.{map_same, slice_get-map_from}
use Rattle.proof_log.specs.declared.log.Line.{Line}
use Rattle.proof_log.specs.Logged.{unless_retired, live_lines, unless_retired_by, live_lines_at}

-- the clause of a line that stands, and as it stood
abbrev pub status : Line → Option (List ℕ)
status line = unless_retired line.retired line.clause

abbrev pub status_at : ℕ → Line → Option (List ℕ)
status_at now line = unless_retired_by now line.retired line.clause

-- the line, retired at this count
abbrev pub retired_line : Line → ℕ → Line
retired_line line count = record line { retired = Some count }

later : (now count : ℕ) (x y : Option (List ℕ)) → count ≤ now → (if nat_lt now count then x else y) ≡ y
later now count x y le = grind (arith, nat_tests)

earlier : (now count : ℕ) (x y : Option (List ℕ)) → now < count → (if nat_lt now count then x else y) ≡ x
earlier now count x y lt = grind (arith, nat_tests)

-- a line that was retired by now stands no more
unless_retired_by-now : (now : ℕ) (retired : Option ℕ) (clause : List ℕ) → ((count : ℕ) → retired ≡ Some count → count ≤ now) → unless_retired_by now retired clause ≡ unless_retired retired clause
unless_retired_by-now now None clause past = refl
unless_retired_by-now now (Some count) clause past = later now count (Some clause) None (past count refl)

-- what stands now is what stood when the log got its last line
pub live_lines_at-now : (lines : List Line) → ((i count : ℕ) (line : Line) → slice_get lines i ≡ Some line → line.retired ≡ Some count → count ≤ length lines) → live_lines_at (length lines) lines ≡ live_lines lines
live_lines_at-now lines past =
    ap (map (status_at (length lines))) (take-length lines)
    ∙ map_same (status_at (length lines)) status lines (λ i line is. unless_retired_by-now (length lines) line.retired line.clause (λ count e. past i count line is e))

-- a new line does not change what stood before
pub live_lines_at-push : (lines more : List Line) (i : ℕ) → i ≤ length lines → live_lines_at i (lines ++ more) ≡ live_lines_at i lines
live_lines_at-push lines more i le = ap (map (status_at i)) (take-append-le i lines more le)

pub live_lines-push : (lines : List Line) (line : Line) → live_lines (lines ++ line ∷ []) ≡ live_lines lines ++ status line ∷ []
live_lines-push lines line = map-append status lines (line ∷ [])

unretired : (now : ℕ) (retired : Option ℕ) (clause : List ℕ) → retired ≡ None → unless_retired_by now retired clause ≡ Some clause
unretired now None clause e = refl
unretired now (Some count) clause e = cc

-- nor does a line that is retired later
pub live_lines_at-retire : (lines : List Line) (i j : ℕ) (line : Line) → slice_get lines i ≡ Some line → line.retired ≡ None → j < length lines → live_lines_at j (set lines i (retired_line line (length lines))) ≡ live_lines_at j lines
live_lines_at-retire lines i j line is stands within = elim (order i j) [
  | inl not_before ↦ ap (map (status_at j)) (take-set-le j lines i (retired_line line (length lines)) not_before)
  | inr before ↦
      ap (map (status_at j)) (take-set-lt j lines i (retired_line line (length lines)) before)
      ∙ map-set_same (status_at j) (take j lines) i (retired_line line (length lines)) line
      (earlier j (length lines) (Some line.clause) None within ∙ sym (unretired j line.retired line.clause stands) ∙ ap (status_at j) (sym (at before)))
]
  where
    order : (i j : ℕ) → (j ≤ i) ⊎ (i < j)
    order i j = elim (cases_order i j) [
      | inl e ↦ inl (omega arith)
      | inr apart ↦ elim apart [ inl before ↦ inr before | inr behind ↦ inl (omega arith) ]
    ]

    at : i < j → get_or (take j lines) i line ≡ line
    at before = get_or-take j lines i line before ∙ get_or_from_slice_get lines i line line is

-- a retired line stands no more
pub live_lines-retire : (lines : List Line) (i count : ℕ) (line : Line) → live_lines (set lines i (retired_line line count)) ≡ set (live_lines lines) i None
live_lines-retire lines i count line = map-set status lines i (retired_line line count)

kept : (retired : Option ℕ) (clause other : List ℕ) → unless_retired retired clause ≡ Some other → (retired ≡ None) × (clause ≡ other)
kept None clause other e = (refl, cc)
kept (Some count) clause other e = cc

-- a clause that stands is that of a line that was not retired
pub live_line : (lines : List Line) (i : ℕ) (clause : List ℕ) → slice_get (live_lines lines) i ≡ Some (Some clause) → (line : Line) × (slice_get lines i ≡ Some line) × (line.retired ≡ None) × (line.clause ≡ clause)
live_line lines i clause e =
    let found = slice_get-map_from status lines i (Some clause) e in
    let is = kept found.0.retired found.0.clause clause found.2 in
    (found.0, found.1, is.0, is.1)

pub stands : (retired : Option ℕ) (clause : List ℕ) → retired ≡ None → unless_retired retired clause ≡ Some clause
stands None clause e = refl
stands (Some count) clause e = cc

-- the clause of a line that was not retired stands
pub line_is_live : (lines : List Line) (i : ℕ) (line : Line) → slice_get lines i ≡ Some line → line.retired ≡ None → slice_get (live_lines lines) i ≡ Some (Some line.clause)
line_is_live lines i line is e = slice_get-map status lines i ∙ ap (option_map status) is ∙ ap Some (stands line.retired line.clause e)
