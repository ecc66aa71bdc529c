-- A log stays sound as axioms and lines are added and lines are retired.
use Rattle.std.proofs.Common.{◌≡◌, ℕ, List, [], ◌∷◌, ◌++◌, Option, Some, None, arith, refl, ◌<◌, ◌≤◌, ◌+◌, ◌⊎◌, inl, inr, length, set, slice_get, sym, ◌∙◌, ap, subst, zero, suc}
use Rattle.std.specs.Prelude.{Contains}
use Rattle.std.specs.Option.{option_map}
use Rattle.std.proofs.lemmas.Bool.{cases_eq, cases_order}
use Rattle.std.proofs.lemmas.List.{map-append, length-map, length-set, length_push}
use Rattle.std.proofs.Math.Seq.{map-set_same}
use Rattle.std.proofs.lemmas.Option.{slice_get_within, slice_get-map, get_or_from_slice_get}
use Rattle.sat_lits.specs.Clauses.{Follows}
use Rattle.sat_lits.specs.Steps.{named, negated, IsRupStep, LinesFollow, IsLive, HoldsUnit, IsRedundant, IsRetirable}
use Rattle.sat_lits.proofs.Numbered.{slice_get-push, slice_get-set_same, slice_get-set_other, slice_get-map_from}
use Rattle.sat_lits.proofs.Sound.{Refutes-names, named-append, Follows-append, Follows-from_rup_step}
use Rattle.sat_lits.proofs.Redundant.{HoldsUnit-append, HoldsUnit-retire}
use Rattle.proof_log.specs.declared.log.Line.{Line}
use Rattle.proof_log.specs.Logged.{Logged, live_lines, live_lines_at}
use Rattle.proof_log.specs.IsSound.{IsSound, clauses}
use Rattle.proof_log.proofs.LiveLemmas.{status, retired_line, live_lines_at-now, live_lines_at-push, live_lines_at-retire, live_lines-push, live_lines-retire, live_line, line_is_live}

abbrev log : List (List ℕ) → List Line → Logged
log axioms lines = record { axioms = axioms; lines = lines }

-- more axioms
pub IsSound-axioms : (axioms more : List (List ℕ)) (lines : List Line) → IsSound (log axioms lines) → IsSound (log (axioms ++ more) lines)
IsSound-axioms axioms more lines sound = record {
  right = λ i line is. Refutes-names (named axioms (live_lines_at i lines)) (named (axioms ++ more) (live_lines_at i lines)) (named-append axioms more (live_lines_at i lines)) line.hints (negated line.clause) (sound.right i line is);
  follow = λ i clause is. Follows-append axioms more clause (sound.follow i clause is);
  distinct = sound.distinct;
  plain = sound.plain;
  retired = sound.retired;
}

-- the lines that stand follow
pub LinesFollow-sound : (axioms : List (List ℕ)) (lines : List Line) → IsSound (log axioms lines) → LinesFollow axioms (live_lines lines)
LinesFollow-sound axioms lines sound zero clause is = cc
LinesFollow-sound axioms lines sound (suc i) clause is = sound.follow i clause (clause_at lines i clause is)
  where
    clause_at : (lines : List Line) (i : ℕ) (clause : List ℕ) → slice_get (live_lines lines) i ≡ Some (Some clause) → slice_get (clauses lines) i ≡ Some clause
    clause_at lines i clause is =
        let found = live_line lines i clause is in
        slice_get-map (λ (line : Line). line.clause) lines i ∙ ap (option_map (λ (line : Line). line.clause)) found.1 ∙ ap Some found.3

-- the clause of each line stands or holds a unit beside others
pub IsRedundant-line : (axioms : List (List ℕ)) (lines : List Line) (i : ℕ) (clause : List ℕ) → IsSound (log axioms lines) → slice_get (clauses lines) i ≡ Some clause → IsRedundant (live_lines lines) clause
IsRedundant-line axioms lines i clause sound is =
    let found = slice_get-map_from (λ (line : Line). line.clause) lines i clause is in
    at found.0 found.0.retired found.1 refl found.2
  where
    at : (line : Line) (retired : Option ℕ) → slice_get lines i ≡ Some line → line.retired ≡ retired → line.clause ≡ clause → IsRedundant (live_lines lines) clause
    at line None is e same = inr (suc i, subst (λ (c : List ℕ). slice_get (live_lines lines) i ≡ Some (Some c)) same (line_is_live lines i line is e))
    at line (Some count) is e same = inl (subst (HoldsUnit (live_lines lines)) same (sound.retired i count line is e).2)

-- an earlier unit clause stands
pub unit_is_live : (axioms : List (List ℕ)) (lines : List Line) (i l : ℕ) → IsSound (log axioms lines) → slice_get (clauses lines) i ≡ Some (l ∷ []) → IsLive (live_lines lines) (l ∷ [])
unit_is_live axioms lines i l sound is = elim (IsRedundant-line axioms lines i (l ∷ []) sound is) [
  | inl unit ↦ (let longer : 1 < length (l ∷ []) = unit.longer in absurd (omega arith))
  | inr stands ↦ stands
]

module _ (axioms : List (List ℕ)) (lines : List Line) (sound : IsSound (log axioms lines)) (line : Line) where
  abbrev more : List Line
  more = lines ++ line ∷ []

  clauses-push : clauses more ≡ clauses lines ++ line.clause ∷ []
  clauses-push = map-append (λ (l : Line). l.clause) lines (line ∷ [])

  -- a clause of the grown log is an old one or the new one
  clause_of : (i : ℕ) (clause : List ℕ) → slice_get (clauses more) i ≡ Some clause → (slice_get (clauses lines) i ≡ Some clause) ⊎ ((i ≡ length lines) × (line.clause ≡ clause))
  clause_of i clause is = elim (slice_get-push (clauses lines) line.clause clause i (ap (λ cs. slice_get cs i) (sym clauses-push) ∙ is)) [
    | inl old ↦ inl old
    | inr new ↦ inr (new.0 ∙ length-map lines (λ (l : Line). l.clause), new.1)
  ]

  past : (i count : ℕ) (l : Line) → slice_get lines i ≡ Some l → l.retired ≡ Some count → count ≤ length lines
  past i count l is e = (sound.retired i count l is e).1

  -- a new line, whose step is right, whose clause is new and holds no unit beside others
  pub IsSound-derive : line.retired ≡ None → IsRupStep axioms (live_lines lines) line.clause line.hints → (IsLive (live_lines lines) line.clause → ⊥) → (HoldsUnit (live_lines lines) line.clause → ⊥) → IsSound (log axioms more)
  IsSound-derive unretired right fresh plain = record {
    right = λ i l is. elim (slice_get-push lines line l i is) [
      | inl old ↦
          let within : i < length lines = slice_get_within lines i l old in
          subst (λ (before : List (Option (List ℕ))). IsRupStep axioms before l.clause l.hints) (sym (live_lines_at-push lines (line ∷ []) i (omega arith))) (sound.right i l old)
      | inr new ↦
          let all : length lines ≤ length lines = omega arith in
          let before : live_lines_at i more ≡ live_lines lines
          = ap (λ n. live_lines_at n more) new.0 ∙ live_lines_at-push lines (line ∷ []) (length lines) all ∙ live_lines_at-now lines past in
          subst (λ (s : List (Option (List ℕ))). IsRupStep axioms s l.clause l.hints) (sym before) (subst (λ (x : Line). IsRupStep axioms (live_lines lines) x.clause x.hints) new.1 right)
    ];
    follow = λ i clause is. elim (clause_of i clause is) [
      | inl old ↦ sound.follow i clause old
      | inr new ↦ subst (Follows axioms) new.1 (Follows-from_rup_step axioms (live_lines lines) line.clause line.hints (LinesFollow-sound axioms lines sound) right)
    ];
    distinct = λ i j clause is is'. elim (clause_of i clause is) [
      | inl old ↦ elim (clause_of j clause is') [
        | inl old' ↦ sound.distinct i j clause old old'
        | inr new' ↦ absurd (not_old i clause old new'.1)
      ]
      | inr new ↦ elim (clause_of j clause is') [
        | inl old' ↦ absurd (not_old j clause old' new.1)
        | inr new' ↦ new.0 ∙ sym new'.0
      ]
    ];
    plain = λ i j l clause before unit is holds. elim (clause_of i clause is) [
      | inl old ↦ elim (clause_of j (l ∷ []) unit) [
        | inl old' ↦ sound.plain i j l clause before old' old holds
        | inr new' ↦
            let within : i < length (clauses lines) = slice_get_within (clauses lines) i clause old in
            let same : length (clauses lines) ≡ length lines = length-map lines (λ (x : Line). x.clause) in
            let at : j ≡ length lines = new'.0 in
            absurd (omega arith)
      ]
      | inr new ↦ elim (clause_of j (l ∷ []) unit) [
        | inl old' ↦ short clause l new.1 holds (unit_is_live axioms lines j l sound old')
        | inr new' ↦ (let at : i ≡ length lines = new.0 in let at' : j ≡ length lines = new'.0 in absurd (omega arith))
      ]
    ];
    retired = λ i count l is e. elim (slice_get-push lines line l i is) [
      | inl old ↦
          let was = sound.retired i count l old e in
          let longer : length more ≡ length lines + 1 = length_push lines line in
          let le : count ≤ length lines = was.1 in
          (was.0, omega arith, subst (λ (s : List (Option (List ℕ))). HoldsUnit s l.clause) (sym (live_lines-push lines line)) (HoldsUnit-append (live_lines lines) (status line ∷ []) l.clause was.2))
      | inr new ↦ (let never : line.retired ≡ Some count = ap (λ (x : Line). x.retired) new.1 ∙ e in absurd (cc))
    ];
  }
    where
      not_old : (i : ℕ) (clause : List ℕ) → slice_get (clauses lines) i ≡ Some clause → line.clause ≡ clause → ⊥
      not_old i clause old same = elim (IsRedundant-line axioms lines i line.clause sound (old ∙ ap Some (sym same))) [ inl unit ↦ plain unit | inr stands ↦ fresh stands ]

      short : (clause : List ℕ) (l : ℕ) → line.clause ≡ clause → Contains clause l → IsLive (live_lines lines) (l ∷ []) → length clause ≤ 1
      short clause l same holds stands = elim (cases_order (length clause) 1) [
        | inl e ↦ omega arith
        | inr apart ↦ elim apart [
          | inl below ↦ omega arith
          | inr longer ↦ absurd (plain (subst (HoldsUnit (live_lines lines)) (sym same) (record { longer = longer; literal = l; holds = holds; stands = stands })))
        ]
      ]

module _ (axioms : List (List ℕ)) (lines : List Line) (sound : IsSound (log axioms lines)) (i : ℕ) (line : Line) (is : slice_get lines i ≡ Some line) (unretired : line.retired ≡ None) where
  abbrev marked : List Line
  marked = set lines i (retired_line line (length lines))

  clauses-retire : clauses marked ≡ clauses lines
  clauses-retire = map-set_same (λ (l : Line). l.clause) lines i (retired_line line (length lines)) line (ap (λ (l : Line). l.clause) (sym (get_or_from_slice_get lines i line line is)))

  -- the line under a number is the marked one or an old one
  line_at : (j : ℕ) (l : Line) → slice_get marked j ≡ Some l → ((j ≡ i) × (retired_line line (length lines) ≡ l)) ⊎ (slice_get lines j ≡ Some l)
  line_at j l at = elim (cases_eq j i) [
    | inl e ↦
        let here : slice_get marked j ≡ Some (retired_line line (length lines)) = ap (λ n. slice_get marked n) e ∙ slice_get-set_same lines i line (retired_line line (length lines)) is in
        inl (e, cc)
    | inr ne ↦ inr (sym (slice_get-set_other lines i j (retired_line line (length lines)) ne) ∙ at)
  ]

  -- a line that stands and holds a unit beside other literals is retired
  pub IsSound-retire : IsRetirable (live_lines lines) (suc i) → IsSound (log axioms marked)
  IsSound-retire retirable = record {
    right = λ j l at.
        let same : length marked ≡ length lines = length-set lines i (retired_line line (length lines)) in
        let within' : j < length marked = slice_get_within marked j l at in
        let within : j < length lines = omega arith in
        subst (λ (before : List (Option (List ℕ))). IsRupStep axioms before l.clause l.hints) (sym (live_lines_at-retire lines i j line is unretired within)) (right_at j l at);
    follow = subst (λ (cs : List (List ℕ)). (j : ℕ) (clause : List ℕ) → slice_get cs j ≡ Some clause → Follows axioms clause) (sym clauses-retire) sound.follow;
    distinct = subst (λ (cs : List (List ℕ)). (j k : ℕ) (clause : List ℕ) → slice_get cs j ≡ Some clause → slice_get cs k ≡ Some clause → j ≡ k) (sym clauses-retire) sound.distinct;
    plain = subst (λ (cs : List (List ℕ)). (j k l : ℕ) (clause : List ℕ) → k < j → slice_get cs k ≡ Some (l ∷ []) → slice_get cs j ≡ Some clause → Contains clause l → length clause ≤ 1) (sym clauses-retire) sound.plain;
    retired = λ j count l at e.
        let same : length marked ≡ length lines = length-set lines i (retired_line line (length lines)) in
        let unit : (clause : List ℕ) → HoldsUnit (live_lines lines) clause → HoldsUnit (live_lines marked) clause
        = λ clause holds. subst (λ (s : List (Option (List ℕ))). HoldsUnit s clause) (sym (live_lines-retire lines i (length lines) line)) (HoldsUnit-retire (live_lines lines) (suc i) clause retirable holds) in
        elim (line_at j l at) [
          | inl here ↦
              let is_count : Some (length lines) ≡ Some count = ap (λ (x : Line). x.retired) here.1 ∙ e in
              let count_is : length lines ≡ count = cc in
              let index : j ≡ i = here.0 in
              let within : i < length lines = slice_get_within lines i line is in
              (omega arith, omega arith, subst (λ (x : Line). HoldsUnit (live_lines marked) x.clause) here.1 (unit line.clause (subst (HoldsUnit (live_lines lines)) same_clause retirable.subsumed)))
          | inr old ↦
              let was = sound.retired j count l old e in
              let le : count ≤ length lines = was.1 in
              (was.0, omega arith, unit l.clause was.2)
        ];
  }
    where
      right_at : (j : ℕ) (l : Line) → slice_get marked j ≡ Some l → IsRupStep axioms (live_lines_at j lines) l.clause l.hints
      right_at j l at = elim (line_at j l at) [
        | inl here ↦ subst (λ (x : Line). IsRupStep axioms (live_lines_at j lines) x.clause x.hints) here.1 (subst (λ n. IsRupStep axioms (live_lines_at n lines) line.clause line.hints) (sym here.0) (sound.right i line is))
        | inr old ↦ sound.right j l old
      ]

      same_clause : retirable.clause ≡ line.clause
      same_clause = (let here : slice_get (live_lines lines) i ≡ Some (Some line.clause) = line_is_live lines i line is unretired in let there : slice_get (live_lines lines) i ≡ Some (Some retirable.clause) = retirable.stands in cc)
