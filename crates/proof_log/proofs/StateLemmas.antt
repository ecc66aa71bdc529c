-- The fields of a log stay together.
use Rattle.std.proofs.Common.{◌≡◌, ℕ, List, [], ◌∷◌, ◌++◌, Option, Some, None, arith, ◌<◌, ◌+◌, ◌^◌, length, set, slice_get, sym, ◌∙◌, ap, subst, suc}
use Rattle.std.proofs.lemmas.List.{length-map, length-set, length_push}
use Rattle.sat_lits.proofs.Numbered.{numbered-last}
use Rattle.sat_lits.specs.Steps.{numbered, IsRupStep, IsLive, HoldsUnit, IsRetirable}
use Rattle.sat_lits.specs.Table.{number_of, Puts, Indexes}
use Rattle.sat_lits.proofs.IndexLemmas.{Indexes-push, Indexes-retire}
use Rattle.proof_log.specs.declared.log.Line.{Line}
use Rattle.proof_log.specs.Logged.{live_lines}
use Rattle.proof_log.specs.LogState.{KeepsTogether}
use Rattle.proof_log.proofs.LiveLemmas.{status, retired_line, live_lines-push, live_lines-retire, line_is_live, stands}
use Rattle.proof_log.proofs.SoundLemmas.{IsSound-axioms, IsSound-derive, IsSound-retire}

pub KeepsTogether-axioms : (axioms more : List (List ℕ)) (lines : List Line) (numbers : List (List ℕ × ℕ)) → length (axioms ++ more) < 2 ^ 32 → KeepsTogether axioms lines numbers → KeepsTogether (axioms ++ more) lines numbers
KeepsTogether-axioms axioms more lines numbers small keeps = record {
  sound = IsSound-axioms axioms more lines keeps.sound;
  index = keeps.index;
  axioms_small = small;
  lines_small = keeps.lines_small;
}

pub KeepsTogether-derive : (axioms : List (List ℕ)) (lines : List Line) (line : Line) (numbers numbers' : List (List ℕ × ℕ)) → line.retired ≡ None → IsRupStep axioms (live_lines lines) line.clause line.hints → number_of numbers line.clause ≡ None → (HoldsUnit (live_lines lines) line.clause → ⊥) → Puts numbers numbers' line.clause (Some (length lines + 1)) → length lines + 1 < 2 ^ 32 → KeepsTogether axioms lines numbers → KeepsTogether axioms (lines ++ line ∷ []) numbers'
KeepsTogether-derive axioms lines line numbers numbers' unretired right absent plain puts small keeps = record {
  sound = IsSound-derive axioms lines keeps.sound line unretired right fresh plain;
  index = subst (Indexes numbers') (sym (live_lines-push lines line))
      (subst (λ (s : Option (List ℕ)). Indexes numbers' (live_lines lines ++ s ∷ [])) (sym (stands line.retired line.clause unretired))
      (Indexes-push numbers numbers' (live_lines lines) line.clause keeps.index absent
      (subst (λ (n : ℕ). Puts numbers numbers' line.clause (Some (n + 1))) (sym (length-map lines status)) puts)));
  axioms_small = keeps.axioms_small;
  lines_small = (let longer : length (lines ++ line ∷ []) ≡ length lines + 1 = length_push lines line in omega arith);
}
  where
    fresh : IsLive (live_lines lines) line.clause → ⊥
    fresh (n, is) = (let found : number_of numbers line.clause ≡ Some n = keeps.index.finds line.clause n is in cc)

pub KeepsTogether-retire : (axioms : List (List ℕ)) (lines : List Line) (i : ℕ) (line : Line) (numbers numbers' : List (List ℕ × ℕ)) → slice_get lines i ≡ Some line → line.retired ≡ None → IsRetirable (live_lines lines) (suc i) → Puts numbers numbers' line.clause None → KeepsTogether axioms lines numbers → KeepsTogether axioms (set lines i (retired_line line (length lines))) numbers'
KeepsTogether-retire axioms lines i line numbers numbers' is unretired retirable puts keeps = record {
  sound = IsSound-retire axioms lines keeps.sound i line is unretired retirable;
  index = subst (Indexes numbers') (sym (live_lines-retire lines i (length lines) line))
      (Indexes-retire numbers numbers' (live_lines lines) (suc i) line.clause keeps.index (line_is_live lines i line is unretired) puts);
  axioms_small = keeps.axioms_small;
  lines_small = (let same : length (set lines i (retired_line line (length lines))) ≡ length lines = length-set lines i (retired_line line (length lines)) in let small : length lines < 2 ^ 32 = keeps.lines_small in omega arith);
}

-- the new line stands under the next number
pub added_is_live : (lines : List Line) (line : Line) → line.retired ≡ None → numbered (live_lines (lines ++ line ∷ [])) (length lines + 1) ≡ Some (Some line.clause)
added_is_live lines line unretired =
    ap (λ xs. numbered xs (length lines + 1)) (live_lines-push lines line ∙ ap (λ (s : Option (List ℕ)). live_lines lines ++ s ∷ []) (stands line.retired line.clause unretired))
    ∙ ap (λ n. numbered (live_lines lines ++ Some line.clause ∷ []) (n + 1)) (sym (length-map lines status))
    ∙ numbered-last (live_lines lines) (Some line.clause)
