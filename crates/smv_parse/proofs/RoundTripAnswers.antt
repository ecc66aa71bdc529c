-- What is answered of the canonical text of a printable model.
use Rattle.std.proofs.Common.{◌≡◌, ℕ, true, [], ◌∷◌, refl, sym, ◌∙◌, ap, subst, append-nil, arith}
use Rattle.std.specs.Prelude.{Result, Ok, Err}
use Rattle.smv_ast.specs.declared.program.Program.{Program}
use Rattle.smv_ast.specs.declared.fault.Fault.{Fault}
use Rattle.smv_ast.specs.declared.fault.Fault.TheVariants as fault
use Rattle.smv_ast.specs.PrintedProgram.{printed_program}
use Rattle.smv_expr.specs.Lexicon.{Bytes, tokens}
use Rattle.smv_expr.specs.Language.{Tokens}
use Rattle.smv_expr.specs.Reading.{Outcome}
use Rattle.smv_expr.specs.Reading.Outcome.{Read, Stop}
use Rattle.smv_expr.specs.Reading.Cause.{UnexpectedToken, Wide, Deep}
use Rattle.smv_expr.specs.Answer.{unlimited, StopsAt, Verdict, Reports, result_of}
use Rattle.smv_expr.proofs.Cuts.{is_narrow}
use Rattle.smv_expr.proofs.RoundTripAnswers.{narrow_suffix, no_wide}
use Rattle.smv_parse.specs.declared.program.Reading.{Reading}
use Rattle.smv_parse.specs.Grammar.{program}
use Rattle.smv_parse.specs.Low.{low_reading}
use Rattle.smv_parse.specs.Answer.{limited_program, ProgramAnswer}
use Rattle.smv_parse.specs.RoundTrip.{PrintableProgram, IsSameModel, IsProgramRoundTrip}
use Rattle.smv_parse.proofs.ModelsRoundTrip.{program_spells}

-- the tokens stand for the same model, and none is a numeral over the limit
record IsTextOf (p : Program) (ts : Tokens) : Type 0 where
  value : Reading
  reads : unlimited program value ts
  same : IsSameModel p value
  narrow : is_narrow ts ≡ true

printed_text : (file : ℕ) (p : Program) → PrintableProgram p → IsTextOf p (tokens file (printed_program p))
printed_text file p h =
    let x = program_spells p h in
    let c = x.at x.depth (omega arith) file 0 [] refl in
    let all : tokens file (printed_program p) ≡ c.prefix = ap (tokens file) (sym (append-nil (printed_program p))) ∙ c.split ∙ append-nil c.prefix in
    record {
      value = c.value;
      reads = (x.depth, subst (λ (ts : Tokens). program true x.depth c.value ts) (sym all) c.reads);
      same = c.keeps;
      narrow = ap is_narrow all ∙ c.narrow;
    }

no_stop : (p : Program) (ts remaining : Tokens) → IsTextOf p ts → StopsAt program ts remaining → ⊥
no_stop p ts remaining x s = s.dead (record { more = remaining; next = refl; value = x.value; viable = subst (λ (all : Tokens). unlimited program x.value all) s.before.split x.reads })

result_round_trips : (file : ℕ) (bytes : Bytes) (p : Program) (o : Outcome Reading) → IsTextOf p (tokens file bytes) → Verdict program low_reading (tokens file bytes) o → IsProgramRoundTrip file bytes p (result_of file bytes o)
result_round_trips file bytes p (Read r []) x v = subst (λ (s : Reading). IsSameModel p s) (v.only x.value x.reads) x.same
result_round_trips file bytes p (Read r (t ∷ remaining)) x v = absurd (no_stop p (tokens file bytes) (t ∷ remaining) x v)
result_round_trips file bytes p (Stop UnexpectedToken remaining) x v = absurd (no_stop p (tokens file bytes) remaining x v)
result_round_trips file bytes p (Stop Wide remaining) x v = absurd (no_wide remaining (narrow_suffix v.before.prefix remaining (ap is_narrow (sym v.before.split) ∙ x.narrow)) v.wide)
result_round_trips file bytes p (Stop Deep remaining) x v = v.unfit

reports_round_trip : (file : ℕ) (bytes : Bytes) (p : Program) (result : Result Reading Fault) → PrintableProgram p → bytes ≡ printed_program p
    → Reports program low_reading limited_program file bytes result → IsProgramRoundTrip file bytes p result
reports_round_trip file bytes p result h same t = subst (λ (r : Result Reading Fault). IsProgramRoundTrip file bytes p r) (sym t.is)
    (result_round_trips file bytes p (limited_program (tokens file bytes)) (subst (λ (text : Bytes). IsTextOf p (tokens file text)) (sym same) (printed_text file p h)) t.verdict)

-- What is answered of the canonical text is the same model, or that the text is not within the limits of nesting.
pub answers_round_trip : (file : ℕ) (bytes : Bytes) (p : Program) (result : Result Reading Fault) → PrintableProgram p → bytes ≡ printed_program p → ProgramAnswer file bytes result → IsProgramRoundTrip file bytes p result
answers_round_trip file bytes p (Ok r) h same t = reports_round_trip file bytes p (Ok r) h same t
answers_round_trip file bytes p (Err fault.NoMemory) h same t = tt
answers_round_trip file bytes p (Err _) h same t = reports_round_trip file bytes p _ h same t
