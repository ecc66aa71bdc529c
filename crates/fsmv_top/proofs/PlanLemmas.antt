-- From what is read and found to the text that is to be written.
use Rattle.std.proofs.Common.{◌≡◌, ℕ, List, [], sym, subst, refl}
use Rattle.smv_ast.specs.declared.feature.Family.{Family}
use Rattle.smv_ast.specs.declared.fault.Fault.{Fault}
use Rattle.fsmv_outside.specs.Count.{Rose}
use Rattle.fsmv_top.specs.declared.input.InputError.{InputError}
use Rattle.fsmv_top.specs.declared.input.InputError.TheVariants as error
use Rattle.fsmv_top.specs.declared.status.Status.{Status}
use Rattle.fsmv_top.specs.declared.status.Status.TheVariants as status
use Rattle.fsmv_top.specs.Words.{Weave}
use Rattle.fsmv_top.specs.Input.{Held, HoldsFamily, EndsReading, refused_with}
use Rattle.fsmv_top.specs.InputErrors.{fails_at}
use Rattle.fsmv_top.specs.Refusals.{refusal_line, read_fault_line}
use Rattle.fsmv_top.specs.Weaving.{IsRefused}
use Rattle.fsmv_top.specs.Plan.{IsFamilyPlan, IsWeavePlan, is_file}

module _ (held : Held) (w : Weave) (before after : ℕ) where
  -- the files are read
  pub plan_of_family : (family : Family) → HoldsFamily held w family → (s : Status) (text : List ℕ) → IsFamilyPlan family w.product s text → IsWeavePlan held w before after s text
  plan_of_family family holds status.Good text (program, is, printed) = record { family = family; holds = holds; program = program; is = is; printed = printed }
  plan_of_family family holds status.Refused text (f, none, line) = record { names = family.model.names; fault = f; refused = IsRefused.family family holds refl none; line = line }
  plan_of_family family holds status.Failing text h = absurd h
  plan_of_family family holds status.Open text h = absurd h
  plan_of_family family holds status.Usage text h = absurd h
  plan_of_family family holds status.ReadFault text h = absurd h
  plan_of_family family holds status.WriteFault text h = absurd h
  plan_of_family family holds status.NoMemory text h = absurd h
  plan_of_family family holds status.Rejected text h = absurd h

  -- a file is refused
  pub plan_of_refusal : (e : InputError) (f : Fault) → e ≡ error.Refused f → EndsReading held w (fails_at held before after e)
      → (s : Status) (text : List ℕ) → s ≡ status.Refused → text ≡ refusal_line [] f → IsWeavePlan held w before after s text
  plan_of_refusal e f cause ends s text is line =
      let refused : EndsReading held w (refused_with held f) = subst (λ (x : InputError). EndsReading held w (fails_at held before after x)) cause ends in
      subst (λ (x : Status). IsWeavePlan held w before after x text) (sym is) (record { names = []; fault = f; refused = IsRefused.file refl refused; line = line })

  -- where reading ends at a file that cannot be read
  unread_at : (number : ℕ) → EndsReading held w (fails_at held before after (error.Unread number)) → EndsReading held w (is_file number) × Rose before after
  unread_at number (EndsReading.at_base y) = (EndsReading.at_base y.file_is, y.rose)
  unread_at number (EndsReading.at_model base holds y) = (EndsReading.at_model base holds y.file_is, y.rose)
  unread_at number (EndsReading.at_features base holds model holds' y) =
      (EndsReading.at_features base holds model holds' (record { before = y.before; name = y.name; after = y.after; split = y.split; features = y.features; read = y.read; ends = y.ends.file_is }), y.ends.rose)

  -- a file cannot be read
  pub plan_of_unread : (e : InputError) (number : ℕ) → e ≡ error.Unread number → EndsReading held w (fails_at held before after e)
      → (s : Status) (text : List ℕ) → s ≡ status.ReadFault → text ≡ read_fault_line number → IsWeavePlan held w before after s text
  plan_of_unread e number cause ends s text is line =
      let unread = unread_at number (subst (λ (x : InputError). EndsReading held w (fails_at held before after x)) cause ends) in
      subst (λ (x : Status). IsWeavePlan held w before after x text) (sym is) (record { file = number; unread = unread.0; rose = unread.1; line = line })
