use Rattle.std.proofs.Common.{◌≡◌, ℕ, List, [], ◌∷◌, ◌++◌, Option, Some, None, refl, ap, ◌∙◌, subst, inl, inr, lit<}
use Rattle.fsmv_base.specs.declared.citation.Id.{Id}
use Rattle.fsmv_base.specs.declared.citation.Id.TheVariants.{Axiom}
use Rattle.sat_lits.specs.Steps.{numbered, IsLive, IsRetirable}
use Rattle.sat_lits.proofs.Numbered.{numbered-nil, numbered-append}
use Rattle.proof_log.specs.declared.log.Line.{Line}
use Rattle.proof_log.specs.Logged.{Logged, live_lines, Derives}
use Rattle.proof_log.proofs.LiveLemmas.{status, live_lines-push}
use Rattle.clause_tests.proofs.log.derives_and_retires.Goals as goal

abbrev line_of : List ℕ → List Id → Line
line_of clause hints = record { clause = clause; hints = hints; retired = None }

-- nothing stands in an empty log
none_is_live : (lines : List Line) (clause : List ℕ) → lines ≡ [] → IsLive (live_lines lines) clause → ⊥
none_is_live lines clause empty (n, is) =
    let at : numbered (live_lines []) n ≡ Some (Some clause) = subst (λ (ls : List Line). numbered (live_lines ls) n ≡ Some (Some clause)) empty is in
    let none : numbered {X = Option (List ℕ)} [] n ≡ None = numbered-nil n in
    cc

-- the first line is retirable once the unit clause stands
retirable : (start first second : Logged) (hints hints' : List Id) (id id' : Id) → start.lines ≡ [] → Derives start (2 ∷ 4 ∷ []) hints first id → Derives first (2 ∷ []) hints' second id' → IsRetirable (live_lines second.lines) 1
retirable start first second hints hints' id id' empty d d' =
    let before : numbered (live_lines first.lines) 1 ≡ Some (Some (2 ∷ 4 ∷ [])) = elim d.added [
      | inl stood ↦ absurd (none_is_live start.lines (2 ∷ 4 ∷ []) empty stood.0)
      | inr new ↦
          ap (λ (log : Logged). numbered (live_lines log.lines) 1) new.1
          ∙ ap (λ (ls : List Line). numbered (live_lines (ls ++ line_of (2 ∷ 4 ∷ []) hints ∷ [])) 1) empty
    ] in
    let after : numbered (live_lines second.lines) 1 ≡ Some (Some (2 ∷ 4 ∷ [])) = elim d'.added [
      | inl stood ↦ ap (λ (log : Logged). numbered (live_lines log.lines) 1) stood.1 ∙ before
      | inr new ↦
          ap (λ (log : Logged). numbered (live_lines log.lines) 1) new.1
          ∙ ap (λ (xs : List (Option (List ℕ))). numbered xs 1) (live_lines-push first.lines (line_of (2 ∷ []) hints'))
          ∙ numbered-append (live_lines first.lines) (status (line_of (2 ∷ []) hints') ∷ []) 1 (Some (2 ∷ 4 ∷ [])) before
    ] in
    record {
      clause = 2 ∷ 4 ∷ [];
      stands = after;
      subsumed = record { longer = lit< tt; literal = 2; holds = (0, lit< tt, refl); stands = (d'.number, d'.stands) };
    }

pub retire-requires : goal.retire-requires
retire-requires g c =
    retirable c.in_ok-log.log c.weaken.new.log c.weaken-2.new.log (Axiom 1 ∷ []) (Axiom 1 ∷ []) c.in_ok-weaken.field-0 c.in_ok-weaken-2.field-0
    (ap (λ (log : Logged). log.lines) c.in_ok-log.ensures)
    (subst (λ (clause : List ℕ). Derives c.in_ok-log.log clause (Axiom 1 ∷ []) c.weaken.new.log c.in_ok-weaken.field-0) c.in_ok-pair.ensures c.in_ok-weaken.ensures)
    (subst (λ (clause : List ℕ). Derives c.weaken.new.log clause (Axiom 1 ∷ []) c.weaken-2.new.log c.in_ok-weaken-2.field-0) c.in_ok-unit.ensures c.in_ok-weaken-2.ensures)
