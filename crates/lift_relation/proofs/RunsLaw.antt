-- The runs of a lift at a product and the runs of the product's text correspond one to one, where the two are related.
use Rattle.std.proofs.Common.{◌≡◌, suc, List, [], ◌∷◌, map, refl, sym, ap, ◌∙◌, arith}
use Rattle.std.specs.List.{All}
use Rattle.std.proofs.lemmas.List.Elements.{All-cons}
use Rattle.smv_meaning.specs.Values.{State}
use Rattle.smv_meaning.specs.Runs.{IsExactState, IsInside, GoesOn, IsRun}
use Rattle.lift_relation.specs.Weaving.{Weaving}
use Rattle.lift_relation.specs.RelatedNames.{AreRelatedStates}
use Rattle.lift_relation.specs.Correspondence.{projected, IsAtProduct, IsRunAt, CorrespondOneToOne, IsSettled, AreRelated}
use Rattle.lift_relation.proofs.ItemLemmas.{init_kept, inside_kept, step_kept}
use Rattle.lift_relation.proofs.BackLemmas.{Related, init_back, inside_back, step_back}
use Rattle.lift_relation.proofs.StateLemmas.{completed, projected_exact, projected_related, completed_settled, completed_related, projected_completed, completed_projected}

pub head_of : {A : Type 0} (P : A → Type 0) (x : A) (xs : List A) → All P (x ∷ xs) → P x
head_of P x xs h = h 0 x (omega arith)

pub tail_of : {A : Type 0} (P : A → Type 0) (x : A) (xs : List A) → All P (x ∷ xs) → All P xs
tail_of P x xs h = λ k d l. h (suc k) d (omega (arith, l))

module _ (w : Weaving) (absent : State) (related : AreRelated w absent) where
  abbrev whole : State → State
  whole = completed w absent related.variables

  abbrev Settled : State → Type 0
  Settled = IsSettled w absent

  abbrev Goes : State → State → Type 0
  Goes = Related w related.names Settled related.items

  -- ---- from the lift to the text

  state_into : (s : State) → IsExactState w.lift s → IsAtProduct w s → IsExactState w.text (projected w s) × AreRelatedStates w s (projected w s)
  state_into s f at = (projected_exact w absent related.variables s f, projected_related w absent related.variables s f at)

  goes_into : (s : State) (more : List State) → AreRelatedStates w s (projected w s) → All (IsAtProduct w) more → GoesOn w.lift s more → GoesOn w.text (projected w s) (map (projected w) more)
  goes_into s [] p e g = tt
  goes_into s (t ∷ more) p e g =
      let q = state_into t g.0 (head_of (IsAtProduct w) t more e) in (
        q.0,
        inside_kept w related.names Settled related.items t (projected w t) q.1 g.1,
        step_kept w related.names Settled related.items s t (projected w s) (projected w t) p q.1 g.2,
        goes_into t more q.1 (tail_of (IsAtProduct w) t more e) g.3,
      )

  run_into : (run : List State) → All (IsAtProduct w) run → IsRun w.lift run → IsRun w.text (map (projected w) run)
  run_into [] e r = absurd r
  run_into (s ∷ more) e r =
      let q = state_into s r.0 (head_of (IsAtProduct w) s more e) in (
        q.0,
        init_kept w related.names Settled related.items s (projected w s) q.1 r.1,
        inside_kept w related.names Settled related.items s (projected w s) q.1 r.2,
        goes_into s more q.1 (tail_of (IsAtProduct w) s more e) r.3,
      )

  -- ---- from the text to the lift

  state_onto : (t : State) → IsExactState w.text t → Settled (whole t) × Goes (whole t) t
  state_onto t f = let c = completed_settled w absent related.variables t f in (c, record { related = completed_related w absent related.variables t f; is_state = c.exact.values; at = c })

  goes_onto : (t : State) (more : List State) → Goes (whole t) t → GoesOn w.text t more → GoesOn w.lift (whole t) (map whole more) × All (IsAtProduct w) (map whole more) × (map (projected w) (map whole more) ≡ more)
  goes_onto t [] p g = (tt, λ k d l. absurd (omega arith), refl)
  goes_onto t (u ∷ more) p g =
      let q = state_onto u g.0 in
      let r = goes_onto u more q.1 g.3 in (
        (q.0.exact, inside_back w related.names Settled related.items (whole u) u q.1 g.1, step_back w related.names Settled related.items (whole t) (whole u) t u p q.1 g.2, r.0),
        All-cons (IsAtProduct w) (whole u) (map whole more) q.0.at r.1,
        ap (λ x. x ∷ map (projected w) (map whole more)) (projected_completed w absent related.variables u g.0) ∙ ap (λ xs. u ∷ xs) r.2,
      )

  run_onto : (run : List State) → IsRun w.text run → (whole_run : List State) × IsRunAt w whole_run × (map (projected w) whole_run ≡ run)
  run_onto [] r = absurd r
  run_onto (t ∷ more) r =
      let q = state_onto t r.0 in
      let g = goes_onto t more q.1 r.3 in (
        map whole (t ∷ more),
        record {
          is_run = (q.0.exact, init_back w related.names Settled related.items (whole t) t q.1 r.1, inside_back w related.names Settled related.items (whole t) t q.1 r.2, g.0);
          at = All-cons (IsAtProduct w) (whole t) (map whole more) q.0.at g.1;
        },
        ap (λ x. x ∷ map (projected w) (map whole more)) (projected_completed w absent related.variables t r.0) ∙ ap (λ xs. t ∷ xs) g.2,
      )

  -- ---- once

  state_again : (s : State) → IsExactState w.lift s → IsAtProduct w s → IsInside w.lift s → whole (projected w s) ≡ s
  state_again = completed_projected w absent related.variables

  goes_again : (s : State) (more : List State) → All (IsAtProduct w) more → GoesOn w.lift s more → map whole (map (projected w) more) ≡ more
  goes_again s [] e g = refl
  goes_again s (t ∷ more) e g =
      ap (λ x. x ∷ map whole (map (projected w) more)) (state_again t g.0 (head_of (IsAtProduct w) t more e) g.1)
      ∙ ap (λ xs. t ∷ xs) (goes_again t more (tail_of (IsAtProduct w) t more e) g.3)

  run_again : (run : List State) → All (IsAtProduct w) run → IsRun w.lift run → map whole (map (projected w) run) ≡ run
  run_again [] e r = absurd r
  run_again (s ∷ more) e r =
      ap (λ x. x ∷ map whole (map (projected w) more)) (state_again s r.0 (head_of (IsAtProduct w) s more e) r.2)
      ∙ ap (λ xs. s ∷ xs) (goes_again s more (tail_of (IsAtProduct w) s more e) r.3)

  -- ---- the law

  pub runs_correspond : CorrespondOneToOne w
  runs_correspond = record {
    into = λ run r. run_into run r.at r.is_run;
    onto = run_onto;
    once = λ run other r o e. sym (run_again run r.at r.is_run) ∙ (ap (map whole) e ∙ run_again other o.at o.is_run);
  }
