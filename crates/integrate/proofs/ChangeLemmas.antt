-- A list of changes: the first, then the others; a run of them, then the others.
use Rattle.std.proofs.Common.{◌≡◌, ℕ, List, [], ◌∷◌, ◌++◌, take, drop, ap, sym, refl, ◌∙◌}
use Rattle.std.proofs.lemmas.List.{take-append-drop}
use Rattle.std.specs.Prelude.{Result, Ok, Err}
use Rattle.smv_ast.specs.declared.fault.Fault.{Fault}
use Rattle.smv_ast.specs.declared.fault.Fault.TheVariants as fault
use Rattle.smv_ast.specs.declared.model.Product.{Product}
use Rattle.smv_ast.specs.declared.program.Program.{Program}
use Rattle.smv_ast.specs.declared.feature.Change.{Change}
use Rattle.integrate_impose.specs.Answers.{Answers}
use Rattle.integrate.specs.Changes.{and_on, changed, all_changed}

module _ (feature : List ℕ) (product : Product) (p : Program) (change : Change) (more : List Change) where
  then_the_rest : (r : Result Program Fault) → changed feature product p change ≡ r → all_changed feature product p (change ∷ more) ≡ and_on r (λ q. all_changed feature product q more)
  then_the_rest r e = ap (λ (r : Result Program Fault). and_on r (λ q. all_changed feature product q more)) e

  -- a change that is applied
  pub one_applied : (q : Program) → Answers (changed feature product p change) (Ok q) → all_changed feature product p (change ∷ more) ≡ all_changed feature product q more
  one_applied q e = then_the_rest (Ok q) e

  -- a change with a fault
  pub one_refused : (defined : Result Program Fault) (f : Fault) → all_changed feature product p (change ∷ more) ≡ defined → Answers (changed feature product p change) (Err f) → Answers defined (Err f)
  one_refused defined fault.NoMemory e h = tt
  one_refused defined _ e h = sym e ∙ then_the_rest (Err _) h

module _ (feature : List ℕ) (product : Product) where
  -- a run of changes, then the others
  in_sequence : (p : Program) (run more : List Change) → all_changed feature product p (run ++ more) ≡ and_on (all_changed feature product p run) (λ q. all_changed feature product q more)
  in_sequence p [] more = refl
  in_sequence p (change ∷ run) more = at (λ q. in_sequence q run more) (changed feature product p change)
    where
      at : ((q : Program) → all_changed feature product q (run ++ more) ≡ and_on (all_changed feature product q run) (λ q. all_changed feature product q more)) → (r : Result Program Fault) → and_on r (λ q. all_changed feature product q (run ++ more)) ≡ and_on (and_on r (λ q. all_changed feature product q run)) (λ q. all_changed feature product q more)
      at h (Ok q) = h q
      at h (Err f) = refl

  module _ (p : Program) (changes : List Change) (n : ℕ) where
    by_run : (r : Result Program Fault) → all_changed feature product p (take n changes) ≡ r → all_changed feature product p changes ≡ and_on r (λ q. all_changed feature product q (drop n changes))
    by_run r e = ap (all_changed feature product p) (sym (take-append-drop n changes)) ∙ (in_sequence p (take n changes) (drop n changes) ∙ ap (λ (r : Result Program Fault). and_on r (λ q. all_changed feature product q (drop n changes))) e)

    -- a run that is applied
    pub run_applied : (q : Program) → all_changed feature product p (take n changes) ≡ Ok q → all_changed feature product p changes ≡ all_changed feature product q (drop n changes)
    run_applied q e = by_run (Ok q) e

    -- a run with a fault
    pub run_refused : (defined : Result Program Fault) (f : Fault) → all_changed feature product p changes ≡ defined → Answers (all_changed feature product p (take n changes)) (Err f) → Answers defined (Err f)
    run_refused defined fault.NoMemory e h = tt
    run_refused defined _ e h = sym e ∙ by_run (Err _) h
