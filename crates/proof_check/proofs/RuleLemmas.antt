-- A step that is judged over equal lists.
use Rattle.std.proofs.Common.{◌≡◌, ℕ, List, Option, subst}
use Rattle.fsmv_base.specs.declared.citation.Id.{Id}
use Rattle.sat_lits.specs.Steps.{IsRupStep}

pub IsRupStep-same : {axioms axioms' : List (List ℕ)} {lines lines' : List (Option (List ℕ))} {clause clause' : List ℕ} {hints hints' : List Id} → axioms ≡ axioms' → lines ≡ lines' → clause ≡ clause' → hints ≡ hints' → IsRupStep axioms lines clause hints → IsRupStep axioms' lines' clause' hints'
IsRupStep-same {axioms' = axioms'} {lines = lines} {lines' = lines'} {clause = clause} {clause' = clause'} {hints = hints} a l c h right =
    subst (λ (x : List Id). IsRupStep axioms' lines' clause' x) h
    (subst (λ (x : List ℕ). IsRupStep axioms' lines' x hints) c
    (subst (λ (x : List (Option (List ℕ))). IsRupStep axioms' x clause hints) l
    (subst (λ (x : List (List ℕ)). IsRupStep x lines clause hints) a right)))
