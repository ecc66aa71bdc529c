-- The branch that a case selects, one branch at a time.
use Rattle.std.proofs.Common.{◌≡◌, ℕ, zero, suc, ◌+◌, ◌<◌, Bool, true, false, List, [], ◌∷◌, length, map, drop, get_or, Option, Some, None, refl, sym, ap, ◌∙◌, arith}
use Rattle.smv_ast.specs.declared.syntax.Branch.{Branch, out-Branch, fold_out-Branch}
use Rattle.smv_meaning.specs.Value.{and_then}
use Rattle.smv_meaning.specs.Denotations.{Allowed, Denotation, BranchDenotation, taken, denotation_of, branch_denotation_of, choice_denotation, expr_denotation, branch_denotation}

-- the denotation of a branch consists of those of its parts
pub branch_is : (b : Branch) → branch_denotation_of b ≡ record { cond = denotation_of (out-Branch b).cond; value = denotation_of (out-Branch b).value }
branch_is b = fold_out-Branch Allowed Denotation BranchDenotation choice_denotation expr_denotation branch_denotation b

module _ {B C A : Type 0} (holds : C → Option Bool) (f : B → C) (use' : C → Option A) where
  abbrev tail : List B → Option A
  tail branches = and_then (taken holds (map f branches)) use'

  -- a branch that is not the last
  next : (b : B) (more : List B) → 0 < length more → tail (b ∷ more) ≡ and_then (and_then (holds (f b)) elim [ true ↦ Some (f b) | false ↦ taken holds (map f more) ]) use'
  next b [] h = absurd (omega arith)
  next b (d ∷ more) h = refl

  pub last_branch : (branches : List B) (i : ℕ) (b : B) → i + 1 ≡ length branches → b ≡ get_or branches i b → tail (drop i branches) ≡ use' (f b)
  last_branch [] i b h e = absurd (omega arith)
  last_branch (x ∷ []) zero b h e = ap (λ y. use' (f y)) (sym e)
  last_branch (x ∷ y ∷ more) zero b h e = absurd (omega arith)
  last_branch (x ∷ more) (suc i) b h e = last_branch more i b (omega arith) e

  pub unclear_branch : (branches : List B) (i : ℕ) (b : B) → i + 1 < length branches → b ≡ get_or branches i b → holds (f b) ≡ None → tail (drop i branches) ≡ None
  unclear_branch [] i b h e g = absurd (omega arith)
  unclear_branch (x ∷ more) zero b h e g = next x more (omega arith) ∙ ap (λ o. and_then (and_then o elim [ true ↦ Some (f x) | false ↦ taken holds (map f more) ]) use') (ap (λ y. holds (f y)) (sym e) ∙ g)
  unclear_branch (x ∷ more) (suc i) b h e g = unclear_branch more i b (omega arith) e g

  pub true_branch : (branches : List B) (i : ℕ) (b : B) → i + 1 < length branches → b ≡ get_or branches i b → holds (f b) ≡ Some true → tail (drop i branches) ≡ use' (f b)
  true_branch [] i b h e g = absurd (omega arith)
  true_branch (x ∷ more) zero b h e g =
      next x more (omega arith) ∙ (ap (λ o. and_then (and_then o elim [ true ↦ Some (f x) | false ↦ taken holds (map f more) ]) use') (ap (λ y. holds (f y)) (sym e) ∙ g) ∙ ap (λ y. use' (f y)) (sym e))
  true_branch (x ∷ more) (suc i) b h e g = true_branch more i b (omega arith) e g

  pub false_branch : (branches : List B) (i : ℕ) (b : B) → i + 1 < length branches → b ≡ get_or branches i b → holds (f b) ≡ Some false → tail (drop i branches) ≡ tail (drop (i + 1) branches)
  false_branch [] i b h e g = absurd (omega arith)
  false_branch (x ∷ more) zero b h e g =
      next x more (omega arith) ∙ ap (λ o. and_then (and_then o elim [ true ↦ Some (f x) | false ↦ taken holds (map f more) ]) use') (ap (λ y. holds (f y)) (sym e) ∙ g)
  false_branch (x ∷ more) (suc i) b h e g = let n : suc i + 1 ≡ suc (i + 1) = omega arith in rw n (false_branch more i b (omega arith) e g)
