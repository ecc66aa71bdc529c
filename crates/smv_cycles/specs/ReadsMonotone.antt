-- The step of heights is monotone.
use Rattle.std.specs.Prelude.{ℕ, suc, ◌+◌, max, List, [], ◌∷◌, Option, Some, None}
use Rattle.fixpoint.specs.Fixpoints.{Under}
use Rattle.fixpoint.specs.OptionOrder.{Le}
use Rattle.smv_meaning.specs.Monotone.{then_le}
use Rattle.smv_cycles.specs.Reads.{Edge, height_read, height_at, tallest, height_step}

module _ {K : Type 0} where
  read_monotone : (s t : K → Option ℕ) → Under s t → (o : Option K)
      → Le (height_read s o) (height_read t o)
  read_monotone s t u None = λ h e. e
  read_monotone s t u (Some c) = u c

  at_path_monotone : (s t : K → Option ℕ) → Under s t → (e : Edge K)
      → Le (height_at s e) (height_at t e)
  at_path_monotone s t u e = then_le (height_read s e.target) (height_read t e.target)
      (λ h. Some (suc (e.above + h))) (λ h. Some (suc (e.above + h))) (read_monotone s t u e.target)
      (λ h m g. g)

  tallest_monotone : (s t : K → Option ℕ) → Under s t → (es : List (Edge K)) (n : ℕ)
      → Le (tallest s n es) (tallest t n es)
  tallest_monotone s t u [] n = λ h e. e
  tallest_monotone s t u (e ∷ es) n = then_le (height_at s e) (height_at t e)
      (λ h. tallest s (max n h) es) (λ h. tallest t (max n h) es) (at_path_monotone s t u e)
      (λ h. tallest_monotone s t u es (max n h))

  -- the transfer function of heights is monotone
  pub height_monotone : (edges : K → Option (List (Edge K))) (s t : K → Option ℕ) → Under s t
      → Under (height_step edges s) (height_step edges t)
  height_monotone edges s t u k = then_le (edges k) (edges k) (tallest s 0) (tallest t 0)
      (λ es e. e) (λ es. tallest_monotone s t u es 0)
