-- Heights and cycles are preserved by a renumbering of the vertices.
use Rattle.std.proofs.Common.{◌≡◌, ℕ, zero, suc, ◌+◌, max, List, [], ◌∷◌, ◌++◌, map, Option, Some, None, refl, sym, ap, ◌∙◌}
use Rattle.std.specs.List.{flat_map}
use Rattle.std.specs.Option.{option_map, option_to_list}
use mathlib.Core.Path.{fun_ext}
use Rattle.smv_meaning.specs.Value.{and_then}
use Rattle.fixpoint.specs.Fixpoints.{known, most}
use Rattle.graph.proofs.Renaming.{AllIn}
use Rattle.smv_cycles.specs.Reads.{Edge, height_read, height_at, tallest, height_step, heights}

module _ {K L : Type 0} (f : K → L) (R : K → Type 0) where
  -- an edge whose target is renumbered
  abbrev pub moved : Edge K → Edge L
  moved e = record { above = e.above; target = option_map f e.target }

  abbrev pub TargetIn : Option K → Type 0
  TargetIn None = Unit {0}
  TargetIn (Some c) = R c

  abbrev pub EdgesIn : List (Edge K) → Type 0
  EdgesIn [] = Unit {0}
  EdgesIn (e ∷ es) = TargetIn e.target × EdgesIn es

  -- ---- heights

  module _ (s : K → Option ℕ) (t : L → Option ℕ) (agree : (k : K) → R k → s k ≡ t (f k)) where
    read_same : (o : Option K) → TargetIn o → height_read s o ≡ height_read t (option_map f o)
    read_same None r = refl
    read_same (Some c) r = agree c r

    at_same : (e : Edge K) → TargetIn e.target → height_at s e ≡ height_at t (moved e)
    at_same e r = ap (λ (o : Option ℕ). and_then o (λ h. Some (suc (e.above + h)))) (read_same e.target r)

    pub tallest_same : (es : List (Edge K)) → EdgesIn es → (n : ℕ) → tallest s n es ≡ tallest t n (map moved es)
    tallest_same [] r n = refl
    tallest_same (e ∷ es) r n =
        ap (λ (o : Option ℕ). and_then o (λ h. tallest s (max n h) es)) (at_same e r.0)
        ∙ ap (λ (g : ℕ → Option ℕ). and_then (height_at t (moved e)) g) (fun_ext (λ h. tallest_same es r.1 (max n h)))

  module _ (ek : K → Option (List (Edge K))) (el : L → Option (List (Edge L)))
      (covers : (k : K) → R k → el (f k) ≡ option_map (map moved) (ek k)) (inside : (k : K) (es : List (Edge K)) → R k → ek k ≡ Some es → EdgesIn es) where
    step_same : (s : K → Option ℕ) (t : L → Option ℕ) → ((k : K) → R k → s k ≡ t (f k)) → (k : K) → R k → height_step ek s k ≡ height_step el t (f k)
    step_same s t agree k r = at (ek k) refl ∙ ap (λ (o : Option (List (Edge L))). and_then o (tallest t 0)) (sym (covers k r))
      where
        at : (o : Option (List (Edge K))) → ek k ≡ o → and_then o (tallest s 0) ≡ and_then (option_map (map moved) o) (tallest t 0)
        at None e = refl
        at (Some es) e = tallest_same s t agree es (inside k es r e) 0

    known_same : (rounds : ℕ) (k : K) → R k → known (height_step ek) rounds k ≡ known (height_step el) rounds (f k)
    known_same zero k r = refl
    known_same (suc rounds) k r = step_same (known (height_step ek) rounds) (known (height_step el) rounds) (known_same rounds) k r

    -- heights are the same
    pub heights_same : (k : K) → R k → heights ek k ≡ heights el (f k)
    heights_same = known_same most

-- ---- what keys read

-- the keys to which the edges of a number lead, and whether they are in range
module _ {K L : Type 0} (f : K → L) (R : K → Type 0) where
  pub targets_same : (es : List (Edge K)) → map f (flat_map (λ e. option_to_list e.target) es) ≡ flat_map (λ e. option_to_list e.target) (map (moved f R) es)
  targets_same [] = refl
  targets_same (e ∷ es) = at e.target (targets_same es)
    where
      at : (o : Option K) → map f (flat_map (λ e. option_to_list e.target) es) ≡ flat_map (λ e. option_to_list e.target) (map (moved f R) es) → map f (option_to_list o ++ flat_map (λ e. option_to_list e.target) es) ≡ option_to_list (option_map f o) ++ flat_map (λ e. option_to_list e.target) (map (moved f R) es)
      at None h = h
      at (Some c) h = ap (λ (ls : List L). f c ∷ ls) h

  pub targets_in : (es : List (Edge K)) → EdgesIn f R es → AllIn R (flat_map (λ e. option_to_list e.target) es)
  targets_in [] r = tt
  targets_in (e ∷ es) r = at e.target r.0 (targets_in es r.1)
    where
      at : (o : Option K) → TargetIn f R o → AllIn R (flat_map (λ e. option_to_list e.target) es) → AllIn R (option_to_list o ++ flat_map (λ e. option_to_list e.target) es)
      at None r more = more
      at (Some c) r more = (r, more)
