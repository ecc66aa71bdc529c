-- Paths and runs that grow at their end.
use Rattle.std.proofs.Common.{◌≡◌, ℕ, Bool, List, [], ◌∷◌, ◌++◌, refl, ap, sym, ◌∙◌}
use Rattle.std.specs.Prelude.{◌&&◌}
use Rattle.std.proofs.Math.Bool.{and_assoc}
use Rattle.flat_model.specs.Machines.{Machine, last_of, is_path, is_run}

module _ {S : Type 0} (m : Machine S) (p : ℕ) where
  pub last_of-push : (s : S) (ts : List S) (t : S) → last_of s (ts ++ t ∷ []) ≡ t
  last_of-push s [] t = refl
  last_of-push s (u ∷ ts) t = last_of-push u ts t

  -- a path goes on by a step to a state inside
  pub is_path-push : (s : S) (ts : List S) (t : S) → is_path m p s (ts ++ t ∷ []) ≡ ((is_path m p s ts && m.step p (last_of s ts) t) && m.inside p t)
  is_path-push s [] t = sym (and_assoc (m.inside p s) (m.step p s t) (m.inside p t))
  is_path-push s (u ∷ ts) t =
      let a : Bool = m.inside p s in
      let b : Bool = m.step p s u in
      let c : Bool = is_path m p u ts in
      let d : Bool = m.step p (last_of u ts) t in
      let e : Bool = m.inside p t in
      ap (λ (x : Bool). a && (b && x)) (is_path-push u ts t)
      ∙ ap (λ (x : Bool). a && x) (sym (and_assoc b (c && d) e))
      ∙ sym (and_assoc a (b && (c && d)) e)
      ∙ ap (λ (x : Bool). (a && x) && e) (sym (and_assoc b c d))
      ∙ ap (λ (x : Bool). x && e) (sym (and_assoc a (b && c) d))

  -- and so does a run
  pub is_run-push : (s : S) (ts : List S) (t : S) → is_run m p (s ∷ ts ++ t ∷ []) ≡ ((is_run m p (s ∷ ts) && m.step p (last_of s ts) t) && m.inside p t)
  is_run-push s ts t =
      let a : Bool = m.init p s in
      let c : Bool = is_path m p s ts in
      let d : Bool = m.step p (last_of s ts) t in
      let e : Bool = m.inside p t in
      ap (λ (x : Bool). a && x) (is_path-push s ts t) ∙ sym (and_assoc a (c && d) e) ∙ ap (λ (x : Bool). x && e) (sym (and_assoc a c d))
