-- A hash map whose keys are lists of literals, seen as a table of clauses.
use Rattle.std.proofs.Common.{◌≡◌, ℕ, Bool, List, [], ◌∷◌, Option, Some, cond, refl, sym, ◌∙◌, ap, inl, inr, nat_eq}
use Rattle.std.specs.Prelude.{map}
use Rattle.std.specs.Cmp.Lexicographic.{pointwise, bytes_decides, nat_list_eq_equiv}
use Rattle.std.specs.Map.{lookup, AreApart, KeepsOthers}
use Rattle.std.proofs.lemmas.Bool.{cases_Bool}
use Rattle.sat_lits.specs.Table.{number_of, Puts}

module _ {K : Type 0} (lits : K → List ℕ) where
  -- the entries, with each key as its literals
  abbrev viewed : List (K × ℕ) → List (List ℕ × ℕ)
  viewed es = map (λ (e : K × ℕ). (lits e.0, e.1)) es

  abbrev has : List ℕ → K → Bool
  has clause k = pointwise nat_eq clause (lits k)

  pub number_of-viewed : (clause : List ℕ) (es : List (K × ℕ)) → number_of (viewed es) clause ≡ lookup (has clause) es
  number_of-viewed clause [] = refl
  number_of-viewed clause (e ∷ es) = ap (λ o. cond (has clause e.0) (Some e.1) o) (number_of-viewed clause es)

  -- a key that holds the literals of one clause does not hold those of another
  apart : (clause other : List ℕ) → (other ≡ clause → ⊥) → AreApart (has clause) (has other)
  apart clause other ne k h = elim (cases_Bool (has other k)) [
    | inl same ↦ absurd (ne ((bytes_decides other (lits k)).0 same ∙ sym ((bytes_decides clause (lits k)).0 h)))
    | inr differs ↦ differs
  ]

  kept : (old new : List (K × ℕ)) (clause other : List ℕ) → KeepsOthers (λ x y. pointwise nat_eq (lits x) (lits y)) (has clause) old new → (other ≡ clause → ⊥) → lookup (has other) new ≡ lookup (has other) old
  unfolding KeepsOthers
  kept old new clause other keeps ne = keeps (has other) (λ x y. nat_list_eq_equiv.congr other (lits x) (lits y)) (apart clause other ne)

  -- a change of the map at the key of a clause, seen as a change of the table
  pub Puts-viewed : (old new : List (K × ℕ)) (clause : List ℕ) (number : Option ℕ) → lookup (has clause) new ≡ number → KeepsOthers (λ x y. pointwise nat_eq (lits x) (lits y)) (has clause) old new → Puts (viewed old) (viewed new) clause number
  Puts-viewed old new clause number changed keeps = record {
    changed = number_of-viewed clause new ∙ changed;
    others = λ other ne. number_of-viewed other new ∙ kept old new clause other keeps ne ∙ sym (number_of-viewed other old);
  }
