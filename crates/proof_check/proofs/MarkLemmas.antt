-- Flags of literals.
use Rattle.std.proofs.Common.{◌≡◌, ◌≢◌, ℕ, Bool, true, false, List, [], ◌∷◌, arith, refl, inl, inr, get_or, set, length, replicate, take, ◌<◌, ◌+◌, ◌==◌, ◌||◌, sym, ◌∙◌, ap, get_or-set_same, get_or-set_other, zero, suc}
use Rattle.std.specs.Prelude.{All, map}
use Rattle.std.proofs.Math.Bool.{or_comm}
use Rattle.std.proofs.lemmas.Bool.{cases_eq, eq-eqb, ne_eqb, or_left}
use Rattle.std.proofs.lemmas.List.{map-set}
use Rattle.std.proofs.lemmas.List.Elements.{All-head, All-tail}
use Rattle.std.proofs.lemmas.List.Folds.{list_any_more}
use Rattle.sat_lits.specs.Literals.{negation}
use Rattle.sat_lits.specs.Steps.{with, negated}
use Rattle.proof_check.specs.Marks.{marked}

-- no stamp has a round that comes later
pub none_fresh : (stamps : List ℕ) (round : ℕ) → All (λ stamp. stamp < round) stamps → map (λ stamp. stamp == round) stamps ≡ replicate (length stamps) false
none_fresh [] round below = refl
none_fresh (s ∷ stamps) round below =
    let here : s < round = All-head (λ (stamp : ℕ). stamp < round) s stamps below in
    let apart : s ≢ round = omega arith in
    let head : (s == round) ≡ false = ne_eqb s round apart in
    let tail : map (λ stamp. stamp == round) stamps ≡ replicate (length stamps) false = none_fresh stamps round (All-tail (λ (stamp : ℕ). stamp < round) s stamps below) in
    cc

-- the literal_set after a stamp got the present round
pub literal_set-set : (stamps : List ℕ) (l round : ℕ) → map (λ stamp. stamp == round) (set stamps l round) ≡ set (map (λ stamp. stamp == round) stamps) l true
literal_set-set stamps l round = map-set (λ stamp. stamp == round) stamps l round ∙ ap (λ b. set (map (λ stamp. stamp == round) stamps) l b) (eq-eqb round round refl)

-- a set insert_all is one more literal that is known
pub marked-set : (literal_set : List Bool) (l : ℕ) → l < length literal_set → marked (set literal_set l true) ≡ with (marked literal_set) l
marked-set literal_set l within = λ i m. at m i
  where
    at : (m : ℕ) → marked (set literal_set l true) m ≡ with (marked literal_set) l m
    at m = elim (cases_eq m l) [
      | inl e ↦ ap (λ n. get_or (set literal_set l true) n false) e ∙ get_or-set_same literal_set l true false within ∙ sym (or_left (m == l) (marked literal_set m) (eq-eqb m l e))
      | inr ne ↦ get_or-set_other literal_set l m true false ne ∙ sym (ap (λ b. b || marked literal_set m) (ne_eqb m l ne))
    ]

pub marked-none : (n l : ℕ) → marked (replicate n false) l ≡ false
marked-none zero l = refl
marked-none (suc n) zero = refl
marked-none (suc n) (suc l) = marked-none n l

eqb_symmetric : (a b : ℕ) → (a == b) ≡ (b == a)
eqb_symmetric a b = elim (cases_eq a b) [
  | inl e ↦ eq-eqb a b e ∙ sym (eq-eqb b a (sym e))
  | inr ne ↦ ne_eqb a b ne ∙ sym (ne_eqb b a (λ e. ne (sym e)))
]

-- one more literal of a clause is negated
pub negated-more : (literal_set : List Bool) (lits : List ℕ) (i : ℕ) (l : ℕ) → i < length lits → l ≡ get_or lits i l → negation l < length literal_set → ((m : ℕ) → marked literal_set m ≡ negated (take i lits) m) → (m : ℕ) → marked (set literal_set (negation l) true) m ≡ negated (take (i + 1) lits) m
negated-more literal_set lits i l within is room before m =
    ap (λ known. known m) (marked-set literal_set (negation l) room)
    ∙ or_comm (m == negation l) (marked literal_set m)
    ∙ ap (λ b. b || (m == negation l)) (before m)
    ∙ ap (λ b. negated (take i lits) m || b) (eqb_symmetric m (negation l) ∙ ap (λ x. negation x == m) is)
    ∙ sym (list_any_more (λ x. negation x == m) lits i l within)
