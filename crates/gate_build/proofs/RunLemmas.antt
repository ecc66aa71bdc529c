-- Runs of several calls, from what each call answers.
use Rattle.std.proofs.Common.{◌≡◌, ℕ, List, ◌∷◌, sym, ◌∙◌, ap}
use Rattle.sat_lits.specs.Literals.{negation}
use Rattle.gate_build.specs.Circuits.{Circuit}
use Rattle.gate_build.specs.Numbering.{and_of, or_of, xor_of, mux_of, all_from, any_from}

pub or_of-run : (a b na nb neither l : ℕ) (old new : Circuit) → na ≡ negation a → nb ≡ negation b → (neither, new) ≡ and_of na nb old → l ≡ negation neither → (l, new) ≡ or_of a b old
unfolding or_of
or_of-run a b na nb neither l old new is_na is_nb ran is_l =
    ap (λ m. (m, new)) is_l ∙ ap (λ (r : ℕ × Circuit). (negation r.0, r.1)) (ran ∙ ap (λ m. and_of m nb old) is_na ∙ ap (λ m. and_of (negation a) m old) is_nb)

pub xor_of-run : (a b na nb first second l : ℕ) (old before after new : Circuit)
    → nb ≡ negation b → (first, before) ≡ and_of a nb old
    → na ≡ negation a → (second, after) ≡ and_of na b before
    → (l, new) ≡ or_of first second after → (l, new) ≡ xor_of a b old
unfolding xor_of
xor_of-run a b na nb first second l old before after new is_nb ran_first is_na ran_second ran =
    ran
    ∙ ap (λ (r : ℕ × Circuit). or_of first r.0 r.1) (ran_second ∙ ap (λ m. and_of m b before) is_na)
    ∙ ap (λ (r : ℕ × Circuit). or_of r.0 (and_of (negation a) b r.1).0 (and_of (negation a) b r.1).1) (ran_first ∙ ap (λ m. and_of a m old) is_nb)

pub mux_of-run : (c a b nc first second l : ℕ) (old before after new : Circuit)
    → (first, before) ≡ and_of c a old
    → nc ≡ negation c → (second, after) ≡ and_of nc b before
    → (l, new) ≡ or_of first second after → (l, new) ≡ mux_of c a b old
unfolding mux_of
mux_of-run c a b nc first second l old before after new ran_first is_nc ran_second ran =
    ran
    ∙ ap (λ (r : ℕ × Circuit). or_of first r.0 r.1) (ran_second ∙ ap (λ m. and_of m b before) is_nc)
    ∙ ap (λ (r : ℕ × Circuit). or_of r.0 (and_of (negation c) b r.1).0 (and_of (negation c) b r.1).1) ran_first

-- one literal more of a list
pub all_from-next : (all l next : ℕ) (lits rest : List ℕ) (circuit new : Circuit) (run : ℕ × Circuit) → lits ≡ l ∷ rest → (next, new) ≡ and_of all l circuit → all_from all lits circuit ≡ run → all_from next rest new ≡ run
all_from-next all l next lits rest circuit new run at ran before =
    ap (λ (r : ℕ × Circuit). all_from r.0 rest r.1) ran ∙ sym (ap (λ ls. all_from all ls circuit) at) ∙ before

pub any_from-next : (any l next : ℕ) (lits rest : List ℕ) (circuit new : Circuit) (run : ℕ × Circuit) → lits ≡ l ∷ rest → (next, new) ≡ or_of any l circuit → any_from any lits circuit ≡ run → any_from next rest new ≡ run
any_from-next any l next lits rest circuit new run at ran before =
    ap (λ (r : ℕ × Circuit). any_from r.0 rest r.1) ran ∙ sym (ap (λ ls. any_from any ls circuit) at) ∙ before
