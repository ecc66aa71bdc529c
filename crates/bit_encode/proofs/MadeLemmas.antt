-- Words whose literals are made.
use Rattle.std.proofs.Common.{◌≡◌, ℕ, suc, ◌-◌, ◌<◌, Bool, true, false, List, [], ◌∷◌, ◌++◌, All, length, get_or, take, map, ℤ, arith, refl, sym, subst}
use Rattle.std.proofs.lemmas.List.Elements.{All-nil, All-cons, All-push, All-map, All-take, All-append, All-replicate, All-weaker}
use Rattle.sat_lits.specs.Literals.{negation}
use Rattle.gate_build.specs.Circuits.{Circuit, IsMade, Extends, falsity, constant}
use Rattle.gate_build.proofs.OrderLemmas.{IsMade-extended, IsMade-negation, Extends_same, Extends_through}
use Rattle.bit_encode.specs.Numbers.{bits_of}
use Rattle.bit_encode.specs.Words.{sign_of, resized, negated, shifted, constant_word}
use Rattle.bit_encode.specs.declared.pairwise.PairGate.{PairGate}
use Rattle.bit_encode.specs.declared.pairwise.PairGate.TheVariants.{And, Same, Choose}
use Rattle.bit_encode.specs.Made.{AreMade, IsMadeGate}

pub AreMade-extended : (old new : Circuit) (word : List ℕ) → Extends old new → AreMade old word → AreMade new word
AreMade-extended old new word extends made =
    record { constants = omega (arith, extends.vars, made.constants); each = All-weaker (IsMade old) (IsMade new) (λ l. IsMade-extended old new l extends) word made.each }

-- with the literals of another list
with_literals : (circuit : Circuit) (word other : List ℕ) → AreMade circuit word → All (IsMade circuit) other → AreMade circuit other
with_literals circuit word other made each = record { constants = made.constants; each = each }

pub AreMade-nil : (circuit : Circuit) (word : List ℕ) → AreMade circuit word → AreMade circuit []
AreMade-nil circuit word made = with_literals circuit word [] made (All-nil (IsMade circuit))

pub AreMade-push : (circuit : Circuit) (word : List ℕ) (l : ℕ) → AreMade circuit word → IsMade circuit l → AreMade circuit (word ++ l ∷ [])
AreMade-push circuit word l made last = with_literals circuit word (word ++ l ∷ []) made (All-push (IsMade circuit) word l made.each last)

-- a literal that was read from a word
pub IsMade-read : (circuit : Circuit) (word : List ℕ) (k l : ℕ) → AreMade circuit word → k < length word → l ≡ get_or word k l → IsMade circuit l
IsMade-read circuit word k l made lt is = subst (λ x. IsMade circuit x) (sym is) (made.each k l lt)

-- a constant is made wherever a word is
pub IsMade-constant_of : (circuit : Circuit) (word : List ℕ) (value : Bool) → AreMade circuit word → IsMade circuit (constant value)
IsMade-constant_of circuit word true made = record { numbered = omega arith; made = omega (arith, made.constants) }
IsMade-constant_of circuit word false made = record { numbered = omega arith; made = omega (arith, made.constants) }

sign_made : (circuit : Circuit) (word : List ℕ) → IsMade circuit falsity → All (IsMade circuit) word → IsMade circuit (sign_of falsity word)
sign_made circuit [] none each = none
sign_made circuit (x ∷ []) none each = each 0 x (omega arith)
sign_made circuit (x ∷ y ∷ more) none each = sign_made circuit (y ∷ more) none (λ k d lt. each (suc k) d (omega arith))

pub IsMade-sign : (circuit : Circuit) (word : List ℕ) (l : ℕ) → AreMade circuit word → l ≡ sign_of falsity word → IsMade circuit l
IsMade-sign circuit word l made is = subst (λ x. IsMade circuit x) (sym is) (sign_made circuit word (IsMade-constant_of circuit word false made) made.each)

-- ---- Words made of words

pub AreMade-negated : (circuit : Circuit) (word made_word : List ℕ) → AreMade circuit word → made_word ≡ negated word → AreMade circuit made_word
AreMade-negated circuit word made_word made is =
    subst (λ xs. AreMade circuit xs) (sym is) (with_literals circuit word (negated word) made
    (All-map (IsMade circuit) negation word (All-weaker (IsMade circuit) (λ l. IsMade circuit (negation l)) (IsMade-negation circuit) word made.each)))

pub AreMade-resized : (circuit : Circuit) (word made_word : List ℕ) (w : ℕ) → AreMade circuit word → made_word ≡ resized w word → AreMade circuit made_word
AreMade-resized circuit word made_word w made is =
    subst (λ xs. AreMade circuit xs) (sym is) (with_literals circuit word (resized w word) made
    (All-append (IsMade circuit) (take w word) _ (All-take (IsMade circuit) w word made.each)
    (All-replicate (IsMade circuit) (w - length word) (sign_of falsity word) (IsMade-sign circuit word (sign_of falsity word) made refl))))

pub AreMade-shifted : (circuit : Circuit) (low : ℕ) (word made_word : List ℕ) → IsMade circuit low → AreMade circuit word → made_word ≡ shifted low word → AreMade circuit made_word
AreMade-shifted circuit low word made_word made_low made is =
    subst (λ xs. AreMade circuit xs) (sym is) (with_literals circuit word (shifted low word) made
    (All-take (IsMade circuit) (length word) (low ∷ word) (All-cons (IsMade circuit) low word made_low made.each)))

constants_made : (circuit : Circuit) (word : List ℕ) → AreMade circuit word → (bits : List Bool) → All (IsMade circuit) (map constant bits)
constants_made circuit word made bits = All-map (IsMade circuit) constant bits (λ k d lt. IsMade-constant_of circuit word (get_or bits k d) made)

pub AreMade-constants : (circuit : Circuit) (word made_word : List ℕ) (w : ℕ) (z : ℤ) → AreMade circuit word → made_word ≡ constant_word w z → AreMade circuit made_word
AreMade-constants circuit word made_word w z made is =
    subst (λ xs. AreMade circuit xs) (sym is) (with_literals circuit word (constant_word w z) made (constants_made circuit word made (bits_of w z)))

-- a gate's own literal stays made
pub IsMadeGate-extended : (old new : Circuit) (gate : PairGate) → Extends old new → IsMadeGate old gate → IsMadeGate new gate
IsMadeGate-extended old new And extends made = tt
IsMadeGate-extended old new Same extends made = tt
IsMadeGate-extended old new (Choose c) extends made = IsMade-extended old new c extends made

pub ruleset made_steps = (Extends_same, Extends_through, IsMade-extended, AreMade-extended, AreMade-nil, AreMade-push, IsMade-read, IsMade-sign, AreMade-negated, AreMade-resized, AreMade-shifted, AreMade-constants, IsMadeGate-extended)
