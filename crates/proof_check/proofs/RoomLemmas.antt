-- Room for the literals of all clauses that an id can name.
use Rattle.std.proofs.Common.{◌≡◌, ℕ, List, [], ◌∷◌, ◌++◌, Option, Some, None, arith, refl, ◌⊎◌, ◌<◌, ◌≤◌, ◌+◌, inl, inr, length, get_or, sym, ◌∙◌, ap, subst, zero, suc}
use Rattle.std.specs.Prelude.{All, option_and_then}
use Rattle.std.proofs.lemmas.Option.{get_or_from_slice_get, slice_get_within}
use Rattle.fsmv_base.specs.declared.citation.Id.{Id}
use Rattle.fsmv_base.specs.declared.citation.Id.TheVariants.{Axiom, Derived}
use Rattle.std.proofs.lemmas.Bool.{cases_eq}
use Rattle.sat_lits.specs.Clauses.{Follows}
use Rattle.sat_lits.specs.Steps.{numbered, named, replaced}
use Rattle.sat_lits.proofs.Numbered.{numbered-nil, numbered-push, numbered-replaced_other, numbered-replaced_same, numbered-replaced_none}
use Rattle.sat_lits.proofs.Sound.{live_line}
use Rattle.proof_check.specs.Marks.{HasRoom}
use Rattle.proof_check.specs.CheckerState.{KeepsTogether}

-- more room is room
pub HasRoom-grown : (axioms : List (List ℕ)) (lines : List (Option (List ℕ))) (n m : ℕ) → n ≤ m → HasRoom axioms lines n → HasRoom axioms lines m
HasRoom-grown axioms lines n m le has id clause is = λ k d within. (let at : get_or clause k d + 1 < n = has id clause is k d within in omega arith)

-- room for the axioms is room for all, where no line was derived
pub HasRoom-axioms : (axioms : List (List ℕ)) (n : ℕ) → ((k : ℕ) → k < length axioms → All (λ l. l + 1 < n) (get_or axioms k [])) → HasRoom axioms [] n
HasRoom-axioms axioms n has (Axiom zero) clause is = cc
HasRoom-axioms axioms n has (Axiom (suc i)) clause is =
    subst (λ (c : List ℕ). All (λ l. l + 1 < n) c) (get_or_from_slice_get axioms i clause [] is) (has i (slice_get_within axioms i clause is))
HasRoom-axioms axioms n has (Derived m) clause is =
    let none : numbered {X = Option (List ℕ)} [] m ≡ None = numbered-nil m in
    let gone : option_and_then (λ line. line) (numbered {X = Option (List ℕ)} [] m) ≡ None = ap (λ line. option_and_then (λ l. l) line) none in
    absurd (cc)

-- a checker before the first line
pub KeepsTogether-start : (axioms : List (List ℕ)) (n : ℕ) → HasRoom axioms [] n → KeepsTogether axioms [] n
KeepsTogether-start axioms n room = record { follow = λ m clause is. (let none : numbered {X = Option (List ℕ)} [] m ≡ None = numbered-nil m in absurd (cc)); room = room }

-- more room changes nothing else
pub KeepsTogether-grown : (axioms : List (List ℕ)) (lines : List (Option (List ℕ))) (n m : ℕ) → n ≤ m → KeepsTogether axioms lines n → KeepsTogether axioms lines m
KeepsTogether-grown axioms lines n m le keeps = record { follow = keeps.follow; room = HasRoom-grown axioms lines n m le keeps.room }

-- an id of the grown log names an old clause or the new one
named-push : (axioms : List (List ℕ)) (lines : List (Option (List ℕ))) (clause other : List ℕ) (id : Id) → named axioms (lines ++ Some clause ∷ []) id ≡ Some other → (named axioms lines id ≡ Some other) ⊎ (clause ≡ other)
named-push axioms lines clause other (Axiom n) is = inl is
named-push axioms lines clause other (Derived n) is = elim (numbered-push lines (Some clause) (Some other) n (live_line (numbered (lines ++ Some clause ∷ []) n) other is)) [
  | inl old ↦ inl (ap (λ line. option_and_then (λ l. l) line) old)
  | inr new ↦ inr (cc)
]

-- a line is added whose clause follows
pub KeepsTogether-push : (axioms : List (List ℕ)) (lines : List (Option (List ℕ))) (clause : List ℕ) (n : ℕ) → Follows axioms clause → All (λ l. l + 1 < n) clause → KeepsTogether axioms lines n → KeepsTogether axioms (lines ++ Some clause ∷ []) n
KeepsTogether-push axioms lines clause n follows room keeps = record {
  follow = λ m other is. elim (numbered-push lines (Some clause) (Some other) m is) [
    | inl old ↦ keeps.follow m other old
    | inr new ↦ (let same : clause ≡ other = cc in subst (Follows axioms) same follows)
  ];
  room = λ id other is. elim (named-push axioms lines clause other id is) [
    | inl old ↦ keeps.room id other old
    | inr same ↦ subst (λ (c : List ℕ). All (λ l. l + 1 < n) c) same room
  ];
}

-- a line that stands after one was retired stood before
stood : (lines : List (Option (List ℕ))) (retired n : ℕ) (clause : List ℕ) → numbered (replaced lines retired None) n ≡ Some (Some clause) → numbered lines n ≡ Some (Some clause)
stood lines retired n clause is = elim (cases_eq n retired) [
  | inl e ↦ absurd (gone (numbered lines retired) refl (subst (λ (k : ℕ). numbered (replaced lines retired None) k ≡ Some (Some clause)) e is))
  | inr ne ↦ sym (numbered-replaced_other lines retired n None ne) ∙ is
]
  where
    gone : (line : Option (Option (List ℕ))) → numbered lines retired ≡ line → numbered (replaced lines retired None) retired ≡ Some (Some clause) → ⊥
    gone None e f = (let none : numbered (replaced lines retired None) retired ≡ None = numbered-replaced_none lines retired None e in cc)
    gone (Some line) e f = (let none : numbered (replaced lines retired None) retired ≡ Some None = numbered-replaced_same lines retired line None e in cc)

-- a line is retired
pub KeepsTogether-retire : (axioms : List (List ℕ)) (lines : List (Option (List ℕ))) (retired n : ℕ) → KeepsTogether axioms lines n → KeepsTogether axioms (replaced lines retired None) n
KeepsTogether-retire axioms lines retired n keeps = record {
  follow = λ m clause is. keeps.follow m clause (stood lines retired m clause is);
  room = λ id clause is. named_before id clause is;
}
  where
    named_before : (id : Id) (clause : List ℕ) → named axioms (replaced lines retired None) id ≡ Some clause → All (λ l. l + 1 < n) clause
    named_before (Axiom m) clause is = keeps.room (Axiom m) clause is
    named_before (Derived m) clause is = keeps.room (Derived m) clause (ap (λ line. option_and_then (λ l. l) line) (stood lines retired m clause (live_line (numbered (replaced lines retired None) m) clause is)))
