-- A table that indexes the lines that stand, as lines are added and retired.
use Rattle.std.proofs.Common.{◌≡◌, ℕ, List, [], ◌∷◌, ◌++◌, Option, Some, None, ◌+◌, ◌⊎◌, inl, inr, length, sym, nat_eq, refl, ◌↔◌, IsSome, ◌∙◌, ap, subst}
use Rattle.std.proofs.lemmas.Bool.{cases_eq}
use Rattle.std.specs.Cmp.Lexicographic.{pointwise, bytes_decides}
use Rattle.std.proofs.lemmas.Bool.{cases_Bool, false≢true}
use Rattle.sat_lits.specs.Steps.{numbered, replaced, IsLive}
use Rattle.sat_lits.specs.Table.{number_of, Puts, Indexes}
use Rattle.sat_lits.proofs.Numbered.{numbered-nil, numbered-append, numbered-push, numbered-last, numbered-replaced_other, numbered-replaced_same}

-- the empty table indexes no lines
pub Indexes-nil : Indexes [] []
Indexes-nil = record {
  finds = λ clause n e. (let none : numbered {X = Option (List ℕ)} [] n ≡ None = numbered-nil n in absurd (cc));
  stands = λ clause n e. absurd (cc);
}

-- two lines that stand have different clauses
pub Indexes-same : (table : List (List ℕ × ℕ)) (lines : List (Option (List ℕ))) (clause : List ℕ) (n m : ℕ) → Indexes table lines → numbered lines n ≡ Some (Some clause) → numbered lines m ≡ Some (Some clause) → n ≡ m
Indexes-same table lines clause n m index e f =
    let g : number_of table clause ≡ Some n = index.finds clause n e in
    let h : number_of table clause ≡ Some m = index.finds clause m f in
    cc

-- the clauses are equal or not
same_clause : (a b : List ℕ) → (a ≡ b) ⊎ (a ≡ b → ⊥)
same_clause a b = elim (cases_Bool (pointwise nat_eq a b)) [
  | inl same ↦ inl ((bytes_decides a b).0 same)
  | inr differ ↦ inr (λ e. false≢true (sym differ ∙ (bytes_decides a b).1 e))
]

-- a clause that does not stand has no number
pub Indexes-absent : (table : List (List ℕ × ℕ)) (lines : List (Option (List ℕ))) (clause : List ℕ) → Indexes table lines → (IsLive lines clause → ⊥) → number_of table clause ≡ None
Indexes-absent table lines clause index fresh = at (number_of table clause) refl
  where
    at : (number : Option ℕ) → number_of table clause ≡ number → number_of table clause ≡ None
    at None e = e
    at (Some n) e = absurd (fresh (n, index.stands clause n e))

-- a clause has a number exactly where it stands
pub Indexes-IsLive : (table : List (List ℕ × ℕ)) (lines : List (Option (List ℕ))) (clause : List ℕ) → Indexes table lines → (IsSome (number_of table clause) ↔ IsLive lines clause)
Indexes-IsLive table lines clause index = (
  at (number_of table clause) refl,
  λ stands. (let found : number_of table clause ≡ Some stands.0 = index.finds clause stands.0 stands.1 in rw found refl),
)
  where
    at : (number : Option ℕ) → number_of table clause ≡ number → IsSome number → IsLive lines clause
    at None e some = absurd (false≢true some)
    at (Some n) e some = (n, index.stands clause n e)

-- a new clause is indexed under the next number
pub Indexes-push : (old new : List (List ℕ × ℕ)) (lines : List (Option (List ℕ))) (clause : List ℕ) → Indexes old lines → number_of old clause ≡ None → Puts old new clause (Some (length lines + 1)) → Indexes new (lines ++ Some clause ∷ [])
Indexes-push old new lines clause index absent puts = record {
  finds = λ c n e. elim (numbered-push lines (Some clause) (Some c) n e) [
    | inl before ↦
        let found : number_of old c ≡ Some n = index.finds c n before in
        puts.others c (λ same. not_there c n same found) ∙ found
    | inr here ↦
        let same : clause ≡ c = cc in
        let at : n ≡ length lines + 1 = here.0 in
        subst (λ (x : List ℕ). number_of new x ≡ Some n) same (puts.changed ∙ ap Some (sym at))
  ];
  stands = λ c n e. elim (same_clause c clause) [
    | inl same ↦
        let found : number_of new c ≡ Some (length lines + 1) = subst (λ (x : List ℕ). number_of new x ≡ Some (length lines + 1)) (sym same) puts.changed in
        let at : length lines + 1 ≡ n = cc in
        subst (λ (m : ℕ). numbered (lines ++ Some clause ∷ []) m ≡ Some (Some c)) at (numbered-last lines (Some clause) ∙ ap (λ x. Some (Some x)) (sym same))
    | inr ne ↦ numbered-append lines (Some clause ∷ []) n (Some c) (index.stands c n (sym (puts.others c ne) ∙ e))
  ];
}
  where
    not_there : (c : List ℕ) (n : ℕ) → c ≡ clause → number_of old c ≡ Some n → ⊥
    not_there c n same found = (let here : number_of old clause ≡ Some n = subst (λ (x : List ℕ). number_of old x ≡ Some n) same found in cc)

-- a retired clause is indexed no more
pub Indexes-retire : (old new : List (List ℕ × ℕ)) (lines : List (Option (List ℕ))) (n : ℕ) (clause : List ℕ) → Indexes old lines → numbered lines n ≡ Some (Some clause) → Puts old new clause None → Indexes new (replaced lines n None)
Indexes-retire old new lines n clause index is puts = record {
  finds = λ c m e. elim (cases_eq m n) [
    | inl at ↦
        let gone : numbered (replaced lines n None) m ≡ Some None = subst (λ (k : ℕ). numbered (replaced lines n None) k ≡ Some None) (sym at) (numbered-replaced_same lines n (Some clause) None is) in
        absurd (cc)
    | inr ne ↦
        let before : numbered lines m ≡ Some (Some c) = sym (numbered-replaced_other lines n m None ne) ∙ e in
        puts.others c (λ same. ne (Indexes-same old lines clause m n index (subst (λ (x : List ℕ). numbered lines m ≡ Some (Some x)) same before) is)) ∙ index.finds c m before
  ];
  stands = λ c m e. elim (same_clause c clause) [
    | inl same ↦
        let none : number_of new c ≡ None = subst (λ (x : List ℕ). number_of new x ≡ None) (sym same) puts.changed in
        absurd (cc)
    | inr ne ↦
        let before : numbered lines m ≡ Some (Some c) = index.stands c m (sym (puts.others c ne) ∙ e) in
        numbered-replaced_other lines n m None (λ at. ne (same_at c m at before)) ∙ before
  ];
}
  where
    same_at : (c : List ℕ) (m : ℕ) → m ≡ n → numbered lines m ≡ Some (Some c) → c ≡ clause
    same_at c m at before = (let here : numbered lines n ≡ Some (Some c) = subst (λ (k : ℕ). numbered lines k ≡ Some (Some c)) at before in cc)
