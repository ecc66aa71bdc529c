-- What a reader decides within some tokens depends on these alone, and on whether `..` comes after them.
use Rattle.std.proofs.Common.{◌≡◌, ℕ, zero, suc, ◌≤◌, ◌<◌, Bool, true, false, List, [], ◌∷◌, ◌++◌, length, Option, Some, None, refl, sym, ◌∙◌, ap, subst, append_assoc, length-append, arith, cond}
use Rattle.std.proofs.lemmas.List.{append_cancel_right}
use Rattle.smv_expr.specs.declared.kind.Kind.{Kind}
use Rattle.smv_expr.specs.declared.kind.Kind.TheVariants as k
use Rattle.smv_expr.specs.Lexicon.{Token}
use Rattle.smv_expr.specs.Language.{Tokens, begins}
use Rattle.smv_expr.specs.Reading.{Cause, Outcome, Reader, remaining_of, and_then, read_if, read_leaf, read_dep, read_both, read_mapped, read_either, read_nothing, read_more, read_many, read_fold, read_allowed, read_deep, pushed}
use Rattle.smv_expr.specs.Reading.Outcome.{Read, Stop}
use Rattle.smv_expr.specs.Reading.Cause.{UnexpectedToken, Wide, Deep}
use Rattle.smv_expr.specs.ExprGrammar.{never_ends}
use Rattle.smv_expr.proofs.Rounds.{Consumes}
use Rattle.smv_expr.proofs.RowRounds.{more_ended, more_end, next_round, never_ended}
use Rattle.smv_expr.proofs.Limited.{LeavesSuffix, suffix_more, suffix_cond, suffix_leaf, suffix_second}

-- the same outcome, with other tokens left
abbrev pub put : {A : Type 0} → Outcome A → Tokens → Outcome A
put (Read a remaining) ts = Read a ts
put (Stop cause remaining) ts = Stop cause ts

-- whether `..` comes after both or neither
abbrev pub SameDots : Tokens → Tokens → Type 0
SameDots r r' = begins (k.DotDot ∷ []) r ≡ begins (k.DotDot ∷ []) r'

-- An outcome that leaves some of the tokens c is the same with other tokens after them. No reader stops for nesting at the
-- end of the tokens.
pub record Local {A : Type 0} (p : Reader A) : Type 0 where
  pub near : (ts : Tokens) → LeavesSuffix ts (p ts)
  pub same : (c r r' mid left : Tokens) → SameDots r r' → c ≡ mid ++ left → 0 < length left → remaining_of (p (c ++ r)) ≡ left ++ r → p (c ++ r') ≡ put (p (c ++ r)) (left ++ r')
  pub ends : (ts : Tokens) → p ts ≡ Stop Deep [] → ⊥

not_none : (mid left : Tokens) → [] ≡ mid ++ left → 0 < length left → ⊥
not_none mid left s some = omega (arith, ap length s, length-append mid left, some)

nonempty : (c mid left : Tokens) → c ≡ mid ++ left → 0 < length left → 0 < length c
nonempty c mid left s some = omega (arith, ap length s, length-append mid left, some)

abbrev stop : (A : Type 0) → Cause → Tokens → Outcome A
stop A cause ts = Stop cause ts

stop_same : (A B : Type 0) (cause : Cause) (ts : Tokens) → stop B cause ts ≡ stop B Deep [] → stop A cause ts ≡ stop A Deep []
stop_same A B UnexpectedToken ts e = cc
stop_same A B Wide ts e = cc
stop_same A B Deep ts e = let none : ts ≡ [] = cc in ap (stop A Deep) none

-- ---- one token, or none

pub nothing_local : {A : Type 0} (a : A) → Local (read_nothing a)
nothing_local a = record { near = λ ts. ([], refl); same = λ c r r' mid left dots s some e. ap (λ x. Read a (x ++ r')) (append_cancel_right c left r e); ends = λ ts e. cc }

unexpected_local : {A : Type 0} → Local {A = A} (Stop UnexpectedToken)
unexpected_local = record { near = λ ts. ([], refl); same = λ c r r' mid left dots s some e. ap (λ x. Stop UnexpectedToken (x ++ r')) (append_cancel_right c left r e); ends = λ ts e. cc }

pub leaf_local : {A : Type 0} (f : Token → Option A) → Local (read_leaf f)
leaf_local {A = A} f = record { near = suffix_leaf f; same = same; ends = ends } where
  same : (c r r' mid left : Tokens) → SameDots r r' → c ≡ mid ++ left → 0 < length left → remaining_of (read_leaf f (c ++ r)) ≡ left ++ r → read_leaf f (c ++ r') ≡ put (read_leaf f (c ++ r)) (left ++ r')
  same [] r r' mid left dots s some e = absurd (not_none mid left s some)
  same (x ∷ c) r r' mid left dots s some e = by_value (f x) e where
    by_value : (found : Option A) → remaining_of (read_if found (x ∷ c ++ r) (c ++ r)) ≡ left ++ r → read_if found (x ∷ c ++ r') (c ++ r') ≡ put (read_if found (x ∷ c ++ r) (c ++ r)) (left ++ r')
    by_value None e = ap (λ z. Stop UnexpectedToken (z ++ r')) (append_cancel_right (x ∷ c) left r e)
    by_value (Some a) e = ap (λ z. Read a (z ++ r')) (append_cancel_right c left r e)

  ends : (ts : Tokens) → read_leaf f ts ≡ Stop Deep [] → ⊥
  ends [] e = cc
  ends (t ∷ ts) e = by_value (f t) e where
    by_value : (found : Option A) → read_if found (t ∷ ts) ts ≡ Stop Deep [] → ⊥
    by_value None e = cc
    by_value (Some a) e = cc

-- ---- the one, and then the other

then_at : {A B : Type 0} {p : Reader A} (l : Local p) (q : A → Reader B) → ((a : A) (ts : Tokens) → LeavesSuffix ts (q a ts)) → (c r r' mid left : Tokens) → SameDots r r' → c ≡ mid ++ left → 0 < length left
    → ((a : A) (m n : Tokens) → c ≡ m ++ (n ++ left) → p (c ++ r) ≡ Read a ((n ++ left) ++ r) → remaining_of (q a ((n ++ left) ++ r)) ≡ left ++ r → q a ((n ++ left) ++ r') ≡ put (q a ((n ++ left) ++ r)) (left ++ r'))
    → (o : Outcome A) → p (c ++ r) ≡ o → remaining_of (and_then o q) ≡ left ++ r → and_then (p (c ++ r')) q ≡ put (and_then o q) (left ++ r')
then_at l q near c r r' mid left dots s some next (Stop cause x) h e = ap (λ o. and_then o q) (l.same c r r' mid left dots s some (ap remaining_of h ∙ e) ∙ ap (λ o. put o (left ++ r')) h)
then_at {p = p} l q near c r r' mid left dots s some next (Read a x) h e =
    let before = near a x in
    let first = l.near (c ++ r) in
    let xs : x ≡ (before.0 ++ left) ++ r = before.1 ∙ ap (λ z. before.0 ++ z) e ∙ sym (append_assoc before.0 left r) in
    let cs : c ≡ first.0 ++ (before.0 ++ left) = append_cancel_right c (first.0 ++ (before.0 ++ left)) r (first.1 ∙ ap (λ z. first.0 ++ z) (ap remaining_of h ∙ xs) ∙ sym (append_assoc first.0 (before.0 ++ left) r)) in
    let some' : 0 < length (before.0 ++ left) = omega (arith, length-append before.0 left, some) in
    let one = l.same c r r' first.0 (before.0 ++ left) dots cs some' (ap remaining_of h ∙ xs) ∙ ap (λ o. put o ((before.0 ++ left) ++ r')) h in
    let two = next a first.0 before.0 cs (h ∙ ap (λ z. Read a z) xs) (ap (λ z. remaining_of (q a z)) (sym xs) ∙ e) in
    ap (λ o. and_then o q) one ∙ two ∙ ap (λ z. put (q a z) (left ++ r')) (sym xs)

then_near : {A B : Type 0} (q : A → Reader B) → ((a : A) (ts : Tokens) → LeavesSuffix ts (q a ts)) → (ts : Tokens) (o : Outcome A) → LeavesSuffix ts o → LeavesSuffix ts (and_then o q)
then_near q near ts (Read a x) h = suffix_more ts x h.0 (q a x) h.1 (near a x)
then_near q near ts (Stop cause x) h = h

then_ends : {A B : Type 0} {p : Reader A} (l : Local p) (q : A → Reader B) (ts : Tokens) → ((a : A) (x : Tokens) → p ts ≡ Read a x → q a x ≡ Stop Deep [] → ⊥) → (o : Outcome A) → p ts ≡ o → and_then o q ≡ Stop Deep [] → ⊥
then_ends {A = A} {B = B} l q ts next (Stop cause x) h e = l.ends ts (h ∙ stop_same A B cause x e)
then_ends l q ts next (Read a x) h e = next a x h e

pub then_local : {A B : Type 0} {p : Reader A} {q : A → Reader B} → Local p → ((a : A) → Local (q a)) → Local (λ ts. and_then (p ts) q)
then_local {p = p} {q = q} l lq = record {
  near = λ ts. then_near q (λ a. (lq a).near) ts (p ts) (l.near ts);
  same = λ c r r' mid left dots s some e. then_at l q (λ a. (lq a).near) c r r' mid left dots s some (λ a m n cs h z. (lq a).same (n ++ left) r r' n left dots refl some z) (p (c ++ r)) refl e;
  ends = λ ts e. then_ends l q ts (λ a x h z. (lq a).ends x z) (p ts) refl e;
}

pub mapped_local : {A B : Type 0} (f : A → B) {p : Reader A} → Local p → Local (read_mapped f p)
mapped_local f l = then_local l (λ a. nothing_local (f a))

pub dep_local : {A B : Type 0} {p : Reader A} {q : A → Reader B} → Local p → ((a : A) → Local (q a)) → Local (read_dep p q)
dep_local {A = A} {B = B} l lq = then_local l (λ a. mapped_local (λ (b : B). (a, b)) (lq a))

pub both_local : {A B : Type 0} {p : Reader A} {q : Reader B} → Local p → Local q → Local (read_both p q)
both_local l m = dep_local l (λ a. m)

-- ---- the one or the other

pub test_local : {A : Type 0} {p q : Reader A} (which : Tokens → Bool) → ((c r r' : Tokens) → 0 < length c → SameDots r r' → which (c ++ r) ≡ which (c ++ r')) → Local p → Local q → Local (λ ts. cond (which ts) (p ts) (q ts))
test_local {A = A} {p = p} {q = q} which keeps l m = record {
  near = λ ts. suffix_cond ts (which ts) (p ts) (q ts) (l.near ts) (m.near ts);
  same = λ c r r' mid left dots s some e. ap (λ v. cond v (p (c ++ r')) (q (c ++ r'))) (sym (keeps c r r' (nonempty c mid left s some) dots)) ∙ by_test c r r' mid left dots s some (which (c ++ r)) e;
  ends = λ ts e. by_end ts (which ts) e;
} where
  by_test : (c r r' mid left : Tokens) → SameDots r r' → c ≡ mid ++ left → 0 < length left → (v : Bool) → remaining_of (cond v (p (c ++ r)) (q (c ++ r))) ≡ left ++ r
      → cond v (p (c ++ r')) (q (c ++ r')) ≡ put (cond v (p (c ++ r)) (q (c ++ r))) (left ++ r')
  by_test c r r' mid left dots s some true e = l.same c r r' mid left dots s some e
  by_test c r r' mid left dots s some false e = m.same c r r' mid left dots s some e

  by_end : (ts : Tokens) (v : Bool) → cond v (p ts) (q ts) ≡ Stop Deep [] → ⊥
  by_end ts true e = l.ends ts e
  by_end ts false e = m.ends ts e

begins_keeps : (set : List Kind) (c r r' : Tokens) → 0 < length c → begins set (c ++ r) ≡ begins set (c ++ r')
begins_keeps set [] r r' some = absurd (omega (arith, some))
begins_keeps set (t ∷ c) r r' some = refl

pub either_local : {A : Type 0} {p q : Reader A} (set : List Kind) → Local p → Local q → Local (read_either set p q)
either_local set l m = test_local (begins set) (λ c r r' some dots. begins_keeps set c r r' some) l m

-- a token that is read only where it fits
pub allowed_local : {A : Type 0} {p : Reader A} (ok : Bool) (cause : Cause) (set : List Kind) → Local p → Local (read_allowed ok cause set p)
allowed_local true cause set l = l
allowed_local {A = A} {p = p} false cause set l = record {
  near = λ ts. suffix_cond ts (begins set ts) (Stop cause ts) (p ts) ([], refl) (l.near ts);
  same = λ c r r' mid left dots s some e. ap (λ v. cond v (Stop cause (c ++ r')) (p (c ++ r'))) (sym (begins_keeps set c r r' (nonempty c mid left s some))) ∙ by_test c r r' mid left dots s some (begins set (c ++ r)) e;
  ends = λ ts e. by_end ts (begins set ts) refl e;
} where
  by_test : (c r r' mid left : Tokens) → SameDots r r' → c ≡ mid ++ left → 0 < length left → (v : Bool) → remaining_of (cond v (Stop cause (c ++ r)) (p (c ++ r))) ≡ left ++ r
      → cond v (Stop cause (c ++ r')) (p (c ++ r')) ≡ put (cond v (Stop cause (c ++ r)) (p (c ++ r))) (left ++ r')
  by_test c r r' mid left dots s some true e = ap (λ z. Stop cause (z ++ r')) (append_cancel_right c left r e)
  by_test c r r' mid left dots s some false e = l.same c r r' mid left dots s some e

  by_end : (ts : Tokens) (v : Bool) → begins set ts ≡ v → cond v (Stop cause ts) (p ts) ≡ Stop Deep [] → ⊥
  by_end [] true h e = cc
  by_end (t ∷ ts) true h e = cc
  by_end ts false h e = l.ends ts e

pub deep_local : {A : Type 0} (first : List Kind) → Local {A = A} (read_deep first)
deep_local first = allowed_local false Deep first unexpected_local

pub same_local : {A : Type 0} {p u : Reader A} → ((ts : Tokens) → p ts ≡ u ts) → Local p → Local u
same_local {A = A} {p = p} {u = u} e l = record {
  near = λ ts. subst (λ (o : Outcome A). LeavesSuffix ts o) (e ts) (l.near ts);
  same = λ c r r' mid left dots s some h. sym (e (c ++ r')) ∙ l.same c r r' mid left dots s some (ap remaining_of (e (c ++ r)) ∙ h) ∙ ap (λ o. put o (left ++ r')) (e (c ++ r));
  ends = λ ts h. l.ends ts (e ts ∙ h);
}

-- ---- what takes a token at least

pub leaf_consumes : {A : Type 0} (f : Token → Option A) → Consumes (read_leaf f)
leaf_consumes {A = A} f = record { less = less } where
  less : (ts : Tokens) (a : A) (remaining : Tokens) → read_leaf f ts ≡ Read a remaining → length remaining < length ts
  less [] a remaining e = cc
  less (t ∷ ts) a remaining e = by_value (f t) e where
    by_value : (found : Option A) → read_if found (t ∷ ts) ts ≡ Read a remaining → length remaining < length (t ∷ ts)
    by_value None e = cc
    by_value (Some b) e = let same : ts ≡ remaining = cc in omega (arith, ap length same)

pub first_consumes : {A B : Type 0} {p : Reader A} {q : A → Reader B} → Consumes p → ((a : A) → Local (q a)) → Consumes (λ ts. and_then (p ts) q)
first_consumes {A = A} {B = B} {p = p} {q = q} c lq = record { less = λ ts b remaining e. by_outcome ts b remaining (p ts) refl e } where
  by_outcome : (ts : Tokens) (b : B) (remaining : Tokens) (o : Outcome A) → p ts ≡ o → and_then o q ≡ Read b remaining → length remaining < length ts
  by_outcome ts b remaining (Read a x) h e =
      let less = c.less ts a x h in
      let near = (lq a).near x in
      let same : length x ≡ length (near.0 ++ remaining) = ap length (near.1 ∙ ap (λ o. near.0 ++ remaining_of o) e) in
      omega (arith, less, same, length-append near.0 remaining)
  by_outcome ts b remaining (Stop cause x) h e = cc

pub second_consumes : {A B : Type 0} {p : Reader A} {q : A → Reader B} → Local p → ((a : A) → Consumes (q a)) → Consumes (λ ts. and_then (p ts) q)
second_consumes {A = A} {B = B} {p = p} {q = q} l cq = record { less = λ ts b remaining e. by_outcome ts b remaining (p ts) refl e } where
  by_outcome : (ts : Tokens) (b : B) (remaining : Tokens) (o : Outcome A) → p ts ≡ o → and_then o q ≡ Read b remaining → length remaining < length ts
  by_outcome ts b remaining (Read a x) h e =
      let less = (cq a).less x b remaining e in
      let near = l.near ts in
      let same : length ts ≡ length (near.0 ++ x) = ap length (near.1 ∙ ap (λ o. near.0 ++ remaining_of o) h) in
      omega (arith, less, same, length-append near.0 x)
  by_outcome ts b remaining (Stop cause x) h e = cc

pub mapped_consumes : {A B : Type 0} (f : A → B) {p : Reader A} → Consumes p → Consumes (read_mapped f p)
mapped_consumes f c = first_consumes c (λ a. nothing_local (f a))

pub both_consumes : {A B : Type 0} {p : Reader A} {q : Reader B} → Consumes p → Local q → Consumes (read_both p q)
both_consumes {A = A} {B = B} c l = first_consumes c (λ a. mapped_local (λ (b : B). (a, b)) l)

pub later_consumes : {A B : Type 0} {p : Reader A} {q : Reader B} → Local p → Consumes q → Consumes (read_both p q)
later_consumes {A = A} {B = B} l c = second_consumes l (λ a. mapped_consumes (λ (b : B). (a, b)) c)

pub either_consumes : {A : Type 0} {p q : Reader A} (set : List Kind) → Consumes p → Consumes q → Consumes (read_either set p q)
either_consumes {A = A} {p = p} {q = q} set c d = record { less = λ ts a remaining e. by_test ts a remaining (begins set ts) e } where
  by_test : (ts : Tokens) (a : A) (remaining : Tokens) (v : Bool) → cond v (p ts) (q ts) ≡ Read a remaining → length remaining < length ts
  by_test ts a remaining true e = c.less ts a remaining e
  by_test ts a remaining false e = d.less ts a remaining e

-- ---- rows

module _ {A B : Type 0} (set : List Kind) (ended : B → Bool) (p : B → Reader A) (step : B → A → B) (consume : (b : B) → Consumes (p b)) (lp : (b : B) → Local (p b)) where
  abbrev rows : B → Reader B
  rows b ts = read_more set ended p step b ts

  rows_near : (b : B) (ts : Tokens) → LeavesSuffix ts (rows b ts)
  rows_near b ts = suffix_second set ended p step (λ x. (lp x).near) b ts

  -- where nothing is read
  none_at : (b : B) (c r r' left : Tokens) → rows b (c ++ r) ≡ Read b (c ++ r) → rows b (c ++ r') ≡ Read b (c ++ r') → remaining_of (rows b (c ++ r)) ≡ left ++ r → rows b (c ++ r') ≡ put (rows b (c ++ r)) (left ++ r')
  none_at b c r r' left x x' e = x' ∙ ap (λ z. Read b (z ++ r')) (append_cancel_right c left r (ap remaining_of (sym x) ∙ e)) ∙ sym (ap (λ o. put o (left ++ r')) x)

  -- what is said of the tokens c, with no more than n of them
  abbrev RowsAt : ℕ → Type 0
  RowsAt n = (b : B) (c r r' mid left : Tokens) → length c ≤ n → SameDots r r' → c ≡ mid ++ left → 0 < length left → remaining_of (rows b (c ++ r)) ≡ left ++ r → rows b (c ++ r') ≡ put (rows b (c ++ r)) (left ++ r')

  round_at : (n : ℕ) → RowsAt n → (b : B) (c r r' mid left : Tokens) → length c ≤ suc n → SameDots r r' → c ≡ mid ++ left → 0 < length left → ended b ≡ false → begins set (c ++ r) ≡ true
      → remaining_of (rows b (c ++ r)) ≡ left ++ r → rows b (c ++ r') ≡ put (rows b (c ++ r)) (left ++ r')
  round_at n shorter b c r r' mid left small dots s some out h e =
      let round = next_round set ended p step consume b (c ++ r) out h in
      let round' = next_round set ended p step consume b (c ++ r') out (sym (begins_keeps set c r r' (nonempty c mid left s some)) ∙ h) in
      round' ∙ then_at (lp b) (λ a. rows (step b a)) (λ a. rows_near (step b a)) c r r' mid left dots s some
      (λ a m w cs x z. let less = (consume b).less (c ++ r) a ((w ++ left) ++ r) x in
      shorter (step b a) (w ++ left) r r' w left (omega (arith, less, small, length-append c r, length-append (w ++ left) r)) dots refl some z)
      (p b (c ++ r)) refl (ap remaining_of (sym round) ∙ e) ∙ sym (ap (λ o. put o (left ++ r')) round)

  begins_at_row : (n : ℕ) → RowsAt n → (b : B) (c r r' mid left : Tokens) → length c ≤ suc n → SameDots r r' → c ≡ mid ++ left → 0 < length left → ended b ≡ false → (v : Bool) → begins set (c ++ r) ≡ v
      → remaining_of (rows b (c ++ r)) ≡ left ++ r → rows b (c ++ r') ≡ put (rows b (c ++ r)) (left ++ r')
  begins_at_row n shorter b c r r' mid left small dots s some out false h e = none_at b c r r' left (more_end set ended p step b (c ++ r) out h) (more_end set ended p step b (c ++ r') out (sym (begins_keeps set c r r' (nonempty c mid left s some)) ∙ h)) e
  begins_at_row n shorter b c r r' mid left small dots s some out true h e = round_at n shorter b c r r' mid left small dots s some out h e

  ended_at_row : (n : ℕ) → RowsAt n → (b : B) (c r r' mid left : Tokens) → length c ≤ suc n → SameDots r r' → c ≡ mid ++ left → 0 < length left → (v : Bool) → ended b ≡ v
      → remaining_of (rows b (c ++ r)) ≡ left ++ r → rows b (c ++ r') ≡ put (rows b (c ++ r)) (left ++ r')
  ended_at_row n shorter b c r r' mid left small dots s some true out e = none_at b c r r' left (more_ended set ended p step b (c ++ r) out) (more_ended set ended p step b (c ++ r') out) e
  ended_at_row n shorter b c r r' mid left small dots s some false out e = begins_at_row n shorter b c r r' mid left small dots s some out (begins set (c ++ r)) refl e

  rows_at : (n : ℕ) → RowsAt n
  rows_at zero b c r r' mid left small dots s some e = let one = nonempty c mid left s some in absurd (omega (arith, small, one))
  rows_at (suc n) b c r r' mid left small dots s some e = ended_at_row n (rows_at n) b c r r' mid left small dots s some (ended b) refl e

  -- no row stops for nesting at the end
  abbrev RowsEnd : ℕ → Type 0
  RowsEnd n = (b : B) (ts : Tokens) → length ts ≤ n → rows b ts ≡ Stop Deep [] → ⊥

  some_token_left : (ts : Tokens) → length ts ≤ 0 → begins set ts ≡ true → ⊥
  some_token_left [] u h = cc
  some_token_left (t ∷ ts) u h = omega (arith, u)

  round_end : (n : ℕ) → RowsEnd n → (b : B) (ts : Tokens) → length ts ≤ suc n → ended b ≡ false → begins set ts ≡ true → rows b ts ≡ Stop Deep [] → ⊥
  round_end n shorter b ts small out h e =
      let round = next_round set ended p step consume b ts out h in
      then_ends (lp b) (λ a. rows (step b a)) ts (λ a x y z. let less = (consume b).less ts a x y in shorter (step b a) x (omega (arith, less, small)) z) (p b ts) refl (sym round ∙ e)

  begins_end : (n : ℕ) → ((b : B) (ts : Tokens) → length ts ≤ n → ended b ≡ false → begins set ts ≡ true → rows b ts ≡ Stop Deep [] → ⊥) → (b : B) (ts : Tokens) → length ts ≤ n → (v w : Bool) → ended b ≡ v → begins set ts ≡ w → rows b ts ≡ Stop Deep [] → ⊥
  begins_end n next b ts small true w out h e = let none : Read b ts ≡ Stop Deep [] = sym (more_ended set ended p step b ts out) ∙ e in cc
  begins_end n next b ts small false false out h e = let none : Read b ts ≡ Stop Deep [] = sym (more_end set ended p step b ts out h) ∙ e in cc
  begins_end n next b ts small false true out h e = next b ts small out h e

  rows_end : (n : ℕ) → RowsEnd n
  rows_end zero b ts small e = begins_end zero (λ b ts small out h e. some_token_left ts small h) b ts small (ended b) (begins set ts) refl refl e
  rows_end (suc n) b ts small e = begins_end (suc n) (round_end n (rows_end n)) b ts small (ended b) (begins set ts) refl refl e

  pub more_local : (b : B) → Local (rows b)
  more_local b = record {
    near = rows_near b;
    same = λ c r r' mid left dots s some e. rows_at (length c) b c r r' mid left (omega arith) dots s some e;
    ends = λ ts e. rows_end (length ts) b ts (omega arith) e;
  }

pub fold_local : {A B : Type 0} {p : Reader A} (set : List Kind) (step : B → A → B) (b : B) → Consumes p → Local p → Local (read_fold set p step b)
fold_local {p = p} set step b c l = same_local (λ ts. never_ended set p step b ts) (more_local set never_ends (λ x. p) step (λ x. c) (λ x. l) b)

pub many_local : {A : Type 0} {p : Reader A} (set : List Kind) → Consumes p → Local p → Local (read_many set p)
many_local set c l = fold_local set pushed [] c l
