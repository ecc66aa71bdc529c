-- Readers within limits, beside the same readers without. Up to where it stops, the one reads what the other reads; and
-- where it stops for a limit, the other goes on.
use Rattle.std.proofs.Common.{◌≡◌, ℕ, zero, suc, Bool, true, false, ◌&&◌, List, [], ◌∷◌, ◌++◌, length, Option, Some, None, refl, sym, ◌∙◌, ap, subst, append_assoc, inl, inr, cond, ◌⊎◌}
use Rattle.smv_expr.specs.declared.kind.Kind.{Kind}
use Rattle.smv_expr.specs.declared.kind.Kind.TheVariants as k
use Rattle.smv_expr.specs.Lexicon.{Token}
use Rattle.smv_expr.specs.Language.{Tokens, begins, has}
use Rattle.smv_expr.specs.Reading.{Cause, Outcome, Reader, remaining_of, and_then, read_if, read_leaf, read_dep, read_mapped, read_either, read_nothing, read_more_to, read_more, read_many, read_fold, read_allowed, read_deep, pushed}
use Rattle.smv_expr.specs.Reading.Outcome.{Read, Stop}
use Rattle.smv_expr.specs.Reading.Cause.{UnexpectedToken, Wide, Deep}
use Rattle.smv_expr.specs.ExprGrammar.{never_ends}
use Rattle.smv_expr.specs.Answer.{expr_ends}
use Rattle.smv_expr.proofs.Sets.{within, begins_within}
use Rattle.smv_expr.proofs.Rounds.{Consumes, then_same}
use Rattle.smv_expr.proofs.RowRounds.{never_ended}

-- ---- what a reader within limits owes

-- the outcome leaves no more than the tokens, of their end
abbrev pub LeavesSuffix : {A : Type 0} → Tokens → Outcome A → Type 0
LeavesSuffix ts o = (mid : Tokens) × (ts ≡ mid ++ remaining_of o)

-- what is read does not pass the test
abbrev pub Fails : {A : Type 0} → (A → Bool) → Outcome A → Type 0
Fails test (Read a remaining) = test a ≡ false
Fails test (Stop cause remaining) = Unit {0}

-- the outcome takes the next token too
abbrev pub Beyond : {A : Type 0} → Tokens → Outcome A → Type 0
Beyond [] o = ⊥
Beyond (t ∷ ts) o = LeavesSuffix ts o

-- At a numeral over the limit: where numerals may be of any size, the outcome takes it, unless too many constructs are
-- open there; else it stops there too.
abbrev pub AtWide : {A : Type 0} → Bool → Tokens → Outcome A → Type 0
AtWide true ts o = Beyond ts o ⊎ (o ≡ Stop Deep ts)
AtWide false ts o = o ≡ Stop Wide ts

-- The same, where the test passes. For a limit the one stops where the other goes on: at a numeral over it, or at a token
-- with which an expression may end, where what is read does not pass; or both stop at too many open constructs.
abbrev pub Sim : {A : Type 0} → Bool → (A → Bool) → Outcome A → Outcome A → Type 0
Sim any test (Read a remaining) o = (o ≡ Read a remaining) × (test a ≡ true)
Sim any test (Stop UnexpectedToken remaining) o = o ≡ Stop UnexpectedToken remaining
Sim any test (Stop Wide remaining) o = (begins (k.WideNumeral ∷ []) remaining ≡ true) × AtWide any remaining o
Sim any test (Stop Deep remaining) o = (o ≡ Stop Deep remaining) ⊎ (Beyond remaining o × Fails test o × (begins expr_ends remaining ≡ true))

-- The first reader is the second within limits, which what is read keeps where it passes the test. The second has no
-- limit on heights, and on numerals where they may be of any size.
pub record Obeys {A : Type 0} (any : Bool) (test : A → Bool) (p' p : Reader A) : Type 0 where
  pub at : (ts : Tokens) → Sim any test (p' ts) (p ts)
  -- both leave a part of the tokens, of their end
  pub on : (ts : Tokens) → LeavesSuffix ts (p ts)
  pub near : (ts : Tokens) → LeavesSuffix ts (p' ts)

-- what is not limited passes
abbrev pub always_fits : {A : Type 0} → A → Bool
always_fits a = true

-- ---- Booleans

both_true : (v w : Bool) → v ≡ true → w ≡ true → v && w ≡ true
both_true true true e f = refl
both_true true false e f = cc
both_true false w e f = cc

left_false : (v w : Bool) → v ≡ false → v && w ≡ false
left_false true w e = cc
left_false false w e = refl

right_false : (v w : Bool) → w ≡ false → v && w ≡ false
right_false true w e = e
right_false false w e = refl

-- ---- what follows an outcome

beyond_too : {A B : Type 0} (ts : Tokens) (o : Outcome A) (u : Outcome B) → ((ts : Tokens) → LeavesSuffix ts o → LeavesSuffix ts u) → Beyond ts o → Beyond ts u
beyond_too [] o u more h = h
beyond_too (t ∷ ts) o u more h = more ts h

wide_too : {A B : Type 0} (any : Bool) (ts : Tokens) (o : Outcome A) (u : Outcome B) → ((ts : Tokens) → LeavesSuffix ts o → LeavesSuffix ts u) → ((cause : Cause) → o ≡ Stop cause ts → u ≡ Stop cause ts) → AtWide any ts o → AtWide any ts u
wide_too true ts o u more stays (inl h) = inl (beyond_too ts o u more h)
wide_too true ts o u more stays (inr h) = inr (stays Deep h)
wide_too false ts o u more stays h = stays Wide h

-- ---- the one, and then the other

pub suffix_more : {B : Type 0} (ts : Tokens) (remaining : Tokens) (mid : Tokens) (o : Outcome B) → ts ≡ mid ++ remaining → LeavesSuffix remaining o → LeavesSuffix ts o
suffix_more ts remaining mid o e b = (mid ++ b.0, e ∙ ap (λ x. mid ++ x) b.1 ∙ sym (append_assoc mid b.0 (remaining_of o)))

module _ {A B : Type 0} (any : Bool) (test : A → Bool) (test' : A → B → Bool) where
  abbrev pub both_pass : A × B → Bool
  both_pass v = test v.0 && test' v.0 v.1

  abbrev paired : A → Outcome B → Outcome (A × B)
  paired a o = and_then o (λ b remaining. Read (a, b) remaining)

  suffix_paired : (ts : Tokens) (a : A) (o : Outcome B) → LeavesSuffix ts o → LeavesSuffix ts (paired a o)
  suffix_paired ts a (Read b remaining) h = h
  suffix_paired ts a (Stop cause remaining) h = h

  fails_second : (a : A) (o : Outcome B) → Fails (test' a) o → Fails both_pass (paired a o)
  fails_second a (Read b remaining) h = right_false (test a) (test' a b) h
  fails_second a (Stop cause remaining) h = tt

  fails_first : (a : A) (o : Outcome B) → test a ≡ false → Fails both_pass (paired a o)
  fails_first a (Read b remaining) h = left_false (test a) (test' a b) h
  fails_first a (Stop cause remaining) h = tt

  second : (a : A) → test a ≡ true → (o' o : Outcome B) → Sim any (test' a) o' o → Sim any both_pass (paired a o') (paired a o)
  second a t (Read b remaining) o s = (ap (paired a) s.0, both_true (test a) (test' a b) t s.1)
  second a t (Stop UnexpectedToken remaining) o e = (ap (paired a) e)
  second a t (Stop Deep remaining) o (inl e) = inl (ap (paired a) e)
  second a t (Stop Wide remaining) o h = (h.0, wide_too any remaining o (paired a o) (λ ts. suffix_paired ts a o) (λ cause e. ap (paired a) e) h.1)
  second a t (Stop Deep remaining) o (inr h) = inr (beyond_too remaining o (paired a o) (λ ts. suffix_paired ts a o) h.0, fails_second a o h.1, h.2)

  suffix_first : (q : A → Reader B) → ((a : A) (ts : Tokens) → LeavesSuffix ts (q a ts)) → (ts : Tokens) (o : Outcome A) → LeavesSuffix ts o → LeavesSuffix ts (and_then o (λ a remaining. paired a (q a remaining)))
  suffix_first q on ts (Read a remaining) b = suffix_more ts remaining b.0 (paired a (q a remaining)) b.1 (suffix_paired remaining a (q a remaining) (on a remaining))
  suffix_first q on ts (Stop cause remaining) b = b

  module _ (q' q : A → Reader B) (h : (a : A) → Obeys any (test' a) (q' a) (q a)) where
    abbrev continues : Outcome A → Outcome (A × B)
    continues o = and_then o (λ a remaining. paired a (q a remaining))

    abbrev suffix_both : (ts : Tokens) (o : Outcome A) → LeavesSuffix ts o → LeavesSuffix ts (continues o)
    suffix_both = suffix_first q (λ a. (h a).on)

    fails_on : (o : Outcome A) → Fails test o → Fails both_pass (continues o)
    fails_on (Read a remaining) f = fails_first a (q a remaining) f
    fails_on (Stop cause remaining) f = tt

    first : (o' o : Outcome A) → Sim any test o' o → Sim any both_pass (and_then o' (λ a remaining. paired a (q' a remaining))) (continues o)
    first (Read a remaining) o s = subst (λ (x : Outcome A). Sim any both_pass (paired a (q' a remaining)) (continues x)) (sym s.0) (second a s.1 (q' a remaining) (q a remaining) ((h a).at remaining))
    first (Stop UnexpectedToken remaining) o e = (ap continues e)
    first (Stop Deep remaining) o (inl e) = inl (ap continues e)
    first (Stop Wide remaining) o e = (e.0, wide_too any remaining o (continues o) (λ ts. suffix_both ts o) (λ cause h. ap continues h) e.1)
    first (Stop Deep remaining) o (inr e) = inr (beyond_too remaining o (continues o) (λ ts. suffix_both ts o) e.0, fails_on o e.1, e.2)

    pub dep_obeys : (p' p : Reader A) → Obeys any test p' p → Obeys any both_pass (read_dep p' q') (read_dep p q)
    dep_obeys p' p o = record { at = λ ts. first (p' ts) (p ts) (o.at ts); on = λ ts. suffix_both ts (p ts) (o.on ts); near = λ ts. suffix_first q' (λ a. (h a).near) ts (p' ts) (o.near ts) }

-- ---- mapped by a function

module _ {A B : Type 0} (any : Bool) (fun : A → B) (test : A → Bool) (test' : B → Bool) (same : (a : A) → test' (fun a) ≡ test a) where
  abbrev mapped : Outcome A → Outcome B
  mapped o = and_then o (λ a remaining. Read (fun a) remaining)

  suffix_mapped : (ts : Tokens) (o : Outcome A) → LeavesSuffix ts o → LeavesSuffix ts (mapped o)
  suffix_mapped ts (Read a remaining) h = h
  suffix_mapped ts (Stop cause remaining) h = h

  fails_mapped : (o : Outcome A) → Fails test o → Fails test' (mapped o)
  fails_mapped (Read a remaining) h = same a ∙ h
  fails_mapped (Stop cause remaining) h = tt

  sim_mapped : (o' o : Outcome A) → Sim any test o' o → Sim any test' (mapped o') (mapped o)
  sim_mapped (Read a remaining) o s = (ap mapped s.0, same a ∙ s.1)
  sim_mapped (Stop UnexpectedToken remaining) o e = (ap mapped e)
  sim_mapped (Stop Deep remaining) o (inl e) = inl (ap mapped e)
  sim_mapped (Stop Wide remaining) o h = (h.0, wide_too any remaining o (mapped o) (λ ts. suffix_mapped ts o) (λ cause e. ap mapped e) h.1)
  sim_mapped (Stop Deep remaining) o (inr h) = inr (beyond_too remaining o (mapped o) (λ ts. suffix_mapped ts o) h.0, fails_mapped o h.1, h.2)

pub mapped_obeys : {A B : Type 0} {any : Bool} (fun : A → B) (test : A → Bool) (test' : B → Bool) → ((a : A) → test' (fun a) ≡ test a) → {p' p : Reader A} → Obeys any test p' p → Obeys any test' (read_mapped fun p') (read_mapped fun p)
mapped_obeys {any = any} fun test test' same {p' = p'} {p = p} o = record {
  at = λ ts. sim_mapped any fun test test' same (p' ts) (p ts) (o.at ts);
  on = λ ts. suffix_mapped any fun test test' same ts (p ts) (o.on ts);
  near = λ ts. suffix_mapped any fun test test' same ts (p' ts) (o.near ts);
}

-- ---- with a test that says the same

module _ {A : Type 0} (any : Bool) (test test' : A → Bool) (same : (a : A) → test' a ≡ test a) where
  fails_same : (o : Outcome A) → Fails test o → Fails test' o
  fails_same (Read a remaining) h = same a ∙ h
  fails_same (Stop cause remaining) h = tt

  sim_same : (o' o : Outcome A) → Sim any test o' o → Sim any test' o' o
  sim_same (Read a remaining) o s = (s.0, same a ∙ s.1)
  sim_same (Stop UnexpectedToken remaining) o h = h
  sim_same (Stop Deep remaining) o (inl h) = inl h
  sim_same (Stop Wide remaining) o h = h
  sim_same (Stop Deep remaining) o (inr h) = inr (h.0, fails_same o h.1, h.2)

pub retested : {A : Type 0} {any : Bool} (test test' : A → Bool) → ((a : A) → test' a ≡ test a) → {p' p : Reader A} → Obeys any test p' p → Obeys any test' p' p
retested {any = any} test test' same {p' = p'} {p = p} o = record { at = λ ts. sim_same any test test' same (p' ts) (p ts) (o.at ts); on = o.on; near = o.near }

-- ---- the one or the other

sim_cond : {A : Type 0} (any : Bool) (test : A → Bool) (v : Bool) (o' o u' u : Outcome A) → Sim any test o' o → Sim any test u' u → Sim any test (cond v o' u') (cond v o u)
sim_cond any test true o' o u' u s t = s
sim_cond any test false o' o u' u s t = t

pub suffix_cond : {A : Type 0} (ts : Tokens) (v : Bool) (o u : Outcome A) → LeavesSuffix ts o → LeavesSuffix ts u → LeavesSuffix ts (cond v o u)
suffix_cond ts true o u a b = a
suffix_cond ts false o u a b = b

pub either_obeys : {A : Type 0} {any : Bool} {test : A → Bool} {p' p q' q : Reader A} (set : List Kind) → Obeys any test p' p → Obeys any test q' q → Obeys any test (read_either set p' q') (read_either set p q)
either_obeys {any = any} {test = test} {p' = p'} {p = p} {q' = q'} {q = q} set a b = record {
  at = λ ts. sim_cond any test (begins set ts) (p' ts) (p ts) (q' ts) (q ts) (a.at ts) (b.at ts);
  on = λ ts. suffix_cond ts (begins set ts) (p ts) (q ts) (a.on ts) (b.on ts);
  near = λ ts. suffix_cond ts (begins set ts) (p' ts) (q' ts) (a.near ts) (b.near ts);
}

-- whatever decides between the two
pub test_obeys : {A : Type 0} {any : Bool} {test : A → Bool} {p' p q' q : Reader A} (which : Tokens → Bool) → Obeys any test p' p → Obeys any test q' q → Obeys any test (λ ts. cond (which ts) (p' ts) (q' ts)) (λ ts. cond (which ts) (p ts) (q ts))
test_obeys {any = any} {test = test} {p' = p'} {p = p} {q' = q'} {q = q} which a b = record {
  at = λ ts. sim_cond any test (which ts) (p' ts) (p ts) (q' ts) (q ts) (a.at ts) (b.at ts);
  on = λ ts. suffix_cond ts (which ts) (p ts) (q ts) (a.on ts) (b.on ts);
  near = λ ts. suffix_cond ts (which ts) (p' ts) (q' ts) (a.near ts) (b.near ts);
}

-- ---- one token

suffix_if : {A : Type 0} (t : Token) (ts : Tokens) (found : Option A) → LeavesSuffix (t ∷ ts) (read_if found (t ∷ ts) ts)
suffix_if t ts None = ([], refl)
suffix_if t ts (Some a) = (t ∷ [], refl)

pub suffix_leaf : {A : Type 0} (f : Token → Option A) (ts : Tokens) → LeavesSuffix ts (read_leaf f ts)
suffix_leaf f [] = ([], refl)
suffix_leaf f (t ∷ ts) = suffix_if t ts (f t)

sim_if : {A : Type 0} (any : Bool) (t : Token) (ts : Tokens) (found : Option A) → Sim any always_fits (read_if found (t ∷ ts) ts) (read_if found (t ∷ ts) ts)
sim_if any t ts None = refl
sim_if any t ts (Some a) = (refl, refl)

sim_leaf : {A : Type 0} (any : Bool) (f : Token → Option A) (ts : Tokens) → Sim any always_fits (read_leaf f ts) (read_leaf f ts)
sim_leaf any f [] = refl
sim_leaf any f (t ∷ ts) = sim_if any t ts (f t)

pub leaf_obeys : {A : Type 0} {any : Bool} (f : Token → Option A) → Obeys any always_fits (read_leaf f) (read_leaf f)
leaf_obeys {any = any} f = record { at = λ ts. sim_leaf any f ts; on = suffix_leaf f; near = suffix_leaf f }

pub nothing_obeys : {A : Type 0} {any : Bool} (test : A → Bool) (a : A) → test a ≡ true → Obeys any test (read_nothing a) (read_nothing a)
nothing_obeys test a t = record { at = λ ts. (refl, t); on = λ ts. ([], refl); near = λ ts. ([], refl) }

-- a numeral over the limit
pub wide_obeys : {A : Type 0} (any : Bool) (f : Token → Option A) → ((t : Token) → has (k.WideNumeral ∷ []) t.kind ≡ true → (a : A) × (f t ≡ Some a))
    → Obeys any always_fits (read_allowed false Wide (k.WideNumeral ∷ []) (read_leaf f)) (read_allowed any Wide (k.WideNumeral ∷ []) (read_leaf f))
wide_obeys {A = A} any f reads = record { at = λ ts. by_first any ts (begins (k.WideNumeral ∷ []) ts) refl; on = on any; near = on false } where
  on : (any : Bool) (ts : Tokens) → LeavesSuffix ts (read_allowed any Wide (k.WideNumeral ∷ []) (read_leaf f) ts)
  on true ts = suffix_leaf f ts
  on false ts = suffix_cond ts (begins (k.WideNumeral ∷ []) ts) (Stop Wide ts) (read_leaf f ts) ([], refl) (suffix_leaf f ts)

  beyond : (ts : Tokens) → begins (k.WideNumeral ∷ []) ts ≡ true → Beyond ts (read_leaf f ts)
  beyond [] e = cc
  beyond (t ∷ ts) e = let r = reads t e in subst (λ (o : Outcome A). Beyond (t ∷ ts) o) (sym (ap (λ x. read_if x (t ∷ ts) ts) r.1)) ([], refl)

  by_first : (any : Bool) (ts : Tokens) (v : Bool) → begins (k.WideNumeral ∷ []) ts ≡ v → Sim any always_fits (cond v (Stop Wide ts) (read_leaf f ts)) (read_allowed any Wide (k.WideNumeral ∷ []) (read_leaf f) ts)
  by_first true ts true e = (e, inl (beyond ts e))
  by_first true ts false e = sim_leaf true f ts
  by_first false ts true e = (e, ap (λ v. cond v (Stop Wide ts) (read_leaf f ts)) e)
  by_first false ts false e = subst (λ (o : Outcome A). Sim false always_fits (read_leaf f ts) o) (sym (ap (λ v. cond v (Stop Wide ts) (read_leaf f ts)) e)) (sim_leaf false f ts)

-- nothing, where too many constructs are open
suffix_deep : (A : Type 0) (ts : Tokens) (v : Bool) → LeavesSuffix {A = A} ts (cond v (Stop Deep ts) (Stop UnexpectedToken ts))
suffix_deep A ts true = ([], refl)
suffix_deep A ts false = ([], refl)

sim_deep : {A : Type 0} (any : Bool) (test : A → Bool) (ts : Tokens) (v : Bool) → Sim any test (cond v (Stop Deep ts) (Stop UnexpectedToken ts)) (cond v (Stop Deep ts) (Stop UnexpectedToken ts))
sim_deep any test ts true = inl refl
sim_deep any test ts false = refl

pub deep_obeys : {A : Type 0} (any : Bool) (test : A → Bool) (first : List Kind) → ((ts : Tokens) → begins (k.WideNumeral ∷ []) ts ≡ true → begins first ts ≡ true)
    → Obeys any test (read_allowed false Wide (k.WideNumeral ∷ []) (read_deep first)) (read_allowed any Wide (k.WideNumeral ∷ []) (read_deep first))
deep_obeys {A = A} any test first wide = record { at = λ ts. by_first any ts (begins (k.WideNumeral ∷ []) ts) refl; on = on any; near = on false } where
  on : (any : Bool) (ts : Tokens) → LeavesSuffix {A = A} ts (read_allowed any Wide (k.WideNumeral ∷ []) (read_deep first) ts)
  on true ts = suffix_deep A ts (begins first ts)
  on false ts = suffix_cond ts (begins (k.WideNumeral ∷ []) ts) (Stop Wide ts) (read_deep first ts) ([], refl) (suffix_deep A ts (begins first ts))

  by_first : (any : Bool) (ts : Tokens) (v : Bool) → begins (k.WideNumeral ∷ []) ts ≡ v → Sim any test (cond v (Stop Wide ts) (read_deep first ts)) (read_allowed any Wide (k.WideNumeral ∷ []) (read_deep first) ts)
  by_first true ts true e = (e, inr (ap (λ v. cond v (Stop Deep ts) (Stop UnexpectedToken ts)) (wide ts e)))
  by_first true ts false e = sim_deep true test ts (begins first ts)
  by_first false ts true e = (e, ap (λ v. cond v (Stop Wide ts) (read_deep first ts)) e)
  by_first false ts false e = subst (λ (o : Outcome A). Sim false test (read_deep first ts) o) (sym (ap (λ v. cond v (Stop Wide ts) (read_deep first ts)) e)) (sim_deep false test ts (begins first ts))

-- a token that is read only where it fits
module _ {A : Type 0} (any : Bool) where
  fails_always : (v : Bool) (o : Outcome A) → v ≡ false → Fails (λ a. v) o
  fails_always v (Read a remaining) e = e
  fails_always v (Stop cause remaining) e = tt

  sim_wider : (v : Bool) (o' o : Outcome A) → v ≡ true → Sim any always_fits o' o → Sim any (λ a. v) o' o
  sim_wider v (Read a remaining) o e s = (s.0, e)
  sim_wider v (Stop UnexpectedToken remaining) o e h = h
  sim_wider v (Stop Deep remaining) o e (inl h) = inl h
  sim_wider v (Stop Wide remaining) o e h = h
  sim_wider v (Stop Deep remaining) o e (inr h) = inr (h.0, high o h.1, h.2) where
    high : (x : Outcome A) → Fails always_fits x → Fails (λ a. v) x
    high (Read a r) g = cc
    high (Stop c r) g = tt

  -- `set` has each kind of token that is read, and no other that is; with each of them an expression may end
  allowed : (ok : Bool) (set : List Kind) (p' p : Reader A) → Obeys any always_fits p' p → ((ts : Tokens) (a : A) (remaining : Tokens) → begins set ts ≡ false → p' ts ≡ Read a remaining → ⊥)
      → ((ts : Tokens) → begins set ts ≡ true → Beyond ts (p ts)) → within set expr_ends ≡ true → Obeys any (λ a. ok) (read_allowed ok Deep set p') p
  allowed true set p' p o others takes ends = record { at = λ ts. sim_wider true (p' ts) (p ts) refl (o.at ts); on = o.on; near = o.near }
  allowed false set p' p o others takes ends = record { at = λ ts. by_first ts (begins set ts) refl; on = o.on; near = λ ts. suffix_cond ts (begins set ts) (Stop Deep ts) (p' ts) ([], refl) (o.near ts) } where
    other : (ts : Tokens) (x : Outcome A) → p' ts ≡ x → begins set ts ≡ false → Sim any always_fits x (p ts) → Sim any (λ a. false) x (p ts)
    other ts (Read a remaining) e n s = absurd (others ts a remaining n e)
    other ts (Stop UnexpectedToken remaining) e n h = h
    other ts (Stop Deep remaining) e n (inl h) = inl h
    other ts (Stop Wide remaining) e n h = h
    other ts (Stop Deep remaining) e n (inr h) = inr (h.0, fails_always false (p ts) refl, h.2)

    by_first : (ts : Tokens) (v : Bool) → begins set ts ≡ v → Sim any (λ a. false) (cond v (Stop Deep ts) (p' ts)) (p ts)
    by_first ts true e = inr (takes ts e, fails_always false (p ts) refl, begins_within set expr_ends ends ts e)
    by_first ts false e = other ts (p' ts) refl e (o.at ts)

pub allowed_obeys : {A : Type 0} {any : Bool} (ok : Bool) (set : List Kind) (p' p : Reader A) → Obeys any always_fits p' p → ((ts : Tokens) (a : A) (remaining : Tokens) → begins set ts ≡ false → p' ts ≡ Read a remaining → ⊥)
    → ((ts : Tokens) → begins set ts ≡ true → Beyond ts (p ts)) → within set expr_ends ≡ true → Obeys any (λ a. ok) (read_allowed ok Deep set p') p
allowed_obeys {any = any} ok set p' p o others takes ends = allowed any ok set p' p o others takes ends

-- ---- rows

module _ {A B : Type 0} (set : List Kind) (ended : B → Bool) (q : B → Reader A) (step : B → A → B) (on : (b : B) (ts : Tokens) → LeavesSuffix ts (q b ts)) where
  suffix_round : (n : ℕ) (b : B) (ts : Tokens) (o : Outcome A) → ((b : B) (ts : Tokens) → LeavesSuffix ts (read_more_to n set ended q step b ts)) → LeavesSuffix ts o → LeavesSuffix ts (and_then o (λ a remaining. read_more_to n set ended q step (step b a) remaining))
  suffix_round n b ts (Read a remaining) next x = suffix_more ts remaining x.0 (read_more_to n set ended q step (step b a) remaining) x.1 (next (step b a) remaining)
  suffix_round n b ts (Stop cause remaining) next x = x

  suffix_items : (n : ℕ) (b : B) (ts : Tokens) → LeavesSuffix ts (read_more_to n set ended q step b ts)
  suffix_items zero b ts = ([], refl)
  suffix_items (suc n) b ts = suffix_cond ts (ended b) (Read b ts) _ ([], refl)
      (suffix_cond ts (begins set ts) _ (Read b ts) (suffix_round n b ts (q b ts) (suffix_items n) (on b ts)) ([], refl))

  pub suffix_second : (b : B) (ts : Tokens) → LeavesSuffix ts (read_more set ended q step b ts)
  unfolding read_more
  suffix_second b ts = suffix_items (length ts) b ts

  -- a first value and its row
  suffix_row : (ts : Tokens) (o : Outcome B) → LeavesSuffix ts o → LeavesSuffix ts (and_then o (λ b remaining. read_more set ended q step b remaining))
  suffix_row ts (Read b remaining) x = suffix_more ts remaining x.0 (read_more set ended q step b remaining) x.1 (suffix_second b remaining)
  suffix_row ts (Stop cause remaining) x = x

module _ {A B : Type 0} (any : Bool) (set : List Kind) (ended : B → Bool) (q' q : B → Reader A) (step : B → A → B) (test : B → Bool) (item : B → A → Bool)
    (grows : (b : B) (a : A) → test (step b a) ≡ (test b && item b a)) (h : (b : B) → Obeys any (item b) (q' b) (q b)) where
  abbrev more' : ℕ → B → Reader B
  more' n = read_more_to n set ended q' step

  abbrev more : ℕ → B → Reader B
  more n = read_more_to n set ended q step

  abbrev rounds : ℕ → B → Outcome A → Outcome B
  rounds n b o = and_then o (λ a remaining. more n (step b a) remaining)

  fails_cond : (v : Bool) (o u : Outcome B) → Fails test o → Fails test u → Fails test (cond v o u)
  fails_cond true o u x y = x
  fails_cond false o u x y = y

  fails_round : (n : ℕ) (b : B) (o : Outcome A) → ((b : B) (ts : Tokens) → test b ≡ false → Fails test (more n b ts)) → test b ≡ false → Fails test (rounds n b o)
  fails_round n b (Read a remaining) next t = next (step b a) remaining (grows b a ∙ left_false (test b) (item b a) t)
  fails_round n b (Stop cause remaining) next t = tt

  -- what is too high only grows
  fails_rows : (n : ℕ) (b : B) (ts : Tokens) → test b ≡ false → Fails test (more n b ts)
  fails_rows zero b ts t = t
  fails_rows (suc n) b ts t = fails_cond (ended b) (Read b ts) (cond (begins set ts) (rounds n b (q b ts)) (Read b ts)) t
      (fails_cond (begins set ts) (rounds n b (q b ts)) (Read b ts) (fails_round n b (q b ts) (fails_rows n) t) t)

  fails_item : (n : ℕ) (b : B) (o : Outcome A) → Fails (item b) o → Fails test (rounds n b o)
  fails_item n b (Read a remaining) f = fails_rows n (step b a) remaining (grows b a ∙ right_false (test b) (item b a) f)
  fails_item n b (Stop cause remaining) f = tt

  sim_round : (n : ℕ) (b : B) (o' o : Outcome A) → ((b : B) (ts : Tokens) → test b ≡ true → Sim any test (more' n b ts) (more n b ts)) → test b ≡ true → Sim any (item b) o' o
      → Sim any test (and_then o' (λ a remaining. more' n (step b a) remaining)) (rounds n b o)
  sim_round n b (Read a remaining) o next t s = subst (λ (x : Outcome A). Sim any test (more' n (step b a) remaining) (rounds n b x)) (sym s.0) (next (step b a) remaining (grows b a ∙ both_true (test b) (item b a) t s.1))
  sim_round n b (Stop UnexpectedToken remaining) o next t e = (ap (rounds n b) e)
  sim_round n b (Stop Deep remaining) o next t (inl e) = inl (ap (rounds n b) e)
  sim_round n b (Stop Wide remaining) o next t e = (e.0, wide_too any remaining o (rounds n b o) (λ ts. suffix_round set ended q step (λ x. (h x).on) n b ts o (suffix_items set ended q step (λ x. (h x).on) n)) (λ cause z. ap (rounds n b) z) e.1)
  sim_round n b (Stop Deep remaining) o next t (inr e) = inr (beyond_too remaining o (rounds n b o) (λ ts. suffix_round set ended q step (λ x. (h x).on) n b ts o (suffix_items set ended q step (λ x. (h x).on) n)) e.0, fails_item n b o e.1, e.2)

  sim_rows : (n : ℕ) (b : B) (ts : Tokens) → test b ≡ true → Sim any test (more' n b ts) (more n b ts)
  sim_rows zero b ts t = (refl, t)
  sim_rows (suc n) b ts t = sim_cond any test (ended b) (Read b ts) (Read b ts) _ _ (refl, t)
      (sim_cond any test (begins set ts) _ _ (Read b ts) (Read b ts) (sim_round n b (q' b ts) (q b ts) (sim_rows n) t ((h b).at ts)) (refl, t))

  abbrev rows : B → Reader B
  rows b ts = read_more set ended q step b ts

  abbrev rows' : B → Reader B
  rows' b ts = read_more set ended q' step b ts

  pub sim_more : (b : B) (ts : Tokens) → test b ≡ true → Sim any test (rows' b ts) (rows b ts)
  unfolding read_more
  sim_more b ts t = sim_rows (length ts) b ts t

  fails_all : (b : B) (ts : Tokens) → test b ≡ false → Fails test (rows b ts)
  unfolding read_more
  fails_all b ts t = fails_rows (length ts) b ts t

  fails_row : (o : Outcome B) → Fails test o → Fails test (and_then o rows)
  fails_row (Read b remaining) f = fails_all b remaining f
  fails_row (Stop cause remaining) f = tt

  sim_row : (o' o : Outcome B) → Sim any test o' o → Sim any test (and_then o' rows') (and_then o rows)
  sim_row (Read b remaining) o s = subst (λ (x : Outcome B). Sim any test (rows' b remaining) (and_then x rows)) (sym s.0) (sim_more b remaining s.1)
  sim_row (Stop UnexpectedToken remaining) o e = (ap (λ x. and_then x rows) e)
  sim_row (Stop Deep remaining) o (inl e) = inl (ap (λ x. and_then x rows) e)
  sim_row (Stop Wide remaining) o e = (e.0, wide_too any remaining o (and_then o rows) (λ ts. suffix_row set ended q step (λ x. (h x).on) ts o) (λ cause z. ap (λ x. and_then x rows) z) e.1)
  sim_row (Stop Deep remaining) o (inr e) = inr (beyond_too remaining o (and_then o rows) (λ ts. suffix_row set ended q step (λ x. (h x).on) ts o) e.0, fails_row o e.1, e.2)

pub row_obeys : {A B : Type 0} {any : Bool} (set : List Kind) (ended : B → Bool) (q' q : B → Reader A) (step : B → A → B) (test : B → Bool) (item : B → A → Bool)
    → ((b : B) (a : A) → test (step b a) ≡ (test b && item b a)) → ((b : B) → Obeys any (item b) (q' b) (q b)) → {p' p : Reader B} → Obeys any test p' p
    → Obeys any test (λ ts. and_then (p' ts) (λ b ts. read_more set ended q' step b ts)) (λ ts. and_then (p ts) (λ b ts. read_more set ended q step b ts))
row_obeys {any = any} set ended q' q step test item grows h {p' = p'} {p = p} o = record {
  at = λ ts. sim_row any set ended q' q step test item grows h (p' ts) (p ts) (o.at ts);
  on = λ ts. suffix_row set ended q step (λ x. (h x).on) ts (p ts) (o.on ts);
  near = λ ts. suffix_row set ended q' step (λ x. (h x).near) ts (p' ts) (o.near ts);
}

-- ---- lists

pub same_obeys : {A : Type 0} {any : Bool} {test : A → Bool} {p' p u' u : Reader A} → ((ts : Tokens) → p' ts ≡ u' ts) → ((ts : Tokens) → p ts ≡ u ts) → Obeys any test p' p → Obeys any test u' u
same_obeys {A = A} {any = any} {test = test} {p' = p'} {p = p} {u' = u'} {u = u} e' e o = record {
  at = λ ts. subst (λ (x : Outcome A). Sim any test (u' ts) x) (e ts) (subst (λ (x : Outcome A). Sim any test x (p ts)) (e' ts) (o.at ts));
  on = λ ts. subst (λ (x : Outcome A). LeavesSuffix ts x) (e ts) (o.on ts);
  near = λ ts. subst (λ (x : Outcome A). LeavesSuffix ts x) (e' ts) (o.near ts);
}

-- each item passes
abbrev pub all_pass : {A : Type 0} → (A → Bool) → List A → Bool
all_pass test [] = true
all_pass test (a ∷ more) = test a && all_pass test more

pub and_true : (v : Bool) → v && true ≡ v
and_true true = refl
and_true false = refl

pub and_and : (u v w : Bool) → u && (v && w) ≡ (u && v) && w
and_and true v w = refl
and_and false v w = refl

pass_pushed : {A : Type 0} (test : A → Bool) (found : List A) (a : A) → all_pass test (pushed found a) ≡ (all_pass test found && test a)
pass_pushed test [] a = and_true (test a)
pass_pushed test (x ∷ found) a = ap (λ v. test x && v) (pass_pushed test found a) ∙ and_and (test x) (all_pass test found) (test a)

pub many_obeys : {A : Type 0} {any : Bool} {test : A → Bool} {p' p : Reader A} (set : List Kind) → Obeys any test p' p → Obeys any (all_pass test) (read_many set p') (read_many set p)
many_obeys {any = any} {test = test} {p' = p'} {p = p} set o = same_obeys (λ ts. never_ended set p' pushed [] ts) (λ ts. never_ended set p pushed [] ts)
    (record { at = λ ts. sim_more any set never_ends (λ x. p') (λ x. p) pushed (all_pass test) (λ b. test) (pass_pushed test) (λ b. o) [] ts refl; on = λ ts. suffix_second set never_ends (λ x. p) pushed (λ b. o.on) [] ts; near = λ ts. suffix_second set never_ends (λ x. p') pushed (λ b. o.near) [] ts })

-- rounds that start from a value that passes
pub gather_obeys : {A B : Type 0} {any : Bool} {item : A → Bool} {p' p : Reader A} (set : List Kind) (step : B → A → B) (test : B → Bool) (b : B) → ((b : B) (a : A) → test (step b a) ≡ (test b && item a)) → test b ≡ true
    → Obeys any item p' p → Obeys any test (read_fold set p' step b) (read_fold set p step b)
gather_obeys {any = any} {item = item} {p' = p'} {p = p} set step test b grows t o = same_obeys (λ ts. never_ended set p' step b ts) (λ ts. never_ended set p step b ts)
    (record { at = λ ts. sim_more any set never_ends (λ x. p') (λ x. p) step test (λ x. item) grows (λ x. o) b ts t; on = λ ts. suffix_second set never_ends (λ x. p) step (λ x. o.on) b ts; near = λ ts. suffix_second set never_ends (λ x. p') step (λ x. o.near) b ts })

-- a first value, and then the rounds from it on
pub gather_from_obeys : {A B : Type 0} {any : Bool} {item : A → Bool} {p' p : Reader B} {q' q : Reader A} (set : List Kind) (step : B → A → B) (test : B → Bool) → ((b : B) (a : A) → test (step b a) ≡ (test b && item a))
    → Obeys any test p' p → Obeys any item q' q → Obeys any test (λ ts. and_then (p' ts) (λ b remaining. read_fold set q' step b remaining)) (λ ts. and_then (p ts) (λ b remaining. read_fold set q step b remaining))
gather_from_obeys {any = any} {item = item} {p' = p'} {p = p} {q' = q'} {q = q} set step test grows o i = same_obeys
    (λ ts. then_same (p' ts) _ _ (λ b remaining e. never_ended set q' step b remaining)) (λ ts. then_same (p ts) _ _ (λ b remaining e. never_ended set q step b remaining))
    (row_obeys set never_ends (λ x. q') (λ x. q) step test (λ x. item) grows (λ x. i) o)

-- ---- what follows

-- a reader within limits takes a token where the other does
pub consumes_too : {A : Type 0} {any : Bool} {test : A → Bool} {p' p : Reader A} → Obeys any test p' p → Consumes p → Consumes p'
consumes_too {A = A} {any = any} {test = test} {p' = p'} {p = p} o c = record { less = λ ts a remaining e. let s = subst (λ (x : Outcome A). Sim any test x (p ts)) e (o.at ts) in c.less ts a remaining s.0 }
