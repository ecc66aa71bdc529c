-- Recursion by the number of constructs that may still be opened.
use Rattle.std.proofs.Common.{◌≡◌, ℕ, zero, suc, ◌+◌, ◌≤◌, Bool, true, false, List, [], ◌∷◌, ◌++◌, Some, refl, sym, ◌∙◌, ap, subst, arith, cond}
use Rattle.smv_expr.specs.declared.kind.Kind.{Kind}
use Rattle.smv_expr.specs.Lexicon.{Token}
use Rattle.smv_expr.specs.Language.{Tokens, begins, next_of}
use Rattle.smv_expr.specs.Reading.{Cause, Alike, Outcome, Reader, read_deep}
use Rattle.smv_expr.specs.Reading.Outcome.{Read, Stop}
use Rattle.smv_expr.specs.Reading.Cause.{UnexpectedToken, Wide, Deep}
use Rattle.smv_expr.specs.ExprReaders.{first_expr}
use Rattle.smv_expr.specs.Answer.{openers, opens}
use Rattle.smv_expr.proofs.Rules.{Good, IsLang, Rule, Starts, Covers, Near, begins-append, begins-next}
use Rattle.smv_expr.proofs.Sets.{within, begins_within}
use Rattle.smv_expr.proofs.Inside.{Inside, itself, through}

-- ---- deeper nesting only adds texts

pub deeper_inside : {A : Type 0} (E : ℕ → A → Tokens → Type 0) → ((m : ℕ) → Inside (E m) (E (suc m))) → (m n : ℕ) → Inside (E m) (E (m + n))
deeper_inside E step m zero = let same : m ≡ m + 0 = omega arith in subst (λ (x : ℕ). Inside (E m) (E x)) same itself
deeper_inside E step m (suc n) = let same : suc (m + n) ≡ m + suc n = omega arith in
    subst (λ (x : ℕ). Inside (E m) (E x)) same (through (deeper_inside E step m n) (step (m + n)))

-- ---- a language that is empty at zero, and one level less deep inside

-- What the one reads within a number, the other reads within the next one, and the other reads nothing within zero.
pub record IsUnder {A : Type 0} (F E : ℕ → A → Tokens → Type 0) : Type 0 where
  pub none : (a : A) (ts : Tokens) → E zero a ts → ⊥
  pub inner : (m : ℕ) (a : A) (ts : Tokens) → E (suc m) a ts → F m a ts
  pub outer : (m : ℕ) (a : A) (ts : Tokens) → F m a ts → E (suc m) a ts

-- some text that begins with the same token
pub record Begins {A : Type 0} (E : ℕ → A → Tokens → Type 0) (ts : Tokens) : Type 0 where
  pub token : Token
  pub next : next_of ts ≡ Some token
  pub depth : ℕ
  pub near : depth ≤ 1 + opens ts
  pub value : A
  pub more : Tokens
  pub reads : E depth value (token ∷ more)

module _ {A : Type 0} {F E : ℕ → A → Tokens → Type 0} (under : IsUnder F E) where
  covers_less : (limit m : ℕ) (cause : Cause) (remaining : Tokens) → Covers (suc limit) cause remaining (suc m) → Covers limit cause remaining m
  covers_less limit m UnexpectedToken remaining u = tt
  covers_less limit m Wide remaining u = tt
  covers_less limit m Deep remaining u = omega (arith, u)

  near_more : (cause : Cause) (limit : ℕ) (remaining : Tokens) (depth : ℕ) → Near cause limit remaining depth → Near cause (suc limit) remaining (suc depth)
  near_more UnexpectedToken limit remaining depth n = omega (arith, n)
  near_more Wide limit remaining depth n = omega (arith, n)
  near_more Deep limit remaining depth n = omega (arith, n)

  pub raised : (limit : ℕ) (g : A → List Kind) (ts : Tokens) (o : Outcome A) → Good limit F g ts o → Good (suc limit) E g ts o
  raised limit g ts (Read a remaining) w = record { prefix = w.prefix; split = w.split; reads = under.outer _ _ _ w.reads; only = only } where
    only : (m : ℕ) (y f r : Tokens) (b : A) → next_of y ≡ next_of remaining → f ++ r ≡ w.prefix ++ y → E m b f → begins (g b) r ≡ false → (b ≡ a) × (f ≡ w.prefix) × (r ≡ y)
    only zero y f r b n e h z = absurd (under.none b f h)
    only (suc m) y f r b n e h z = w.only m y f r b n e (under.inner m b f h) z
  raised limit g ts (Stop cause remaining) w = record { prefix = w.prefix; split = w.split; depth = suc w.depth; value = w.value; more = w.more; viable = under.outer _ _ _ w.viable; begun = w.begun; near = near_more cause limit remaining w.depth w.near; dead = dead } where
    dead : (m : ℕ) (y f r : Tokens) (b : A) → Covers (suc limit) cause remaining m → Alike cause y remaining → f ++ r ≡ w.prefix ++ y → E m b f → begins (g b) r ≡ false → ⊥
    dead zero y f r b u n e h z = under.none b f h
    dead (suc m) y f r b u n e h z = w.dead m y f r b (covers_less limit m cause remaining u) n e (under.inner m b f h) z

  none_at : (m : ℕ) (a : A) (ts : Tokens) → m ≤ 0 → E m a ts → ⊥
  none_at zero a ts u h = under.none a ts h
  none_at (suc m) a ts u h = absurd (omega (arith, u))

  -- with no construct but its first token, a text begins with none that opens one
  none_lone : (first : List Kind) → Starts first E → ((a : A) (f : Tokens) → F 0 a f → begins openers f ≡ false) → (m : ℕ) (a : A) (f r ts : Tokens) → begins openers ts ≡ true → begins openers (f ++ r) ≡ begins openers ts → m ≤ 1 → E m a f → ⊥
  none_lone first starts lone zero a f r ts o e u h = under.none a f h
  none_lone first starts lone (suc zero) a [] r ts o e u h = let s = starts.at 1 a [] h in cc
  none_lone first starts lone (suc zero) a (t ∷ f) r ts o e u h = let n = lone a (t ∷ f) (under.inner 0 a (t ∷ f) h) in let y = sym n ∙ e ∙ o in cc
  none_lone first starts lone (suc (suc m)) a f r ts o e u h = absurd (omega (arith, u))

  none_opened : (first : List Kind) → Starts first E → ((a : A) (f : Tokens) → F 0 a f → begins openers f ≡ false) → (m : ℕ) (a : A) (f r ts : Tokens) (v : Bool) → begins openers ts ≡ v → begins openers (f ++ r) ≡ begins openers ts → m ≤ cond v 1 0 → E m a f → ⊥
  none_opened first starts lone m a f r ts true o e u h = none_lone first starts lone m a f r ts o e u h
  none_opened first starts lone m a f r ts false o e u h = none_at m a f u h

  by_opens : (m : ℕ) (v : Bool) → m ≤ 0 + cond v 1 0 → m ≤ cond v 1 0
  by_opens m true u = omega (arith, u)
  by_opens m false u = omega (arith, u)

  opened : (m : ℕ) (ts : Tokens) → m ≤ 0 + opens ts → m ≤ cond (begins openers ts) 1 0
  unfolding opens
  opened m ts u = by_opens m (begins openers ts) u

  -- At the limit nothing is read: what begins there nests too deep, and what does not begin there fits in no text.
  pub deepest : (l : IsLang E) (first : List Kind) → within first first_expr ≡ true → Starts first E → ((a : A) (f : Tokens) → F 0 a f → begins openers f ≡ false) → (g : A → List Kind) (ts : Tokens) → (begins first ts ≡ true → Begins E ts) → Good 0 E g ts (read_deep first ts)
  deepest l first inside starts lone g ts texts = by_first (begins first ts) refl where
    by_first : (v : Bool) → begins first ts ≡ v → Good 0 E g ts (cond v (Stop Deep ts) (Stop UnexpectedToken ts))
    by_first true e = let w = texts e in record {
      prefix = [];
      split = refl;
      depth = w.depth;
      value = w.value;
      more = w.token ∷ w.more;
      viable = w.reads;
      begun = (w.token, refl, w.next, begins_within first first_expr inside ts e);
      near = omega (arith, w.near);
      dead = λ m y f r b u n e h z. none_opened first starts lone m b f r ts (begins openers ts) refl (ap (begins openers) e ∙ begins-next openers y ts n.0) (opened m ts u) h;
    }
    by_first false e = record {
      prefix = [];
      split = refl;
      depth = l.depth;
      value = l.value;
      more = l.text;
      viable = l.reads;
      begun = tt;
      near = omega (arith, l.shallow);
      dead = λ m y f r b u n e' h z. let e1 = begins-append first f r (starts.at m b f h) in let e2 = ap (begins first) e' ∙ begins-next first y ts n ∙ e in cc;
    }

-- the rule one level deeper
pub deeper : {A : Type 0} {F E : ℕ → A → Tokens → Type 0} {limit : ℕ} {g : A → List Kind} {p : Reader A} → IsUnder F E → IsLang E → Rule limit F g p → Rule (suc limit) E g p
deeper {limit = limit} {g = g} {p = p} under l rule = record { lang = l; good = λ ts. raised under limit g ts (p ts) (rule.good ts) }

-- the rule at the limit
pub at_limit : {A : Type 0} {F E : ℕ → A → Tokens → Type 0} (first : List Kind) (g : A → List Kind) → within first first_expr ≡ true → IsUnder F E → IsLang E → Starts first E → ((a : A) (f : Tokens) → F 0 a f → begins openers f ≡ false) → ((ts : Tokens) → begins first ts ≡ true → Begins E ts) → Rule 0 E g (read_deep first)
at_limit first g inside under l starts lone texts = record { lang = l; good = λ ts. deepest under l first inside starts lone g ts (texts ts) }
