-- What a reader owes to its language, and that each way to put readers together keeps it. Nothing here speaks of
-- a grammar: the readers of other texts are proved by the same rules.
use Rattle.std.proofs.Common.{◌≡◌, ℕ, zero, suc, ◌+◌, ◌-◌, ◌≤◌, max, Bool, true, false, List, [], ◌∷◌, ◌++◌, length, Option, Some, None, refl, sym, ◌∙◌, ap, subst, append_assoc, arith, length-append, inl, inr, cond}
use Rattle.smv_expr.specs.declared.kind.Kind.{Kind}
use Rattle.smv_expr.specs.Lexicon.{Token}
use Rattle.smv_expr.specs.Language.{Tokens, leaf, dep, both, many, either, mapped, nothing, begins, has, next_of}
use Rattle.smv_expr.specs.Reading.{Cause, Alike, Outcome, Reader, and_then, read_if, read_leaf, read_dep, read_both, read_mapped, read_either, read_nothing}
use Rattle.smv_expr.specs.Reading.Outcome.{Read, Stop}
use Rattle.smv_expr.specs.Reading.Cause.{UnexpectedToken, Wide, Deep}
use Rattle.smv_expr.specs.ExprReaders.{first_expr}
use Rattle.smv_expr.specs.Answer.{opens}

-- ---- what a reader owes

-- A language here is a family: the number is how deep its texts may nest. `follow` is the set of kinds with which a
-- text that stands for a value would go on, so that no text ends before one of them.

-- The reader takes some of the tokens as a value, and leaves the remaining ones as they are.
pub record Took {A : Type 0} (limit : ℕ) (L : ℕ → A → Tokens → Type 0) (follow : A → List Kind) (ts : Tokens) (a : A) (remaining : Tokens) : Type 0 where
  pub prefix : Tokens
  pub split : ts ≡ prefix ++ remaining
  pub reads : L limit a prefix
  -- whatever comes after the next token, there is no other way to read it
  pub only : (m : ℕ) (y f r : Tokens) (b : A) → next_of y ≡ next_of remaining → f ++ r ≡ prefix ++ y → L m b f → begins (follow b) r ≡ false
      → (b ≡ a) × (f ≡ prefix) × (r ≡ y)

-- at which depths nothing can be read, for a cause: where too many constructs are open, one that the next token opens counts
abbrev pub Covers : ℕ → Cause → Tokens → ℕ → Type 0
Covers limit UnexpectedToken remaining m = Unit {0}
Covers limit Wide remaining m = Unit {0}
Covers limit Deep remaining m = m ≤ limit + opens remaining

-- how deep the text nests that goes on: one more than the limit; where too many constructs are open, the next token may open
-- one
abbrev pub Near : Cause → ℕ → Tokens → ℕ → Type 0
Near UnexpectedToken limit remaining depth = depth ≤ suc limit
Near Wide limit remaining depth = depth ≤ suc limit
Near Deep limit remaining depth = depth ≤ suc limit + opens remaining

-- where too many constructs are open, what goes on begins with the next token, with which an expression begins
abbrev pub Begun : Cause → Tokens → Tokens → Type 0
Begun UnexpectedToken more remaining = Unit {0}
Begun Wide more remaining = Unit {0}
Begun Deep more remaining = (t : Token) × (next_of more ≡ Some t) × (next_of remaining ≡ Some t) × (begins first_expr remaining ≡ true)

begun_more : (cause : Cause) (more x remaining : Tokens) → Begun cause more remaining → Begun cause (more ++ x) remaining
begun_more UnexpectedToken more x remaining h = tt
begun_more Wide more x remaining h = tt
begun_more Deep [] x remaining h = cc
begun_more Deep (t ∷ more) x remaining h = h

-- The reader stops at the remaining tokens: the tokens before them are a viable prefix, and with the next token they are none.
pub record Halts {A : Type 0} (limit : ℕ) (L : ℕ → A → Tokens → Type 0) (follow : A → List Kind) (cause : Cause) (ts remaining : Tokens) : Type 0 where
  pub prefix : Tokens
  pub split : ts ≡ prefix ++ remaining
  pub depth : ℕ
  pub value : A
  pub more : Tokens
  pub viable : L depth value (prefix ++ more)
  pub begun : Begun cause more remaining
  pub near : Near cause limit remaining depth
  pub dead : (m : ℕ) (y f r : Tokens) (b : A) → Covers limit cause remaining m → Alike cause y remaining → f ++ r ≡ prefix ++ y → L m b f → begins (follow b) r ≡ false → ⊥

abbrev pub Good : {A : Type 0} → ℕ → (ℕ → A → Tokens → Type 0) → (A → List Kind) → Tokens → Outcome A → Type 0
Good limit L follow ts (Read a remaining) = Took limit L follow ts a remaining
Good limit L follow ts (Stop cause remaining) = Halts limit L follow cause ts remaining

-- deeper nesting only adds texts, and there is some text in which nothing nests
pub record IsLang {A : Type 0} (L : ℕ → A → Tokens → Type 0) : Type 0 where
  pub up : (m n : ℕ) (a : A) (ts : Tokens) → L m a ts → L (m + n) a ts
  pub depth : ℕ
  pub shallow : depth ≤ 1
  pub value : A
  pub text : Tokens
  pub reads : L depth value text

-- The rule of a reader: it reads the language, exactly.
pub record Rule {A : Type 0} (limit : ℕ) (L : ℕ → A → Tokens → Type 0) (follow : A → List Kind) (p : Reader A) : Type 0 where
  pub lang : IsLang L
  pub good : (ts : Tokens) → Good limit L follow ts (p ts)

-- a text of the language begins with one of these kinds
pub record Starts {A : Type 0} (set : List Kind) (L : ℕ → A → Tokens → Type 0) : Type 0 where
  pub at : (m : ℕ) (a : A) (f : Tokens) → L m a f → begins set f ≡ true

-- a text of the language, with what comes after it, does not begin with one of these kinds
pub record Leaves {A : Type 0} (set : List Kind) (follow : A → List Kind) (L : ℕ → A → Tokens → Type 0) : Type 0 where
  pub at : (m : ℕ) (b : A) (f r : Tokens) → L m b f → begins (follow b) r ≡ false → begins set (f ++ r) ≡ false

-- a kind with which the one goes on, the other goes on with too
pub record GoesWithin {A B : Type 0} (fun : A → B) (follow : A → List Kind) (goes' : B → List Kind) : Type 0 where
  pub at : (a : A) (r : Tokens) → begins (goes' (fun a)) r ≡ false → begins (follow a) r ≡ false

-- ---- the next token

pub alike_next : (cause : Cause) (y z : Tokens) → Alike cause y z → next_of y ≡ next_of z
alike_next UnexpectedToken y z a = a
alike_next Wide y z a = a
alike_next Deep y z a = a.0

pub next-append : (c y z : Tokens) → next_of y ≡ next_of z → next_of (c ++ y) ≡ next_of (c ++ z)
next-append [] y z e = e
next-append (t ∷ c) y z e = refl

begins_at : List Kind → Option Token → Bool
begins_at set None = false
begins_at set (Some t) = has set t.kind

begins_is : (set : List Kind) (ts : Tokens) → begins set ts ≡ begins_at set (next_of ts)
unfolding begins_at
begins_is set [] = refl
begins_is set (t ∷ ts) = refl

pub begins-next : (set : List Kind) (y z : Tokens) → next_of y ≡ next_of z → begins set y ≡ begins set z
begins-next set y z e = begins_is set y ∙ ap (begins_at set) e ∙ sym (begins_is set z)

pub begins-append : (set : List Kind) (f r : Tokens) → begins set f ≡ true → begins set (f ++ r) ≡ true
begins-append set [] r h = cc
begins-append set (t ∷ f) r h = h

-- ---- the one, and then the other

pair_is : {A B : Type 0} (x : A) (y : B) (c : A × B) → c.0 ≡ x → c.1 ≡ y → c ≡ (x, y)
pair_is x y c p q = ap (λ u. (u, c.1)) p ∙ ap (λ v. (x, v)) q

regroup : (f x y r w : Tokens) → f ≡ x ++ y → f ++ r ≡ w → x ++ (y ++ r) ≡ w
regroup f x y r w s e = sym (append_assoc x y r) ∙ ap (λ z. z ++ r) (sym s) ∙ e

up_to : {A : Type 0} (L : ℕ → A → Tokens → Type 0) → IsLang L → (m n : ℕ) (a : A) (ts : Tokens) → m ≤ n → L m a ts → L n a ts
up_to L l m n a ts u h = let P : ℕ → Type 0 = λ k. L k a ts in subst P (omega (arith, u)) (l.up m (n - m) a ts h)

left_max : (m n : ℕ) → m ≤ max m n
left_max m n = omega arith

right_max : (m n : ℕ) → n ≤ max m n
right_max m n = omega arith

-- the limit, and a depth that is near it
near_limit : (cause : Cause) (limit : ℕ) (remaining : Tokens) (depth : ℕ) → Near cause limit remaining depth → Near cause limit remaining (max limit depth)
near_limit UnexpectedToken limit remaining depth n = omega (arith, n)
near_limit Wide limit remaining depth n = omega (arith, n)
near_limit Deep limit remaining depth n = omega (arith, n)

-- a depth that is near the limit, and that of a text in which nothing nests
near_shallow : (cause : Cause) (limit : ℕ) (remaining : Tokens) (depth one : ℕ) → one ≤ 1 → Near cause limit remaining depth → Near cause limit remaining (max depth one)
near_shallow UnexpectedToken limit remaining depth one s n = omega (arith, s, n)
near_shallow Wide limit remaining depth one s n = omega (arith, s, n)
near_shallow Deep limit remaining depth one s n = omega (arith, s, n)

module _ {A B : Type 0} (limit : ℕ) (L : ℕ → A → Tokens → Type 0) (M : A → ℕ → B → Tokens → Type 0) where
  abbrev pub Dep : ℕ → A × B → Tokens → Type 0
  Dep m = dep (L m) (λ a. M a m)

  pub dep_lang : IsLang L → ((a : A) → IsLang (M a)) → IsLang Dep
  dep_lang l k = record {
    up = λ m n v ts h. record { prefix = h.prefix; suffix = h.suffix; split = h.split; first = l.up m n v.0 h.prefix h.first; second = (k v.0).up m n v.1 h.suffix h.second };
    depth = 1;
    shallow = omega arith;
    value = (l.value, (k l.value).value);
    text = l.text ++ (k l.value).text;
    reads = record {
      prefix = l.text;
      suffix = (k l.value).text;
      split = refl;
      first = up_to L l l.depth 1 l.value l.text l.shallow l.reads;
      second = up_to (M l.value) (k l.value) (k l.value).depth 1 (k l.value).value (k l.value).text (k l.value).shallow (k l.value).reads;
    };
  }

  module _ (g : A → List Kind) (h : A → B → List Kind) (q : A → Reader B) (l : IsLang L) (k : (a : A) → IsLang (M a)) (follows : (a : A) → Leaves (g a) (h a) (M a)) where
    moved : (a' a : A) (m : ℕ) (b : B) (f : Tokens) → a' ≡ a → M a' m b f → M a m b f
    moved a' a m b f e x = subst (λ (z : A). M z m b f) e x

    moved_end : (a' a : A) (b : B) (r : Tokens) → a' ≡ a → begins (h a' b) r ≡ false → begins (h a b) r ≡ false
    moved_end a' a b r e z = subst (λ (x : A). begins (h x b) r ≡ false) e z

    second : (ts : Tokens) (a : A) (remaining : Tokens) → Took limit L g ts a remaining → (o : Outcome B) → Good limit (M a) (h a) remaining o
        → Good limit Dep (λ v. h v.0 v.1) ts (and_then o (λ b remaining'. Read (a, b) remaining'))
    second ts a remaining w (Read b remaining') v = record {
      prefix = w.prefix ++ v.prefix;
      split = w.split ∙ ap (λ z. w.prefix ++ z) v.split ∙ sym (append_assoc w.prefix v.prefix remaining');
      reads = record { prefix = w.prefix; suffix = v.prefix; split = refl; first = w.reads; second = v.reads };
      only = λ m y f r c n e b z.
          let one = w.only m (v.prefix ++ y) b.prefix (b.suffix ++ r) c.0 (next-append v.prefix y remaining' n ∙ ap next_of (sym v.split))
          (regroup f b.prefix b.suffix r _ b.split e ∙ append_assoc w.prefix v.prefix y) b.first ((follows c.0).at m c.1 b.suffix r b.second z) in
          let two = v.only m y b.suffix r c.1 n one.2 (moved c.0 a m c.1 b.suffix one.0 b.second) (moved_end c.0 a c.1 r one.0 z) in
          (pair_is _ _ c one.0 two.0, b.split ∙ ap (λ x. x ++ b.suffix) one.1 ∙ ap (λ x. w.prefix ++ x) two.1, two.2);
    }
    second ts a remaining w (Stop cause remaining') v = record {
      prefix = w.prefix ++ v.prefix;
      split = w.split ∙ ap (λ z. w.prefix ++ z) v.split ∙ sym (append_assoc w.prefix v.prefix remaining');
      depth = max limit v.depth;
      value = (a, v.value);
      more = v.more;
      viable = record { prefix = w.prefix; suffix = v.prefix ++ v.more; split = append_assoc w.prefix v.prefix v.more; first = up_to L l limit (max limit v.depth) a w.prefix (left_max limit v.depth) w.reads; second = up_to (M a) (k a) v.depth (max limit v.depth) v.value (v.prefix ++ v.more) (right_max limit v.depth) v.viable };
      begun = v.begun;
      near = near_limit cause limit remaining' v.depth v.near;
      dead = λ m y f r c u n e b z.
          let one = w.only m (v.prefix ++ y) b.prefix (b.suffix ++ r) c.0 (next-append v.prefix y remaining' (alike_next cause y remaining' n) ∙ ap next_of (sym v.split))
          (regroup f b.prefix b.suffix r _ b.split e ∙ append_assoc w.prefix v.prefix y) b.first ((follows c.0).at m c.1 b.suffix r b.second z) in
          v.dead m y b.suffix r c.1 u n one.2 (moved c.0 a m c.1 b.suffix one.0 b.second) (moved_end c.0 a c.1 r one.0 z);
    }

    -- the other has only to be good where the one leaves off
    pub first : (ts : Tokens) (o : Outcome A) → Good limit L g ts o → ((a : A) (remaining : Tokens) → Took limit L g ts a remaining → Good limit (M a) (h a) remaining (q a remaining))
        → Good limit Dep (λ v. h v.0 v.1) ts (and_then o (λ a remaining. and_then (q a remaining) (λ b remaining'. Read (a, b) remaining')))
    first ts (Read a remaining) w next = second ts a remaining w (q a remaining) (next a remaining w)
    first ts (Stop cause remaining) w next = record {
      prefix = w.prefix;
      split = w.split;
      depth = max w.depth (k w.value).depth;
      value = (w.value, (k w.value).value);
      more = w.more ++ (k w.value).text;
      viable = record { prefix = w.prefix ++ w.more; suffix = (k w.value).text; split = sym (append_assoc w.prefix w.more (k w.value).text); first = up_to L l w.depth (max w.depth (k w.value).depth) w.value (w.prefix ++ w.more) (left_max w.depth (k w.value).depth) w.viable; second = up_to (M w.value) (k w.value) (k w.value).depth (max w.depth (k w.value).depth) (k w.value).value (k w.value).text (right_max w.depth (k w.value).depth) (k w.value).reads };
      begun = begun_more cause w.more (k w.value).text remaining w.begun;
      near = near_shallow cause limit remaining w.depth (k w.value).depth (k w.value).shallow w.near;
      dead = λ m y f r c u n e b z. w.dead m y b.prefix (b.suffix ++ r) c.0 u n (regroup f b.prefix b.suffix r _ b.split e) b.first ((follows c.0).at m c.1 b.suffix r b.second z);
    }

    pub dep_good : (p : Reader A) → ((a : A) (ts : Tokens) → Good limit (M a) (h a) ts (q a ts)) → ((ts : Tokens) → Good limit L g ts (p ts)) → (ts : Tokens) → Good limit Dep (λ v. h v.0 v.1) ts (read_dep p q ts)
    dep_good p iq ip ts = first ts (p ts) (ip ts) (λ a remaining w. iq a remaining)

-- ---- one token

pub leaf_lang : {A : Type 0} (f : Token → Option A) (t : Token) (a : A) → f t ≡ Some a → IsLang (λ m. leaf f)
leaf_lang f t a e = record { up = λ m n b ts h. h; depth = 0; shallow = omega arith; value = a; text = t ∷ []; reads = (t, refl, e) }

module _ {A : Type 0} (limit : ℕ) (f : Token → Option A) (l : IsLang (λ m. leaf f)) where
  -- nothing at all stands there
  no_leaf : (ts y : Tokens) → next_of y ≡ next_of ts → ((t : Token) (a : A) → next_of ts ≡ Some t → f t ≡ Some a → ⊥)
      → (g r : Tokens) (b : A) → g ++ r ≡ y → leaf f b g → ⊥
  no_leaf ts y n none g r b e w = none w.0 b (sym n ∙ ap next_of (sym e ∙ ap (λ x. x ++ r) w.1)) w.2

  stopped : (ts : Tokens) → ((t : Token) (a : A) → next_of ts ≡ Some t → f t ≡ Some a → ⊥) → Good limit (λ m. leaf f) (λ a. []) ts (Stop UnexpectedToken ts)
  stopped ts none = record {
    prefix = [];
    split = refl;
    depth = l.depth;
    value = l.value;
    more = l.text;
    viable = l.reads;
    begun = tt;
    near = omega (arith, l.shallow);
    dead = λ m y g r b u n e w z. no_leaf ts y n none g r b e w;
  }

  one : (t : Token) (ts : Tokens) (found : Option A) → f t ≡ found → Good limit (λ m. leaf f) (λ a. []) (t ∷ ts) (read_if found (t ∷ ts) ts)
  one t ts None h = stopped (t ∷ ts) (λ t' a n e. let same : t ≡ t' = cc in let e' : f t ≡ Some a = ap f same ∙ e in cc)
  one t ts (Some a) h = record {
    prefix = t ∷ [];
    split = refl;
    reads = (t, refl, h);
    only = λ m y g r b n e w z.
        let e' : w.0 ∷ r ≡ t ∷ y = ap (λ x. x ++ r) (sym w.1) ∙ e in
        let same : w.0 ≡ t = cc in
        let e'' : Some b ≡ Some a = sym w.2 ∙ ap f same ∙ h in
        ((cc), w.1 ∙ ap (λ x. x ∷ []) same, (cc));
  }

  pub leaf_good : (ts : Tokens) → Good limit (λ m. leaf f) (λ a. []) ts (read_leaf f ts)
  leaf_good [] = stopped [] (λ t a n e. cc)
  leaf_good (t ∷ ts) = one t ts (f t) refl

-- ---- mapped by a function

module _ {A B : Type 0} (limit : ℕ) (fun : A → B) (L : ℕ → A → Tokens → Type 0) where
  pub mapped_lang : IsLang L → IsLang (λ m. mapped fun (L m))
  mapped_lang l = record {
    up = λ m n b ts h. (h.0, l.up m n h.0 ts h.1, h.2);
    depth = l.depth;
    shallow = l.shallow;
    value = fun l.value;
    text = l.text;
    reads = (l.value, l.reads, refl);
  }

  module _ (g : A → List Kind) (g' : B → List Kind) (inside : GoesWithin fun g g') where
    suffix : {m : ℕ} {f : Tokens} (r : Tokens) (c : B) (h : mapped fun (L m) c f) → begins (g' c) r ≡ false → begins (g h.0) r ≡ false
    suffix r c h z = inside.at h.0 r (subst (λ (x : B). begins (g' x) r ≡ false) (sym h.2) z)

    pub mapped_good : (ts : Tokens) (o : Outcome A) → Good limit L g ts o → Good limit (λ m. mapped fun (L m)) g' ts (and_then o (λ a remaining. Read (fun a) remaining))
    mapped_good ts (Read a remaining) w = record {
      prefix = w.prefix;
      split = w.split;
      reads = (a, w.reads, refl);
      only = λ m y f r c n e h z. let o = w.only m y f r h.0 n e h.1 (suffix r c h z) in (sym h.2 ∙ ap fun o.0, o.1, o.2);
    }
    mapped_good ts (Stop cause remaining) w = record {
      prefix = w.prefix;
      split = w.split;
      depth = w.depth;
      value = fun w.value;
      more = w.more;
      viable = (w.value, w.viable, refl);
      begun = w.begun;
      near = w.near;
      dead = λ m y f r c u n e h z. w.dead m y f r h.0 u n e h.1 (suffix r c h z);
    }

-- ---- no token

pub nothing_lang : {A : Type 0} (a : A) → IsLang (λ m. nothing a)
nothing_lang a = record { up = λ m n b ts h. h; depth = 0; shallow = omega arith; value = a; text = []; reads = (refl, refl) }

pub nothing_good : {A : Type 0} (limit : ℕ) (g : A → List Kind) (a : A) (ts : Tokens) → Good limit (λ m. nothing a) g ts (read_nothing a ts)
nothing_good limit g a ts = record {
  prefix = [];
  split = refl;
  reads = (refl, refl);
  only = λ m y f r b n e h z. (h.0, h.1, ap (λ x. x ++ r) (sym h.1) ∙ e);
}

-- ---- the one or the other

meets : (set : List Kind) (ts prefix remaining y f r : Tokens) → ts ≡ prefix ++ remaining → next_of y ≡ next_of remaining → f ++ r ≡ prefix ++ y → begins set (f ++ r) ≡ begins set ts
meets set ts prefix remaining y f r s n e = ap (begins set) e ∙ begins-next set (prefix ++ y) (prefix ++ remaining) (next-append prefix y remaining n) ∙ ap (begins set) (sym s)

module _ {A : Type 0} (limit : ℕ) (L M : ℕ → A → Tokens → Type 0) where
  pub either_lang : IsLang L → IsLang M → IsLang (λ m. either (L m) (M m))
  either_lang l k = record { up = up; depth = l.depth; shallow = l.shallow; value = l.value; text = l.text; reads = inl l.reads } where
    up : (m n : ℕ) (a : A) (ts : Tokens) → either (L m) (M m) a ts → either (L (m + n)) (M (m + n)) a ts
    up m n a ts (inl h) = inl (l.up m n a ts h)
    up m n a ts (inr h) = inr (k.up m n a ts h)

  module _ (set : List Kind) (g h k : A → List Kind) (g_in : GoesWithin (λ a. a) g k) (h_in : GoesWithin (λ a. a) h k) (starts : Starts set L) (leaves : Leaves set k M) where
    not_right : (ts prefix remaining y f r : Tokens) (m : ℕ) (b : A) → begins set ts ≡ true → ts ≡ prefix ++ remaining → next_of y ≡ next_of remaining → f ++ r ≡ prefix ++ y → M m b f → begins (k b) r ≡ false → ⊥
    not_right ts prefix remaining y f r m b v s n e w z = let e1 = meets set ts prefix remaining y f r s n e in let e2 = leaves.at m b f r w z in cc

    not_left : (ts prefix remaining y f r : Tokens) (m : ℕ) (b : A) → begins set ts ≡ false → ts ≡ prefix ++ remaining → next_of y ≡ next_of remaining → f ++ r ≡ prefix ++ y → L m b f → ⊥
    not_left ts prefix remaining y f r m b v s n e w = let e1 = meets set ts prefix remaining y f r s n e in let e2 = begins-append set f r (starts.at m b f w) in cc

    left : (ts : Tokens) → begins set ts ≡ true → (o : Outcome A) → Good limit L g ts o → Good limit (λ m. either (L m) (M m)) k ts o
    left ts v (Read a remaining) w = record { prefix = w.prefix; split = w.split; reads = inl w.reads; only = only } where
      only : (m : ℕ) (y f r : Tokens) (b : A) → next_of y ≡ next_of remaining → f ++ r ≡ w.prefix ++ y → either (L m) (M m) b f → begins (k b) r ≡ false → (b ≡ a) × (f ≡ w.prefix) × (r ≡ y)
      only m y f r b n e (inl x) z = w.only m y f r b n e x (g_in.at b r z)
      only m y f r b n e (inr x) z = absurd (not_right ts w.prefix remaining y f r m b v w.split n e x z)
    left ts v (Stop cause remaining) w = record { prefix = w.prefix; split = w.split; depth = w.depth; value = w.value; more = w.more; viable = inl w.viable; begun = w.begun; near = w.near; dead = dead } where
      dead : (m : ℕ) (y f r : Tokens) (b : A) → Covers limit cause remaining m → Alike cause y remaining → f ++ r ≡ w.prefix ++ y → either (L m) (M m) b f → begins (k b) r ≡ false → ⊥
      dead m y f r b u n e (inl x) z = w.dead m y f r b u n e x (g_in.at b r z)
      dead m y f r b u n e (inr x) z = not_right ts w.prefix remaining y f r m b v w.split (alike_next cause y remaining n) e x z

    right : (ts : Tokens) → begins set ts ≡ false → (o : Outcome A) → Good limit M h ts o → Good limit (λ m. either (L m) (M m)) k ts o
    right ts v (Read a remaining) w = record { prefix = w.prefix; split = w.split; reads = inr w.reads; only = only } where
      only : (m : ℕ) (y f r : Tokens) (b : A) → next_of y ≡ next_of remaining → f ++ r ≡ w.prefix ++ y → either (L m) (M m) b f → begins (k b) r ≡ false → (b ≡ a) × (f ≡ w.prefix) × (r ≡ y)
      only m y f r b n e (inr x) z = w.only m y f r b n e x (h_in.at b r z)
      only m y f r b n e (inl x) z = absurd (not_left ts w.prefix remaining y f r m b v w.split n e x)
    right ts v (Stop cause remaining) w = record { prefix = w.prefix; split = w.split; depth = w.depth; value = w.value; more = w.more; viable = inr w.viable; begun = w.begun; near = w.near; dead = dead } where
      dead : (m : ℕ) (y f r : Tokens) (b : A) → Covers limit cause remaining m → Alike cause y remaining → f ++ r ≡ w.prefix ++ y → either (L m) (M m) b f → begins (k b) r ≡ false → ⊥
      dead m y f r b u n e (inr x) z = w.dead m y f r b u n e x (h_in.at b r z)
      dead m y f r b u n e (inl x) z = not_left ts w.prefix remaining y f r m b v w.split (alike_next cause y remaining n) e x

    pub choose : (ts : Tokens) (v : Bool) (o o' : Outcome A) → begins set ts ≡ v → (v ≡ true → Good limit L g ts o) → (v ≡ false → Good limit M h ts o')
        → Good limit (λ m. either (L m) (M m)) k ts (cond v o o')
    choose ts true o o' v f f' = left ts v o (f refl)
    choose ts false o o' v f f' = right ts v o' (f' refl)

    pub either_good : (p q : Reader A) → ((ts : Tokens) → Good limit L g ts (p ts)) → ((ts : Tokens) → Good limit M h ts (q ts)) → (ts : Tokens) → Good limit (λ m. either (L m) (M m)) k ts (read_either set p q ts)
    either_good p q ip iq ts = choose ts _ (p ts) (q ts) refl (λ e. ip ts) (λ e. iq ts)

-- ---- one language for another with the same texts

pub same_good : {A : Type 0} (limit : ℕ) (L M : ℕ → A → Tokens → Type 0) → ((m : ℕ) (a : A) (ts : Tokens) → L m a ts → M m a ts) → ((m : ℕ) (a : A) (ts : Tokens) → M m a ts → L m a ts)
    → (g : A → List Kind) (ts : Tokens) (o : Outcome A) → Good limit L g ts o → Good limit M g ts o
same_good limit L M to from g ts (Read a remaining) w = record { prefix = w.prefix; split = w.split; reads = to _ _ _ w.reads; only = λ m y f r b n e h z. w.only m y f r b n e (from m b f h) z }
same_good limit L M to from g ts (Stop cause remaining) w = record { prefix = w.prefix; split = w.split; depth = w.depth; value = w.value; more = w.more; viable = to _ _ _ w.viable; begun = w.begun; near = w.near; dead = λ m y f r b u n e h z. w.dead m y f r b u n e (from m b f h) z }

-- ---- any number

-- the rounds of a loop, gathered into a list
abbrev pub read_list_to : {A : Type 0} → ℕ → List Kind → Reader A → Reader (List A)
read_list_to zero set p ts = Read [] ts
read_list_to (suc n) set p ts = read_either set (read_mapped (λ v. v.0 ∷ v.1) (read_both p (read_list_to n set p))) (read_nothing []) ts

abbrev pub read_list : {A : Type 0} → List Kind → Reader A → Reader (List A)
read_list set p ts = read_list_to (length ts) set p ts

module _ {A : Type 0} (L : ℕ → A → Tokens → Type 0) (l : IsLang L) where
  many_up : (m n : ℕ) (b : List A) (ts : Tokens) → many (L m) b ts → many (L (m + n)) b ts
  many_up m n [] ts h = h
  many_up m n (a ∷ more) ts h = (h.0, h.1, h.2, l.up m n a h.0 h.3, many_up m n more h.1 h.4)

  pub many_lang : IsLang (λ m. many (L m))
  many_lang = record { up = many_up; depth = 0; shallow = omega arith; value = []; text = []; reads = refl }

  abbrev OneRound : ℕ → List A → Tokens → Type 0
  OneRound m = either (mapped (λ v. v.0 ∷ v.1) (both (L m) (many (L m)))) (nothing [])

  to_round : (m : ℕ) (b : List A) (ts : Tokens) → many (L m) b ts → OneRound m b ts
  to_round m [] ts h = inr (refl, h)
  to_round m (a ∷ more) ts h = inl ((a, more), record { prefix = h.0; suffix = h.1; split = h.2; first = h.3; second = h.4 }, refl)

  from_round : (m : ℕ) (b : List A) (ts : Tokens) → OneRound m b ts → many (L m) b ts
  from_round m b ts (inl h) = subst (λ (x : List A). many (L m) x ts) h.2 (h.1.prefix, h.1.suffix, h.1.split, h.1.first, h.1.second)
  from_round m b ts (inr h) = subst (λ (x : List A). many (L m) x ts) (sym h.0) h.1

module _ {A : Type 0} (limit : ℕ) (L : ℕ → A → Tokens → Type 0) (l : IsLang L) (set : List Kind) (g : A → List Kind) (k : List Kind) (starts : Starts set L)
    (g_in : (a : A) (r : Tokens) → begins k r ≡ false → begins (g a) r ≡ false) (set_in : (r : Tokens) → begins k r ≡ false → begins set r ≡ false)
    (apart : (a : A) (r : Tokens) → begins set r ≡ true → begins (g a) r ≡ false) where
  list_leaves : (a : A) → Leaves (g a) (λ b. k) (λ m. many (L m))
  list_leaves a = record { at = leaves_at } where
    leaves_at : (m : ℕ) (b : List A) (f r : Tokens) → many (L m) b f → begins k r ≡ false → begins (g a) (f ++ r) ≡ false
    leaves_at m [] f r h z = subst (λ (x : Tokens). begins (g a) (x ++ r) ≡ false) (sym h) (g_in a r z)
    leaves_at m (b ∷ more) f r h z = apart a (f ++ r) (begins-append set f r (subst (λ (x : Tokens). begins set x ≡ true) (sym h.2) (begins-append set h.0 h.1 (starts.at m b h.0 h.3))))

  fewer : (n : ℕ) (ts prefix remaining : Tokens) → ts ≡ prefix ++ remaining → begins set prefix ≡ true → length ts ≤ suc n → length remaining ≤ n
  fewer n ts [] remaining s b h = cc
  fewer n ts (t ∷ prefix) remaining s b h = omega (arith, length-append prefix remaining, ap length s, h)

  same : GoesWithin {A = List A} {B = List A} (λ b. b) (λ b. k) (λ b. k)
  same = record { at = λ b r z. z }

  -- the two cases of a round
  by_first_round : (ts : Tokens) (v : Bool) (o : Outcome (List A)) → begins set ts ≡ v → (v ≡ true → Good limit (λ m. mapped (λ v. v.0 ∷ v.1) (both (L m) (many (L m)))) (λ b. k) ts o)
      → Good limit (λ m. many (L m)) (λ b. k) ts (cond v o (Read [] ts))
  by_first_round ts v o e f = same_good limit (OneRound L l) (λ m. many (L m)) (from_round L l) (to_round L l) (λ b. k) ts _
      (choose limit (λ m. mapped (λ v. v.0 ∷ v.1) (both (L m) (many (L m)))) (λ m. nothing []) set (λ b. k) (λ b. k) (λ b. k) same same
      (record { at = λ m b f h. subst (λ (x : Tokens). begins set x ≡ true) (sym h.1.split) (begins-append set h.1.prefix h.1.suffix (starts.at m h.0.0 h.1.prefix h.1.first)) })
      (record { at = λ m b f r h z. subst (λ (x : Tokens). begins set (x ++ r) ≡ false) (sym h.1) (set_in r z) })
      ts v o (Read [] ts) e f (λ e. nothing_good limit (λ b. k) [] ts))

  round : (n : ℕ) (p : Reader A) → ((ts : Tokens) → Good limit L g ts (p ts)) → ((ts : Tokens) → length ts ≤ n → Good limit (λ m. many (L m)) (λ b. k) ts (read_list_to n set p ts))
      → (ts : Tokens) → length ts ≤ suc n → Good limit (λ m. many (L m)) (λ b. k) ts (read_list_to (suc n) set p ts)
  round n p ip next ts h = by_first_round ts _ _ refl
      (λ e. mapped_good limit (λ v. v.0 ∷ v.1) (λ m. both (L m) (many (L m))) (λ v. k) (λ b. k) (record { at = λ v r z. z }) ts _
      (first limit L (λ a m. many (L m)) g (λ a b. k) (λ a. read_list_to n set p) l (λ a. many_lang L l) list_leaves ts (p ts) (ip ts)
      (λ a remaining w. next remaining (fewer n ts w.prefix remaining w.split (starts.at limit a w.prefix w.reads) h))))

  no_round : (p : Reader A) (ts : Tokens) → length ts ≤ 0 → Good limit (λ m. many (L m)) (λ b. k) ts (read_list_to zero set p ts)
  no_round p [] h = by_first_round [] false (Read [] []) refl (λ e. cc)
  no_round p (t ∷ ts) h = absurd (omega arith)

  many_to_good : (n : ℕ) (p : Reader A) → ((ts : Tokens) → Good limit L g ts (p ts)) → (ts : Tokens) → length ts ≤ n → Good limit (λ m. many (L m)) (λ b. k) ts (read_list_to n set p ts)
  many_to_good zero p ip ts h = no_round p ts h
  many_to_good (suc n) p ip ts h = round n p ip (many_to_good n p ip) ts h

  pub many_good : (p : Reader A) → ((ts : Tokens) → Good limit L g ts (p ts)) → (ts : Tokens) → Good limit (λ m. many (L m)) (λ b. k) ts (read_list set p ts)
  many_good p ip ts = many_to_good (length ts) p ip ts (omega arith)
