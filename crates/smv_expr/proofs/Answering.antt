-- From the rule of a reader without limits, and the reader within them beside it, to what a whole text is.
use Rattle.std.proofs.Common.{◌≡◌, ℕ, suc, ◌+◌, ◌≤◌, ◌⊎◌, Bool, true, false, List, [], ◌∷◌, ◌++◌, Err, Ok, refl, sym, ◌∙◌, ap, subst, append-nil, append_assoc, length, length-append, inl, inr, arith}
use Rattle.std.specs.Prelude.{Result, Some}
use Rattle.std.proofs.lemmas.List.{append_cancel_right}
use Rattle.smv_ast.specs.declared.fault.Fault.{Fault}
use Rattle.smv_ast.specs.declared.fault.Fault.TheVariants as fault
use Rattle.smv_expr.specs.declared.kind.Kind.{Kind}
use Rattle.smv_expr.specs.declared.kind.Kind.TheVariants as k
use Rattle.smv_expr.specs.declared.error.ReadError.{ReadError}
use Rattle.smv_expr.specs.declared.error.ReadError.TheVariants as error
use Rattle.smv_expr.specs.Lexicon.{Bytes, Token, tokens}
use Rattle.smv_expr.specs.Language.{Tokens, next_of, begins, followed_by}
use Rattle.smv_expr.specs.Reading.{Cause, Outcome, Reader, remaining_of, Alike, Gives}
use Rattle.smv_expr.specs.Reading.Outcome.{Read, Stop}
use Rattle.smv_expr.specs.Reading.Cause.{UnexpectedToken, Wide, Deep}
use Rattle.smv_expr.specs.Answer.{unlimited, small, almost, opens, expr_ends, HasTooManyOpen, IsText, StopsAt, IsViable, GoesOn, GoesOnWithin, AreWithin, Verdict, Answers, IsAnswered, IsResultOf, result_of, syntax_fault, IsFaultOf}
use Rattle.smv_expr.specs.Limits.{nesting_bound}
use Rattle.smv_expr.specs.ExprReaders.{first_expr}
use Rattle.smv_expr.proofs.Rules.{Good, Halts, Covers, Near, Rule}
use Rattle.smv_expr.proofs.Words.{always}
use Rattle.smv_expr.proofs.Limited.{Sim, AtWide, Beyond, LeavesSuffix, Fails, Obeys}
use Rattle.smv_expr.proofs.Local.{Local, SameDots, put}

no_next : (y : Tokens) (t : Token) → y ≡ [] → next_of y ≡ Some t → ⊥
no_next [] t e n = cc
no_next (x ∷ y) t e n = cc

-- ---- what a reader without a limit on heights says

-- the whole list stands for this value within the limit of open constructs, and for no other at any depth
record IsOnly {A : Type 0} (L : ℕ → A → Tokens → Type 0) (ts : Tokens) (a : A) : Type 0 where
  reads : L nesting_bound a ts
  only : (b : A) (m : ℕ) → L m b ts → b ≡ a

-- at any depth
abbrev deep : {A : Type 0} → (ℕ → A → Tokens → Type 0) → A → Tokens → Type 0
deep L a ts = (m : ℕ) × L m a ts

-- what stands before the rest is viable, and what goes on from it with the next token is not
record Ends {A : Type 0} (L : ℕ → A → Tokens → Type 0) (ts remaining : Tokens) : Type 0 where
  before : IsViable (deep L) ts remaining
  near : before.viable.0 ≤ suc nesting_bound
  dead : GoesOn (deep L) before.prefix remaining → ⊥

-- what stands before the rest goes on with the next token, but to nothing within the limit of open constructs
record NestsTooDeep {A : Type 0} (L : ℕ → A → Tokens → Type 0) (ts remaining : Tokens) : Type 0 where
  before : IsViable (deep L) ts remaining
  token : Token
  next : next_of remaining ≡ Some token
  begun : next_of before.more ≡ Some token
  first : begins first_expr remaining ≡ true
  near : before.viable.0 ≤ suc nesting_bound + opens remaining
  dead : (m : ℕ) (y : Tokens) (a : A) → m ≤ nesting_bound + opens remaining → Alike Deep y remaining → L m a (before.prefix ++ y) → ⊥

module _ {A : Type 0} (L : ℕ → A → Tokens → Type 0) (follow : List Kind) where
  abbrev Plain : Tokens → Outcome A → Type 0
  Plain ts (Read a []) = IsOnly L ts a
  Plain ts (Read a (t ∷ remaining)) = Ends L ts (t ∷ remaining)
  Plain ts (Stop UnexpectedToken remaining) = Ends L ts remaining
  Plain ts (Stop Wide remaining) = Ends L ts remaining
  Plain ts (Stop Deep remaining) = NestsTooDeep L ts remaining

  halts : (cause : Cause) (ts remaining : Tokens) → ((m : ℕ) → Covers nesting_bound cause remaining m) → ((y : Tokens) → next_of y ≡ next_of remaining → Alike cause y remaining) → ((m : ℕ) → Near cause nesting_bound remaining m → m ≤ suc nesting_bound) → Halts nesting_bound L (always follow) cause ts remaining → Ends L ts remaining
  halts cause ts remaining covers alike near w = record {
    before = record { prefix = w.prefix; split = w.split; more = w.more; value = w.value; viable = (w.depth, w.viable) };
    near = near w.depth w.near;
    dead = λ g. w.dead g.viable.0 g.more (w.prefix ++ g.more) [] g.value (covers g.viable.0) (alike g.more g.next) (append-nil (w.prefix ++ g.more)) g.viable.1 refl;
  }

  plain_of : (ts : Tokens) (o : Outcome A) → Good nesting_bound L (always follow) ts o → Plain ts o
  plain_of ts (Read a []) w = record {
    reads = subst (λ (x : Tokens). L nesting_bound a x) (sym (w.split ∙ append-nil w.prefix)) w.reads;
    only = λ b m h. let o = w.only m [] ts [] b refl (append-nil ts ∙ w.split) h refl in o.0;
  }
  plain_of ts (Read a (t ∷ remaining)) w = record {
    before = record { prefix = w.prefix; split = w.split; more = []; value = a; viable = (nesting_bound, subst (λ (x : Tokens). L nesting_bound a x) (sym (append-nil w.prefix)) w.reads) };
    near = omega arith;
    dead = λ g. let o = w.only g.viable.0 g.more (w.prefix ++ g.more) [] g.value g.next (append-nil (w.prefix ++ g.more)) g.viable.1 refl in no_next g.more t (sym o.2) g.next;
  }
  plain_of ts (Stop UnexpectedToken remaining) w = halts UnexpectedToken ts remaining (λ m. tt) (λ y n. n) (λ m n. n) w
  plain_of ts (Stop Wide remaining) w = halts Wide ts remaining (λ m. tt) (λ y n. n) (λ m n. n) w
  plain_of ts (Stop Deep remaining) w = record {
    before = record { prefix = w.prefix; split = w.split; more = w.more; value = w.value; viable = (w.depth, w.viable) };
    token = w.begun.0;
    next = w.begun.2;
    begun = w.begun.1;
    first = w.begun.3;
    near = w.near;
    dead = λ m y b u n h. w.dead m y (w.prefix ++ y) [] b u n (append-nil (w.prefix ++ y)) h refl;
  }

  -- ---- what takes the next token

  same_prefix : (ts remaining mid rest : Tokens) (near on : Tokens) → ts ≡ near ++ remaining → remaining ≡ on ++ rest → ts ≡ mid ++ rest → near ++ on ≡ mid
  same_prefix ts remaining mid rest near on e f g = append_cancel_right (near ++ on) mid rest (append_assoc near on rest ∙ ap (λ x. near ++ x) (sym f) ∙ sym e ∙ g)

  viable_of : (ts : Tokens) (o : Outcome A) → Plain ts o → IsViable (deep L) ts (remaining_of o)
  viable_of ts (Read a []) v = record { prefix = ts; split = sym (append-nil ts); more = []; value = a; viable = (nesting_bound, subst (λ (x : Tokens). L nesting_bound a x) (sym (append-nil ts)) v.reads) }
  viable_of ts (Read a (t ∷ remaining)) v = v.before
  viable_of ts (Stop UnexpectedToken remaining) v = v.before
  viable_of ts (Stop Wide remaining) v = v.before
  viable_of ts (Stop Deep remaining) v = v.before

  -- what takes the next token goes on with it
  goes_beyond : (ts remaining prefix : Tokens) (o : Outcome A) → ts ≡ prefix ++ remaining → Beyond remaining o → IsViable (deep L) ts (remaining_of o) → GoesOn (deep L) prefix remaining
  goes_beyond ts [] prefix o s b v = absurd b
  goes_beyond ts (t ∷ remaining) prefix o s b v =
      let same = same_prefix ts (t ∷ remaining) v.prefix (remaining_of o) prefix (t ∷ b.0) s (ap (λ x. t ∷ x) b.1) v.split in
      let more : prefix ++ (t ∷ b.0 ++ v.more) ≡ v.prefix ++ v.more = sym (append_assoc prefix (t ∷ b.0) v.more) ∙ ap (λ x. x ++ v.more) same in
      record { more = t ∷ b.0 ++ v.more; next = refl; value = v.value; viable = (v.viable.0, subst (λ (x : Tokens). L v.viable.0 v.value x) (sym more) v.viable.1) }

  same_viable : (prefix prefix' remaining : Tokens) → prefix ≡ prefix' → GoesOn (deep L) prefix remaining → GoesOn (deep L) prefix' remaining
  same_viable prefix prefix' remaining e g = subst (λ (x : Tokens). GoesOn (deep L) x remaining) e g

  goes_begun : (ts remaining : Tokens) (v : NestsTooDeep L ts remaining) → GoesOn (deep L) v.before.prefix remaining
  goes_begun ts remaining v = record { more = v.before.more; next = v.begun ∙ sym v.next; value = v.before.value; viable = v.before.viable }

put_leaves : {A : Type 0} (o : Outcome A) (ts : Tokens) → remaining_of (put o ts) ≡ ts
put_leaves (Read a x) ts = refl
put_leaves (Stop cause x) ts = refl

-- ---- within the limits

-- what both say of the prefix before the same rest is of the same prefix
one_prefix : (ts prefix prefix' remaining : Tokens) → ts ≡ prefix ++ remaining → ts ≡ prefix' ++ remaining → prefix ≡ prefix'
one_prefix ts prefix prefix' remaining e f = append_cancel_right prefix prefix' remaining (sym e ∙ f)

module _ {A : Type 0} (G : Bool → ℕ → A → Tokens → Type 0) (follow : List Kind) (is_low : A → Bool) where
  no_text : (ts remaining : Tokens) (a : A) (m : ℕ) → Ends (G true) ts remaining → G true m a ts → ⊥
  no_text ts remaining a m s h = s.dead (record { more = remaining; next = refl; value = a; viable = (m, subst (λ (x : Tokens). G true m a x) s.before.split h) })

  -- where what is read is too high, or nothing is read, no text within the limits stands there
  unfit_of : (ts : Tokens) (o : Outcome A) → Plain (G true) follow ts o → Fails is_low o → (m : ℕ) (a : A) → m ≤ nesting_bound → G true m a ts → is_low a ≡ true → ⊥
  unfit_of ts (Read b []) v f m a u h l = let same = v.only a m h in let low : is_low b ≡ true = subst (λ (x : A). is_low x ≡ true) same l in cc
  unfit_of ts (Read b (t ∷ remaining)) v f m a u h l = no_text ts (t ∷ remaining) a m v h
  unfit_of ts (Stop UnexpectedToken remaining) v f m a u h l = no_text ts remaining a m v h
  unfit_of ts (Stop Wide remaining) v f m a u h l = no_text ts remaining a m v h
  unfit_of ts (Stop Deep remaining) v f m a u h l = v.dead m remaining a (omega (arith, u)) (refl, refl) (subst (λ (x : Tokens). G true m a x) v.before.split h)

  unfit : (ts remaining : Tokens) (o : Outcome A) → Sim true is_low (Stop Deep remaining) o → Plain (G true) follow ts o → (m : ℕ) (a : A) → m ≤ nesting_bound → G true m a ts → is_low a ≡ true → ⊥
  unfit ts remaining o (inl e) v = unfit_of ts (Stop Deep remaining) (subst (λ (x : Outcome A). Plain (G true) follow ts x) e v) tt
  unfit ts remaining o (inr h) v = unfit_of ts o v h.1

  almost_viable : (ts remaining : Tokens) (s : Ends (G false) ts remaining) → almost G s.before.value (s.before.prefix ++ s.before.more)
  almost_viable ts remaining s = (s.before.viable.0, s.near, s.before.viable.1)

  stops : (ts remaining : Tokens) → Ends (G false) ts remaining → Ends (G true) ts remaining → StopsAt G ts remaining
  stops ts remaining s l = record {
    before = record { prefix = s.before.prefix; split = s.before.split; more = s.before.more; value = s.before.value; viable = almost_viable ts remaining s };
    dead = λ g. l.dead (same_viable (G true) follow s.before.prefix l.before.prefix remaining (one_prefix ts s.before.prefix l.before.prefix remaining s.before.split l.before.split) g);
  }

  live : (ts remaining prefix : Tokens) (o : Outcome A) → ts ≡ prefix ++ remaining → AtWide true remaining o → Plain (G true) follow ts o → GoesOn (unlimited G) prefix remaining
  live ts remaining prefix o s (inl b) v = goes_beyond (G true) follow ts remaining prefix o s b (viable_of (G true) follow ts o v)
  live ts remaining prefix o s (inr e) v =
      let d : NestsTooDeep (G true) ts remaining = subst (λ (x : Outcome A). Plain (G true) follow ts x) e v in
      same_viable (G true) follow d.before.prefix prefix remaining (one_prefix ts d.before.prefix prefix remaining d.before.split s) (goes_begun (G true) follow ts remaining d)

  -- the tokens up to the next one, and why no more of them are read
  record Deepest (ts remaining : Tokens) : Type 0 where
    before : IsViable (small G) ts remaining
    live : GoesOn (small G) before.prefix remaining
    cause : HasTooManyOpen G before.prefix remaining ⊎ (begins expr_ends remaining ≡ true)

  at_deepest : (ts remaining : Tokens) (o : Outcome A) → LeavesSuffix {A = A} ts (Stop Deep remaining) → Sim false is_low (Stop Deep remaining) o → Plain (G false) follow ts o → Deepest ts remaining
  at_deepest ts remaining o near (inl e) v = let d : NestsTooDeep (G false) ts remaining = subst (λ (x : Outcome A). Plain (G false) follow ts x) e v in record {
    before = d.before;
    live = goes_begun (G false) follow ts remaining d;
    cause = inl (record {
      begun = d.first;
      live = record { depth = d.before.viable.0; below = d.near; more = d.before.more; next = d.begun ∙ sym d.next; value = d.before.value; viable = d.before.viable.1 };
      dead = λ m y a u n dots h. d.dead m y a u (n, dots) h;
    });
  }
  at_deepest ts remaining o near (inr h) v = let g = goes_beyond (G false) follow ts remaining near.0 o near.1 h.0 (viable_of (G false) follow ts o v) in record {
    before = record { prefix = near.0; split = near.1; more = g.more; value = g.value; viable = g.viable };
    live = g;
    cause = inr h.2;
  }

  -- from the readers without a limit on heights: s has the limit on numerals, and l has not
  by_reading : (ts : Tokens) (o s l : Outcome A) → LeavesSuffix ts o → Sim false is_low o s → Sim true is_low o l → Plain (G false) follow ts s → Plain (G true) follow ts l
      → ((remaining : Tokens) (v : IsViable (small G) ts remaining) → o ≡ Stop Deep remaining → GoesOnWithin G is_low v.prefix remaining → ⊥) → Verdict G is_low ts o
  by_reading ts (Read a []) s l near x y v u d =
      let p = subst (λ (z : Outcome A). Plain (G false) follow ts z) x.0 v in
      let q = subst (λ (z : Outcome A). Plain (G true) follow ts z) y.0 u in
      record { reads = p.reads; low = x.1; only = λ b h. q.only b h.0 h.1 }
  by_reading ts (Read a (t ∷ remaining)) s l near x y v u d = stops ts (t ∷ remaining) (subst (λ (z : Outcome A). Plain (G false) follow ts z) x.0 v) (subst (λ (z : Outcome A). Plain (G true) follow ts z) y.0 u)
  by_reading ts (Stop UnexpectedToken remaining) s l near x y v u d = stops ts remaining (subst (λ (z : Outcome A). Plain (G false) follow ts z) x v) (subst (λ (z : Outcome A). Plain (G true) follow ts z) y u)
  by_reading ts (Stop Wide remaining) s l near x y v u d =
      let p : Ends (G false) ts remaining = subst (λ (z : Outcome A). Plain (G false) follow ts z) x.1 v in
      record { wide = x.0; before = record { prefix = p.before.prefix; split = p.before.split; more = p.before.more; value = p.before.value; viable = almost_viable ts remaining p }; live = live ts remaining p.before.prefix l p.before.split y.1 u; dead = p.dead }
  by_reading ts (Stop Deep remaining) s l near x y v u d = let b = at_deepest ts remaining s near x v in record { before = b.before; live = b.live; cause = b.cause; dead = d remaining b.before refl; unfit = unfit ts remaining l y u }

  -- ---- a text is read

  -- a reader without a limit on heights reads each text
  ended : (ts remaining : Tokens) (a : A) → G false nesting_bound a ts → Ends (G false) ts remaining → ⊥
  ended ts remaining a h s = s.dead (record { more = remaining; next = refl; value = a; viable = (nesting_bound, subst (λ (x : Tokens). G false nesting_bound a x) s.before.split h) })

  plain_reads : (ts : Tokens) (a : A) (o : Outcome A) → G false nesting_bound a ts → Plain (G false) follow ts o → o ≡ Read a []
  plain_reads ts a (Read b []) h v = ap (λ x. Read x []) (sym (v.only a nesting_bound h))
  plain_reads ts a (Read b (t ∷ remaining)) h v = absurd (ended ts (t ∷ remaining) a h v)
  plain_reads ts a (Stop UnexpectedToken remaining) h v = absurd (ended ts remaining a h v)
  plain_reads ts a (Stop Wide remaining) h v = absurd (ended ts remaining a h v)
  plain_reads ts a (Stop Deep remaining) h v = absurd (v.dead nesting_bound remaining a (omega arith) (refl, refl) (subst (λ (x : Tokens). G false nesting_bound a x) v.before.split h))

  limited_reads : (a : A) (o s : Outcome A) → s ≡ Read a [] → is_low a ≡ true → Sim false is_low o s → o ≡ Read a []
  limited_reads a (Read b remaining) s e low x = sym x.0 ∙ e
  limited_reads a (Stop UnexpectedToken remaining) s e low x = let none : Stop UnexpectedToken remaining ≡ Read a [] = sym x ∙ e in cc
  limited_reads a (Stop Wide remaining) s e low x = let none : Stop Wide remaining ≡ Read a [] = sym x.1 ∙ e in cc
  limited_reads a (Stop Deep remaining) s e low (inl x) = let none : Stop Deep remaining ≡ Read a [] = sym x ∙ e in cc
  limited_reads a (Stop Deep remaining) s e low (inr x) = let high : is_low a ≡ false = subst (λ (z : Outcome A). Fails is_low z) e x.1 in cc

  within_reads : (p s : Reader A) → Rule nesting_bound (G false) (always follow) s → Obeys false is_low p s → (ts : Tokens) (a : A) → G false nesting_bound a ts → is_low a ≡ true → p ts ≡ Read a []
  within_reads p s rs os ts a reads low = limited_reads a (p ts) (s ts) (plain_reads ts a (s ts) reads (plain_of (G false) follow ts (s ts) (rs.good ts))) low (os.at ts)

  pub complete : (p s : Reader A) → Rule nesting_bound (G false) (always follow) s → Obeys false is_low p s → (ts : Tokens) (a : A) → IsText G is_low ts a → p ts ≡ Read a []
  complete p s rs os ts a x = within_reads p s rs os ts a x.reads x.low

  -- ---- no text within the limits begins with what is refused

  refused_too : (p : Reader A) → Local p → (prefix r r' : Tokens) (t : Token) → SameDots r r' → p (prefix ++ t ∷ r) ≡ Stop Deep (t ∷ r) → p (prefix ++ t ∷ r') ≡ Stop Deep (t ∷ r')
  refused_too p l prefix r r' t dots e =
      let same : (x : Tokens) → prefix ++ t ∷ x ≡ (prefix ++ t ∷ []) ++ x = λ x. sym (append_assoc prefix (t ∷ []) x) in
      let here : p ((prefix ++ t ∷ []) ++ r) ≡ Stop Deep (t ∷ r) = ap p (sym (same r)) ∙ e in
      ap p (same r') ∙ l.same (prefix ++ t ∷ []) r r' prefix (t ∷ []) dots refl (omega arith) (ap remaining_of here) ∙ ap (λ o. put o (t ∷ r')) here

  none_within : (p s : Reader A) → Rule nesting_bound (G false) (always follow) s → Obeys false is_low p s → Local p → (ts remaining prefix : Tokens) → ts ≡ prefix ++ remaining → p ts ≡ Stop Deep remaining → GoesOnWithin G is_low prefix remaining → ⊥
  none_within p s rs os l ts [] prefix split e g = l.ends ts e
  none_within p s rs os l ts (t ∷ r) prefix split e g = by_more g.more g.next g.dots g.reads where
    by_more : (more : Tokens) → next_of more ≡ Some t → followed_by k.DotDot more ≡ begins (k.DotDot ∷ []) r → G false nesting_bound g.value (prefix ++ more) → ⊥
    by_more [] n dots reads = cc
    by_more (x ∷ more) n dots reads =
        let same : x ≡ t = cc in
        let stopped : p (prefix ++ t ∷ more) ≡ Stop Deep (t ∷ more) = refused_too p l prefix r more t (sym dots) (ap p (sym split) ∙ e) in
        let read : p (prefix ++ t ∷ more) ≡ Read g.value [] = ap (λ z. p (prefix ++ z ∷ more)) (sym same) ∙ within_reads p s rs os (prefix ++ x ∷ more) g.value reads g.low in
        let both : Stop Deep (t ∷ more) ≡ Read g.value [] = sym stopped ∙ read in cc

  -- Every list of tokens is read as the grammar and the limits say. The first reader keeps all limits, the second has none on
  -- heights, and the third none on numerals either.
  pub verdict : (p s l : Reader A) → Rule nesting_bound (G false) (always follow) s → Rule nesting_bound (G true) (always follow) l → Obeys false is_low p s → Obeys true is_low p l → Local p → (ts : Tokens) → Verdict G is_low ts (p ts)
  verdict p s l rs rl os ol local ts = by_reading ts (p ts) (s ts) (l ts) (os.near ts) (os.at ts) (ol.at ts) (plain_of (G false) follow ts (s ts) (rs.good ts)) (plain_of (G true) follow ts (l ts) (rl.good ts))
      (λ remaining v e g. none_within p s rs os local ts remaining v.prefix v.split e g)

  -- ---- a text that a reader passes is within the limits

  no_more : (left r mid remaining : Tokens) → remaining ≡ left ++ r → r ≡ mid ++ remaining → left ≡ []
  no_more [] r mid remaining e f = refl
  no_more (t ∷ left) r mid remaining e f = absurd (omega (arith, ap length e, ap length f, length-append left r, length-append mid remaining))

  -- a reader that reads all of a text has read it
  text_of : (c : Tokens) (a : A) (m : ℕ) (o : Outcome A) → G true m a c → (o ≡ Stop Deep [] → ⊥) → remaining_of o ≡ [] → Verdict G is_low c o → IsText G is_low c a
  text_of c a m (Read b []) h deep e v = subst (λ (x : A). IsText G is_low c x) (sym (v.only a (m, h))) v
  text_of c a m (Read b (t ∷ x)) h deep e v = cc
  text_of c a m (Stop UnexpectedToken []) h deep e v = absurd (v.dead (record { more = []; next = refl; value = a; viable = (m, subst (λ (x : Tokens). G true m a x) v.before.split h) }))
  text_of c a m (Stop UnexpectedToken (t ∷ x)) h deep e v = cc
  text_of c a m (Stop Wide []) h deep e v = let none : false ≡ true = v.wide in cc
  text_of c a m (Stop Wide (t ∷ x)) h deep e v = cc
  text_of c a m (Stop Deep []) h deep e v = absurd (deep refl)
  text_of c a m (Stop Deep (t ∷ x)) h deep e v = cc

  -- what is left of a part, where more is read of the whole
  all_read : (p : Reader A) → Local p → (c r mid : Tokens) (left : Tokens) → begins (k.DotDot ∷ []) r ≡ false → remaining_of (p (c ++ [])) ≡ left ++ [] → r ≡ mid ++ remaining_of (p (c ++ r)) → left ≡ []
  all_read p l c r mid [] dots e f = refl
  all_read p l c r mid (t ∷ left) dots e f =
      let near = l.near (c ++ []) in
      let parts : c ≡ near.0 ++ (t ∷ left) = append_cancel_right c (near.0 ++ (t ∷ left)) [] (near.1 ∙ ap (λ x. near.0 ++ x) e ∙ sym (append_assoc near.0 (t ∷ left) [])) in
      let here = l.same c [] r near.0 (t ∷ left) (sym dots) parts (omega arith) e in
      no_more (t ∷ left) r mid (remaining_of (p (c ++ r))) (ap remaining_of here ∙ put_leaves (p (c ++ [])) ((t ∷ left) ++ r)) f

  pub within : (p s l : Reader A) → Rule nesting_bound (G false) (always follow) s → Rule nesting_bound (G true) (always follow) l → Obeys false is_low p s → Obeys true is_low p l → Local p → (ts : Tokens) → AreWithin G is_low ts (remaining_of (p ts))
  within p s l rs rl os ol local ts c r mid a split suffix dots h =
      let empty : c ++ [] ≡ c = append-nil c in
      let none : remaining_of (p (c ++ [])) ≡ [] = all_read p local c r mid (remaining_of (p (c ++ []))) dots (sym (append-nil (remaining_of (p (c ++ []))))) (suffix ∙ ap (λ x. mid ++ remaining_of (p x)) split) in
      text_of c a h.0 (p c) h.1 (local.ends c) (ap (λ x. remaining_of (p x)) (sym empty) ∙ none) (verdict p s l rs rl os ol local c)

-- ---- how it is reported

-- what is read is reported, unless memory runs out
pub result_of_fault : {A : Type 0} (file : ℕ) (bytes : Bytes) (o : Outcome A) (f : Fault) → Err f ≡ result_of file bytes o → IsResultOf {A = A} file bytes o (Err f)
result_of_fault file bytes o fault.NoMemory h = tt
result_of_fault file bytes o _ h = h

pub result_of_whole : {A : Type 0} (file : ℕ) (bytes : Bytes) (o : Outcome A) (a : A) (new : Tokens) → o ≡ Read a new → new ≡ [] → Ok a ≡ result_of file bytes o
result_of_whole file bytes o a new e end = sym (ap (result_of file bytes) (e ∙ ap (λ x. Read a x) end))

pub result_of_part : {A : Type 0} (file : ℕ) (bytes : Bytes) (o : Outcome A) (a : A) (new : Tokens) (f : Fault) → o ≡ Read a new → (new ≡ [] → ⊥) → f ≡ syntax_fault file bytes new → IsResultOf file bytes o (Err f)
result_of_part file bytes o a [] f e more is = absurd (more refl)
result_of_part file bytes o a (t ∷ remaining) f e more is = result_of_fault file bytes o f (ap Err is ∙ sym (ap (result_of file bytes) e))

pub result_of_stop : {A : Type 0} (file : ℕ) (bytes : Bytes) (o : Outcome A) (failure : ReadError) (new : Tokens) (f : Fault) → Gives o (Err failure) new → IsFaultOf file bytes failure new f → IsResultOf file bytes o (Err f)
result_of_stop file bytes o error.NoMemory new f h is = absurd is
result_of_stop file bytes o error.Unexpected new f h is = result_of_fault file bytes o f (ap Err is ∙ sym (ap (result_of file bytes) h))
result_of_stop file bytes o error.WideNumber new f h is = result_of_fault file bytes o f (ap Err is ∙ sym (ap (result_of file bytes) h))
result_of_stop file bytes o error.TooNested new f h is = result_of_fault file bytes o f (ap Err is ∙ sym (ap (result_of file bytes) h))

-- what is reported of a reading that has its verdict is an answer
pub answered : {A : Type 0} (G : Bool → ℕ → A → Tokens → Type 0) (is_low : A → Bool) (reader : Reader A) → ((ts : Tokens) → Verdict G is_low ts (reader ts)) → ((ts : Tokens) → AreWithin G is_low ts (remaining_of (reader ts)))
    → (file : ℕ) (bytes : Bytes) (result : Result A Fault) → IsResultOf file bytes (reader (tokens file bytes)) result → Answers G is_low reader file bytes result
answered G is_low reader verdict within file bytes (Ok a) h = record { is = h; verdict = verdict (tokens file bytes); within = within (tokens file bytes) }
answered G is_low reader verdict within file bytes (Err fault.NoMemory) h = tt
answered G is_low reader verdict within file bytes (Err _) h = record { is = h; verdict = verdict (tokens file bytes); within = within (tokens file bytes) }

-- the value that is read is answered
pub text_answered : {A : Type 0} (file : ℕ) (bytes : Bytes) (o : Outcome A) (a : A) (result : Result A Fault) → o ≡ Read a [] → IsResultOf file bytes o result → IsAnswered a result
text_answered file bytes o a (Ok b) e h = h ∙ ap (result_of file bytes) e
text_answered file bytes o a (Err fault.NoMemory) e h = tt
text_answered file bytes o a (Err _) e h = h ∙ ap (result_of file bytes) e
