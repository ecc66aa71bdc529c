-- The words in which the rules of a grammar are put together.
use Rattle.std.proofs.Common.{◌≡◌, ℕ, ◌+◌, Bool, true, false, ◌||◌, ◌&&◌, List, [], ◌∷◌, ◌++◌, Option, Some, None, refl, sym, ◌∙◌, ap, subst, arith, inl, inr, fold, cond}
use Rattle.std.specs.Prelude.{is_some}
use Rattle.smv_expr.specs.declared.kind.Kind.{Kind}
use Rattle.smv_expr.specs.declared.kind.Kind.TheVariants as k
use Rattle.smv_expr.specs.Lexicon.{Token, same_kind}
use Rattle.smv_ast.specs.declared.syntax.Span.{Span}
use Rattle.smv_expr.specs.Language.{Tokens, next_of, leaf, of_kind, of_kinds, number_kinds, numeral_kinds, digits, find_kind, kinds_of, span_of, name_of, number_of, word, name, numeral, one_of, dep, both, many, opt, either, mapped, nothing, begins, has}
use Rattle.smv_expr.specs.Reading.{Outcome, Reader, read_leaf, read_word, read_name, read_numeral, read_one_of, read_dep, read_both, read_mapped, read_either, read_nothing, read_opt, read_fold, read_more, read_many, and_then, pushed}
use Rattle.smv_expr.proofs.Rules as rules
use Rattle.smv_expr.proofs.Rules.{Good, IsLang, Rule, Starts, Leaves, GoesWithin, read_list}
use Rattle.smv_expr.proofs.Rounds.{many_gathers, fold_gathers, chained, then_same}
use Rattle.smv_expr.proofs.RowRounds.{never_ended}
use Rattle.smv_expr.specs.ExprGrammar.{never_ends}
use Rattle.smv_expr.specs.ExprReaders.{read_limited}
use Rattle.smv_expr.proofs.NextToken.{find_has, narrow_digits, wide_stops}
use Rattle.smv_expr.proofs.Sets.{within, disjoint, begins_within, begins_apart, begins_not_within, begins_none, has_within, true_same_kind}

-- the same kinds after each value
abbrev pub always : {A : Type 0} → List Kind → A → List Kind
always set a = set

pub follow_within : {A B : Type 0} {fun : A → B} (less more : List Kind) → within less more ≡ true → GoesWithin fun (always less) (always more)
follow_within less more w = record { at = λ a r z. begins_not_within less more w r z }

-- ---- what a part begins with

pub starts_leaf : {A : Type 0} {f : Token → Option A} (set : List Kind) → ((t : Token) (a : A) → f t ≡ Some a → has set t.kind ≡ true) → Starts set (λ m. leaf f)
starts_leaf set h = record { at = λ m a f w. subst (λ (x : Tokens). begins set x ≡ true) (sym w.1) (h w.0 a w.2) }

pub kinds_have : {A : Type 0} (kinds : List Kind) (f : Token → A) (t : Token) (a : A) → of_kinds kinds f t ≡ Some a → has kinds t.kind ≡ true
kinds_have kinds f t a = by_case (has kinds t.kind) where
  by_case : (v : Bool) → cond v (Some (f t)) None ≡ Some a → v ≡ true
  by_case true e = refl
  by_case false e = cc

starts_kind : {A : Type 0} (f : Token → A) (kind : Kind) (set : List Kind) → within (kind ∷ []) set ≡ true → Starts set (λ m. leaf (of_kind kind f))
starts_kind f kind set w = starts_leaf set (λ t a e. has_within (kind ∷ []) set t.kind w (kinds_have (kind ∷ []) f t a e))

pub within_itself : (kind : Kind) → within (kind ∷ []) (kind ∷ []) ≡ true
within_itself kind = ap (λ v. (v || false) && true) (true_same_kind kind kind refl)

pub starts_word : (kind : Kind) (set : List Kind) → within (kind ∷ []) set ≡ true → Starts set (λ m. word kind)
starts_word kind set w = starts_kind span_of kind set w

pub starts_name : (set : List Kind) → within (k.Name ∷ []) set ≡ true → Starts set (λ m. name)
starts_name set w = starts_kind name_of k.Name set w

pub starts_numeral : (set : List Kind) → within (k.Numeral ∷ []) set ≡ true → Starts set (λ m. numeral)
starts_numeral set w = starts_kind number_of k.Numeral set w

-- a numeral that a text may have is a numeral
pub has_number : (any : Bool) (t : Token) → has (numeral_kinds any) t.kind ≡ true → has number_kinds t.kind ≡ true
unfolding same_kind
has_number true t h = h
has_number false t h = has_within (k.Numeral ∷ []) number_kinds t.kind refl h

pub starts_digits : (any : Bool) (set : List Kind) → within number_kinds set ≡ true → Starts set (λ m. digits any)
starts_digits any set w = starts_leaf set (λ t a e. has_within number_kinds set t.kind w (has_number any t (kinds_have (numeral_kinds any) number_of t a e)))

pub starts_table : {A : Type 0} (table : List (Kind × A)) (set : List Kind) → within (kinds_of table) set ≡ true → Starts set (λ m. one_of table)
starts_table {A = A} table set w = starts_leaf set (λ t a e. has_within (kinds_of table) set t.kind w (sym (find_has table t.kind) ∙ ap (is_some {T = A}) e))

pub starts_dep : {A B : Type 0} {L : ℕ → A → Tokens → Type 0} {set : List Kind} (M : ℕ → A → B → Tokens → Type 0) → Starts set L → Starts set (λ m. dep (L m) (M m))
starts_dep {set = set} M s = record { at = λ m v f h. subst (λ (x : Tokens). begins set x ≡ true) (sym h.split) (rules.begins-append set h.prefix h.suffix (s.at m v.0 h.prefix h.first)) }

pub starts_mapped : {A B : Type 0} {L : ℕ → A → Tokens → Type 0} {set : List Kind} (fun : A → B) → Starts set L → Starts set (λ m. mapped fun (L m))
starts_mapped fun s = record { at = λ m a f h. s.at m h.0 f h.1 }

pub starts_either : {A : Type 0} {L M : ℕ → A → Tokens → Type 0} {set : List Kind} → Starts set L → Starts set M → Starts set (λ m. either (L m) (M m))
starts_either {A = A} {L = L} {M = M} {set = set} s t = record { at = go } where
  go : (m : ℕ) (a : A) (f : Tokens) → either (L m) (M m) a f → begins set f ≡ true
  go m a f (inl h) = s.at m a f h
  go m a f (inr h) = t.at m a f h

pub starts_more : {A : Type 0} {L : ℕ → A → Tokens → Type 0} {set : List Kind} (more : List Kind) → within set more ≡ true → Starts set L → Starts more L
starts_more {set = set} more w s = record { at = λ m a f h. begins_within set more w f (s.at m a f h) }

-- ---- what may follow a part

-- it begins with one of `first`, none of which goes on with what stands before it
pub leaves_start : {A : Type 0} {L : ℕ → A → Tokens → Type 0} {first : List Kind} (set : List Kind) (follow : A → List Kind) → disjoint first set ≡ true → Starts first L → Leaves set follow L
leaves_start {first = first} set follow d s = record { at = λ m a f r h z. begins_apart first set d (f ++ r) (rules.begins-append first f r (s.at m a f h)) }

pub leaves_all : {A : Type 0} (L : ℕ → A → Tokens → Type 0) (follow : A → List Kind) → Leaves [] follow L
leaves_all L follow = record { at = λ m a f r h z. begins_none (f ++ r) }

pub leaves_nothing : {A : Type 0} (v : A) (set follow : List Kind) → within set follow ≡ true → Leaves set (always follow) (λ m. nothing v)
leaves_nothing v set follow w = record { at = λ m a f r h z. subst (λ (x : Tokens). begins set (x ++ r) ≡ false) (sym h.1) (begins_not_within set follow w r z) }

pub leaves_either : {A : Type 0} {L M : ℕ → A → Tokens → Type 0} {set : List Kind} {follow : A → List Kind} → Leaves set follow L → Leaves set follow M → Leaves set follow (λ m. either (L m) (M m))
leaves_either {A = A} {L = L} {M = M} {set = set} {follow = follow} s t = record { at = go } where
  go : (m : ℕ) (a : A) (f r : Tokens) → either (L m) (M m) a f → begins (follow a) r ≡ false → begins set (f ++ r) ≡ false
  go m a f r (inl h) z = s.at m a f r h z
  go m a f r (inr h) z = t.at m a f r h z

pub leaves_mapped : {A B : Type 0} {L : ℕ → A → Tokens → Type 0} {set follow : List Kind} (fun : A → B) → Leaves set (always follow) L → Leaves set (always follow) (λ m. mapped fun (L m))
leaves_mapped fun s = record { at = λ m a f r h z. s.at m h.0 f r h.1 z }

-- an option, of which what is there begins with one of `first`
pub leaves_opt : {A : Type 0} {L : ℕ → A → Tokens → Type 0} {first : List Kind} (set follow : List Kind) → disjoint first set ≡ true → within set follow ≡ true → Starts first L → Leaves set (always follow) (λ m. opt (L m))
leaves_opt set follow d w s = leaves_either (leaves_start set (always follow) d (starts_mapped Some s)) (leaves_nothing None set follow w)

pub leaves_many : {A : Type 0} {L : ℕ → A → Tokens → Type 0} {first : List Kind} (set follow : List Kind) → disjoint first set ≡ true → within set follow ≡ true → Starts first L → Leaves set (always follow) (λ m. many (L m))
leaves_many {A = A} {L = L} {first = first} set follow d w s = record { at = go } where
  go : (m : ℕ) (a : List A) (f r : Tokens) → many (L m) a f → begins follow r ≡ false → begins set (f ++ r) ≡ false
  go m [] f r h z = subst (λ (x : Tokens). begins set (x ++ r) ≡ false) (sym h) (begins_not_within set follow w r z)
  go m (a ∷ more) f r h z = begins_apart first set d (f ++ r) (rules.begins-append first f r (subst (λ (x : Tokens). begins first x ≡ true) (sym h.2) (rules.begins-append first h.0 h.1 (s.at m a h.0 h.3))))

-- ---- rules

-- one token, of which t is an example
pub leaf_rule : {A : Type 0} {limit : ℕ} (f : Token → Option A) (t : Token) (a : A) → f t ≡ Some a → Rule limit (λ m. leaf f) (always []) (read_leaf f)
leaf_rule {limit = limit} f t a e = let lang = rules.leaf_lang f t a e in record { lang = lang; good = rules.leaf_good limit f lang }

-- some token of this kind
abbrev pub some_token : Kind → Token
some_token kind = record { kind = kind; at = record { file = 0; at = 0 }; text = [] }

kind_rule : {A : Type 0} {limit : ℕ} (kind : Kind) (f : Token → A) → Rule limit (λ m. leaf (of_kind kind f)) (always []) (read_leaf (of_kind kind f))
kind_rule kind f = leaf_rule (of_kind kind f) (some_token kind) (f (some_token kind)) (ap (λ v. cond (v || false) (Some (f (some_token kind))) None) (true_same_kind kind kind refl))

pub tok : {limit : ℕ} (kind : Kind) → Rule limit (λ m. word kind) (always []) (read_word kind)
tok kind = kind_rule kind span_of

pub tok_name : {limit : ℕ} → Rule limit (λ m. name) (always []) read_name
tok_name = kind_rule k.Name name_of

pub tok_numeral : {limit : ℕ} → Rule limit (λ m. numeral) (always []) read_numeral
tok_numeral = kind_rule k.Numeral number_of

-- a numeral over the limit stands there, and none may
abbrev pub is_barred : Bool → Tokens → Bool
is_barred true ts = false
is_barred false ts = begins (k.WideNumeral ∷ []) ts

-- what begins with a numeral within the limit, begins with none over it
pub not_barred : (ts y f r : Tokens) → f ++ r ≡ y → next_of y ≡ next_of ts → begins (k.Numeral ∷ []) f ≡ true → begins (k.WideNumeral ∷ []) ts ≡ true → ⊥
unfolding same_kind
not_barred ts y f r e n small wide =
    let none : begins (k.WideNumeral ∷ []) (f ++ r) ≡ false = begins_apart (k.Numeral ∷ []) (k.WideNumeral ∷ []) refl (f ++ r) (rules.begins-append (k.Numeral ∷ []) f r small) in
    let some : begins (k.WideNumeral ∷ []) (f ++ r) ≡ true = ap (begins (k.WideNumeral ∷ [])) e ∙ rules.begins-next (k.WideNumeral ∷ []) y ts n ∙ wide in cc

-- a numeral that a text may have
pub tok_digits : {limit : ℕ} (any : Bool) → Rule limit (λ m. digits any) (always []) (read_limited any)
unfolding read_limited same_kind
tok_digits true = leaf_rule (of_kinds number_kinds number_of) (some_token k.Numeral) (number_of (some_token k.Numeral)) refl
tok_digits {limit = limit} false = record { lang = lang; good = λ ts. by_wide ts (begins (k.WideNumeral ∷ []) ts) refl } where
  lang : IsLang (λ m. digits false)
  lang = (tok_numeral {limit = limit}).lang

  by_wide : (ts : Tokens) (v : Bool) → begins (k.WideNumeral ∷ []) ts ≡ v → Good limit (λ m. digits false) (always []) ts (read_limited false ts)
  by_wide ts true h = subst (λ (o : Outcome (ℕ × Span)). Good limit (λ m. digits false) (λ a. []) ts o) (sym (wide_stops ts h)) (record {
    prefix = [];
    split = refl;
    depth = lang.depth;
    value = lang.value;
    more = lang.text;
    viable = lang.reads;
    begun = tt;
    near = omega (arith, lang.shallow);
    dead = λ m y f r b u n e w z. not_barred ts y f r e n ((starts_numeral (k.Numeral ∷ []) (within_itself k.Numeral)).at m b f w) h;
  })
  by_wide ts false h = subst (λ (o : Outcome (ℕ × Span)). Good limit (λ m. digits false) (λ a. []) ts o) (sym (narrow_digits ts h)) ((tok_numeral {limit = limit}).good ts)

-- a table, with one of its entries
pub tok_one_of : {A : Type 0} {limit : ℕ} (table : List (Kind × A)) (entry : Kind × A) → find_kind table entry.0 ≡ Some entry.1 → Rule limit (λ m. one_of table) (always []) (read_one_of table)
tok_one_of table entry e = leaf_rule (λ t. find_kind table t.kind) (some_token entry.0) entry.1 e

pub none : {A : Type 0} {limit : ℕ} (follow : A → List Kind) (a : A) → Rule limit (λ m. nothing a) follow (read_nothing a)
none {limit = limit} follow a = record { lang = rules.nothing_lang a; good = rules.nothing_good limit follow a }

-- the one, and then the other, which depends on the value of the one
pub dep_seq : {A B : Type 0} {limit : ℕ} {L : ℕ → A → Tokens → Type 0} {M : A → ℕ → B → Tokens → Type 0} {g : A → List Kind} {h : A → B → List Kind} {p : Reader A} {q : A → Reader B}
    → Rule limit L g p → ((a : A) → Rule limit (M a) (h a) (q a)) → ((a : A) → Leaves (g a) (h a) (M a)) → Rule limit (λ m. dep (L m) (λ a. M a m)) (λ v. h v.0 v.1) (read_dep p q)
dep_seq {limit = limit} {L = L} {M = M} {g = g} {h = h} {p = p} {q = q} a b f = record {
  lang = rules.dep_lang limit L M a.lang (λ x. (b x).lang);
  good = rules.dep_good limit L M g h q a.lang (λ x. (b x).lang) f p (λ x. (b x).good) a.good;
}

-- the one, and then the other
pub seq : {A B : Type 0} {limit : ℕ} {L : ℕ → A → Tokens → Type 0} {M : ℕ → B → Tokens → Type 0} {g h : List Kind} {p : Reader A} {q : Reader B}
    → Rule limit L (always g) p → Rule limit M (always h) q → Leaves g (always h) M → Rule limit (λ m. both (L m) (M m)) (always h) (read_both p q)
seq {M = M} {h = h} {q = q} a b f = dep_seq {M = λ x. M} {h = λ x. always h} {q = λ x. q} a (λ x. b) (λ x. f)

-- a word, and then the other
pub after : {B : Type 0} {limit : ℕ} {M : ℕ → B → Tokens → Type 0} {h : List Kind} {q : Reader B} (kind : Kind) → Rule limit M (always h) q → Rule limit (λ m. both (word kind) (M m)) (always h) (read_both (read_word kind) q)
after {M = M} {h = h} kind b = seq (tok kind) b (leaves_all M (always h))

-- what goes on with one of `follow`, and then a word that is none of them
pub before : {A : Type 0} {limit : ℕ} {L : ℕ → A → Tokens → Type 0} {g : List Kind} {p : Reader A} (kind : Kind) → disjoint (kind ∷ []) g ≡ true
    → Rule limit L (always g) p → Rule limit (λ m. both (L m) (word kind)) (always []) (read_both p (read_word kind))
before {g = g} kind d a = seq a (tok kind) (leaves_start g (always []) d (starts_word kind (kind ∷ []) (within_itself kind)))

pub map : {A B : Type 0} {limit : ℕ} {L : ℕ → A → Tokens → Type 0} {g : List Kind} {p : Reader A} (fun : A → B) → Rule limit L (always g) p → Rule limit (λ m. mapped fun (L m)) (always g) (read_mapped fun p)
map {limit = limit} {L = L} {g = g} {p = p} fun a = record {
  lang = rules.mapped_lang limit fun L a.lang;
  good = λ ts. rules.mapped_good limit fun L (always g) (always g) (record { at = λ a r z. z }) ts (p ts) (a.good ts);
}

pub alt : {A : Type 0} {limit : ℕ} {L M : ℕ → A → Tokens → Type 0} {g h : List Kind} {p q : Reader A} (set follow : List Kind)
    → Rule limit L (always g) p → Rule limit M (always h) q → within g follow ≡ true → within h follow ≡ true → Starts set L → Leaves set (always follow) M
    → Rule limit (λ m. either (L m) (M m)) (always follow) (read_either set p q)
alt {limit = limit} {L = L} {M = M} {g = g} {h = h} {p = p} {q = q} set follow a b gw hw s l = record {
  lang = rules.either_lang limit L M a.lang b.lang;
  good = rules.either_good limit L M set (always g) (always h) (always follow) (follow_within g follow gw) (follow_within h follow hw) s l p q a.good b.good;
}

-- one, or none, where what follows none is none of `set`
pub maybe : {A : Type 0} {limit : ℕ} {L : ℕ → A → Tokens → Type 0} {g : List Kind} {p : Reader A} (set follow : List Kind)
    → Rule limit L (always g) p → within g follow ≡ true → within set follow ≡ true → within [] follow ≡ true → Starts set L → Rule limit (λ m. opt (L m)) (always follow) (read_opt set p)
maybe set follow a gw sw w s = alt set follow (map Some a) (none (always []) None) gw w (starts_mapped Some s) (leaves_nothing None set follow sw)

loop : {A : Type 0} {limit : ℕ} {L : ℕ → A → Tokens → Type 0} {g : List Kind} {p : Reader A} (set follow : List Kind)
    → Rule limit L (always g) p → Starts set L → within g follow ≡ true → within set follow ≡ true → disjoint set g ≡ true → Rule limit (λ m. many (L m)) (always follow) (read_list set p)
loop {limit = limit} {L = L} {g = g} {p = p} set follow a s gw sw d = record {
  lang = rules.many_lang L a.lang;
  good = rules.many_good limit L a.lang set (always g) follow s (λ x. begins_not_within g follow gw) (begins_not_within set follow sw) (λ x. begins_apart set g d) p a.good;
}

-- a reader that answers the same
pub same : {A : Type 0} {limit : ℕ} {L : ℕ → A → Tokens → Type 0} {g : A → List Kind} {p : Reader A} (q : Reader A) → ((ts : Tokens) → p ts ≡ q ts) → Rule limit L g p → Rule limit L g q
same {A = A} {limit = limit} {L = L} {g = g} q e a = record { lang = a.lang; good = λ ts. subst (λ (o : Outcome A). Good limit L g ts o) (e ts) (a.good ts) }

-- a language with the same texts
pub swap : {A : Type 0} {limit : ℕ} {L : ℕ → A → Tokens → Type 0} {g : A → List Kind} {p : Reader A} (M : ℕ → A → Tokens → Type 0)
    → ((m : ℕ) (a : A) (ts : Tokens) → L m a ts → M m a ts) → ((m : ℕ) (a : A) (ts : Tokens) → M m a ts → L m a ts) → Rule limit L g p → Rule limit M g p
swap {limit = limit} {L = L} {g = g} {p = p} M to from r = record {
  lang = record { up = λ m n a ts h. to (m + n) a ts (r.lang.up m n a ts (from m a ts h)); depth = r.lang.depth; shallow = r.lang.shallow; value = r.lang.value; text = r.lang.text; reads = to _ _ _ r.lang.reads };
  good = λ ts. rules.same_good limit L M to from g ts (p ts) (r.good ts);
}

-- any number of what begins with one of `set`
pub collect : {A : Type 0} {limit : ℕ} {L : ℕ → A → Tokens → Type 0} {g : List Kind} {p : Reader A} (set follow : List Kind)
    → Rule limit L (always g) p → Starts set L → within g follow ≡ true → within set follow ≡ true → disjoint set g ≡ true → Rule limit (λ m. many (L m)) (always follow) (read_many set p)
collect {p = p} set follow a s gw sw d = same (read_fold set p pushed []) (λ ts. sym (many_gathers set p ts)) (loop set follow a s gw sw d)

-- any number of what begins with one of `set`, folded by `step` from this value on
pub gather : {A B : Type 0} {limit : ℕ} {L : ℕ → A → Tokens → Type 0} {g : List Kind} {p : Reader A} (set follow : List Kind) (step : B → A → B) (b : B)
    → Rule limit L (always g) p → Starts set L → within g follow ≡ true → within set follow ≡ true → disjoint set g ≡ true → Rule limit (λ m. mapped (fold step b) (many (L m))) (always follow) (read_fold set p step b)
gather {p = p} set follow step b a s gw sw d = same (read_fold set p step b) (λ ts. sym (fold_gathers set p step b ts)) (map (fold step b) (loop set follow a s gw sw d))

-- a first value, and then what the rounds add to it, by `step`
pub gather_from : {A B : Type 0} {limit : ℕ} {L : ℕ → B → Tokens → Type 0} {M : ℕ → A → Tokens → Type 0} {g h : List Kind} {p : Reader B} {q : Reader A} (set follow : List Kind) (step : B → A → B)
    → Rule limit L (always g) p → Rule limit M (always h) q → Starts set M → within h follow ≡ true → within set follow ≡ true → disjoint set h ≡ true → Leaves g (always follow) (λ m. many (M m))
    → Rule limit (λ m. mapped (λ v. fold step v.0 v.1) (both (L m) (many (M m)))) (always follow) (λ ts. and_then (p ts) (λ b remaining. read_fold set q step b remaining))
gather_from {p = p} {q = q} set follow step a b s hw sw d f =
    same (λ ts. and_then (p ts) (λ b remaining. read_fold set q step b remaining)) (λ ts. chained (p ts) set q step) (map (λ v. fold step v.0 v.1) (seq a (loop set follow b s hw sw d) f))

-- a first value, and then what any number of rounds add to it
pub chain : {A B : Type 0} {limit : ℕ} {L : ℕ → B → Tokens → Type 0} {M : ℕ → A → Tokens → Type 0} {g h : List Kind} {p : Reader B} {q : Reader A} (set follow : List Kind) (step : B → A → B)
    → Rule limit L (always g) p → Rule limit M (always h) q → Starts set M → within h follow ≡ true → within set follow ≡ true → disjoint set h ≡ true → Leaves g (always follow) (λ m. many (M m))
    → Rule limit (λ m. mapped (λ v. fold step v.0 v.1) (both (L m) (many (M m)))) (always follow) (λ ts. and_then (p ts) (λ b remaining. read_more set never_ends (λ x. q) step b remaining))
chain {p = p} {q = q} set follow step a b s hw sw d f =
    same (λ ts. and_then (p ts) (λ b remaining. read_more set never_ends (λ x. q) step b remaining)) (λ ts. chained (p ts) set q step ∙ then_same (p ts) _ _ (λ b remaining e. sym (never_ended set q step b remaining))) (map (λ v. fold step v.0 v.1) (seq a (loop set follow b s hw sw d) f))

-- ---- values that say with what they go on

-- mapped by `fun`, which goes on with no less
pub map_to : {A B : Type 0} {limit : ℕ} {L : ℕ → A → Tokens → Type 0} {g : A → List Kind} {p : Reader A} (fun : A → B) (follow : B → List Kind) → GoesWithin fun g follow → Rule limit L g p
    → Rule limit (λ m. mapped fun (L m)) follow (read_mapped fun p)
map_to {limit = limit} {L = L} {g = g} {p = p} fun follow w a = record {
  lang = rules.mapped_lang limit fun L a.lang;
  good = λ ts. rules.mapped_good limit fun L g follow w ts (p ts) (a.good ts);
}

pub alt_to : {A : Type 0} {limit : ℕ} {L M : ℕ → A → Tokens → Type 0} {p q : Reader A} (set : List Kind) (follow : A → List Kind)
    → Rule limit L follow p → Rule limit M follow q → Starts set L → Leaves set follow M → Rule limit (λ m. either (L m) (M m)) follow (read_either set p q)
alt_to {A = A} {limit = limit} {L = L} {M = M} {p = p} {q = q} set follow a b s l =
    let unchanged : GoesWithin {A = A} {B = A} (λ x. x) follow follow = record { at = λ x r z. z } in record {
      lang = rules.either_lang limit L M a.lang b.lang;
      good = rules.either_good limit L M set follow follow follow unchanged unchanged s l p q a.good b.good;
    }
