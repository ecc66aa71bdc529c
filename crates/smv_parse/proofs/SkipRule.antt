-- The rule of skipped text: whatever tokens come before the first word that ends it.
use Rattle.std.proofs.Common.{◌≡◌, ℕ, Bool, true, false, List, [], ◌∷◌, ◌++◌, refl, ◌∙◌, ap, arith, cond}
use Rattle.std.specs.Prelude.{not}
use Rattle.smv_expr.specs.declared.kind.Kind.{Kind}
use Rattle.smv_expr.specs.declared.kind.Kind.TheVariants as k
use Rattle.smv_expr.specs.Lexicon.{Token, same_kind}
use Rattle.smv_expr.specs.Language.{Tokens, begins, has}
use Rattle.smv_expr.proofs.Rules.{Rule, begins-next}
use Rattle.smv_expr.proofs.Words.{always}
use Rattle.smv_expr.proofs.Limited.{Obeys, always_fits}
use Rattle.smv_parse.specs.Grammar.{skip_ends, skipped_text}
use Rattle.smv_parse.specs.Readers.{after_skipped, read_skipped_text}

-- the kinds of tokens that may stand in skipped text: all but those that end it
abbrev pub skipped_kinds : List Kind
skipped_kinds =
    k.Boolean ∷ k.True ∷ k.False ∷ k.Case ∷ k.Esac ∷ k.Init ∷ k.Next ∷ k.In ∷ k.Mod ∷ k.Xor ∷ k.Xnor
    ∷ k.If ∷ k.Then ∷ k.Impose ∷ k.Treat ∷ k.FeatureModel ∷ k.Root ∷ k.Mandatory ∷ k.Optional ∷ k.OrGroup ∷ k.Alternative ∷ k.Constraint
    ∷ k.Semicolon ∷ k.Colon ∷ k.Comma ∷ k.Dot ∷ k.DotDot ∷ k.OpenParen ∷ k.CloseParen ∷ k.OpenBrace ∷ k.CloseBrace
    ∷ k.Equal ∷ k.NotEqual ∷ k.Less ∷ k.Greater ∷ k.LessEqual ∷ k.GreaterEqual ∷ k.Plus ∷ k.Minus ∷ k.Star ∷ k.Not ∷ k.And ∷ k.Or
    ∷ k.Implies ∷ k.Iff ∷ k.Becomes ∷ k.LeftOut ∷ k.Name ∷ k.Numeral ∷ k.WideNumeral ∷ k.Unknown ∷ k.Space ∷ []

-- a kind is skipped, or ends
others : (kind : Kind) → has skipped_kinds kind ≡ not (has skip_ends kind)
unfolding same_kind
others kind = grind (arith)

-- ---- what is skipped

-- the tokens before the first that ends skipped text
pub text_before_end : Tokens → Tokens
text_before_end [] = []
text_before_end (t ∷ ts) = cond (has skip_ends t.kind) [] (t ∷ text_before_end ts)

pub split_prefix : (ts : Tokens) → ts ≡ text_before_end ts ++ after_skipped ts
unfolding text_before_end
split_prefix [] = refl
split_prefix (t ∷ ts) = by_end (has skip_ends t.kind) (split_prefix ts) where
  by_end : (v : Bool) → ts ≡ text_before_end ts ++ after_skipped ts → t ∷ ts ≡ cond v [] (t ∷ text_before_end ts) ++ cond v (t ∷ ts) (after_skipped ts)
  by_end true s = refl
  by_end false s = ap (λ x. t ∷ x) s

skipped_prefix : (u : Unit {0}) (ts : Tokens) → skipped_text u (text_before_end ts)
unfolding text_before_end
skipped_prefix u [] = tt
skipped_prefix u (t ∷ ts) = by_end (has skip_ends t.kind) refl (skipped_prefix u ts) where
  by_end : (v : Bool) → has skip_ends t.kind ≡ v → skipped_text u (text_before_end ts) → skipped_text u (cond v [] (t ∷ text_before_end ts))
  by_end true e h = tt
  by_end false e h = (e, h)

-- nothing more is skipped
pub stays : (ts : Tokens) → begins skip_ends ts ≡ true → after_skipped ts ≡ ts
stays [] e = cc
stays (t ∷ ts) e = ap (λ v. cond v (t ∷ ts) (after_skipped ts)) e

pub skips_token : (t : Token) (ts : Tokens) → begins skip_ends (t ∷ ts) ≡ false → after_skipped (t ∷ ts) ≡ after_skipped ts
skips_token t ts e = ap (λ v. cond v (t ∷ ts) (after_skipped ts)) e

-- what is left begins with no kind that goes on
left_over : (ts : Tokens) → begins skipped_kinds (after_skipped ts) ≡ false
left_over [] = refl
left_over (t ∷ ts) = by_end (has skip_ends t.kind) refl (left_over ts) where
  by_end : (v : Bool) → has skip_ends t.kind ≡ v → begins skipped_kinds (after_skipped ts) ≡ false → begins skipped_kinds (cond v (t ∷ ts) (after_skipped ts)) ≡ false
  by_end true e h = others t.kind ∙ ap not e
  by_end false e h = h

-- ---- the only way to read it

-- skipped text and what is left of a list that neither goes on with
only_way : (u w : Unit {0}) (f r g y : Tokens) → f ++ r ≡ g ++ y → skipped_text u f → skipped_text w g → begins skipped_kinds r ≡ false → begins skipped_kinds y ≡ false → (f ≡ g) × (r ≡ y)
only_way u v [] r [] y e h i z w = (refl, e)
only_way u v [] r (t ∷ g) y e h i z w =
    let here : has skipped_kinds t.kind ≡ true = others t.kind ∙ ap not i.0 in
    let there : begins skipped_kinds r ≡ has skipped_kinds t.kind = ap (begins skipped_kinds) e in cc
only_way u v (t ∷ f) r [] y e h i z w =
    let here : has skipped_kinds t.kind ≡ true = others t.kind ∙ ap not h.0 in
    let there : has skipped_kinds t.kind ≡ begins skipped_kinds y = ap (begins skipped_kinds) e in cc
only_way u v (t ∷ f) r (t' ∷ g) y e h i z w =
    let same : t ≡ t' = cc in
    let remaining : f ++ r ≡ g ++ y = cc in
    let more = only_way u v f r g y remaining h.1 i.1 z w in
    (ap (λ x. x ∷ f) same ∙ ap (λ x. t' ∷ x) more.0, more.1)

pub skip_rule : {limit : ℕ} → Rule limit (λ m. skipped_text) (always skipped_kinds) read_skipped_text
unfolding read_skipped_text
skip_rule = record {
  lang = record { up = λ m n u ts h. h; depth = 0; shallow = omega arith; value = tt {0}; text = []; reads = tt {0} };
  good = λ ts. record {
    prefix = text_before_end ts;
    split = split_prefix ts;
    reads = skipped_prefix tt ts;
    only = λ m y f r u n e h z.
        let ended : begins skipped_kinds y ≡ false = begins-next skipped_kinds y (after_skipped ts) n ∙ left_over ts in
        let way = only_way u tt f r (text_before_end ts) y e h (skipped_prefix tt ts) z ended in
        (refl, way.0, way.1);
  };
}

pub skip_obeys : {any : Bool} → Obeys any always_fits read_skipped_text read_skipped_text
unfolding read_skipped_text
skip_obeys = record { at = λ ts. (refl, refl); on = λ ts. (text_before_end ts, split_prefix ts); near = λ ts. (text_before_end ts, split_prefix ts) }
