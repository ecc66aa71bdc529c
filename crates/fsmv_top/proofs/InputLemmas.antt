-- Files that are read one after another.
use Rattle.std.proofs.Common.{◌≡◌, ◌<◌, ◌≤◌, ◌+◌, ℕ, List, [], ◌∷◌, ◌++◌, length, take, drop, get_or, Option, refl, sym, ◌∙◌, ap, subst, append_assoc, arith}
use Rattle.std.proofs.lemmas.List.{append-nil, take_more, drop_more, take-append-drop, length-take-le}
use Rattle.smv_ast.specs.declared.feature.Feature.{Feature}
use Rattle.smv_ast.specs.declared.fault.Fault.{Fault}
use Rattle.smv_expr.specs.Lexicon.{Bytes}
use Rattle.fsmv_outside.specs.Count.{Rose}
use Rattle.feature_parse.specs.Answer.{RefusesFeatures}
use Rattle.fsmv_top.specs.declared.input.InputError.{InputError}
use Rattle.fsmv_top.specs.declared.input.InputError.TheVariants as error
use Rattle.fsmv_top.specs.Input.{Held, Saying, Holds, AreFeatures, HoldFeatures, EndsAmong, Reason}
use Rattle.fsmv_top.specs.InputErrors.{FailsFile, fails_at}

-- ---- counts of faults

pub rose_earlier : (before mid after : ℕ) → before ≤ mid → Rose mid after → Rose before after
rose_earlier before mid after le rose = grind (arith, le, rose)

-- what fails from a later count of faults on fails from an earlier one on
pub fails_earlier : (refuses : Saying Fault) (file : ℕ) (given : Option Bytes) (before mid after : ℕ) → before ≤ mid
    → (e : InputError) → FailsFile refuses file given mid after e → FailsFile refuses file given before after e
fails_earlier refuses file given before mid after le (error.Refused f) h = h
fails_earlier refuses file given before mid after le (error.Unread number) h = record { file_is = h.file_is; rose = rose_earlier before mid after le h.rose }
fails_earlier refuses file given before mid after le error.NoMemory h = tt

-- ---- feature files

module _ (held : Held) where
  -- the features of one more file
  pub one_more_file : (file : ℕ) (names : List (List ℕ)) (name : List ℕ) (features more : List Feature)
      → HoldFeatures held file names features → Holds AreFeatures (file + length names) (held name) more
      → HoldFeatures held file (names ++ name ∷ []) (features ++ more)
  one_more_file file [] name features more none holds =
      (more, [], subst (λ (n : ℕ). Holds AreFeatures n (held name) more) (omega arith) holds, refl, ap (λ (fs : List Feature). fs ++ more) none ∙ sym (append-nil more))
  one_more_file file (b ∷ names) name features more (first, others, first_holds, rest, joined) holds = (
    first,
    others ++ more,
    first_holds,
    one_more_file (file + 1) names name others more rest (subst (λ (n : ℕ). Holds AreFeatures n (held name) more) (omega arith) holds),
    ap (λ (fs : List Feature). fs ++ more) joined ∙ append_assoc first others more,
  )

  module _ (names : List (List ℕ)) (i : ℕ) (name : List ℕ) (lt : i < length names) (is : get_or names i name ≡ name) (features : List Feature)
      (read : HoldFeatures held 2 (take i names) features) where
    count : 2 + length (take i names) ≡ 2 + i
    count = ap (λ n. 2 + n) (length-take-le i names (omega (arith, lt)))

    -- the next file is read
    pub next_read : (more : List Feature) → Holds AreFeatures (2 + i) (held name) more → HoldFeatures held 2 (take (i + 1) names) (features ++ more)
    next_read more holds =
        subst (λ (ns : List (List ℕ)). HoldFeatures held 2 ns (features ++ more)) (sym (take_more names i name lt ∙ ap (λ (n : List ℕ). take i names ++ n ∷ []) is))
        (one_more_file 2 (take i names) name features more read (subst (λ (n : ℕ). Holds AreFeatures n (held name) more) (sym count) holds))

    -- reading ends at the next file
    pub ends_here : (reason : Reason) → reason RefusesFeatures (2 + i) name → EndsAmong held 2 names reason
    ends_here reason why = record {
      before = take i names;
      name = name;
      after = drop (i + 1) names;
      split = sym (take-append-drop i names) ∙ ap (λ (ns : List (List ℕ)). take i names ++ ns) (drop_more names i name lt ∙ ap (λ (n : List ℕ). n ∷ drop (i + 1) names) is);
      features = features;
      read = read;
      ends = subst (λ (n : ℕ). reason RefusesFeatures n name) (sym count) why;
    }

-- what ends reading from a later count of faults on ends it from an earlier one on
pub ends_earlier : (held : Held) (names : List (List ℕ)) (before mid after : ℕ) → before ≤ mid → (e : InputError)
    → EndsAmong held 2 names (fails_at held mid after e) → EndsAmong held 2 names (fails_at held before after e)
ends_earlier held names before mid after le e x = record {
  before = x.before;
  name = x.name;
  after = x.after;
  split = x.split;
  features = x.features;
  read = x.read;
  ends = fails_earlier RefusesFeatures (2 + length x.before) (held x.name) before mid after le e x.ends;
}
