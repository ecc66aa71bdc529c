-- The words of a command.
use Rattle.std.specs.Prelude.{ℕ, ◌==◌, List, [], ◌∷◌, ◌++◌, map, codes, string_bytes}
use Rattle.std.specs.List.{slice_split}
use Rattle.fsmv_top.specs.declared.words.WeaveWords.{WeaveWords}

-- the files and the product that the words of `weave` name
pub record Weave : Type 0 where
  pub base : List ℕ
  pub model : List ℕ
  pub features : List (List ℕ)
  pub product : List ℕ

-- the words as texts
abbrev pub weave_view : WeaveWords → Weave
weave_view w = record
    { base = w.base.now; model = w.model.now; features = map string_bytes w.features.now; product = w.product.now }

-- `weave MODEL FM [FEATURES..] --product LIST`
abbrev pub weave_words : Weave → List (List ℕ)
weave_words w = codes "weave" ∷ w.base ∷ w.model ∷ (w.features ++ codes "--product" ∷ w.product ∷ [])

-- the names of a list, which commas separate
abbrev pub listed_names : List ℕ → List (List ℕ)
listed_names = slice_split (λ b. b == 44)
