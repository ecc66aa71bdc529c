-- Products as the numbers of their bits.
use Rattle.std.specs.Prelude.{ℕ, ◌/◌, ◌%◌, ◌^◌, ◌==◌, Bool}

-- bit i of a product: 1 where it has feature i, else 0
abbrev pub feature_bit : ℕ → ℕ → ℕ
feature_bit product feature = product / 2 ^ feature % 2

-- whether a product has a feature
abbrev pub has_feature : ℕ → ℕ → Bool
has_feature product feature = feature_bit product feature == 1
