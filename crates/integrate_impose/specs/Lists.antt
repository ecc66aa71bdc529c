-- The first item of a list that passes a test.
use Rattle.std.specs.Prelude.{◌≡◌, ℕ, suc, ◌+◌, ◌<◌, Bool, true, false, List, [], ◌∷◌, length, drop, slice_index_or, Option, Some, None, if◌then◌else◌}
use Rattle.std.specs.Option.{option_map}
use Rattle.std.specs.List.{list_any}

-- the index of the first item that passes the test
abbrev pub first_index : {A : Type 0} → (A → Bool) → List A → Option ℕ
first_index test [] = None
first_index test (item ∷ more) = if test item then Some 0 else option_map suc
    (first_index test more)

-- the list with its first item that passes the test changed; unchanged where none does
abbrev pub change_first : {A : Type 0} → (A → Bool) → (A → A) → List A → List A
change_first test change [] = []
change_first test change (item ∷ more) = if test item then change item ∷ more else
    item ∷ change_first test change more

-- The index of the last item that passes the test: it passes, and none after it does.
pub record IsLastIndex {A : Type 0} (test : A → Bool) (items : List A) (index : ℕ) : Type 0 where
  pub within : index < length items
  pub passes : (default : A) → test (slice_index_or items index default) ≡ true
  pub none_later : list_any test (drop (index + 1) items) ≡ false
