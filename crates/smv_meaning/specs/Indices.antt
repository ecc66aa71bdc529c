-- Maps from names to the index of their first entry.
use Rattle.std.specs.Prelude.{◌≡◌, ℕ, List, Option}
use Rattle.std.specs.Str.{bytes_eq}
use Rattle.std.specs.HashMap.{HashMap, get_by}
use Rattle.std.specs.declared.hash.FoldHasher.{FoldHasher}
use Rattle.std.specs.declared.hash.BuildHasherDefault.{BuildHasherDefault}
use denote.Ref.{Bor}
use Rattle.smv_meaning.specs.Instances.{Entry}
use Rattle.smv_meaning.specs.Entries.{first_index}
use Rattle.smv_meaning.specs.Value.{Name}

-- a map from names to numbers
abbrev pub Numbers : Type 0
Numbers = HashMap (Bor Name) ℕ (BuildHasherDefault FoldHasher)

-- the number that a name maps to
abbrev pub number_held : Numbers → Name → Option ℕ
number_held numbers name = get_by (λ n. bytes_eq name n.now) numbers

-- each name maps to the index of its first entry
abbrev pub IsIndexOf : List Entry → Numbers → Type 0
IsIndexOf es numbers = (name : Name) → number_held numbers name ≡ first_index name es
