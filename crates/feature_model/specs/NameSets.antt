-- Sets of names that were declared.
use Rattle.std.specs.Prelude.{Bool, false, ◌||◌, List}
use Rattle.std.specs.List.{fold}
use Rattle.std.specs.Str.{bytes_eq}
use Rattle.std.specs.HashSet.{HashSet, contains_by}
use Rattle.std.specs.declared.hash.FoldHasher.{FoldHasher}
use Rattle.std.specs.declared.hash.BuildHasherDefault.{BuildHasherDefault}
use denote.Ref.{Bor}
use Rattle.feature_model.specs.Constraints.{Name}

-- a set of borrowed names
abbrev pub NameSet : Type 0
NameSet = HashSet (Bor Name) (BuildHasherDefault FoldHasher)

-- whether the set has the name
abbrev pub in_set : NameSet → Name → Bool
in_set names name = contains_by (λ n. bytes_eq name n.now) names

-- no name
abbrev pub no_name : Name → Bool
no_name name = false

-- the names, and one more
abbrev pub and_name : (Name → Bool) → Name → Name → Bool
and_name declared name other = declared other || bytes_eq other name

-- the names, and those of a list
abbrev pub and_names : (Name → Bool) → List Name → Name → Bool
and_names = fold and_name
