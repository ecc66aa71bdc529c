-- Lists and sets of names in modules, as the code represents them.
use Rattle.std.specs.Prelude.{Bool, false, ◌&&◌, ◌||◌, if◌then◌else◌, List, map}
use Rattle.std.specs.List.{fold}
use Rattle.std.specs.Str.{bytes_eq}
use Rattle.std.specs.HashSet.{HashSet, contains_by}
use Rattle.std.specs.declared.hash.FoldHasher.{FoldHasher}
use Rattle.std.specs.declared.hash.BuildHasherDefault.{BuildHasherDefault}
use denote.Ref.{Bor}
use Rattle.smv_meaning.specs.Value.{Name}
use Rattle.integrate.specs.Introductions.{ModuleName, is_name_in}

-- a name in a module that references represent
abbrev pub Held : Type 0
Held = Bor Name × Bor Name

-- the name in a module that references represent
abbrev pub name_view : Held → ModuleName
name_view n = (n.0.now, n.1.now)

-- the names in modules that references represent
abbrev pub names_view : List Held → List ModuleName
names_view = map name_view

-- a set of names in modules
abbrev pub NameSet : Type 0
NameSet = HashSet Held (BuildHasherDefault FoldHasher)

-- whether the set has the name in the module
abbrev pub in_names : NameSet → Name → Name → Bool
in_names names called name = contains_by
    (λ n. bytes_eq called n.0.now && bytes_eq name n.1.now) names

-- no name in any module
abbrev pub no_name : Name → Name → Bool
no_name called name = false

-- a set with one more name
abbrev pub and_name : (Name → Name → Bool) → ModuleName → Name → Name → Bool
and_name has n called name = has called name || is_name_in called name n

-- a set with more names
abbrev pub and_names : (Name → Name → Bool) → List ModuleName → Name → Name → Bool
and_names = fold and_name

-- the names that were met, and those that were met again
abbrev pub Met : Type 0
Met = (Name → Name → Bool) × (Name → Name → Bool)

-- those that were met again, after one more name
abbrev pub met_again : Met → ModuleName → Name → Name → Bool
met_again met n = if met.0 n.0 n.1 then and_name met.1 n else met.1

-- what was met after one more name
abbrev pub and_met : Met → ModuleName → Met
and_met met n = (and_name met.0 n, met_again met n)

-- what was met after these names
abbrev pub all_met : Met → List ModuleName → Met
all_met = fold and_met
