-- The numbers of symbols: their positions in the list of all symbols.
use Rattle.std.specs.Prelude.{ℕ, List, [], ◌∷◌, ◌++◌, map, Option, Some, None, position, if◌then◌else◌}
use Rattle.std.specs.List.{list_any}
use Rattle.std.specs.Str.{bytes_eq}
use Rattle.std.specs.HashSet.{HashSet}
use Rattle.std.specs.declared.hash.FoldHasher.{FoldHasher}
use Rattle.std.specs.declared.hash.BuildHasherDefault.{BuildHasherDefault}
use denote.Ref.{Bor}
use Rattle.smv_meaning.specs.Value.{Name}

-- an ordered set of borrowed names
abbrev pub SymbolSet : Type 0
SymbolSet = HashSet (Bor Name) (BuildHasherDefault FoldHasher)

-- the position that was found, 0 where there is none
abbrev pub number_found : Option ℕ → ℕ
number_found None = 0
number_found (Some number) = number

-- the number of a symbol: its position in the set, 0 where it is none
abbrev pub symbol_number : SymbolSet → Name → ℕ
symbol_number symbols name = number_found (position (λ n. bytes_eq name n.now) symbols.keys)

-- the number of the symbol that a path is, 0 where it is none
abbrev pub path_number : SymbolSet → List Name → ℕ
path_number symbols (name ∷ []) = symbol_number symbols name
path_number symbols path = 0

-- the symbols in the order of their numbers
abbrev pub symbol_names : SymbolSet → List Name
symbol_names symbols = map (λ n. n.now) symbols.keys

-- the symbols with one more, unless it is among them
abbrev pub with_symbol : List Name → Name → List Name
with_symbol symbols name = if list_any (bytes_eq name) symbols then symbols else symbols
    ++ name ∷ []
