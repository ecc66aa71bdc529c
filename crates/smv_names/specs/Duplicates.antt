-- The first duplicate name.
use Rattle.std.specs.Prelude.{Bool, ◌||◌, if◌then◌else◌, List, [], ◌∷◌, ◌++◌, map, Option, Some, None, ℤ}
use Rattle.std.specs.List.{flat_map}
use Rattle.std.specs.Fmt.{signed_decimal}
use Rattle.std.specs.Option.{option_map}
use denote.Ref.{Bor}
use Rattle.smv_ast.specs.declared.fault.Fault.{Fault}
use Rattle.smv_ast.specs.declared.fault.Fault.TheVariants as fault
use Rattle.smv_ast.specs.declared.syntax.Span.{Span}
use Rattle.smv_ast.specs.declared.syntax.SmvType.{SmvType}
use Rattle.smv_ast.specs.declared.syntax.SmvType.TheVariants as type
use Rattle.smv_ast.specs.declared.program.Declared.{Declared}
use Rattle.smv_ast.specs.declared.program.Declared.TheVariants.{Plain, Instance}
use Rattle.smv_ast.specs.declared.program.Module.{Module}
use Rattle.smv_ast.specs.declared.program.Program.{Program}
use Rattle.smv_meaning.specs.Value.{Name}
use Rattle.smv_meaning.specs.Items.{Item, Declares, Defines, items}
use Rattle.smv_meaning.specs.Runs.{or_else}
use Rattle.smv_meaning.specs.NameSets.{no_name, and_name, and_names}
use Rattle.smv_names.specs.NumberSets.{no_number, and_number}
use Rattle.smv_names.specs.declared.declared_names.DeclaredName.{DeclaredName as HeldName}

-- a name that a module declares, the span that a fault of it reports, and its type if it is a
-- variable
pub record DeclaredName : Type 0 where
  pub name : Name
  pub at : Span
  pub type : Option SmvType

-- the type that a reference points to, if there is one
abbrev pub type_view : Option (Bor SmvType) → Option SmvType
type_view = option_map (λ t. t.now)

-- the declared name that a Rust value represents
abbrev pub declared_name_view : HeldName → DeclaredName
declared_name_view s = record { name = s.name.now; at = s.at; type = type_view s.type_ }

-- the type of a variable, if the declaration is one
abbrev pub type_of : Declared → Option SmvType
type_of (Plain t) = Some t
type_of (Instance called actuals) = None

-- a formal, whose span is its module's
abbrev pub name_of_formal : Span → Name → DeclaredName
name_of_formal at name = record { name = name; at = at; type = None }

-- the name of an item, if it is a declaration or a definition
abbrev pub names_of_item : Item → List DeclaredName
names_of_item (Declares name what at) = record { name = name; at = at; type = type_of what } ∷ []
names_of_item (Defines name right at) = record { name = name; at = at; type = None } ∷ []
names_of_item item = []

-- the names of a module in text order, its formals first
abbrev pub declared_names : Module → List DeclaredName
declared_names m = map (name_of_formal m.at) m.formals ++ flat_map names_of_item (items m)

-- whether a module declares the name
abbrev pub declares : List DeclaredName → Name → Bool
declares names = and_names no_name (map (λ s. s.name) names)

-- the fault of a name in a set
abbrev pub duplicate_name : (Name → Bool) → Span → Name → Option Fault
duplicate_name seen at name = if seen name then Some (fault.DuplicateName (Some at) name) else None

-- the fault of a symbol that equals an earlier one or a name of the module
abbrev pub duplicate_symbol : (Name → Bool) → (Name → Bool) → Span → Name → Option Fault
duplicate_symbol declared seen at name = duplicate_name (λ n. seen n || declared n) at name

-- the first symbol of a type that equals an earlier one or a name of the module
abbrev pub duplicate_among_symbols : Span → (Name → Bool) → (Name → Bool) → List Name → Option Fault
duplicate_among_symbols at declared seen [] = None
duplicate_among_symbols at declared seen (name ∷ more) = or_else
    (duplicate_symbol declared seen at name)
    (duplicate_among_symbols at declared (and_name seen name) more)

-- the fault of a number that equals an earlier one
abbrev pub duplicate_number : (ℤ → Bool) → Span → ℤ → Option Fault
duplicate_number seen at n = if seen n then Some
    (fault.DuplicateName (Some at) (signed_decimal n)) else None

-- the first number of a type that equals an earlier one
abbrev pub duplicate_among_numbers : Span → (ℤ → Bool) → List ℤ → Option Fault
duplicate_among_numbers at seen [] = None
duplicate_among_numbers at seen (n ∷ more) = or_else (duplicate_number seen at n)
    (duplicate_among_numbers at (and_number seen n) more)

-- the first duplicate value of a type, in text order
abbrev pub duplicate_value : Span → (Name → Bool) → SmvType → Option Fault
duplicate_value at declared (type.Numbers numbers) = duplicate_among_numbers at no_number numbers
duplicate_value at declared (type.Symbols names) = duplicate_among_symbols at declared no_name names
duplicate_value at declared t = None

-- the first duplicate value of the type of a name, if it has one
abbrev pub duplicate_in_type : Span → (Name → Bool) → Option SmvType → Option Fault
duplicate_in_type at declared None = None
duplicate_in_type at declared (Some t) = duplicate_value at declared t

-- a name that equals an earlier one, else the first duplicate value of its type
abbrev pub duplicate_declared : (Name → Bool) → (Name → Bool) → DeclaredName → Option Fault
duplicate_declared declared seen s = or_else (duplicate_name seen s.at s.name)
    (duplicate_in_type s.at declared s.type)

-- the first duplicate among these names, given the earlier ones
abbrev pub duplicate_among_names : (Name → Bool) → (Name → Bool) → List DeclaredName → Option Fault
duplicate_among_names declared seen [] = None
duplicate_among_names declared seen (s ∷ more) = or_else (duplicate_declared declared seen s)
    (duplicate_among_names declared (and_name seen s.name) more)

-- the first duplicate name within a module
abbrev pub duplicate_within : List DeclaredName → Option Fault
duplicate_within names = duplicate_among_names (declares names) no_name names

-- a module whose name equals an earlier one, else the first duplicate name within it
abbrev pub duplicate_at : (Name → Bool) → Module → Option Fault
duplicate_at seen m = or_else (duplicate_name seen m.at m.name)
    (duplicate_within (declared_names m))

-- the first duplicate among these modules, given the earlier ones
abbrev pub duplicate_among_modules : (Name → Bool) → List Module → Option Fault
duplicate_among_modules seen [] = None
duplicate_among_modules seen (m ∷ more) = or_else (duplicate_at seen m)
    (duplicate_among_modules (and_name seen m.name) more)

-- the first duplicate name of a program
abbrev pub duplicate_fault : Program → Option Fault
duplicate_fault program = duplicate_among_modules no_name program.modules
