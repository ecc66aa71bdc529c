-- The list of the symbols of a program: the words of its enumerations, in text order.
use Rattle.std.specs.Prelude.{List, []}
use Rattle.std.specs.List.{flat_map}
use Rattle.smv_ast.specs.declared.syntax.SmvType.{SmvType}
use Rattle.smv_ast.specs.declared.syntax.SmvType.TheVariants as type
use Rattle.smv_ast.specs.declared.program.Declared.{Declared}
use Rattle.smv_ast.specs.declared.program.Declared.TheVariants.{Plain, Instance}
use Rattle.smv_ast.specs.declared.program.Program.{Program}
use Rattle.smv_meaning.specs.Value.{Name}
use Rattle.smv_meaning.specs.Items.{Item, Declares, program_items}

-- the symbols of a type
abbrev pub type_symbols : SmvType → List Name
type_symbols (type.Symbols names) = names
type_symbols t = []

-- the symbols of a declaration
abbrev pub declared_symbols : Declared → List Name
declared_symbols (Plain t) = type_symbols t
declared_symbols (Instance called actuals) = []

-- the symbols of an item
abbrev pub item_symbols : Item → List Name
item_symbols (Declares name what at) = declared_symbols what
item_symbols item = []

-- the symbols of a program
abbrev pub symbols : Program → List Name
symbols program = flat_map item_symbols (program_items program)
