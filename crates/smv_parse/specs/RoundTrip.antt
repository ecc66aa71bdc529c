-- What is answered of the canonical text of a model: the same tree again.
use Rattle.std.specs.Prelude.{◌≡◌, ℕ, ◌≤◌, Bool, true, ◌&&◌, [], map, Result, Ok, Err}
use Rattle.smv_ast.specs.declared.syntax.SmvType.{SmvType}
use Rattle.smv_ast.specs.declared.syntax.SmvType.TheVariants.{Boolean, Range, Numbers, Symbols}
use Rattle.smv_ast.specs.declared.program.Declared.{Declared}
use Rattle.smv_ast.specs.declared.program.Declared.TheVariants.{Plain, Instance}
use Rattle.smv_ast.specs.declared.program.Declaration.{Declaration}
use Rattle.smv_ast.specs.declared.program.Assignment.{Assignment}
use Rattle.smv_ast.specs.declared.program.Definition.{Definition}
use Rattle.smv_ast.specs.declared.program.Section.{Section}
use Rattle.smv_ast.specs.declared.program.Section.TheVariants as section
use Rattle.smv_ast.specs.declared.program.Module.{Module}
use Rattle.smv_ast.specs.declared.program.Program.{Program}
use Rattle.smv_ast.specs.declared.fault.Fault.{Fault}
use Rattle.smv_ast.specs.declared.fault.Fault.TheVariants as fault
use Rattle.smv_ast.specs.IgnoringSpans.{SameProgram}
use Rattle.smv_expr.specs.Lexicon.{Bytes, tokens}
use Rattle.smv_expr.specs.Limits.{nesting_bound}
use Rattle.smv_expr.specs.RoundTrip.{is_name, is_small_sign, is_printable, all_are, some_are}
use Rattle.smv_parse.specs.declared.program.Reading.{Reading}
use Rattle.smv_parse.specs.Grammar.{program}
use Rattle.smv_parse.specs.Low.{low_reading}

-- ---- which models have a text that can be read

-- numbers are within the limit, symbols are names, and a set has values
abbrev pub is_printable_type : SmvType → Bool
is_printable_type Boolean = true
is_printable_type (Range low high) = is_small_sign low && is_small_sign high
is_printable_type (Numbers numbers) = some_are (map is_small_sign numbers)
is_printable_type (Symbols names) = some_are (map is_name names)

-- a type, or a module that is a name, with its actuals
abbrev pub is_printable_declared : Declared → Bool
is_printable_declared (Plain type) = is_printable_type type
is_printable_declared (Instance name actuals) = is_name name && all_are (map is_printable actuals)

-- the name, and what it is declared as
abbrev pub is_printable_declaration : Declaration → Bool
is_printable_declaration d = is_name d.name && is_printable_declared d.what

-- the name, and the right side
abbrev pub is_printable_assignment : Assignment → Bool
is_printable_assignment a = is_name a.name && is_printable a.right

-- the name, and the right side
abbrev pub is_printable_definition : Definition → Bool
is_printable_definition d = is_name d.name && is_printable d.right

-- each item, or the expression
abbrev pub is_printable_section : Section → Bool
is_printable_section (section.Vars declarations) = all_are
    (map is_printable_declaration declarations)
is_printable_section (section.Assigns assignments) = all_are
    (map is_printable_assignment assignments)
is_printable_section (section.Defines definitions) = all_are
    (map is_printable_definition definitions)
is_printable_section (section.Init e at) = is_printable e
is_printable_section (section.Invar e at) = is_printable e
is_printable_section (section.Trans e at) = is_printable e
is_printable_section (section.InvarSpec e at) = is_printable e

-- the name, the formals and the sections
abbrev pub is_printable_module : Module → Bool
is_printable_module m = is_name m.name
    && (all_are (map is_name m.formals) && all_are (map is_printable_section m.sections))

-- a model of one module at least, whose canonical text can be read
abbrev pub PrintableProgram : Program → Type 0
PrintableProgram p = some_are (map is_printable_module p.modules) ≡ true

-- ---- what is answered of its text

-- the bytes of the file are no model within the limits of nesting
abbrev pub IsTooDeep : ℕ → Bytes → Type 0
IsTooDeep file bytes = (m : ℕ) (r : Reading) → m ≤ nesting_bound → program true m r (tokens file bytes)
    → low_reading r ≡ true → ⊥

-- the same model, ignoring spans, and nothing skipped
abbrev pub IsSameModel : Program → Reading → Type 0
IsSameModel p r = SameProgram r.program p × (r.skipped ≡ [])

-- The model is answered, unless the text is not within the limits of nesting, or memory runs out.
abbrev pub IsProgramRoundTrip : ℕ → Bytes → Program → Result Reading Fault → Type 0
IsProgramRoundTrip file bytes p (Ok r) = IsSameModel p r
IsProgramRoundTrip file bytes p (Err fault.NoMemory) = Unit {0}
IsProgramRoundTrip file bytes p (Err (fault.TooNested at)) = IsTooDeep file bytes
IsProgramRoundTrip file bytes p (Err _) = ⊥
