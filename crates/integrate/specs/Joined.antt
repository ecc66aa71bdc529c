-- The joined parts of a feature, appended to a model: the sections of each stand at the end of the
-- first module of its name.
use Rattle.std.specs.Prelude.{List, ◌++◌}
use Rattle.std.specs.List.{fold}
use Rattle.smv_ast.specs.declared.program.Section.{Section}
use Rattle.smv_ast.specs.declared.program.Module.{Module}
use Rattle.smv_ast.specs.declared.program.Program.{Program}
use Rattle.smv_ast.specs.declared.feature.Joined.{Joined}
use Rattle.integrate_impose.specs.Lists.{change_first}
use Rattle.integrate_impose.specs.Impose.{is_named}

-- the module with more sections at its end
abbrev pub with_sections : List Section → Module → Module
with_sections more m = record m { sections = m.sections ++ more }

-- the model with a joined part appended; unchanged where it has no module of that name
abbrev pub with_part : Program → Joined → Program
with_part p part = record p
    { modules = change_first (is_named part.«module») (with_sections part.sections) p.modules }

-- the model with the joined parts appended, in written order
abbrev pub joined : Program → List Joined → Program
joined = fold with_part
