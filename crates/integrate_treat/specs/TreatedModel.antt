-- A TREAT in a model. It acts in its module alone: in actuals, right sides, definitions, INIT, INVAR
-- and TRANS. It does not act on left sides and on INVARSPEC.
use Rattle.std.specs.Prelude.{ℕ, List, map}
use Rattle.smv_ast.specs.declared.program.Declared.{Declared}
use Rattle.smv_ast.specs.declared.program.Declared.TheVariants.{Plain, Instance}
use Rattle.smv_ast.specs.declared.program.Declaration.{Declaration}
use Rattle.smv_ast.specs.declared.program.Assignment.{Assignment}
use Rattle.smv_ast.specs.declared.program.Definition.{Definition}
use Rattle.smv_ast.specs.declared.program.Section.{Section}
use Rattle.smv_ast.specs.declared.program.Section.TheVariants as section
use Rattle.smv_ast.specs.declared.program.Module.{Module}
use Rattle.smv_ast.specs.declared.program.Program.{Program}
use Rattle.integrate_impose.specs.Lists.{change_first}
use Rattle.integrate_impose.specs.Impose.{is_named}
use Rattle.integrate_treat.specs.declared.expressions.Treatment.{Treatment}
use Rattle.integrate_treat.specs.TreatedExpr.{treated}

-- a declared entity: the actuals of an instance are treated
abbrev pub treated_declared : Treatment → Declared → Declared
treated_declared t (Plain type) = Plain type
treated_declared t (Instance called actuals) = Instance called (map (treated t) actuals)

-- a declaration, treated
abbrev pub treated_declaration : Treatment → Declaration → Declaration
treated_declaration t d = record d { what = treated_declared t d.what }

-- an assignment: its right side is treated
abbrev pub treated_assignment : Treatment → Assignment → Assignment
treated_assignment t a = record a { right = treated t a.right }

-- a definition: its right side is treated
abbrev pub treated_definition : Treatment → Definition → Definition
treated_definition t d = record d { right = treated t d.right }

-- a section, treated; an INVARSPEC stays
abbrev pub treated_section : Treatment → Section → Section
treated_section t (section.Vars declarations) = section.Vars
    (map (treated_declaration t) declarations)
treated_section t (section.Assigns assignments) = section.Assigns
    (map (treated_assignment t) assignments)
treated_section t (section.Defines definitions) = section.Defines
    (map (treated_definition t) definitions)
treated_section t (section.Init e at) = section.Init (treated t e) at
treated_section t (section.Invar e at) = section.Invar (treated t e) at
treated_section t (section.Trans e at) = section.Trans (treated t e) at
treated_section t (section.InvarSpec e at) = section.InvarSpec e at

-- a module, treated
abbrev pub treated_module : Treatment → Module → Module
treated_module t m = record m { sections = map (treated_section t) m.sections }

-- the model with its first module of a name treated
abbrev pub treated_model : Treatment → List ℕ → Program → Program
treated_model t called p = record p {
  modules = change_first (is_named called)
      (treated_module t) p.modules;
}
