-- The base of a family, with the features' variables in reach of each module: `main` has the
-- instance `fsmv_fm`, each other module takes it as its first formal, and each instance of another
-- module passes it on.
use Rattle.std.specs.Prelude.{Bool, if◌then◌else◌, List, [], ◌∷◌, map, codes}
use Rattle.std.specs.Str.{bytes_eq}
use Rattle.smv_ast.specs.declared.syntax.Expr.{Expr}
use Rattle.smv_ast.specs.declared.program.Declared.{Declared}
use Rattle.smv_ast.specs.declared.program.Declared.TheVariants.{Plain, Instance}
use Rattle.smv_ast.specs.declared.program.Declaration.{Declaration}
use Rattle.smv_ast.specs.declared.program.Section.{Section}
use Rattle.smv_ast.specs.declared.program.Section.TheVariants as section
use Rattle.smv_ast.specs.declared.program.Module.{Module}
use Rattle.smv_ast.specs.declared.program.Program.{Program}
use Rattle.smv_meaning.specs.Value.{Name}
use Rattle.fsmv_lift.specs.LiftNames.{features_module, features_instance, added_at, features_actual}

-- whether it is the name of the root module
abbrev pub is_main : Name → Bool
is_main called = bytes_eq called (codes "main")

-- ---- instances

-- the actuals of an instance: `fsmv_fm` before its own, but for an instance of `main`
abbrev pub passed_actuals : Name → List Expr → List Expr
passed_actuals called actuals = if is_main called then actuals else features_actual ∷ actuals

-- an instance passes `fsmv_fm` on
abbrev pub passed_on : Declared → Declared
passed_on (Plain type) = Plain type
passed_on (Instance called actuals) = Instance called (passed_actuals called actuals)

-- a declaration that passes `fsmv_fm` on
abbrev pub lifted_declaration : Declaration → Declaration
lifted_declaration d = record d { what = passed_on d.what }

-- a section whose instances pass `fsmv_fm` on
abbrev pub lifted_section : Section → Section
lifted_section (section.Vars declarations) = section.Vars (map lifted_declaration declarations)
lifted_section s = s

-- ---- modules

-- `VAR fsmv_fm : fsmv_features;`
abbrev pub features_section : Section
features_section = section.Vars (record
    { name = features_instance; what = Instance features_module []; at = added_at } ∷ [])

-- the sections of a module: in `main` the instance of the features before all others
abbrev pub lifted_sections : Module → List Section
lifted_sections m = if is_main m.name then features_section ∷ map lifted_section m.sections else
    map lifted_section m.sections

-- the formals of a module: `fsmv_fm` before its own, but for `main`
abbrev pub lifted_formals : Module → List Name
lifted_formals m = if is_main m.name then m.formals else features_instance ∷ m.formals

-- a module of the lifted base
abbrev pub lifted_module : Module → Module
lifted_module m = record m { formals = lifted_formals m; sections = lifted_sections m }

-- the base with the features' variables in reach of each module
abbrev pub lifted_base : Program → Program
lifted_base p = record p { modules = map lifted_module p.modules }
