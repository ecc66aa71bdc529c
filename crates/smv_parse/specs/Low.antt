-- Models whose expressions are low enough: the tree of each is no higher than a thousand.
use Rattle.std.specs.Prelude.{Bool, true}
use Rattle.std.specs.List.{list_all}
use Rattle.smv_ast.specs.declared.program.Declared.{Declared}
use Rattle.smv_ast.specs.declared.program.Declared.TheVariants.{Plain, Instance}
use Rattle.smv_ast.specs.declared.program.Declaration.{Declaration}
use Rattle.smv_ast.specs.declared.program.Assignment.{Assignment}
use Rattle.smv_ast.specs.declared.program.Definition.{Definition}
use Rattle.smv_ast.specs.declared.program.Section.{Section}
use Rattle.smv_ast.specs.declared.program.Section.TheVariants as section
use Rattle.smv_ast.specs.declared.program.Module.{Module}
use Rattle.smv_expr.specs.ExprAnswer.{is_low}
use Rattle.smv_parse.specs.declared.program.Reading.{Reading}

-- the actuals of an instance are low
abbrev pub low_declared : Declared → Bool
low_declared (Plain t) = true
low_declared (Instance called actuals) = list_all is_low actuals

-- what is declared is low
abbrev pub low_declaration : Declaration → Bool
low_declaration d = low_declared d.what

-- the right side is low
abbrev pub low_assignment : Assignment → Bool
low_assignment a = is_low a.right

-- the right side is low
abbrev pub low_definition : Definition → Bool
low_definition d = is_low d.right

-- each expression of the section is low
abbrev pub low_section : Section → Bool
low_section (section.Vars declarations) = list_all low_declaration declarations
low_section (section.Assigns assignments) = list_all low_assignment assignments
low_section (section.Defines definitions) = list_all low_definition definitions
low_section (section.Init e at) = is_low e
low_section (section.Invar e at) = is_low e
low_section (section.Trans e at) = is_low e
low_section (section.InvarSpec e at) = is_low e

-- each expression of the module is low
abbrev pub low_module : Module → Bool
low_module m = list_all low_section m.sections

-- each expression of the model is low
abbrev pub low_reading : Reading → Bool
low_reading r = list_all low_module r.program.modules
