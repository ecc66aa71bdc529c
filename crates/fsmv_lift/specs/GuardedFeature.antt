-- A feature with its guards: the text that the lift integrates in place of the feature's own. What
-- the feature introduces is in force, and each of its changes acts, just where its variable is TRUE.
use Rattle.std.specs.Prelude.{List, map, Option, Some, None}
use Rattle.smv_ast.specs.declared.syntax.SmvType.{SmvType}
use Rattle.smv_ast.specs.declared.syntax.Op.TheVariants as op
use Rattle.smv_ast.specs.declared.syntax.Expr.{Expr}
use Rattle.smv_ast.specs.declared.syntax.Expr.TheVariants as expr
use Rattle.smv_ast.specs.declared.program.Assignment.{Assignment}
use Rattle.smv_ast.specs.declared.program.Section.{Section}
use Rattle.smv_ast.specs.declared.program.Section.TheVariants as section
use Rattle.smv_ast.specs.declared.feature.Joined.{Joined}
use Rattle.smv_ast.specs.declared.feature.Change.{Change}
use Rattle.smv_ast.specs.declared.feature.Feature.{Feature}
use Rattle.smv_meaning.specs.Value.{Name}
use Rattle.integrate_impose.specs.Guard.{guarded}
use Rattle.fsmv_lift.specs.LiftNames.{guard}
use Rattle.fsmv_lift.specs.FirstValues.{first_of}
use Rattle.fsmv_lift.specs.IntroducedVariables.{introduced_type}

-- `fsmv_fm.F & c`: the condition of a change
abbrev pub guarded_condition : Name → Expr → Expr
guarded_condition feature cond = expr.Binary op.And (guard feature) cond

-- `fsmv_fm.F -> e`: an introduced constraint or spec
abbrev pub guarded_constraint : Name → Expr → Expr
guarded_constraint feature e = expr.Binary op.Implies (guard feature) e

-- a change, which acts where the feature is chosen
abbrev pub guarded_change : Name → Change → Change
guarded_change feature change = record change { cond = guarded_condition feature change.cond }

-- `case fsmv_fm.F : e; TRUE : first; esac`, with the first value of the variable's type; the
-- feature introduces each variable that it assigns under INTRODUCE
abbrev pub guarded_right : Name → Option SmvType → Expr → Expr
guarded_right feature (Some type) right = guarded (guard feature) right (first_of type)
guarded_right feature None right = right

module _ (f : Feature) (called : Name) where
  -- an introduced assignment in a module, in force where the feature is chosen
  abbrev pub guarded_assign : Assignment → Assignment
  guarded_assign a = record a
      { right = guarded_right f.name (introduced_type f.joins called a.name) a.right }

  -- an introduced section of a module, in force where the feature is chosen
  abbrev pub guarded_part_section : Section → Section
  guarded_part_section (section.Vars declarations) = section.Vars declarations
  guarded_part_section (section.Assigns assignments) = section.Assigns
      (map guarded_assign assignments)
  guarded_part_section (section.Defines definitions) = section.Defines definitions
  guarded_part_section (section.Init e at) = section.Init (guarded_constraint f.name e) at
  guarded_part_section (section.Invar e at) = section.Invar (guarded_constraint f.name e) at
  guarded_part_section (section.Trans e at) = section.Trans (guarded_constraint f.name e) at
  guarded_part_section (section.InvarSpec e at) = section.InvarSpec
      (guarded_constraint f.name e) at

-- a joined part, in force where the feature is chosen
abbrev pub guarded_part : Feature → Joined → Joined
guarded_part f part = record part
    { sections = map (guarded_part_section f part.«module») part.sections }

-- the joined parts of a feature with their guards
abbrev pub guarded_parts : Feature → List Joined
guarded_parts f = map (guarded_part f) f.joins

-- the changes of a feature with their guards
abbrev pub guarded_changes : Feature → List Change
guarded_changes f = map (guarded_change f.name) f.changes
