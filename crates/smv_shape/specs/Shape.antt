-- The first fault of a program's text: by rule, then in the order of the text.
use Rattle.std.specs.Prelude.{Option}
use Rattle.smv_ast.specs.declared.fault.Fault.{Fault}
use Rattle.smv_ast.specs.declared.program.Program.{Program}
use Rattle.smv_meaning.specs.Runs.{or_else}
use Rattle.smv_shape.specs.declared.rule.Rule.TheVariants as rule
use Rattle.smv_shape.specs.Rules.{first_broken}
use Rattle.smv_shape.specs.Assigned.{parameter_fault, double_fault}

-- the first fault: an empty interval, an assignment whose left side is no variable, one that
-- clashes with an earlier one, a misplaced free choice, a misplaced `next`; an earlier rule takes
-- precedence, wherever in the text it is broken
abbrev pub shape_fault : Program → Option Fault
shape_fault program = or_else (first_broken rule.Ranges program)
    (or_else (parameter_fault program)
    (or_else (double_fault program)
    (or_else (first_broken rule.Choices program) (first_broken rule.Nexts program))))
