-- Nesting in an instance, by slots.
use Rattle.std.specs.Prelude.{Bool}
use Rattle.smv_ast.specs.declared.syntax.Expr.{Expr}
use Rattle.smv_cycles.specs.declared.nesting_rule.NestingRule.{NestingRule}
use Rattle.smv_cycles.specs.CyclesBySlot.{high_row}

-- whether the height of an expression of an instance passes 1,000
abbrev pub high_here : NestingRule → Expr → Bool
high_here rule = high_row rule.table.now rule.aliases.now rule.heights.now rule.row
