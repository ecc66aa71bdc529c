-- Heights in a model that passes the checks: each expression of an item has one, through all that it reads, and it is at most
-- 1,000.
use Rattle.std.specs.Prelude.{ℕ, ◌≤◌, Option, Some, None, All}
use Rattle.smv_ast.specs.declared.program.Program.{Program}
use Rattle.smv_meaning.specs.Instances.{instances}
use Rattle.smv_meaning.specs.Items.{exprs_of}
use Rattle.smv_meaning.specs.ItemIndex.{items_at}
use Rattle.smv_cycles.specs.Cycles.{height_in}

-- a height that is there, and at most 1,000
abbrev pub IsLow : Option ℕ → Type 0
IsLow None = ⊥
IsLow (Some h) = h ≤ 1000

-- each expression of each item has such a height in each instance
abbrev pub HaveHeights : Program → Type 0
HaveHeights program = All (λ instance. All (λ item. All (λ e. IsLow (height_in program instance e))
    (exprs_of item)) (items_at program instance)) (instances program)
