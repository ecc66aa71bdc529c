-- Items checked by number are items checked on the instances of the table.
use Rattle.std.proofs.Common.{◌≡◌, ℕ, ◌<◌, length, ap, ◌∙◌}
use Rattle.smv_ast.specs.declared.syntax.Expr.{Expr}
use Rattle.smv_meaning.specs.declared.value.Value.{Value}
use Rattle.smv_meaning.specs.declared.valuation.RunContext.{RunContext}
use Rattle.smv_meaning.specs.declared.met_items.ValuedState.{ValuedState}
use Rattle.smv_meaning.specs.Value.{Name}
use Rattle.smv_meaning.specs.Denotations.{Environment, denotation_of}
use Rattle.smv_meaning.specs.Values.{environment_in}
use Rattle.smv_meaning.specs.Runs.{written_state}
use Rattle.fixpoint.specs.Fixpoints.{entry}
use Rattle.smv_meaning.specs.Slots.{by_slot}
use Rattle.smv_meaning.specs.Valuation.{row_environment}
use Rattle.smv_meaning.specs.Checking.{IsContextOfProgram, instance_at}
use Rattle.smv_meaning.specs.MetItems.{IsValued, value_row, allows_row, own_row}
use Rattle.smv_meaning.proofs.NumberLemmas.{row_environment_is, row_value_is}

pub value_is : (context : RunContext) (row : ℕ) (now after : ValuedState) (e : Expr) → IsContextOfProgram context → row < length context.table.rows → IsValued context now → IsValued context after →
    (denotation_of e).value (row_environment context.program.now context.table now.solution.now row) (row_environment context.program.now context.table after.solution.now row) ≡ value_row context row now after e
value_is context row now after e right h s t =
    let p = row_environment_is context.program.now context.table right (written_state now.written.now) now.solution.now row s h in
    let q = row_environment_is context.program.now context.table right (written_state after.written.now) after.solution.now row t h in
    ap (λ (r : Environment). (denotation_of e).value r (row_environment context.program.now context.table after.solution.now row)) p
    ∙ ap (λ (r : Environment). (denotation_of e).value (environment_in context.program.now (written_state now.written.now) (instance_at context.table row)) r) q

pub allows_is : (context : RunContext) (row : ℕ) (now after : ValuedState) (e : Expr) (v : Value) → IsContextOfProgram context → row < length context.table.rows → IsValued context now → IsValued context after →
    (denotation_of e).allows (row_environment context.program.now context.table now.solution.now row) (row_environment context.program.now context.table after.solution.now row) v ≡ allows_row context row now after e v
allows_is context row now after e v right h s t =
    let p = row_environment_is context.program.now context.table right (written_state now.written.now) now.solution.now row s h in
    let q = row_environment_is context.program.now context.table right (written_state after.written.now) after.solution.now row t h in
    ap (λ (r : Environment). (denotation_of e).allows r (row_environment context.program.now context.table after.solution.now row) v) p
    ∙ ap (λ (r : Environment). (denotation_of e).allows (environment_in context.program.now (written_state now.written.now) (instance_at context.table row)) r v) q

pub own_is : (context : RunContext) (row : ℕ) (state : ValuedState) (name : Name) → IsContextOfProgram context → row < length context.table.rows → IsValued context state → by_slot context.table (entry state.solution.now) (record { instance = row; name = name }) ≡ own_row context row state name
own_is context row state name right h s = row_value_is context.program.now context.table right (written_state state.written.now) state.solution.now row name s h
