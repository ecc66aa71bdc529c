-- The check of runs, over the rows of the instance table.
use Rattle.std.specs.Prelude.{◌≡◌, ℕ, Bool, false, List, ◌++◌, map, Option, Some, None, find, codes, slice_get}
use Rattle.std.specs.Str.{bytes_eq}
use Rattle.smv_ast.specs.declared.syntax.Span.{Span}
use Rattle.smv_ast.specs.declared.program.Program.{Program}
use Rattle.smv_meaning.specs.declared.met_items.ValuedState.{ValuedState}
use Rattle.smv_ast.specs.declared.syntax.Expr.{Expr}
use Rattle.smv_meaning.specs.declared.table.InstanceTable.{InstanceTable}
use Rattle.smv_meaning.specs.declared.table.Link.{Link}
use Rattle.smv_meaning.specs.declared.valuation.RunContext.{RunContext}
use Rattle.smv_meaning.specs.Instances.{instance_text}
use Rattle.smv_meaning.specs.Runs.{written_state, first_fault, answer_from, instance_named}
use Rattle.smv_meaning.specs.ItemIndex.{items_at}
use Rattle.smv_meaning.specs.declared.value.Value.{Value}
use Rattle.smv_meaning.specs.declared.run.RunState.{RunState}
use Rattle.smv_meaning.specs.declared.run.RunAnswer.{RunAnswer}
use Rattle.smv_meaning.specs.Value.{is_true}
use Rattle.smv_meaning.specs.Values.{State, value_in}
use Rattle.smv_meaning.specs.Checking.{instance_at, IsValuationOf}
use Rattle.smv_meaning.specs.MetItems.{first_unmet, true_in, state_in}

-- the first item that is not met, in the order of these instances
abbrev pub broken_in_order : RunContext → Option ValuedState → ValuedState → List ℕ → Option Span
broken_in_order context before now order = first_fault
    (λ row. first_unmet context row before now
    (items_at context.program.now (instance_at context.table row))) order

-- the tables are the valuations of these states, in order
abbrev pub AreTables : RunContext → List RunState → List (List (Option Value)) → Type 0
AreTables context states tables = (k : ℕ) (state : RunState) → slice_get states k ≡ Some state
    → (solution : List (Option Value)) × (slice_get tables k ≡ Some solution)
    × IsValuationOf context state solution

-- the answer on the values that are written, also of paths that are no variables'
abbrev pub written_answer : Program → List RunState → RunAnswer
written_answer program states = answer_from program 0 None (map written_state states)

-- the text of the instance with this link and path
abbrev pub text_of_instance : Option Link → List ℕ → List ℕ
text_of_instance None text = codes "main"
text_of_instance (Some link) text = codes "main" ++ codes "." ++ text

-- the number of the first of these instances that has this text
abbrev pub named_in : InstanceTable → List ℕ → List ℕ → Option ℕ
named_in table text order = find (λ row. bytes_eq (instance_text (instance_at table row)) text)
    order

-- whether an expression is true in the instance that was found; false where there is none
abbrev pub holds_in : RunContext → ValuedState → Expr → Option ℕ → Bool
holds_in context state e None = false
holds_in context state e (Some row) = true_in context row state state e

-- whether an expression is true in a state and the instance of this text; false where there is none
abbrev pub held_at : Program → List ℕ → Expr → State → Bool
held_at program text e s = elim (instance_named program text)
    [ None ↦ false | Some instance ↦ is_true (value_in program s s instance e) ]

-- the same of the view's state
abbrev pub context_holds : RunContext → ValuedState → Expr → List ℕ → Bool
context_holds context state e text = held_at context.program.now text e (state_in state)
