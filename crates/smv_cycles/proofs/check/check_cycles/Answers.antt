use Rattle.std.proofs.Common.{◌≡◌, ℕ, Option, subst}
use Rattle.smv_ast.specs.declared.fault.Fault.{Fault}
use Rattle.smv_meaning.specs.Faults.{ReportsFirst}
use Rattle.fixpoint.specs.Fixpoints.{entry}
use Rattle.smv_meaning.proofs.NumberLemmas.{has_slots, are_linked}
use Rattle.smv_cycles.specs.Reads.{heights}
use Rattle.smv_cycles.specs.EdgesBySlot.{edges_at}
use Rattle.smv_cycles.proofs.FaultLemmas.{faults_are}
use Rattle.smv_cycles.proofs.check.check_cycles.Goals as goal

pub graph_of-requires-clause-has : goal.graph_of-requires-clause-has
graph_of-requires-clause-has c = has_slots c.args.program.now c.args.table.now c.requires.right

pub check_graph-requires-clause-has : goal.check_graph-requires-clause-has
check_graph-requires-clause-has c = has_slots c.args.program.now c.args.table.now c.requires.right

pub check_graph-requires-clause-linked : goal.check_graph-requires-clause-linked
check_graph-requires-clause-linked c = are_linked c.args.program.now c.args.table.now c.requires.right

pub returns : goal.returns
returns c =
    let known_of : (k : ℕ) → entry c.in_ok-heights.heights k ≡ heights (edges_at c.in_ok-graph.graph) k = rw c.as_slice-3.ensures at c.in_ok-heights.ensures in
    subst (λ (f : Option Fault). ReportsFirst f c.check_graph.result)
    (faults_are c.args.program.now c.args.table.now c.requires.right c.requires.one c.args.aliases.now c.requires.aliases c.in_ok-graph.graph c.in_ok-graph.ensures c.in_ok-heights.heights known_of c.args.order.now c.requires.rows c.requires.order)
    (rw (c.as_slice-4.ensures, c.in_ok-search.ensures, c.as_slice-2.ensures, c.in_ok-targets.ensures, c.as_slice.ensures) at c.check_graph.ensures)
