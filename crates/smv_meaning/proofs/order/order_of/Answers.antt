use Rattle.std.proofs.Common.{◌<◌, length, Some, ◌∙◌}
use Rattle.std.proofs.lemmas.List.Elements.{All-pop}
use Rattle.smv_meaning.proofs.OrderLemmas.{rows_push, round_taken, round_shorter}
use Rattle.smv_meaning.proofs.order.order_of.Goals as goal

pub rounds-smaller : goal.rounds-smaller
rounds-smaller c = round_shorter c.args.program.now c.args.table.now c.rounds.waiting c.pop.new.self c.push_inner.new.waiting c.in-Some.next c.in-Some.ensures c.in_ok-push_inner.ensures.waiting

pub rounds-preserved : goal.rounds-preserved
rounds-preserved c =
    let all = All-pop (λ w. w.row < length c.args.table.now.rows) c.rounds.waiting c.pop.new.self (Some c.in-Some.next) c.in-Some.ensures c.rounds.invariant.waiting in
    record {
      rows = rows_push c.args.table.now c.rounds.order c.push-in-Some.new.self c.in-Some.next.row c.in_ok-push-2.ensures.ok all.1 c.rounds.invariant.rows;
      waiting = c.in_ok-push_inner.ensures.rows all.0;
      order = round_taken c.args.program.now c.args.table.now c.rounds.order c.push-in-Some.new.self c.rounds.waiting c.pop.new.self c.push_inner.new.waiting c.in-Some.next
          c.in_ok-push-2.ensures.ok c.in-Some.ensures c.in_ok-push_inner.ensures.waiting ∙ c.rounds.invariant.order;
    }
