use Rattle.std.proofs.Common.{◌≡◌, ℕ, List, [], ◌++◌, ◌∷◌, length, sym, ap, ◌∙◌, subst, arith, refl, Some, None, codes, length-append}
use Rattle.std.proofs.lemmas.Option.{slice_get_within}
use Rattle.std.specs.Prelude.{slice_get}
use Rattle.smv_meaning.specs.declared.table.Row.{Row}
use Rattle.smv_meaning.specs.Scopes.{entries_in}
use Rattle.smv_meaning.specs.InstanceTable.{AreSlotsOf, AreSlotsUpTo, row_names, nth_instance, row_instances}
use Rattle.smv_meaning.proofs.InstanceTableLemmas.{main_new, rows_more, nth_instance_next, kept_instance, get_none, slots_more, extends_length}
use Rattle.smv_meaning.proofs.CountLemmas.{weight_main, weight_more, weight_none}
use Rattle.smv_meaning.proofs.table.instance_table.Goals as goal

pub loop-r-init : goal.loop-r-init
loop-r-init c =
    let row : Row = record { link = None; names = c.names_in.result; depth = 0 } in
    let new = main_new c.args.program.now row refl refl (c.names_in.ensures ∙ ap (λ scopes. entries_in scopes (codes "main")) c.requires.scopes) in
    let made : c.push.new.self ≡ row ∷ [] = c.in_ok-push.ensures.ok ∙ ap (λ (rows : List Row). rows ++ row ∷ []) c.new-rows.ensures in
    record {
      rows = rw made (rows_more c.args.program.now [] row (λ k r e. cc) new);
      main = rw made (nth_instance_next [] row);
      some = rw made (omega arith);
      within = omega arith;
      weight = weight_main c.args.program.now c.push.new.self (ap row_instances made);
      count = rw c.new-firsts.ensures refl;
      slots = rw c.new-firsts.ensures (λ r first e. cc);
    }

pub returns-in_default-clause-right : goal.returns-in_default-clause-right
returns-in_default-clause-right c =
    let none : slice_get c.loop-r.rows c.loop-r.r ≡ None = rw c.as_slice.ensures at (sym c.at.ensures ∙ (sym c.copied.ensures ∙ c.in_default.is)) in
    record {
      rows = c.loop-r.invariant.rows;
      main = c.loop-r.invariant.main;
      some = c.loop-r.invariant.some;
      count = omega (arith, get_none c.loop-r.rows c.loop-r.r none);
      slots = c.loop-r.invariant.slots;
    }

pub returns-in_default-clause-count : goal.returns-in_default-clause-count
returns-in_default-clause-count c =
    let none : slice_get c.loop-r.rows c.loop-r.r ≡ None = rw c.as_slice.ensures at (sym c.at.ensures ∙ (sym c.copied.ensures ∙ c.in_default.is)) in
    let all = weight_none c.args.program.now c.loop-r.rows c.loop-r.r (get_none c.loop-r.rows c.loop-r.r none) c.loop-r.invariant.within c.loop-r.invariant.weight in
    (all, omega (arith, all, get_none c.loop-r.rows c.loop-r.r none))

pub returns-clause-count : goal.returns-clause-count
returns-clause-count c = omega (arith, c.loop-r.invariant.weight)

pub loop-r-preserved : goal.loop-r-preserved
loop-r-preserved c =
    let at : slice_get c.loop-r.rows c.loop-r.r ≡ Some c.in-Some.row = rw c.as_slice.ensures at (sym c.at.ensures ∙ (sym c.copied.ensures ∙ c.in-Some.is)) in
    let count : length c.loop-r.firsts ≡ c.loop-r.r = c.loop-r.invariant.count in
    let x = c.in_ok-expand.ensures.extends in
    let upto = subst (λ (n : ℕ). AreSlotsUpTo c.args.program.now c.expand.new.rows c.expand.new.slots n (length c.loop-r.slots) (row_names c.in-Some.row) (length (row_names c.in-Some.row))) (sym count) c.in_ok-expand.ensures.slots in
    let pushed : c.push-in-loop-r.new.self ≡ c.loop-r.firsts ++ length c.loop-r.slots ∷ [] = c.in_ok-push-2.ensures.ok ∙ ap (λ (n : ℕ). c.loop-r.firsts ++ n ∷ []) c.len.ensures in
    record {
      rows = c.in_ok-expand.ensures.rows;
      main = ap (λ (rows : List Row). nth_instance (row_instances rows) 0) x.1 ∙ (kept_instance c.loop-r.rows x.0 0 c.loop-r.invariant.some ∙ c.loop-r.invariant.main);
      some = omega (arith, extends_length c.loop-r.rows c.expand.new.rows x, c.loop-r.invariant.some);
      within = omega (arith, extends_length c.loop-r.rows c.expand.new.rows x, slice_get_within c.loop-r.rows c.loop-r.r c.in-Some.row at);
      weight = weight_more c.args.program.now c.loop-r.rows c.expand.new.rows c.loop-r.r (row_names c.in-Some.row) (slice_get_within c.loop-r.rows c.loop-r.r c.in-Some.row at)
          (c.loop-r.invariant.rows c.loop-r.r c.in-Some.row at).names c.in_ok-expand.ensures.inner c.loop-r.invariant.weight;
      count = omega (arith, ap length pushed, length-append c.loop-r.firsts (length c.loop-r.slots ∷ []), count);
      slots = subst (λ (firsts : List ℕ). AreSlotsOf c.args.program.now c.expand.new.rows firsts c.expand.new.slots) (sym pushed)
          (slots_more c.args.program.now c.loop-r.rows c.expand.new.rows c.loop-r.firsts c.loop-r.slots c.expand.new.slots c.in-Some.row (length (row_names c.in-Some.row)) x c.in_ok-expand.ensures.appended
          (subst (λ (n : ℕ). slice_get c.loop-r.rows n ≡ Some c.in-Some.row) (sym count) at) upto c.loop-r.invariant.slots);
    }
