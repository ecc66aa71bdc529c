use Rattle.std.proofs.Common.{◌≡◌, ℕ, suc, ◌-◌, subst, sym, ap, ◌∙◌, arith}
use Rattle.smv_meaning.specs.declared.entries.Entry.{Entry as Held}
use Rattle.smv_meaning.specs.Indices.{number_held}
use Rattle.smv_meaning.specs.Value.{Name}
use Rattle.smv_meaning.proofs.NamesLemmas.{first_from, position_put}
use Rattle.smv_meaning.proofs.names.positions_of.Goals as goal

pub loop-left-preserved : goal.loop-left-preserved
loop-left-preserved c =
    let next : suc (c.loop-left.left - 1) ≡ c.loop-left.left = omega arith in
    record {
      within = omega (arith, c.loop-left.invariant.within);
      held = position_put c.args.entries.now c.loop-left.positions c.insert.new.self c.as_str.result (c.loop-left.left - 1) c.index-entries-left.result
          (omega (arith, c.loop-left.invariant.within)) c.index-entries-left.is (c.as_str.ensures ∙ ap (λ (e : Held). e.name.now) (sym c.index-entries-left.is)) c.in_ok-insert.ensures.updates
          (subst (λ (k : ℕ). (name : Name) → number_held c.loop-left.positions name ≡ first_from c.args.entries.now k name) (sym next) c.loop-left.invariant.held);
    }
