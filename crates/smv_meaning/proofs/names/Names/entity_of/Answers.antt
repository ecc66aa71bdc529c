use Rattle.std.proofs.Common.{◌≡◌, ℕ, Option, Some, None, sym, ap, ◌∙◌}
use Rattle.std.specs.Prelude.{slice_get}
use Rattle.smv_meaning.specs.declared.entries.Entry.{Entry as Held}
use Rattle.smv_meaning.specs.Entries.{entity_view}
use Rattle.smv_meaning.specs.Value.{and_then}
use Rattle.smv_meaning.proofs.NamesLemmas.{entity_renumbered}
use Rattle.smv_meaning.proofs.names.Names.entity_of.Goals as goal

pub returns-in-Some-copied : goal.returns-in-Some-copied
returns-in-Some-copied c =
    let es = c.args.self.now.entries in
    let at : slice_get es c.in-Some.index ≡ Some c.in-Some-copied.entry = rw c.as_slice.ensures at (sym c.at.ensures ∙ (sym c.copied.ensures ∙ c.in-Some-copied.is)) in
    sym (entity_renumbered es c.args.name.now
    ∙ (ap (λ (o : Option ℕ). and_then o (λ k. and_then (slice_get es k) (λ e. Some (entity_view e.entity)))) (sym c.index_of.ensures ∙ c.in-Some.is)
    ∙ ap (λ (o : Option Held). and_then o (λ e. Some (entity_view e.entity))) at))

pub returns-in-None-copied : goal.returns-in-None-copied
returns-in-None-copied c =
    let es = c.args.self.now.entries in
    let at : slice_get es c.in-Some.index ≡ None = rw c.as_slice.ensures at (sym c.at.ensures ∙ (sym c.copied.ensures ∙ c.in-None-copied.is)) in
    sym (entity_renumbered es c.args.name.now
    ∙ (ap (λ (o : Option ℕ). and_then o (λ k. and_then (slice_get es k) (λ e. Some (entity_view e.entity)))) (sym c.index_of.ensures ∙ c.in-Some.is)
    ∙ ap (λ (o : Option Held). and_then o (λ e. Some (entity_view e.entity))) at))

pub returns-in-None : goal.returns-in-None
returns-in-None c =
    let es = c.args.self.now.entries in
    sym (entity_renumbered es c.args.name.now
    ∙ ap (λ (o : Option ℕ). and_then o (λ k. and_then (slice_get es k) (λ e. Some (entity_view e.entity)))) (sym c.index_of.ensures ∙ c.in-None.is))
