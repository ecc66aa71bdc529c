use Rattle.std.proofs.Common.{◌==◌, ◌≡◌, ℕ, List, false, ap, ◌∙◌, sym, replicate, length}
use Rattle.std.specs.Prelude.{map}
use Rattle.std.proofs.lemmas.List.{length-map, with_items_is}
use Rattle.proof_check.proofs.MarkLemmas.{none_fresh}
use Rattle.proof_check.proofs.marks.Marks.clear.Goals as goal

pub returns : goal.returns
returns c =
    let stamps = c.self.inside.stamps in
    let fresh = c.next_round-self-inside.new.stamps in
    let same : length fresh ≡ length stamps.items = c.next_round-self-inside.auto.stamps ∙ ap length c.as_mut_slice.ensures.value in
    let literal_set : length stamps.items ≡ length c.args.self.now = sym (length-map stamps.items (λ stamp. stamp == c.self.inside.round)) ∙ ap length c.self.view_is in
    ap (λ (items : List ℕ). map (λ stamp. stamp == c.next_round-self-inside.result) items) (with_items_is stamps fresh (same ∙ sym stamps.ok.0))
    ∙ none_fresh fresh c.next_round-self-inside.result c.next_round-self-inside.ensures.fresh
    ∙ ap (λ n. replicate n false) (same ∙ literal_set)
