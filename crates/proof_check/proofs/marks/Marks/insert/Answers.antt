use Rattle.std.proofs.Common.{◌==◌, true, ℕ, set, ap, ◌∙◌}
use Rattle.std.specs.Prelude.{map}
use Rattle.proof_check.proofs.MarkLemmas.{literal_set-set}
use Rattle.proof_check.proofs.marks.Marks.insert.Goals as goal

pub returns : goal.returns
returns c =
    literal_set-set c.self.inside.stamps.items c.code.result c.self.inside.round
    ∙ ap (λ (l : ℕ). set (map (λ stamp. stamp == c.self.inside.round) c.self.inside.stamps.items) l true) c.code.ensures.code
    ∙ ap (λ literal_set. set literal_set c.args.lit true) c.self.view_is
