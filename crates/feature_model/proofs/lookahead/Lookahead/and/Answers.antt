use Rattle.feature_model.proofs.LookaheadLemmas.{covers_both}
use Rattle.std.proofs.Common.{true, false}
use Rattle.feature_model.proofs.lookahead.Lookahead.and.Goals as goal

pub returns : goal.returns
returns c partial one two h k = record {
  chosen = covers_both partial true one two c.args.self.if_chosen c.args.other.if_chosen c.and.result c.args.self.features c.args.other.features c.and.ensures h.chosen k.chosen;
  left_out = covers_both partial false one two c.args.self.if_left_out c.args.other.if_left_out c.and-2.result c.args.self.features c.args.other.features c.and-2.ensures h.left_out k.left_out;
}
