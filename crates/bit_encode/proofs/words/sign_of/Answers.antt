use Rattle.std.proofs.Common.{arith}
use Rattle.gate_build.specs.Circuits.{falsity}
use Rattle.bit_encode.proofs.WordLemmas.{sign_of-last}
use Rattle.bit_encode.proofs.words.sign_of.Goals as goal

pub returns-in-len1-up : goal.returns-in-len1-up
returns-in-len1-up c = sign_of-last falsity c.last-item.result c.args.word.now (omega arith) c.last-item.is
