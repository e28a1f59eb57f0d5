-- Goals of `Block::push_count`.
use Rattle.std.proofs.Common.{append_assoc}
use Rattle.lra_sample.proofs.block.Block.push_count.Goals as goal

pub returns : goal.returns
returns c = simp append_assoc c.writeln.ensures.bytes
