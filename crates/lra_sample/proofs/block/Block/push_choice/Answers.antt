-- Goals of `Block::push_choice`.
use Rattle.std.proofs.{Common.decimal, lemmas.Result.on_ok_weaker}
use Rattle.lra_sample.proofs.Blocks.{choice_line}
use Rattle.lra_sample.proofs.block.Block.push_choice.Goals as goal

pub returns : goal.returns
returns c =
    let block = c.args.self.now in
    on_ok_weaker c.writeln.result (choice_line _ _ _ (decimal block.first) (decimal block.second) (decimal block.constant) c.in_ok-write.ensures.bytes) c.writeln.ensures.bytes
