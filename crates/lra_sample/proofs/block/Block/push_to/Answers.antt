-- Goals of `Block::push_to`: appends the block's line.
use Rattle.lra_sample.proofs.Blocks.{line_of_kind}
use Rattle.lra_sample.proofs.block.Block.push_to.Goals as goal

pub returns-in-Sum : goal.returns-in-Sum
returns-in-Sum c = line_of_kind c.args.self.now _ _ _ _ c.in-Sum.is c.push_sum.ensures

pub returns-in-Choice : goal.returns-in-Choice
returns-in-Choice c = line_of_kind c.args.self.now _ _ _ _ c.in-Choice.is c.push_choice.ensures

pub returns-in-Count : goal.returns-in-Count
returns-in-Count c = line_of_kind c.args.self.now _ _ _ _ c.in-Count.is c.push_count.ensures

pub returns-in-Input : goal.returns-in-Input
returns-in-Input c = line_of_kind c.args.self.now _ _ _ _ c.in-Input.is c.push_input.ensures
