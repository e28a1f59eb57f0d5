-- Goals of `open_block`: a block, and its items.
use Rattle.std.proofs.Common.{map}
use Rattle.lra_program.specs.ProgramViews.{item_view, items_of}
use Rattle.lra_inline_steps.specs.Inlining.{points_in, program_around}
use Rattle.lra_inline_steps.proofs.FirstSteps.{block_opens}
use Rattle.lra_inline_steps.proofs.opening.open_block.Goals as goal

pub returns-clause-leads : goal.returns-clause-leads
returns-clause-leads c points =
    let here = c.args.here.now in
    block_opens (program_around here) here.path.now here.frame (points_in points) (items_of (map item_view c.args.items.now)) c.args.end c.requires
