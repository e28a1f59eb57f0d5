-- Goals of `open_first`: the first of the trees is next.
use Rattle.std.proofs.Common.{arith}
use Rattle.lra_pass_stack.specs.StepsLeft.{most_rounds}
use Rattle.lra_pass_stack.proofs.OpenFrames.{row_leads}
use Rattle.lra_pass_results.proofs.PassRows.{steps_first}
use Rattle.lra_pass_stack.proofs.rows.open_first.Goals as goal

pub returns-clause-leads : goal.returns-clause-leads
returns-clause-leads g c others set whole memory gs plan first may loop =
    let so_far = c.args.so_far in
    row_leads (g.F.Interfere.interference others) g.D.Domain.abstraction set
    (record { behind = c.args.behind; found = so_far.found }) gs c.args.node.now so_far.normal so_far.flag whole memory plan first may loop

pub returns-clause-steps : goal.returns-clause-steps
returns-clause-steps g c b set gs first =
    let is = steps_first (most_rounds b set) gs c.args.behind.trees.now c.args.node.now c.args.behind.last.now first in
    omega (arith, is)
