-- Goals of `open_row`: nothing is found yet.
use Rattle.lra_pass_stack.proofs.OpenFrames.{row_opened}
use Rattle.lra_pass_stack.proofs.rows.open_row.Goals as goal

pub next_of_row-requires-clause-way : goal.next_of_row-requires-clause-way
next_of_row-requires-clause-way g c =
    let way = c.requires.way in
    let begun = c.nothing_yet.ensures in (
      way.0,
      way.1,
      way.1.memory,
      way.2,
      row_opened (g.F.Interfere.interference way.0) g.D.Domain.abstraction c.args.the_row.plan.now c.args.the_row.trees.now
          c.args.the_row.last.now way.1 c.args.value c.args.flag c.nothing_yet.result way.3 way.4 way.5 way.2 begun.found
          begun.normal begun.flag,
    )

pub returns-clause-leads : goal.returns-clause-leads
returns-clause-leads g c others set whole plan is first flagged may =
    let begun = c.nothing_yet.ensures in
    c.next_of_row.ensures.leads others set whole whole.memory plan may
    (row_opened (g.F.Interfere.interference others) g.D.Domain.abstraction set c.args.the_row.trees.now c.args.the_row.last.now whole
    c.args.value c.args.flag c.nothing_yet.result is first flagged may begun.found begun.normal begun.flag)
