-- Goals of `go_on_items`: after one of some items.
use Rattle.lra_inline_steps.proofs.OpenFrames.{row_next}
use Rattle.lra_inline.proofs.inlining.going_on.go_on_items.Goals as goal

pub returns-clause-leads : goal.returns-clause-leads
returns-clause-leads c = λ P whole under path V b.
    row_next P whole under c.args.frame path c.args.item.live V c.args.row c.args.item.node c.add_part.new.parts.items c.next_item.result b.0 b.1 b.2 c.in_ok-add_part.ensures
    (c.next_item.ensures.leads P)
