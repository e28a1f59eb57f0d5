-- Goals of `least_box`: the values of each coordinate.
use Rattle.lra_poly_queries.proofs.BoxLemmas.{box_more}
use Rattle.lra_poly_queries.proofs.boxes.least_box.Goals as goal

pub loop-dim-preserved : goal.loop-dim-preserved
loop-dim-preserved c =
    box_more c.args.p.now c.loop-dim.dim c.loop-dim.extents.items c.push.new.self.items c.in_ok-extent.extent
    c.loop-dim.invariant c.in_ok-extent.ensures c.in_ok-push.ensures.items
