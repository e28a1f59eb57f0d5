-- Goals of `bound_all`: each variable lies in its interval.
use Rattle.std.proofs.Common.{rules, ◌≡◌}
use Rattle.lra_octagon.specs.Tables.{upper}
use Rattle.lra_octagon.proofs.EnterLemmas.{bounds_more}
use Rattle.lra_octagon.proofs.unary.bound_all.Goals as goal

pub loop-i-preserved : goal.loop-i-preserved
loop-i-preserved c =
    let up : c.upper_of-most.result ≡ upper c.args.intervals.now c.loop-i.i = search rules in
    record {
      dims = search rules;
      bounds = bounds_more c.args.n c.loop-i.i c.args.intervals.now c.args.matrix.now.cells c.loop-i.matrix.cells c.bound_above.new.matrix.cells c.loop-i.exactness c.bound_above.result
          c.worse-exactness.result (search rules) c.loop-i.invariant.bounds (rw up at c.bound_above.ensures.bounds) c.worse-exactness.ensures.exact c.worse-exactness.ensures.flagged;
    }
