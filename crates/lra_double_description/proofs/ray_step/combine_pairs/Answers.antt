-- Goals of `combine_pairs`: a ray for each pair.
use Rattle.std.proofs.Common.{arith}
use Rattle.lra_double_description.proofs.PairLists.{combined_more, pair_error}
use Rattle.lra_double_description.proofs.ray_step.combine_pairs.Goals as goal

pub loop-pair-preserved : goal.loop-pair-preserved
loop-pair-preserved c =
    combined_more c.args.products.now c.args.rays.now c.args.pairs.now c.loop-pair.pair-index c.pair-item.result c.loop-pair.rows.items c.push.new.self.items c.in-Ok.row
    (omega (arith, c.loop-pair-test.true, c.loop-pair.auto.pair-index-end)) c.pair-item.is c.in_ok-push-in-Ok.ensures.items c.in-Ok.ensures.ok c.loop-pair.invariant

pub returns-in-Err-clause-strained : goal.returns-in-Err-clause-strained
returns-in-Err-clause-strained c =
    pair_error c.args.products.now c.args.rays.now c.args.pairs.now c.loop-pair.pair-index c.pair-item.result c.in-Err.error
    (omega (arith, c.loop-pair-test.true, c.loop-pair.auto.pair-index-end)) c.pair-item.is c.in-Err.ensures.strained
