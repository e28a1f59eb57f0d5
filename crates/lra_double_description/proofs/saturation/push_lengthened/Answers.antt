-- Goals of `push_lengthened`: each row of the matrix with one more value, after what is there.
use Rattle.std.proofs.Common.{arith}
use Rattle.lra_double_description.proofs.Filling.{lengthened_step}
use Rattle.lra_double_description.proofs.saturation.push_lengthened.Goals as goal

pub loop-k-preserved : goal.loop-k-preserved
loop-k-preserved c =
    lengthened_step c.args.wider.now c.loop-k.wider c.add_row.new.self c.args.matrix.now.rows c.args.last.now c.in_ok-row.row c.row.result.now c.get.result c.loop-k.k c.requires.each
    (omega (arith, c.loop-k-test.true, c.loop-k.auto.k-end, c.height-k-end.ensures)) c.loop-k.invariant c.in_ok-add_row.ensures.added c.in_ok-row.ensures c.row.ensures.row c.get.ensures
