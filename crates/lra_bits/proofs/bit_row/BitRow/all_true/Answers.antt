-- Goals of `BitRow::all_true`: so many truth values, all true.
use Rattle.std.proofs.Common.{arith}
use Rattle.lra_bits.proofs.AllTrue.{true_all, true_more}
use Rattle.lra_bits.proofs.bit_row.BitRow.all_true.Goals as goal

pub loop-k-preserved : goal.loop-k-preserved
loop-k-preserved c = true_more c.args.width c.loop-k.k c.loop-k.row c.set.new.self (omega (arith, c.loop-k-test.true, c.loop-k.auto.k-end)) c.set.ensures
    c.loop-k.invariant

pub returns : goal.returns
returns c = true_all c.args.width c.loop-k.k c.loop-k.row (omega (arith, c.loop-k-test.false, c.loop-k.auto.k-end)) c.loop-k.invariant
