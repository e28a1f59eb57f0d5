-- Goals of `BitRow::are_true`: whether all values are true.
use Rattle.std.proofs.Common.{arith}
use Rattle.lra_bits.proofs.AllTrue.{none_false, one_false}
use Rattle.lra_bits.proofs.bit_row.BitRow.are_true.Goals as goal

pub returns-then-not-get : goal.returns-then-not-get
returns-then-not-get c = one_false c.args.self.now c.loop-k.k (omega (arith, c.loop-k-test.true, c.width-k-end.ensures)) c.if-not-get.ensures

pub returns : goal.returns
returns c = none_false c.args.self.now c.loop-k.k (omega (arith, c.loop-k-test.false, c.width-k-end.ensures)) c.loop-k.invariant
