-- Goals of `take_ones`: what is left of a number after one for each bit that is set.
use Rattle.std.proofs.Common.{arith}
use Rattle.lra_bits.proofs.CommonBits.{take_more, take_none, take_end}
use Rattle.lra_bits.proofs.words.take_ones.Goals as goal

pub returns-then-left-eq0 : goal.returns-then-left-eq0
returns-then-left-eq0 c = take_none c.args.number c.args.word c.loop-bits.left c.loop-bits.bits c.if-left-eq0.true c.loop-bits.invariant

pub loop-bits-preserved : goal.loop-bits-preserved
loop-bits-preserved c = take_more c.args.number c.args.word c.loop-bits.left c.loop-bits.bits c.loop-bits-test.true c.if-left-eq0.false c.loop-bits.invariant

pub loop-bits-smaller : goal.loop-bits-smaller
loop-bits-smaller c = omega (arith, c.if-left-eq0.false)

pub returns : goal.returns
returns c = take_end c.args.number c.args.word c.loop-bits.left c.loop-bits.bits c.loop-bits-test.false c.loop-bits.invariant
