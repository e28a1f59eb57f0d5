-- Goals of `share_bits`: whether at least so many bits are set in both.
use Rattle.std.proofs.Common.{◌≡◌, arith, length, refl}
use Rattle.lra_bits.proofs.CommonBits.{bits_more, bits_reached, bits_end}
use Rattle.lra_bits.proofs.words.share_bits.Goals as goal

pub returns-then-left-eq0-clause-enough : goal.returns-then-left-eq0-clause-enough
returns-then-left-eq0-clause-enough c = (
  (λ t. bits_reached c.args.xs.now c.args.ys.now c.loop-i.i c.loop-i.left c.args.least c.take_ones-left.result (length c.args.xs.now) c.take_ones-left.ensures c.if-left-eq0.true c.loop-i.invariant
      c.loop-i-test.true),
  (λ h. refl),
)

pub loop-i-preserved : goal.loop-i-preserved
loop-i-preserved c = bits_more c.args.xs.now c.args.ys.now c.loop-i.i c.loop-i.left c.args.least c.take_ones-left.result c.take_ones-left.ensures c.loop-i.invariant

pub returns-clause-enough : goal.returns-clause-enough
returns-clause-enough c =
    let all : c.loop-i.i ≡ length c.args.xs.now = omega (arith, c.loop-i-test.false, c.loop-i.auto.i-end) in
    bits_end c.args.xs.now c.args.ys.now c.loop-i.i c.loop-i.left c.args.least (length c.args.xs.now) all c.loop-i.invariant
