-- Goals of `values_of`: all of them.
use Rattle.std.proofs.Common.{arith}
use Rattle.lra_duality.proofs.StartLemmas.{all_values}
use Rattle.lra_duality.proofs.start.values_of.Goals as goal

pub returns : goal.returns
returns c = all_values c.args.saturation.now c.args.place c.args.width c.loop-k.k c.args.first c.loop-k.bits c.requires.width (omega (arith, c.loop-k-test.false)) c.loop-k.invariant
