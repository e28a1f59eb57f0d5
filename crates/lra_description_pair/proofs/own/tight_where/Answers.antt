-- Goals of `tight_where`: at which rays, and lines after them, the row at the place is tight.
use Rattle.std.proofs.Common.{arith}
use Rattle.lra_description_pair.proofs.OwnRows.{filled_end}
use Rattle.lra_description_pair.proofs.own.tight_where.Goals as goal

pub returns : goal.returns
returns c = filled_end _ c.args.width c.loop-ray.ray c.loop-ray.bits (omega (arith, c.loop-ray-test.false, c.loop-ray.auto.ray-end)) c.loop-ray.invariant
