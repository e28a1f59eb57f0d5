-- Goals of `divide_behind`: the first number, and the others divided.
use Rattle.std.specs.Int.{w128}
use Rattle.std.proofs.lemmas.Int.{to_z-of_z}
use Rattle.lra_poly_queries.proofs.TightenedExits.{behind_done, behind_in_range}
use Rattle.lra_poly_queries.proofs.rounding.divide_behind.Goals as goal

pub from_slice-requires : goal.from_slice-requires
from_slice-requires c =
    behind_in_range c.as_slice.result.now c.args.others.now c.args.first c.args.divisor c.requires.above
    c.requires.first c.requires.others
    (behind_done c.loop-number.numbers.items c.as_slice.result.now c.loop-number.left.now c.args.others.now
    c.args.first c.args.divisor _ _ (to_z-of_z w128 c.args.first c.ranges.first)
    (to_z-of_z w128 c.args.divisor c.ranges.divisor) c.as_slice.ensures.value c.in_default.ensures.cases c.loop-number.invariant)
