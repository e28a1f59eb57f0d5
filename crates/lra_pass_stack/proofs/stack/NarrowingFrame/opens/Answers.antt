-- Goals of `opens`: the place of a loop that is narrowed is boxed.
use Rattle.std.proofs.Common.{refl}
use Rattle.lra_pass_stack.proofs.stack.NarrowingFrame.opens.Goals as goal

pub returns : goal.returns
returns g c = (c.in_ok-place.place, refl, c.in_ok-place.ensures.ok)
