-- Goals of `again`: the place of a loop whose head grows is boxed.
use Rattle.std.proofs.Common.{refl}
use Rattle.lra_pass_stack.proofs.stack.GrowingFrame.again.Goals as goal

pub returns : goal.returns
returns g c = (c.in_ok-place.place, c.in_ok-boxed.boxed, refl, c.in_ok-boxed.ensures.ok, c.in_ok-place.ensures.ok)
