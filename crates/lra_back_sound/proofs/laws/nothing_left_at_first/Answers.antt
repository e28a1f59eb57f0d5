-- The goal of `nothing_left_at_first`.
use Rattle.lra_back_sound.proofs.FirstPoints.{nothing_left}
use Rattle.lra_back_sound.proofs.laws.nothing_left_at_first.Goals as goal

pub returns : goal.returns
returns g c = nothing_left g.D.Domain.abstraction
