-- Goals of `fitting_is_sound`: if all that is computed at a point is judged to fit, no run stops there by a number.
use Rattle.lra_analyse_source.proofs.FitsHold.{fitting_sound}
use Rattle.lra_analyse_source.proofs.laws.fitting_is_sound.Goals as goal

pub returns : goal.returns
returns g c = fitting_sound _ _ g.D.Domain.abstraction g.met.D.Domain.laws
