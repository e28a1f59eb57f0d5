-- Goals of `opposite_if_fitting`: `-f - 1`, if all its numbers have 64 bits.
use Rattle.lra_linearize.proofs.FormSteps.{fitting_is}
use Rattle.lra_linearize.proofs.linearization.opposite_if_fitting.Goals as goal

pub returns : goal.returns
returns c = fitting_is _ _ c.in_ok-form.ensures
