-- Goals of `one_constants`: a source has at most one list of constants.
use Rattle.lra_front_end.proofs.ReadSteps.{one_list}
use Rattle.lra_front_end.proofs.laws.one_constants.Goals as goal

pub returns : goal.returns
returns c = one_list c.one_reading.ensures
