-- Goals of `arrays_are_there`.
use Rattle.lra_front_end.proofs.KnownArrays.{has_arrays}
use Rattle.lra_front_end.proofs.resolution_laws.arrays_are_there.Goals as goal

pub returns : goal.returns
returns c t e = has_arrays t e
