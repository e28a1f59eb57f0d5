-- Goals of `accesses_are_sound`: if an access is judged to be inside its array, no run evaluates it outside.
use Rattle.lra_analyse_source.proofs.AccessesHold.{accesses_sound}
use Rattle.lra_analyse_source.proofs.laws.accesses_are_sound.Goals as goal

pub returns : goal.returns
returns g c = accesses_sound _ _ g.D.Domain.abstraction g.met.D.Domain.laws
