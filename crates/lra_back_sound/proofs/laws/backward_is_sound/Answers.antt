-- Goals of `backward_is_sound`: what is found by going back has the stores of runs that fail.
use Rattle.lra_back_sound.proofs.FailingRuns.{traced_sound}
use Rattle.lra_back_sound.proofs.laws.backward_is_sound.Goals as goal

pub returns : goal.returns
returns g c = traced_sound g.D.Domain.abstraction g.D.Backward.backward_abstraction g.met.D.Domain.laws
