-- Goals of `solved_are_sound`: what an iteration over a domain finds holds in all runs.
use Rattle.lra_analyse_source.proofs.Holding.{solved_holds}
use Rattle.lra_analyse_source.proofs.laws.solved_are_sound.Goals as goal

pub returns : goal.returns
returns g c = solved_holds _ _ g.D.Domain.abstraction g.met.D.Domain.laws
