-- The goal of `paths_fit`.
use Rattle.lra_back_sound.proofs.PathsMade.{paths_made}
use Rattle.lra_back_sound.proofs.laws.paths_fit.Goals as goal

pub returns : goal.returns
returns c = paths_made
