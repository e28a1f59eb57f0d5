-- Goals of `backs_are_sound`: the laws.
use Rattle.lra_back_source.proofs.Sound.{backs_sound, proved_at_first}
use Rattle.lra_back_source.proofs.laws.backs_are_sound.Goals as goal

pub returns-clause-sound : goal.returns-clause-sound
returns-clause-sound c = backs_sound

pub returns-clause-first : goal.returns-clause-first
returns-clause-first c = proved_at_first
