-- Goals of `threads_are_right`: the laws.
use Rattle.lra_threads_source.proofs.{Sound.threads_sound, Strained.flagged_strain, Strained.unflagged_defined}
use Rattle.lra_threads_source.proofs.laws.threads_are_right.Goals as goal

pub returns-clause-sound : goal.returns-clause-sound
returns-clause-sound c = threads_sound

pub returns-clause-unflagged : goal.returns-clause-unflagged
returns-clause-unflagged c = unflagged_defined

pub returns-clause-flagged : goal.returns-clause-flagged
returns-clause-flagged c = flagged_strain
