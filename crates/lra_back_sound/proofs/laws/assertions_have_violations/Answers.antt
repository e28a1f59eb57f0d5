-- The goal of `assertions_have_violations`: for points by their numbers.
use Rattle.lra_back_sound.proofs.Assertions.{assertions_denied}
use Rattle.lra_back_sound.proofs.laws.assertions_have_violations.Goals as goal

pub returns : goal.returns
returns c = assertions_denied
