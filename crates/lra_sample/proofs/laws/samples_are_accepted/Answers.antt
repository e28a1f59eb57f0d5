-- Goals of `samples_are_accepted`: every sample source of at most 400 blocks is accepted.
use Rattle.lra_sample.proofs.Samples.{accepted}
use Rattle.lra_sample.proofs.laws.samples_are_accepted.Goals as goal

pub returns : goal.returns
returns c = accepted
