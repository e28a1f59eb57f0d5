-- Goals of `threads_hold`: does nothing.
use Rattle.lra_threads_analysis.proofs.HoldBeside as proof
use Rattle.lra_threads_analysis.proofs.laws.threads_hold.Goals as goal

pub returns : goal.returns
returns c = proof.threads_hold
