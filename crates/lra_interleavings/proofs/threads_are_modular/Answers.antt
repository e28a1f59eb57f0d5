-- Goals of `threads_are_modular`: does nothing.
use Rattle.lra_interleavings.proofs.ThreadRuns.{tested_threads_are_interleaved}
use Rattle.lra_interleavings.proofs.threads_are_modular.Goals as goal

pub returns : goal.returns
returns c = record { theorem = tested_threads_are_interleaved }
