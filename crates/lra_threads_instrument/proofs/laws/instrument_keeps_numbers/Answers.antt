-- The goal of `instrument_keeps_numbers`.
use Rattle.lra_threads_instrument.proofs.InstrumentedTrees.{numbered_of}
use Rattle.lra_threads_instrument.proofs.laws.instrument_keeps_numbers.Goals as goal

pub returns : goal.returns
returns c = numbered_of
