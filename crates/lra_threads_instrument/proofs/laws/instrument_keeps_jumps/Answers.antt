-- The goal of `instrument_keeps_jumps`.
use Rattle.lra_threads_instrument.proofs.InstrumentedTrees.{jumps_of, of_jumps}
use Rattle.lra_threads_instrument.proofs.laws.instrument_keeps_jumps.Goals as goal

pub returns : goal.returns
returns c n g k j m = (jumps_of n g k j m, of_jumps n g k j m)
