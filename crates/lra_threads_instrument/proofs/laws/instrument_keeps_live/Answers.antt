-- The goal of `instrument_keeps_live`.
use Rattle.lra_threads_instrument.proofs.InstrumentedTrees.{live_opened}
use Rattle.lra_threads_instrument.proofs.laws.instrument_keeps_live.Goals as goal

pub returns : goal.returns
returns c = live_opened
