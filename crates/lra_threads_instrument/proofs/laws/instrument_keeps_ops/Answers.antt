-- The goal of `instrument_keeps_ops`.
use Rattle.lra_threads_instrument.proofs.InstrumentedTrees.{asks_opened}
use Rattle.lra_threads_instrument.proofs.laws.instrument_keeps_ops.Goals as goal

pub returns : goal.returns
returns c = asks_opened
