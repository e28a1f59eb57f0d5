-- The goal of `instrument_keeps_points`.
use Rattle.lra_threads_instrument.proofs.InstrumentedTrees.{points_of}
use Rattle.lra_threads_instrument.proofs.laws.instrument_keeps_points.Goals as goal

pub returns : goal.returns
returns c = points_of
