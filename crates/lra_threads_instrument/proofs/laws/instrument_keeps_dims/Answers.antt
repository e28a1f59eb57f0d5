-- The goal of `instrument_keeps_dims`.
use Rattle.lra_threads_instrument.proofs.InstrumentedTrees.{fits_of}
use Rattle.lra_threads_instrument.proofs.laws.instrument_keeps_dims.Goals as goal

pub returns : goal.returns
returns c = fits_of
