-- Goals of `write_whole`: writes all bytes, or only the first of them up to a write that fails, which is the last
-- one.
use Rattle.std.proofs.{Common.arith, Common.refl, KnownBytes.Appends-nil}
use Rattle.lra_io.specs.Calls.{none}
use Rattle.lra_io.proofs.sink.write_whole.Goals as goal

pub loop-done-init : goal.loop-done-init
loop-done-init g c = (omega arith, Appends-nil _, refl, none, omega arith)
