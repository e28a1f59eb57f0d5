-- Goals of `push_too_long`.
use Rattle.std.proofs.Common.{append_assoc}
use Rattle.lra_calc.proofs.refusal.push_too_long.Goals as goal

pub returns : goal.returns
returns c = simp append_assoc c.writeln.ensures.bytes
