-- Goals of `dimension_text`.
use Rattle.std.proofs.Common.{append_assoc}
use Rattle.lra_calc.proofs.refusal.dimension_text.Goals as goal

pub returns : goal.returns
returns c = simp append_assoc c.format.ensures.ok
