use Rattle.std.proofs.Common.{take}
use Rattle.lra_double_description.specs.Pairs.{AreCombined}
use Rattle.lra_double_description.proofs.ray_step.combine_pairs.Given as goal

abbrev pub invariant-loop-pair : goal.invariant-loop-pair
invariant-loop-pair l = AreCombined l.products l.rays (take l.pair-index l.pairs) l.rows.items
