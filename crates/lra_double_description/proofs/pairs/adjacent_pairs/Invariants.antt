use Rattle.lra_double_description.specs.Pairs.{ArePairs}
use Rattle.lra_double_description.proofs.pairs.adjacent_pairs.Given as goal

abbrev pub invariant-loop-up : goal.invariant-loop-up
invariant-loop-up l = ArePairs l.products l.saturation.rows l.up 0 l.pairs.items
