use Rattle.std.proofs.Common.{ℤ, ◌<ℤ◌, pos, List, length, slice_index_or}
use Rattle.lra_double_description.specs.{Below.AreBelow, Pairs.ArePairs}
use Rattle.lra_double_description.proofs.PairsBelow.{GoesOn}
use Rattle.lra_double_description.proofs.pairs.push_pairs_of.Given as goal

abbrev pub invariant-loop-i : goal.invariant-loop-i
invariant-loop-i l = (products : List ℤ) → pos 0 <ℤ slice_index_or products l.up (pos 0) → AreBelow products 0 (length products) l.downs →
    ArePairs products l.saturation.rows l.up 0 l.fn.pairs.items → GoesOn products l.saturation.rows l.up l.downs l.i l.pairs.items
