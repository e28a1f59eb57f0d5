use Rattle.std.proofs.Common.{◌≡◌, ◌++◌}
use Rattle.std.specs.{Iterator.Adapters.zip_first, Iterator.Adapters.zip_second, Slice.Iter.iter_rest}
use Rattle.lra_bits.specs.Words.{common_words}
use Rattle.lra_bits.proofs.words.common.Given as goal

abbrev pub invariant-loop-x : goal.invariant-loop-x
invariant-loop-x l = l.words.items ++ common_words (iter_rest (zip_first l.x-iterator)) (iter_rest (zip_second l.x-iterator)) ≡ common_words l.xs l.ys
