use Rattle.std.proofs.Common.{◌+◌, pos, length, slice_index_or}
use Rattle.std.specs.Ordering.{int_eq}
use Rattle.lra_double_description.proofs.Filling.{AreSetTo}
use Rattle.lra_double_description.proofs.saturation.mark_tight.Given as goal

abbrev pub invariant-loop-k : goal.invariant-loop-k
invariant-loop-k l = AreSetTo (λ j. int_eq (slice_index_or l.products j (pos 0)) (pos 0)) (length l.products + l.further) l.k l.values
