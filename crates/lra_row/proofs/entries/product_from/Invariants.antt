use Rattle.std.proofs.Common.{◌≡◌}
use Rattle.std.specs.{Iterator.Adapters.zip_first, Iterator.Adapters.zip_second, Slice.Iter.iter_rest}
use Rattle.lra_linear_spec.specs.CheckedArithmetic.{checked_product_from}
use Rattle.lra_row.proofs.entries.product_from.Given as goal

abbrev pub invariant-loop-x : goal.invariant-loop-x
invariant-loop-x l =
    checked_product_from l.sum (iter_rest (zip_first l.x-iterator)) (iter_rest (zip_second l.x-iterator)) ≡ checked_product_from l.fn.start l.xs l.ys
