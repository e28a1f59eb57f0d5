-- The sum of the columns that were gone through is narrow for their number, and the columns left over are narrow.
use Rattle.std.proofs.Common.{◌≡◌, ℕ, ◌+◌, pos, length}
use Rattle.std.specs.{Iterator.Adapters.zip_first, Iterator.Adapters.zip_second, List.All, Slice.Iter.iter_rest}
use Rattle.lra_linear_spec.specs.CheckedArithmetic.{checked_product_from}
use Rattle.lra_row.specs.Words.{IsNarrow, IsNarrowSum}
use Rattle.lra_row.proofs.entries.narrow_product.Given as goal

abbrev pub invariant-loop-x : goal.invariant-loop-x
invariant-loop-x l =
    let xs = iter_rest (zip_first l.x-iterator) in
    let ys = iter_rest (zip_second l.x-iterator) in
    record {
      value : checked_product_from l.sum xs ys ≡ checked_product_from (pos 0) l.xs l.ys;
      so_far : (n : ℕ) × (n + length xs ≡ length l.xs) × IsNarrowSum n l.sum;
      xs_narrow : All IsNarrow xs;
      ys_narrow : All IsNarrow ys;
    }
