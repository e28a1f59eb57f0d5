use Rattle.std.proofs.Common.{◌≡◌, ◌+◌, ℤ, length}
use Rattle.std.specs.Prelude.{Option}
use Rattle.lra_box.specs.Ends.{IsEndFrom}
use Rattle.lra_dbm.specs.Cells.{entries}
use Rattle.lra_octagon.specs.Tables.{intervals, intervals_from}
use Rattle.lra_octagon.proofs.form_bounds.unary_end.Given as goal

abbrev pub invariant-loop-coefficient : goal.invariant-loop-coefficient
invariant-loop-coefficient l = record {
  places : l.k + length l.left ≡ l.n;
  rest : (o : Option ℤ)
      → IsEndFrom l.side l.sum l.left (intervals_from (entries l.n l.matrix.cells) l.k (length l.left)) o
      → IsEndFrom l.side l.e.constant l.e.coefficients (intervals l.n (entries l.n l.matrix.cells)) o;
}

abbrev pub decreases-loop-coefficient : goal.decreases-loop-coefficient
decreases-loop-coefficient l = length l.left
