use Rattle.std.proofs.Common.{◌≡◌}
use Rattle.lra_linear_spec.specs.RowOrder.{row_cmp}
use Rattle.lra_row.proofs.OrderLemmas.{column_cmp}
use Rattle.lra_row.proofs.entries.compare.Given as goal

abbrev pub invariant-loop-place : goal.invariant-loop-place
invariant-loop-place l = column_cmp l.place l.xs l.ys ≡ row_cmp l.xs l.ys
