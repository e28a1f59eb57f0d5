use Rattle.std.proofs.Common.{◌≡◌, drop}
use Rattle.std.specs.{Cmp.Lexicographic.slice_cmp, Ordering.int_cmp}
use Rattle.lra_linear_spec.specs.RowOrder.{constant_last, row_cmp}
use Rattle.lra_row.proofs.entries.compare_widths.Given as goal

abbrev pub invariant-loop-place : goal.invariant-loop-place
invariant-loop-place l = slice_cmp int_cmp (drop l.place (constant_last l.xs)) (drop l.place (constant_last l.ys)) ≡ row_cmp l.xs l.ys
