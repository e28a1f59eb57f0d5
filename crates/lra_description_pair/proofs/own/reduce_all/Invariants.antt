use Rattle.lra_description_pair.proofs.RowsReduced.{ArePartlyReduced}
use Rattle.lra_description_pair.proofs.own.reduce_all.Given as goal

abbrev pub invariant-loop-row : goal.invariant-loop-row
invariant-loop-row l = ArePartlyReduced l.fn.width l.form l.fn.rows.items l.row-index l.row-items
