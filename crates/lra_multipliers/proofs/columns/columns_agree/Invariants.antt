use Rattle.lra_multipliers.specs.{Columns.column_agrees, Columns.AgreeBelow, MultiplierViews.multipliers_view}
use Rattle.lra_multipliers.proofs.columns.columns_agree.Given as goal

abbrev pub invariant-loop-column : goal.invariant-loop-column
invariant-loop-column l = AgreeBelow (column_agrees l.rows l.claim (multipliers_view l.m)) l.column l.agree
