use Rattle.std.proofs.Common.{not}
use Rattle.std.specs.List.{filter}
use Rattle.lra_analysis_spec.specs.Thresholds.{is_among, rows_from}
use Rattle.lra_linearize.specs.GuardThresholds.{HasMore}
use Rattle.lra_linearize.proofs.thresholds.thresholds_of.Given as goal

-- the rows of the variables so far
abbrev pub invariant-variables : goal.invariant-variables
invariant-variables l = HasMore l.own l.rows (filter (λ r. not (is_among l.own.rows r)) (rows_from l.own.dims l.constants 0 l.place))
