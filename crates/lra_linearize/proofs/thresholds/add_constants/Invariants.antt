use Rattle.std.proofs.Common.{◌++◌, ◌≡◌, length, not, List, ℤ}
use Rattle.std.specs.List.{filter}
use Rattle.lra_analysis_spec.specs.Thresholds.{is_among, constant_rows_at}
use Rattle.lra_linearize.specs.GuardThresholds.{HasMore}
use Rattle.lra_linearize.proofs.thresholds.add_constants.Given as goal

-- the constants so far, and those that are left
abbrev pub invariant-constants : goal.invariant-constants
invariant-constants l = (before : List ℤ) × (before ++ l.left ≡ l.constants)
    × HasMore l.fn.rows l.rows (filter (λ r. not (is_among l.own.rows r)) (constant_rows_at l.fn.rows.dims before l.place))

abbrev pub decreases-constants : goal.decreases-constants
decreases-constants l = length l.left
