use Rattle.std.proofs.Common.{ℕ, ◌<◌, [], get_or}
use Rattle.lra_canonical.specs.Crates.lra_linear_spec.Echelon.{Before, pivot}
use Rattle.lra_canonical.proofs.forms.rows_before.Given as goal

abbrev pub invariant-loop-place : goal.invariant-loop-place
invariant-loop-place l = (k : ℕ) → k < l.place → Before (pivot (get_or l.form k [])) l.column
