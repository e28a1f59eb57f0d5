use Rattle.std.proofs.Common.{◌≡◌, ◌<◌, ℕ, [], pos, slice_index_or}
use Rattle.lra_canonical.specs.Crates.{lra_linear_spec.Echelon.pivot, lra_linear_spec.Vectors.entry}
use Rattle.lra_canonical.proofs.reduction.is_clear.Given as goal

abbrev pub invariant-loop-line : goal.invariant-loop-line
invariant-loop-line l = (k : ℕ) → k < l.line-index → entry l.row (pivot (slice_index_or l.form k [])) ≡ pos 0
