use Rattle.std.proofs.Common.{◌≢◌, ℕ, ◌<◌, slice_index_or}
use Rattle.lra_descriptions.specs.Crates.lra_linear_spec.declared.GenKind.TheVariants.{Point}
use Rattle.lra_descriptions.proofs.lists.has_point.Given as goal

abbrev pub invariant-loop-place : goal.invariant-loop-place
invariant-loop-place l = (k : ℕ) → k < l.place → slice_index_or l.kinds k Point ≢ Point
