use Rattle.std.proofs.Common.{length, ◌+◌, slice_index_or, pos, not}
use Rattle.lra_double_description.specs.Crates.lra_linear_spec.Kinds.{is_equality}
use Rattle.lra_double_description.specs.Steps.{IsFilled, is_inside}
use Rattle.lra_double_description.proofs.ray_step.mark_outside.Given as goal

abbrev pub invariant-loop-k : goal.invariant-loop-k
invariant-loop-k l = IsFilled (λ j. not (is_inside (is_equality l.kind) (slice_index_or l.products j (pos 0)))) (length l.products + l.further) l.k l.gone
