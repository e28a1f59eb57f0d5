use Rattle.std.proofs.Common.{◌≡◌, ◌≤◌, take}
use Rattle.lra_double_description.specs.Crates.lra_linear_spec.Kinds.{is_equality}
use Rattle.lra_double_description.specs.Steps.{inside_count}
use Rattle.lra_double_description.proofs.ray_step.count_inside.Given as goal

abbrev pub invariant-loop-k : goal.invariant-loop-k
invariant-loop-k l = (l.count ≡ inside_count (is_equality l.kind) (take l.k l.products)) × (l.count ≤ l.k)
