use Rattle.std.proofs.Common.{take}
use Rattle.lra_double_description.specs.Steps.{PushesFlattened}
use Rattle.lra_double_description.proofs.line_step.push_flattened.Given as goal

abbrev pub invariant-loop-place : goal.invariant-loop-place
invariant-loop-place l = PushesFlattened l.line (take l.place l.products) (take l.place l.rows) l.fn.out.items l.out.items
