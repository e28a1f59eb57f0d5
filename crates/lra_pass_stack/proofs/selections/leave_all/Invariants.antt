use Rattle.std.proofs.Common.{length}
use Rattle.lra_pass_stack.proofs.SelectFrames.{NoneLoop}
use Rattle.lra_pass_stack.proofs.selections.leave_all.Given as goal

abbrev pub invariant-arms : goal.invariant-arms
invariant-arms g l = NoneLoop g.D.Domain.abstraction l.seen l.fn.arms l.left l.fn.value l.value l.exactness

abbrev pub decreases-arms : goal.decreases-arms
decreases-arms g l = length l.left
