use Rattle.std.proofs.Common.{length}
use Rattle.lra_powerset.proofs.TellLemmas.{LeaveLoop}
use Rattle.lra_powerset.proofs.reduction.leave_out.Given as goal

abbrev pub invariant-loop-answer : goal.invariant-loop-answer
invariant-loop-answer g l = LeaveLoop l.initial.parts.items l.told l.parts.items l.rest l.at

abbrev pub decreases-loop-answer : goal.decreases-loop-answer
decreases-loop-answer g l = length l.rest
