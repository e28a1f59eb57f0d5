use Rattle.std.proofs.Common.{length}
use Rattle.lra_powerset.proofs.AntichainLemmas.{LastLoop}
use Rattle.lra_powerset.proofs.reduction.tell_last.Given as goal

abbrev pub invariant-loop-part : goal.invariant-loop-part
invariant-loop-part g l = LastLoop g.D.Domain.abstraction l.front l.rest l.last l.told.items

abbrev pub decreases-loop-part : goal.decreases-loop-part
decreases-loop-part g l = length l.rest
