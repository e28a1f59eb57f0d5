use Rattle.std.proofs.Common.{length}
use Rattle.lra_powerset.proofs.TellLemmas.{TellLoop}
use Rattle.lra_powerset.proofs.reduction.tell_all.Given as goal

abbrev pub invariant-loop-part : goal.invariant-loop-part
invariant-loop-part g l = TellLoop g.D.Domain.abstraction l.parts l.rest l.told.items

abbrev pub decreases-loop-part : goal.decreases-loop-part
decreases-loop-part g l = length l.rest
