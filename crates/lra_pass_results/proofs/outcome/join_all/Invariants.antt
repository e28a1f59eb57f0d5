use Rattle.std.proofs.Common.{drop}
use Rattle.lra_pass_results.proofs.Joining.{JoinLoop}
use Rattle.lra_pass_results.proofs.outcome.join_all.Given as goal

abbrev pub invariant-others : goal.invariant-others
invariant-others g l = JoinLoop g.D.Domain.abstraction l.fn.value l.others (drop l.other-index l.others) l.exactness l.value
