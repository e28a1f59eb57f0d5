use Rattle.std.proofs.Common.{map, drop, true, false}
use Rattle.lra_program.specs.ProgramViews.{cond_view}
use Rattle.lra_transfer.proofs.ChainSteps.{IsDividedSoFar}
use Rattle.lra_linearize.proofs.CondSizes.{cond_size, chain_size}
use Rattle.lra_transfer.proofs.splits.+split.Given as goal

abbrev pub decreases-split : goal.decreases-split
decreases-split g l = cond_size l.condition.now

abbrev pub decreases-split_all : goal.decreases-split_all
decreases-split_all g l = chain_size l.first.now l.rest.now

abbrev pub decreases-split_any : goal.decreases-split_any
decreases-split_any g l = chain_size l.first.now l.rest.now

abbrev pub invariant-split_all-rest : goal.invariant-split_all-rest
invariant-split_all-rest g l = IsDividedSoFar g.D.Domain.abstraction l.base true (cond_view l.first) (map cond_view l.rest) l.fn.from l.before.items l.sides.on l.sides.off
    (map cond_view (drop l.next-index l.rest))

abbrev pub invariant-split_any-rest : goal.invariant-split_any-rest
invariant-split_any-rest g l = IsDividedSoFar g.D.Domain.abstraction l.base false (cond_view l.first) (map cond_view l.rest) l.fn.from l.before.items l.sides.off l.sides.on
    (map cond_view (drop l.next-index l.rest))
