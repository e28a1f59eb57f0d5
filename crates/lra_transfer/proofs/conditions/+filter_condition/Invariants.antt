use Rattle.std.proofs.Common.{◌+◌, ◌*◌, map, take}
use Rattle.lra_program.specs.ProgramViews.{cond_view}
use Rattle.lra_transfer.proofs.ChainSteps.{IsInTurnSoFar}
use Rattle.lra_linearize.proofs.CondSizes.{cond_size, chain_size}
use Rattle.lra_transfer.proofs.conditions.+filter_condition.Given as goal

abbrev pub decreases-filter_condition : goal.decreases-filter_condition
decreases-filter_condition g l = 2 * cond_size l.condition.now

abbrev pub decreases-leave_all : goal.decreases-leave_all
decreases-leave_all g l = 2 * chain_size l.first.now l.rest.now + 1

abbrev pub decreases-leave_any : goal.decreases-leave_any
decreases-leave_any g l = 2 * chain_size l.first.now l.rest.now + 1

abbrev pub decreases-leave_in_turn : goal.decreases-leave_in_turn
decreases-leave_in_turn g l = 2 * chain_size l.first.now l.rest.now

abbrev pub decreases-leave_either : goal.decreases-leave_either
decreases-leave_either g l = 2 * chain_size l.first.now l.rest.now

abbrev pub invariant-leave_in_turn-rest : goal.invariant-leave_in_turn-rest
invariant-leave_in_turn-rest g l = IsInTurnSoFar g.D.Domain.abstraction l.around.base l.wanted (cond_view l.first) (map cond_view (take l.next-index l.rest)) l.fn.value l.fn.before l.value l.exactness
