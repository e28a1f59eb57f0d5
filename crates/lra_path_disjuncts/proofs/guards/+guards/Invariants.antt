use Rattle.lra_linearize.proofs.CondSizes.{cond_size, chain_size}
use Rattle.std.proofs.Common.{◌+◌, ◌*◌, length}
use Rattle.lra_path_disjuncts.specs.Tables.{Grows, IsTable}
use Rattle.lra_path_disjuncts.proofs.ChainSteps.{IsJoinedBack}
use Rattle.lra_path_disjuncts.proofs.guards.+guards.Given as goal

abbrev pub decreases-push_guards : goal.decreases-push_guards
decreases-push_guards l = 2 * cond_size l.condition.now

abbrev pub decreases-push_operand_guards : goal.decreases-push_operand_guards
decreases-push_operand_guards l = 2 * cond_size l.operand.now + 1

abbrev pub decreases-push_chain_guards : goal.decreases-push_chain_guards
decreases-push_chain_guards l = 2 * chain_size l.first.now l.rest.now

-- those that are left come in front of what is joined
abbrev pub invariant-push_chain_guards-operands : goal.invariant-push_chain_guards-operands
invariant-push_chain_guards-operands l = record {
  table : IsTable l.entries.items;
  grows : Grows l.fn.entries.items l.entries.items;
  joined : IsJoinedBack l.entries.items l.frame.live l.frame.base l.any l.rest l.left l.whole;
}

abbrev pub decreases-push_chain_guards-operands : goal.decreases-push_chain_guards-operands
decreases-push_chain_guards-operands l = length l.left
