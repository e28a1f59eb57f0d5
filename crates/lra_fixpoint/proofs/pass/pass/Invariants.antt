use Rattle.std.proofs.Common.{◌^◌}
use Rattle.lra_operations.specs.TreeViews.{node_view}
use Rattle.lra_pass_stack.specs.{Stack.PassIsUnderWay, StepsLeft.all_left}
use Rattle.lra_fixpoint.proofs.pass.pass.Given as goal

abbrev pub invariant-steps : goal.invariant-steps
invariant-steps g l = PassIsUnderWay (g.F.Interfere.interference l.others) g.D.Domain.abstraction l.plan l.places.open.items
    (record { tree = node_view l.fn.tree.node.now; value = l.fn.tree.value; flag = l.fn.tree.flag; memory = l.fn.memory }) l.next l.memory

abbrev pub decreases-steps : goal.decreases-steps
decreases-steps g l = all_left g.D.Domain.abstraction (2 ^ 64) l.plan l.places.open.items l.next
