-- Goals of `fresh_at`: the type of the variable that is new after what a tree does itself.
use Rattle.std.proofs.Common.{◌∙◌}
use Rattle.lra_operations_list.proofs.TreeSteps.{act_new, catch_new, check_new, choose_new, empty_new, iterate_new, leave_new, point_new, select_new, seq_new}
use Rattle.lra_operations_list.proofs.trees.fresh_at.Goals as goal

pub returns-in-Empty : goal.returns-in-Empty
returns-in-Empty c = empty_new c.args.fresh c.args.node.now c.in-Empty.is

pub returns-in-Seq : goal.returns-in-Seq
returns-in-Seq c = seq_new c.args.fresh c.args.node.now c.in-Seq.field-0 c.in-Seq.field-1 c.in-Seq.is

pub returns-in-Point : goal.returns-in-Point
returns-in-Point c = point_new c.args.fresh c.args.node.now c.in-Point.field-0 c.in-Point.is

pub returns-in-Check : goal.returns-in-Check
returns-in-Check c = check_new c.args.fresh c.args.node.now c.in-Check.field-0 c.in-Check.field-1 c.in-Check.field-2 c.in-Check.is

pub returns-in-Choose : goal.returns-in-Choose
returns-in-Choose c = choose_new c.args.fresh c.args.node.now c.in-Choose.field-0 c.in-Choose.field-1 c.in-Choose.field-2 c.in-Choose.field-3
    c.in-Choose.field-4 c.in-Choose.is

pub returns-in-Iterate : goal.returns-in-Iterate
returns-in-Iterate c = iterate_new c.args.fresh c.args.node.now c.in-Iterate.field-0 c.in-Iterate.field-1 c.in-Iterate.field-2 c.in-Iterate.field-3
    c.in-Iterate.is

pub returns-in-Catch : goal.returns-in-Catch
returns-in-Catch c = catch_new c.args.fresh c.args.node.now c.in-Catch.field-0 c.in-Catch.field-1 c.in-Catch.field-2 c.in-Catch.is

pub returns-in-Leave : goal.returns-in-Leave
returns-in-Leave c = leave_new c.args.fresh c.args.node.now c.in-Leave.field-0 c.in-Leave.field-1 c.in-Leave.is

pub returns-in-Act : goal.returns-in-Act
returns-in-Act c = c.fresh_of.ensures ∙ act_new c.args.fresh c.args.node.now c.in-Act.field-0 c.in-Act.op c.in-Act.is

pub returns-in-Select : goal.returns-in-Select
returns-in-Select c = select_new c.args.fresh c.args.node.now c.in-Select.field-0 c.in-Select.field-1 c.in-Select.field-2 c.in-Select.field-3 c.in-Select.is
