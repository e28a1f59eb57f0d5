-- Goals of `list_own`: what a tree does itself comes after the others.
use Rattle.std.proofs.Common.{map}
use Rattle.lra_operations_list.specs.TreeOperations.{op_at_point_view}
use Rattle.lra_operations_list.proofs.TreeSteps.{asks_act, asks_check, asks_choose, asks_iterate, asks_select, listed_as, lists_none, empty_asks, point_asks, seq_asks, catch_asks, leave_asks}
use Rattle.lra_operations_list.proofs.trees.list_own.Goals as goal

pub returns-in-Act : goal.returns-in-Act
returns-in-Act c = listed_as c.push_done.result _ _ (map op_at_point_view c.args.done.now.items) (map op_at_point_view c.push_done.new.done.items)
    (asks_act c.args.fresh c.args.node.now c.in-Act.point c.in-Act.op c.in-Act.is) c.push_done.ensures

pub returns-in-Check : goal.returns-in-Check
returns-in-Check c = listed_as c.push_done-in-Check.result _ _ (map op_at_point_view c.args.done.now.items)
    (map op_at_point_view c.push_done-in-Check.new.done.items)
    (asks_check c.args.fresh c.args.node.now c.in-Check.point c.in-Check.base c.in-Check.condition c.in-Check.is) c.push_done-in-Check.ensures

pub returns-in-Choose : goal.returns-in-Choose
returns-in-Choose c =
    listed_as c.push_done-in-Choose.result _ _ (map op_at_point_view c.args.done.now.items) (map op_at_point_view c.push_done-in-Choose.new.done.items)
    (asks_choose c.args.fresh c.args.node.now c.in-Choose.point c.in-Choose.base c.in-Choose.condition c.in-Choose.field-3 c.in-Choose.field-4 c.in-Choose.is)
    c.push_done-in-Choose.ensures

pub returns-in-Iterate : goal.returns-in-Iterate
returns-in-Iterate c =
    listed_as c.push_done-in-Iterate.result _ _ (map op_at_point_view c.args.done.now.items) (map op_at_point_view c.push_done-in-Iterate.new.done.items)
    (asks_iterate c.args.fresh c.args.node.now c.in-Iterate.point c.in-Iterate.base c.in-Iterate.condition c.in-Iterate.field-3 c.in-Iterate.is)
    c.push_done-in-Iterate.ensures

pub returns-in-Select : goal.returns-in-Select
returns-in-Select c =
    listed_as c.push_done-in-Select.result _ _ (map op_at_point_view c.args.done.now.items) (map op_at_point_view c.push_done-in-Select.new.done.items)
    (asks_select c.args.fresh c.args.node.now c.in-Select.point c.in-Select.base c.in-Select.value c.in-Select.field-3 c.in-Select.is)
    c.push_done-in-Select.ensures

pub returns-in-Empty : goal.returns-in-Empty
returns-in-Empty c = lists_none (map op_at_point_view c.args.done.now.items) _ (empty_asks c.args.fresh c.args.node.now c.in-Empty.is)

pub returns-in-Point : goal.returns-in-Point
returns-in-Point c = lists_none (map op_at_point_view c.args.done.now.items) _ (point_asks c.args.fresh c.args.node.now c.in-Point.field-0 c.in-Point.is)

pub returns-in-Seq : goal.returns-in-Seq
returns-in-Seq c = lists_none (map op_at_point_view c.args.done.now.items) _
    (seq_asks c.args.fresh c.args.node.now c.in-Seq.field-0 c.in-Seq.field-1 c.in-Seq.is)

pub returns-in-Catch : goal.returns-in-Catch
returns-in-Catch c = lists_none (map op_at_point_view c.args.done.now.items) _
    (catch_asks c.args.fresh c.args.node.now c.in-Catch.field-0 c.in-Catch.field-1 c.in-Catch.field-2 c.in-Catch.is)

pub returns-in-Leave : goal.returns-in-Leave
returns-in-Leave c = lists_none (map op_at_point_view c.args.done.now.items) _
    (leave_asks c.args.fresh c.args.node.now c.in-Leave.field-0 c.in-Leave.field-1 c.in-Leave.is)
