-- Goals of `open_node`: the trees in a tree are due before the others.
use Rattle.lra_operations_list.proofs.TreeSteps.{seq_opens, seq_falls, choose_opens, choose_falls, iterate_opens, iterate_falls, catch_opens, catch_falls, select_opens, select_falls, empty_rests}
use Rattle.lra_operations_list.proofs.TreeSteps.{point_rests, act_rests, check_rests, leave_rests}
use Rattle.lra_operations_list.proofs.trees.open_node.Goals as goal

pub returns-in-Seq-clause-is : goal.returns-in-Seq-clause-is
returns-in-Seq-clause-is c = seq_opens c.push_row.result c.args.node.now c.args.left.now.items c.push_row.new.left.items c.in-Seq.trees c.in-Seq.last
    c.in-Seq.is
    (rw (c.deref.ensures, c.as_slice.ensures.value) at c.push_row.ensures.is)

pub returns-in-Seq-clause-falls : goal.returns-in-Seq-clause-falls
returns-in-Seq-clause-falls c = seq_falls c.push_row.result c.args.node.now c.args.left.now.items c.push_row.new.left.items c.in-Seq.trees c.in-Seq.last
    c.in-Seq.is
    (rw (c.deref.ensures, c.as_slice.ensures.value) at c.push_row.ensures.size)

pub returns-in-Choose-clause-is : goal.returns-in-Choose-clause-is
returns-in-Choose-clause-is c = choose_opens c.push_both.result c.args.node.now c.args.left.now.items c.push_both.new.left.items
    c.in-Choose.field-0 c.in-Choose.field-1 c.in-Choose.field-2 c.in-Choose.on_true c.in-Choose.on_false c.in-Choose.is
    (rw (c.deref-in-Choose.ensures, c.deref-in-Choose-2.ensures) at c.push_both.ensures.is)

pub returns-in-Choose-clause-falls : goal.returns-in-Choose-clause-falls
returns-in-Choose-clause-falls c = choose_falls c.push_both.result c.args.node.now c.args.left.now.items c.push_both.new.left.items
    c.in-Choose.field-0 c.in-Choose.field-1 c.in-Choose.field-2 c.in-Choose.on_true c.in-Choose.on_false c.in-Choose.is
    (rw (c.deref-in-Choose.ensures, c.deref-in-Choose-2.ensures) at c.push_both.ensures.size)

pub returns-in-Iterate-clause-is : goal.returns-in-Iterate-clause-is
returns-in-Iterate-clause-is c = iterate_opens c.push_apart.result c.args.node.now c.args.left.now.items c.push_apart.new.left.items
    c.in-Iterate.field-0 c.in-Iterate.field-1 c.in-Iterate.field-2 c.in-Iterate.body c.in-Iterate.is
    (rw c.deref-in-Iterate.ensures at c.push_apart.ensures.is)

pub returns-in-Iterate-clause-falls : goal.returns-in-Iterate-clause-falls
returns-in-Iterate-clause-falls c = iterate_falls c.push_apart.result c.args.node.now c.args.left.now.items c.push_apart.new.left.items
    c.in-Iterate.field-0 c.in-Iterate.field-1 c.in-Iterate.field-2 c.in-Iterate.body c.in-Iterate.is
    (rw c.deref-in-Iterate.ensures at c.push_apart.ensures.size)

pub returns-in-Catch-clause-is : goal.returns-in-Catch-clause-is
returns-in-Catch-clause-is c = catch_opens c.push_apart-in-Catch.result c.args.node.now c.args.left.now.items c.push_apart-in-Catch.new.left.items
    c.in-Catch.field-0 c.in-Catch.field-1 c.in-Catch.body c.in-Catch.is
    (rw c.deref-in-Catch.ensures at c.push_apart-in-Catch.ensures.is)

pub returns-in-Catch-clause-falls : goal.returns-in-Catch-clause-falls
returns-in-Catch-clause-falls c = catch_falls c.push_apart-in-Catch.result c.args.node.now c.args.left.now.items c.push_apart-in-Catch.new.left.items
    c.in-Catch.field-0 c.in-Catch.field-1 c.in-Catch.body c.in-Catch.is
    (rw c.deref-in-Catch.ensures at c.push_apart-in-Catch.ensures.size)

pub returns-in-Empty-clause-is : goal.returns-in-Empty-clause-is
returns-in-Empty-clause-is c = (empty_rests c.args.node.now c.args.left.now.items c.in-Empty.is).0

pub returns-in-Empty-clause-falls : goal.returns-in-Empty-clause-falls
returns-in-Empty-clause-falls c = (empty_rests c.args.node.now c.args.left.now.items c.in-Empty.is).1

pub returns-in-Point-clause-is : goal.returns-in-Point-clause-is
returns-in-Point-clause-is c = (point_rests c.args.node.now c.args.left.now.items c.in-Point.field-0 c.in-Point.is).0

pub returns-in-Point-clause-falls : goal.returns-in-Point-clause-falls
returns-in-Point-clause-falls c = (point_rests c.args.node.now c.args.left.now.items c.in-Point.field-0 c.in-Point.is).1

pub returns-in-Act-clause-is : goal.returns-in-Act-clause-is
returns-in-Act-clause-is c = (act_rests c.args.node.now c.args.left.now.items c.in-Act.field-0 c.in-Act.field-1 c.in-Act.is).0

pub returns-in-Act-clause-falls : goal.returns-in-Act-clause-falls
returns-in-Act-clause-falls c = (act_rests c.args.node.now c.args.left.now.items c.in-Act.field-0 c.in-Act.field-1 c.in-Act.is).1

pub returns-in-Check-clause-is : goal.returns-in-Check-clause-is
returns-in-Check-clause-is c = (check_rests c.args.node.now c.args.left.now.items c.in-Check.field-0 c.in-Check.field-1 c.in-Check.field-2 c.in-Check.is).0

pub returns-in-Check-clause-falls : goal.returns-in-Check-clause-falls
returns-in-Check-clause-falls c = (check_rests c.args.node.now c.args.left.now.items c.in-Check.field-0 c.in-Check.field-1 c.in-Check.field-2 c.in-Check.is).1

pub returns-in-Leave-clause-is : goal.returns-in-Leave-clause-is
returns-in-Leave-clause-is c = (leave_rests c.args.node.now c.args.left.now.items c.in-Leave.field-0 c.in-Leave.field-1 c.in-Leave.is).0

pub returns-in-Leave-clause-falls : goal.returns-in-Leave-clause-falls
returns-in-Leave-clause-falls c = (leave_rests c.args.node.now c.args.left.now.items c.in-Leave.field-0 c.in-Leave.field-1 c.in-Leave.is).1

pub returns-in-Select-clause-is : goal.returns-in-Select-clause-is
returns-in-Select-clause-is c = select_opens c.push_selection.result c.args.node.now c.args.left.now.items c.push_selection.new.left.items
    c.in-Select.field-0 c.in-Select.field-1 c.in-Select.field-2 c.in-Select.arms c.in-Select.is
    (rw c.as_slice-in-Select.ensures.value at c.push_selection.ensures.is)

pub returns-in-Select-clause-falls : goal.returns-in-Select-clause-falls
returns-in-Select-clause-falls c = select_falls c.push_selection.result c.args.node.now c.args.left.now.items c.push_selection.new.left.items
    c.in-Select.field-0 c.in-Select.field-1 c.in-Select.field-2 c.in-Select.arms c.in-Select.is
    (rw c.as_slice-in-Select.ensures.value at c.push_selection.ensures.size)
