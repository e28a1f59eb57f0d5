-- Goals of `list_next`: what is due is opened.
use Rattle.std.proofs.{Common.rules, Common.◌≡◌, Common.◌∷◌, Common.ap, Common.map, lemmas.List.nil_from_length}
use Rattle.lra_operations_list.specs.Crates.lra_operations.Sizes.{whole_size}
use Rattle.lra_operations_list.specs.{Due.all_due, Due.all_left, Due.due_size, Due.due_view, TreeOperations.op_at_point_view}
use Rattle.lra_operations_list.proofs.TreeSteps.{apart_falls, apart_way, last_asks, last_falls, row_asks, row_falls, way_if}
use Rattle.lra_operations_list.proofs.trees.list_next.Goals as goal

pub returns-in-Apart-clause-way : goal.returns-in-Apart-clause-way
returns-in-Apart-clause-way c = apart_way c.args.fresh (due_view c.args.due) (all_due c.args.left.now.items)
    (map op_at_point_view c.args.done.now.items)
    (ap due_view c.in-Apart.is)

pub returns-in-Apart-clause-falls : goal.returns-in-Apart-clause-falls
returns-in-Apart-clause-falls c = apart_falls (all_left c.args.left.now.items) (due_size c.args.due) (ap due_size c.in-Apart.is)

pub returns-in-Tree-clause-way : goal.returns-in-Tree-clause-way
returns-in-Tree-clause-way c = rw c.in-Tree.is c.list_node.ensures.way

pub returns-in-Tree-clause-falls : goal.returns-in-Tree-clause-falls
returns-in-Tree-clause-falls c = rw c.in-Tree.is c.list_node.ensures.falls

pub returns-in-None-clause-way : goal.returns-in-None-clause-way
returns-in-None-clause-way c =
    let none = nil_from_length c.in-Row.trees.now c.in-None.ensures.cases in
    way_if c.list_node-in-None.result c.args.fresh _ _ (all_due c.list_node-in-None.new.left.items)
    (map op_at_point_view c.args.done.now.items)
    (map op_at_point_view c.list_node-in-None.new.done.items)
    (last_asks c.args.fresh (due_view c.args.due) (all_due c.args.left.now.items) c.in-Row.trees.now c.in-Row.last.now (ap due_view c.in-Row.is) none)
    c.list_node-in-None.ensures.way

pub returns-in-None-clause-falls : goal.returns-in-None-clause-falls
returns-in-None-clause-falls c = last_falls c.list_node-in-None.result (all_left c.list_node-in-None.new.left.items) (all_left c.args.left.now.items)
    (due_size c.args.due) _
    (whole_size c.in-Row.last.now) (ap due_size c.in-Row.is) c.list_node-in-None.ensures.falls

pub returns-in_ok-push_row-in-Some-clause-way : goal.returns-in_ok-push_row-in-Some-clause-way
returns-in_ok-push_row-in-Some-clause-way c =
    let two : c.in-Row.trees.now ≡ c.in-Some.first.now ∷ c.in-Some.behind.now = search rules in
    way_if c.list_node-in-Some.result c.args.fresh _ _ (all_due c.list_node-in-Some.new.left.items)
    (map op_at_point_view c.args.done.now.items)
    (map op_at_point_view c.list_node-in-Some.new.done.items)
    (row_asks c.args.fresh (due_view c.args.due) (all_due c.args.left.now.items) (all_due c.push_row.new.left.items) c.in-Row.trees.now c.in-Some.behind.now
    c.in-Some.first.now
    c.in-Row.last.now (ap due_view c.in-Row.is) two c.in_ok-push_row-in-Some.ensures.is)
    c.list_node-in-Some.ensures.way

pub returns-in_ok-push_row-in-Some-clause-falls : goal.returns-in_ok-push_row-in-Some-clause-falls
returns-in_ok-push_row-in-Some-clause-falls c =
    let two : c.in-Row.trees.now ≡ c.in-Some.first.now ∷ c.in-Some.behind.now = search rules in
    row_falls c.list_node-in-Some.result (all_left c.list_node-in-Some.new.left.items) (all_left c.push_row.new.left.items) (all_left c.args.left.now.items)
    (due_size c.args.due)
    (whole_size c.in-Row.last.now) c.in-Row.trees.now c.in-Some.behind.now c.in-Some.first.now (ap due_size c.in-Row.is) two
    c.in_ok-push_row-in-Some.ensures.size
    c.list_node-in-Some.ensures.falls

pub returns-in-Arms-clause-way : goal.returns-in-Arms-clause-way
returns-in-Arms-clause-way c = rw c.in-Arms.is c.list_arms.ensures.way

pub returns-in-Arms-clause-falls : goal.returns-in-Arms-clause-falls
returns-in-Arms-clause-falls c = rw c.in-Arms.is c.list_arms.ensures.falls
