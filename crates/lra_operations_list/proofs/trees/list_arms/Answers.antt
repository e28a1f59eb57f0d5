-- Goals of `list_arms`: what the first of the arms does comes after the others.
use Rattle.std.proofs.{Common.rules, Common.◌≡◌, Common.◌∷◌, Common.map, lemmas.List.nil_from_length}
use Rattle.lra_operations_list.specs.Crates.lra_operations.Sizes.{arm_sizes, arms_tree_sizes}
use Rattle.lra_operations_list.specs.{Due.all_due, Due.all_left, TreeOperations.op_at_point_view}
use Rattle.lra_operations_list.proofs.TreeSteps.{entry_asks, entry_falls, no_arms_ask, none_falls, same_way, tree_asks, tree_falls, way_if}
use Rattle.lra_operations_list.proofs.trees.list_arms.Goals as goal

pub returns-in_default-clause-way : goal.returns-in_default-clause-way
returns-in_default-clause-way c =
    let none = nil_from_length c.args.arms.now c.in_default.ensures.cases in
    same_way c.args.fresh _ (all_due c.args.left.now.items) (map op_at_point_view c.args.done.now.items)
    (no_arms_ask c.args.fresh (all_due c.args.left.now.items) c.args.arms.now none)

pub returns-in_default-clause-falls : goal.returns-in_default-clause-falls
returns-in_default-clause-falls c = none_falls (all_left c.args.left.now.items) (arms_tree_sizes (map arm_sizes c.args.arms.now))

pub returns-in-Entry-clause-way : goal.returns-in-Entry-clause-way
returns-in-Entry-clause-way c =
    let first : c.args.arms.now ≡ c.in-Some.arm.now ∷ c.in-Some.behind.now = search rules in
    same_way c.args.fresh _ (all_due c.push_arms.new.left.items) (map op_at_point_view c.args.done.now.items)
    (entry_asks c.args.fresh (all_due c.args.left.now.items) (all_due c.push_arms.new.left.items) c.args.arms.now c.in-Some.behind.now c.in-Some.arm.now
    c.in-Entry.field-0
    first c.in-Entry.is c.in_ok-push_arms.ensures.is)

pub returns-in-Entry-clause-falls : goal.returns-in-Entry-clause-falls
returns-in-Entry-clause-falls c =
    let first : c.args.arms.now ≡ c.in-Some.arm.now ∷ c.in-Some.behind.now = search rules in
    entry_falls (all_left c.push_arms.new.left.items) (all_left c.args.left.now.items) c.args.arms.now c.in-Some.behind.now c.in-Some.arm.now first
    c.in_ok-push_arms.ensures.size

pub returns-in-Tree-clause-way : goal.returns-in-Tree-clause-way
returns-in-Tree-clause-way c =
    let first : c.args.arms.now ≡ c.in-Some.arm.now ∷ c.in-Some.behind.now = search rules in
    way_if c.list_node.result c.args.fresh _ _ (all_due c.list_node.new.left.items) (map op_at_point_view c.args.done.now.items)
    (map op_at_point_view c.list_node.new.done.items)
    (tree_asks c.args.fresh (all_due c.args.left.now.items) (all_due c.push_arms.new.left.items) c.args.arms.now c.in-Some.behind.now c.in-Some.arm.now
    c.in-Tree.node
    first c.in-Tree.is c.in_ok-push_arms.ensures.is) c.list_node.ensures.way

pub returns-in-Tree-clause-falls : goal.returns-in-Tree-clause-falls
returns-in-Tree-clause-falls c =
    let first : c.args.arms.now ≡ c.in-Some.arm.now ∷ c.in-Some.behind.now = search rules in
    tree_falls c.list_node.result (all_left c.list_node.new.left.items) (all_left c.push_arms.new.left.items) (all_left c.args.left.now.items) c.args.arms.now
    c.in-Some.behind.now c.in-Some.arm.now c.in-Tree.node first c.in-Tree.is c.in_ok-push_arms.ensures.size c.list_node.ensures.falls
