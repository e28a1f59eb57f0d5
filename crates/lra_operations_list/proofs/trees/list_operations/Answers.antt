-- Goals of `list_operations`: what is done in a tree, along a list of what is due.
use Rattle.std.proofs.{Common.◌∙◌, Common.ap, Common.map, Common.refl, Common.sym, lemmas.List.nil_from_length}
use Rattle.lra_operations_list.specs.Crates.lra_operations.TreeViews.{node_view}
use Rattle.lra_operations_list.specs.TreeOperations.{op_at_point_view}
use Rattle.lra_operations_list.proofs.TreeSteps.{fewer_left, next_way, way_first, way_whole}
use Rattle.lra_operations_list.proofs.trees.list_operations.Goals as goal

pub trees-init : goal.trees-init
trees-init c = way_first (node_view c.args.node.now) c.new-left.result.items c.push.new.self.items _ (map op_at_point_view c.new-done.result.items)
    c.in_ok-push.ensures.items c.new-left.ensures.items refl

pub trees-preserved : goal.trees-preserved
trees-preserved c =
    next_way (node_view c.args.node.now) c.pop.new.self.items c.trees.left.items c.in-Some.due (map op_at_point_view c.new-done.result.items)
    (map op_at_point_view c.trees.done.items) c.trees.fresh c.in-Some.ensures.items c.trees.invariant c.in_ok-fresh.fresh c.list_next.new.left.items
    (map op_at_point_view c.list_next.new.done.items) c.in_ok-fresh.ensures.way

pub trees-smaller : goal.trees-smaller
trees-smaller c = fewer_left c.pop.new.self.items c.trees.left.items c.list_next.new.left.items c.in-Some.due c.in-Some.ensures.items
    c.in_ok-fresh.ensures.falls

pub returns : goal.returns
returns c = way_whole (node_view c.args.node.now) c.trees.left.items c.trees.fresh (map op_at_point_view c.new-done.result.items)
    (map op_at_point_view c.trees.done.items)
    (nil_from_length c.trees.left.items (sym c.trees.left.ok.0 ∙ c.in_default.ensures.cases.0)) (ap (map op_at_point_view) c.new-done.ensures.items)
    c.trees.invariant
