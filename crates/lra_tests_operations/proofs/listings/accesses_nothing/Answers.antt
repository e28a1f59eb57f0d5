-- Goals of `accesses_nothing`.
use Rattle.std.proofs.{Common.◌≡◌, Common.◌∙◌, Common.length, Common.map, Common.ap, Common.arith, lemmas.Grind.common_steps}
use Rattle.lra_operations.specs.TreeViews.{node_view}
use Rattle.lra_tests_operations.specs.Crates.lra_operations_list.TreeOperations.{op_at_point_view}
use Rattle.lra_tests_operations.proofs.Silent.{silent_more, silent_tree, none_listed}
use Rattle.lra_tests_operations.proofs.listings.accesses_nothing.Goals as goal

pub doings-init : goal.doings-init
doings-init c = tt

pub doings-preserved : goal.doings-preserved
doings-preserved c =
    let v = c.in_ok-accesses.field-0 in
    let none : length v.items ≡ 0 = grind (arith, common_steps) in
    silent_more c.deref-item-items.result.now c.item-item.result c.doings.item-index c.doings.invariant
    (omega (arith, c.doings-test.true, c.doings.auto.item-index-end)) c.item-item.is
    (none_listed v.items _ none c.in_ok-accesses.ensures)

pub returns : goal.returns
returns c e q =
    silent_tree (node_view c.args.tree.now) c.deref-item-items.result.now c.doings.item-index
    (ap (map op_at_point_view) c.deref-item-items.ensures.value ∙ c.in_ok-done.ensures) c.doings-test.false c.doings.invariant q
