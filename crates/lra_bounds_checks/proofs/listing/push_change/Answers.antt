-- Goals of `push_change`: an element that gets a value comes before what it gets, and before arguments.
use Rattle.std.proofs.Common.{ap, map}
use Rattle.lra_program.specs.Accesses.{aim_accesses, arguments_accesses, expr_accesses, op_accesses}
use Rattle.lra_program.specs.ProgramViews.{argument_view, element_view, expr_view}
use Rattle.lra_bounds_checks.specs.Crates.lra_operations.declared.tree.Op as declared
use Rattle.lra_bounds_checks.specs.Crates.lra_operations.TreeViews.{op_view}
use Rattle.lra_bounds_checks.specs.Listed.{access_view}
use Rattle.lra_bounds_checks.proofs.ListedSteps.{ok_behind}
use Rattle.lra_bounds_checks.proofs.listing.push_change.Goals as goal

pub returns-in_ok-push_aim-in-StoreElement : goal.returns-in_ok-push_aim-in-StoreElement
returns-in_ok-push_aim-in-StoreElement c =
    ok_behind c.push_accesses-in-StoreElement.result (map access_view c.args.all.now.items) (map access_view c.push_aim.new.all.items)
    (map access_view c.push_accesses-in-StoreElement.new.all.items) (aim_accesses (element_view c.in-StoreElement.element))
    (expr_accesses (expr_view c.in-StoreElement.e)) (op_accesses (op_view c.args.op.now)) c.in_ok-push_aim-in-StoreElement.ensures
    c.push_accesses-in-StoreElement.ensures (ap (λ (o : declared.Op). op_accesses (op_view o)) c.in-StoreElement.is)

pub returns-in_ok-push_aim-in-PushFor : goal.returns-in_ok-push_aim-in-PushFor
returns-in_ok-push_aim-in-PushFor c =
    ok_behind c.push_arguments-in-PushFor.result (map access_view c.args.all.now.items) (map access_view c.push_aim-in-PushFor.new.all.items)
    (map access_view c.push_arguments-in-PushFor.new.all.items) (aim_accesses (element_view c.in-PushFor.element))
    (arguments_accesses (map argument_view c.in-PushFor.arguments.items)) (op_accesses (op_view c.args.op.now)) c.in_ok-push_aim-in-PushFor.ensures
    (rw c.as_slice-in-PushFor.ensures.value at c.push_arguments-in-PushFor.ensures)
    (ap (λ (o : declared.Op). op_accesses (op_view o)) c.in-PushFor.is)
