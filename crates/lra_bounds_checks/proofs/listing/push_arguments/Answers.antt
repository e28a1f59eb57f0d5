-- Goals of `push_arguments`: the accesses of one argument after those of the others.
use Rattle.std.proofs.Common.{List, refl, map}
use Rattle.lra_program.specs.{Accesses.arguments_accesses, Accesses.expr_accesses, ProgramViews.argument_view, ProgramViews.expr_view, declared.program.Argument.Argument}
use Rattle.lra_bounds_checks.specs.Listed.{access_view}
use Rattle.lra_bounds_checks.proofs.ListedSteps.{next_behind}
use Rattle.lra_bounds_checks.proofs.listing.push_arguments.Goals as goal

pub arguments-preserved : goal.arguments-preserved
arguments-preserved c =
    next_behind (λ (a : Argument). expr_accesses (expr_view a.value)) (λ (given : List Argument). arguments_accesses (map argument_view given))
    (λ a given. refl) (map access_view c.arguments.all.items) (map access_view c.push_accesses.new.all.items) _ c.args.arguments.now c.arguments.argument-index
    c.argument-item.result c.arguments-test.true c.argument-item.is c.arguments.invariant c.in_ok-push_accesses.ensures
