use Rattle.std.proofs.Common.{◌≡◌, ◌++◌, drop, map}
use Rattle.lra_program.specs.{Accesses.arguments_accesses, ProgramViews.argument_view}
use Rattle.lra_bounds_checks.specs.Listed.{access_view}
use Rattle.lra_bounds_checks.proofs.listing.push_arguments.Given as goal

abbrev pub invariant-arguments : goal.invariant-arguments
invariant-arguments l =
    map access_view l.all.items ++ arguments_accesses (map argument_view (drop l.argument-index l.arguments)) ≡
    map access_view l.fn.all.items ++ arguments_accesses (map argument_view l.arguments)
