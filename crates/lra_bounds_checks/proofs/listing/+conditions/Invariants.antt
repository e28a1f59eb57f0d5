use Rattle.std.proofs.Common.{◌≡◌, ◌++◌, drop, map}
use Rattle.lra_program.specs.ProgramViews.{cond_view}
use Rattle.lra_bounds_checks.specs.Listed.{access_view, side_accesses}
use Rattle.lra_bounds_checks.proofs.listing.+conditions.Given as goal

abbrev pub invariant-push_sides-conditions : goal.invariant-push_sides-conditions
invariant-push_sides-conditions l =
    map access_view l.all.items ++ side_accesses (map cond_view (drop l.condition-index l.conditions)) ≡
    map access_view l.fn.all.items ++ side_accesses (map cond_view l.conditions)
