-- Goals of `push_both`: the accesses of the right side come after those of the left one.
use Rattle.std.proofs.Common.{refl, map}
use Rattle.lra_program.specs.{Accesses.expr_accesses, ProgramViews.expr_view}
use Rattle.lra_bounds_checks.specs.Listed.{access_view}
use Rattle.lra_bounds_checks.proofs.ListedSteps.{ok_behind}
use Rattle.lra_bounds_checks.proofs.listing.push_both.Goals as goal

pub returns : goal.returns
returns c =
    ok_behind c.push_accesses-2.result (map access_view c.args.all.now.items) (map access_view c.push_accesses.new.all.items)
    (map access_view c.push_accesses-2.new.all.items) (expr_accesses (expr_view c.args.left.now)) (expr_accesses (expr_view c.args.right.now)) _
    c.in_ok-push_accesses.ensures c.push_accesses-2.ensures refl
