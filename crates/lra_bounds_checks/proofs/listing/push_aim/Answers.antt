-- Goals of `push_aim`: an element that gets a value comes after the accesses of its index.
use Rattle.std.proofs.Common.{refl, map}
use Rattle.lra_program.specs.{Accesses.aim_accesses, Accesses.expr_accesses, ProgramViews.element_view, ProgramViews.expr_view}
use Rattle.lra_bounds_checks.specs.Listed.{access_view}
use Rattle.lra_bounds_checks.proofs.ListedSteps.{one_behind}
use Rattle.lra_bounds_checks.proofs.listing.push_aim.Goals as goal

pub returns : goal.returns
returns c =
    one_behind (map access_view c.args.all.now.items) c.push_accesses.new.all.items c.push.new.self.items _ (element_view c.args.element.now)
    (expr_accesses (expr_view c.args.element.now.index)) (aim_accesses (element_view c.args.element.now)) c.in_ok-push_accesses.ensures
    c.in_ok-push.ensures.items refl refl
