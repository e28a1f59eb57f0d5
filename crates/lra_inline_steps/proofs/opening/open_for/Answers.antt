-- Goals of `open_for`: a `for`, and how it begins.
use Rattle.std.proofs.Common.{map}
use Rattle.lra_program.specs.ProgramViews.{item_view, items_of}
use Rattle.lra_inline_steps.specs.Inlining.{points_in, program_around}
use Rattle.lra_inline_steps.proofs.FirstSteps.{for_opens}
use Rattle.lra_inline_steps.proofs.opening.open_for.Goals as goal

pub returns-clause-leads : goal.returns-clause-leads
returns-clause-leads c =
    let here = c.args.here.now in
    for_opens (program_around here) here.path.now here.frame (points_in c.args.sites.now) (items_of (map item_view c.args.init.now)) c.args.repeated.now (points_in c.add_point.new.sites)
    c.args.label c.in_ok-point.point c.in-Some.live c.in_ok-point.ensures.number c.in-Some.ensures c.in_ok-point.ensures.walked c.requires
