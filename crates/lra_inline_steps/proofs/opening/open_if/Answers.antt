-- Goals of `open_if`: a choice, and its first branch.
use Rattle.std.proofs.Common.{refl}
use Rattle.lra_inline_steps.specs.Inlining.{points_in, program_around}
use Rattle.lra_inline_steps.proofs.FirstSteps.{if_opens}
use Rattle.lra_inline_steps.proofs.opening.open_if.Goals as goal

pub returns-clause-leads : goal.returns-clause-leads
returns-clause-leads c =
    let here = c.args.here.now in
    if_opens (program_around here) here.path.now here.frame (points_in c.args.sites.now) (points_in c.open_point.new.sites) c.args.label c.in_ok-point.point c.in_ok-point.ensures.number
    c.in_ok-point.ensures.walked (record { point = c.in_ok-point.point; cond = c.args.cond; on_false = c.args.on_false }) c.args.on_true.now refl c.requires
