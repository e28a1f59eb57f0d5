-- Goals of `open_loop`: a loop, and its rounds.
use Rattle.lra_inline_steps.specs.Inlining.{points_in, program_around}
use Rattle.lra_inline_steps.proofs.FirstSteps.{loop_opens}
use Rattle.lra_inline_steps.proofs.opening.open_loop.Goals as goal

pub returns-clause-leads : goal.returns-clause-leads
returns-clause-leads c =
    let here = c.args.here.now in
    let (step, is, rounds) = c.open_rounds.ensures in
    rw (rounds, is) (loop_opens (program_around here) here.path.now here.frame (points_in c.args.sites.now) (points_in c.open_point.new.sites)
    c.args.label c.in_ok-point.point
    c.in_ok-point.ensures.number c.in_ok-point.ensures.walked c.args.repeated.now c.requires)
