-- Goals of `open_call_statement`: a call that is a statement.
use Rattle.lra_program.specs.ProgramViews.{call_view}
use Rattle.lra_inline_steps.specs.Inlining.{points_in, program_around}
use Rattle.lra_inline_steps.proofs.FirstSteps.{call_opens}
use Rattle.lra_inline_steps.proofs.opening.open_call_statement.Goals as goal

pub returns-clause-leads : goal.returns-clause-leads
returns-clause-leads c =
    let here = c.args.here.now in
    call_opens (program_around here) here.path.now here.frame (points_in c.args.sites.now) (points_in c.open_point.new.sites) c.args.label c.in_ok-point.point c.in_ok-point.ensures.number
    c.in_ok-point.ensures.walked (call_view c.args.call.now) c.nobody.result c.nobody.ensures c.requires c.in_ok-point.ensures.few
