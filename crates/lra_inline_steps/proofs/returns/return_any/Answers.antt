-- Goals of `return_any`: a `return` without a value.
use Rattle.std.proofs.Common.{refl}
use Rattle.lra_operations.specs.TreeViews.{node_view}
use Rattle.lra_inline_steps.specs.Inlining.{points_in, program_around}
use Rattle.lra_inline_steps.proofs.{OpenFrames.closed_ok, Writing.any_returned}
use Rattle.lra_inline_steps.proofs.returns.return_any.Goals as goal

pub returns-clause-leads : goal.returns-clause-leads
returns-clause-leads c =
    let here = c.args.here.now in
    closed_ok (program_around here) c.close.result _ _ c.leave_any.result here.frame.live c.close.ensures.written c.leave_any.ensures
    (λ g a. (
      (
        any_returned (program_around here) here.path.now here.frame (points_in c.open_point.new.sites) c.in_ok-point.point c.requires.back_low (points_in c.args.sites.now) c.args.label
            (node_view g) c.in_ok-point.ensures.number c.in_ok-point.ensures.walked a,
        refl,
      ),
      refl,
    ))
