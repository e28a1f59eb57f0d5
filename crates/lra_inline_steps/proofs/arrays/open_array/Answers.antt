-- Goals of `open_array`: an array's declarator, at whose point the elements get any values.
use Rattle.std.proofs.Common.{refl}
use Rattle.lra_operations.specs.TreeViews.{node_view}
use Rattle.lra_inline_steps.specs.Inlining.{points_in, program_around}
use Rattle.lra_inline_steps.proofs.{ItemRows.filled_item, ItemRows.array_stops, OpenFrames.closed_ok, Shown.shown_act}
use Rattle.lra_inline_steps.proofs.arrays.open_array.Goals as goal

pub returns-clause-leads : goal.returns-clause-leads
returns-clause-leads c =
    let here = c.args.here.now in
    closed_ok (program_around here) c.close.result _ _ c.put_point.result here.frame.live c.close.ensures.written c.put_point.ensures
    (λ g a. (
      filled_item (program_around here) here.path.now here.frame (points_in c.args.sites.now) c.args.label c.args.array (points_in c.open_point.new.sites)
          c.in_ok-point.point _ (node_view g) c.in_ok-point.ensures.number c.in_ok-point.ensures.walked (shown_act c.in_ok-point.point _) a,
      refl,
    ))
