-- Goals of `lone_point`: nothing but a point.
use Rattle.std.proofs.Common.{refl}
use Rattle.lra_inline_steps.proofs.{Shown.shown_point, Writing.stmt_as, Writing.nothing_written}
use Rattle.lra_inline_steps.proofs.lone.lone_point.Goals as goal

pub returns-clause-written : goal.returns-clause-written
returns-clause-written c = λ P. stmt_as P c.args.around.now.path.now c.args.around.now.frame _ _ _ _ _ _ refl (shown_point c.in_ok-point.point)
    (nothing_written P c.args.around.now.path.now c.args.around.now.frame _ _ c.in_ok-point.point c.args.label c.in_ok-point.ensures.number c.in_ok-point.ensures.walked)
