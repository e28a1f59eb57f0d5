-- Goals of `enter`: what comes into a loop's body from the value at its head.
use Rattle.std.proofs.{Common.true, lemmas.Result.IfOk-weaker}
use Rattle.lra_fixpoint.specs.Crates.{lra_analysis_spec.MovesOf.guard, lra_analysis_spec.Operations.lossy_operations, lra_program.ProgramViews.cond_view}
use Rattle.lra_fixpoint.proofs.Crates.lra_analysis_spec.Takes.{takes_made}
use Rattle.lra_operations.specs.TreeViews.{node_view}
use Rattle.lra_pass_results.specs.Outcome.{EntersWith, IsEntered}
use Rattle.lra_pass_results.proofs.Again.{entered_with, kept_inside}
use Rattle.lra_fixpoint.proofs.loops.enter.Goals as goal

pub returns : goal.returns
returns g c others kept =
    let o = g.F.Interfere.interference others in
    let m = g.D.Domain.abstraction in
    let l = c.args.the_loop.now in
    let body = node_view l.body.now in
    let e = c.in_ok-exactness.exactness in
    let on = c.filter_condition.new.value in
    let inside = c.note-inside.result in
    let takes = rw c.in_ok-on.ensures at c.in_ok-exactness.ensures.leaves in
    let leaves = takes_made (lossy_operations m) (guard (m.dims c.args.value.now) l.base true (cond_view l.condition.now)) c.args.value.now on e takes in
    let wide = rw c.in_ok-on.ensures at c.in_ok-exactness.ensures.dims in
    IfOk-weaker c.enter_with.result (EntersWith o m l.plan.now body inside on)
    (IsEntered o m l.plan.now l.point l.base (cond_view l.condition.now) body c.args.flag c.args.value.now)
    (λ given enters. entered_with o m l.plan.now body l.point l.base (cond_view l.condition.now) c.args.flag inside
    c.args.value.now on e given leaves c.note-inside.ensures wide enters)
    (c.enter_with.ensures others l.plan.now body
    (kept_inside o m l.plan.now body l.point e c.args.flag inside c.args.kept c.note-inside.ensures kept))
