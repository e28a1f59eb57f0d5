-- Goals of `leave_loop`: the value at the head and what its round found, and after it what that value leaves if
-- the condition is false.
use Rattle.std.proofs.Common.{ap, ◌∙◌, false}
use Rattle.lra_fixpoint.specs.Crates.{lra_analysis_spec.MovesOf.guard, lra_analysis_spec.Operations.lossy_operations, lra_program.ProgramViews.cond_view}
use Rattle.lra_fixpoint.proofs.Crates.lra_analysis_spec.Takes.{takes_made}
use Rattle.lra_pass_results.specs.Outcome.{headed, outcome_view}
use Rattle.lra_fixpoint.proofs.loops.leave_loop.Goals as goal

pub returns-clause-left : goal.returns-clause-left
returns-clause-left g c =
    let m = g.D.Domain.abstraction in
    let l = c.args.the_loop.now in
    let out = c.filter_condition.new.value in (
      out,
      c.in_ok-exactness.exactness,
      takes_made (lossy_operations m) (guard (m.dims c.args.top) l.base false (cond_view l.condition.now)) c.args.top out
          c.in_ok-exactness.exactness c.in_ok-exactness.ensures.leaves,
      c.in_ok-found.ensures out c.note.result ∙
          ap (λ f. record (headed c.args.the_loop.now.point c.args.top (outcome_view c.args.last)) { normal = out; flag = f }) c.note.ensures,
    )
