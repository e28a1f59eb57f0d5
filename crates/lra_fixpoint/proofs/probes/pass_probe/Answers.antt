-- Goals of `pass_probe`: others act, or what a variable got is noted.
use Rattle.std.proofs.{Common.◌≡◌, Common.[], Common.◌∷◌, Common.sym, Common.subst, lemmas.Result.IfOk-weaker}
use Rattle.std.specs.Prelude.{IfOk}
use Rattle.lra_operations.specs.Tree.{probe}
use Rattle.lra_fixpoint.specs.Crates.lra_analysis_spec.Pass.{recorded, goes_on}
use Rattle.lra_pass_results.specs.Outcome.{outcome_view, IsPassed}
use Rattle.lra_fixpoint.proofs.ProbeSteps.{noting_passed}
use Rattle.lra_fixpoint.proofs.probes.pass_probe.Goals as goal

pub returns-in-InterferencePoint : goal.returns-in-InterferencePoint
returns-in-InterferencePoint g c plan =
    let o = g.F.Interfere.interference c.args.others.now in
    let m = g.D.Domain.abstraction in
    subst (λ x. IfOk c.admit.result (λ r. IsPassed o m plan (probe c.args.point x) c.args.flag c.args.value (outcome_view r)))
    (sym c.in-InterferencePoint.is) (c.admit.ensures plan)

pub returns-in-RecordWrite : goal.returns-in-RecordWrite
returns-in-RecordWrite g c plan =
    let o = g.F.Interfere.interference c.args.others.now in
    let m = g.D.Domain.abstraction in
    let at = c.args.point in
    let place = c.in-RecordWrite.variable in
    subst (λ x. IfOk c.record_write.result (λ r. IsPassed o m plan (probe at x) c.args.flag c.args.value (outcome_view r)))
    (sym c.in-RecordWrite.is) (IfOk-weaker c.record_write.result
    (λ r. outcome_view r ≡ goes_on (recorded at place c.args.value ∷ []) c.args.value c.args.flag) _
    (λ r is. noting_passed o m plan at c.args.flag c.args.value place (outcome_view r) is) c.record_write.ensures)
