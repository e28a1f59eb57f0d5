-- Goals of `leave_divided`: what the test leaves in both cases of the division.
use Rattle.std.proofs.Common.{◌≡◌, None, Some, refl, sym, ◌∙◌}
use Rattle.lra_transfer.specs.Crates.{lra_analysis_spec.Linear.comparison_test, lra_analysis_spec.Operations.lossy_operations, lra_base.OperatorViews.comparison_view}
use Rattle.lra_transfer.proofs.Crates.lra_analysis_spec.Takes.{stay_takes}
use Rattle.lra_transfer.proofs.ChangeSteps.{test_stays}
use Rattle.lra_transfer.proofs.comparisons.leave_divided.Goals as goal

pub change_in_cases-requires-clause-stays : goal.change_in_cases-requires-clause-stays
change_in_cases-requires-clause-stays g c =
    test_stays c.args.op c.args.d.now c.in-Some.test (g.D.Domain.abstraction.dims c.args.value.now) c.requires.width
    (sym c.in_ok-test_of.ensures ∙ c.in-Some.is)

pub returns-in-None-clause-leaves : goal.returns-in-None-clause-leaves
returns-in-None-clause-leaves g c =
    let none : comparison_test (comparison_view c.args.op) c.args.d.now ≡ None = sym c.in_ok-test_of.ensures ∙ c.in-None.is in
    rw none ((stay_takes (lossy_operations g.D.Domain.abstraction) c.args.value.now c.args.before c.args.value.now c.args.before).0 (refl, refl))

pub returns-in_ok-exactness-in-Some-clause-leaves : goal.returns-in_ok-exactness-in-Some-clause-leaves
returns-in_ok-exactness-in-Some-clause-leaves g c =
    let some : comparison_test (comparison_view c.args.op) c.args.d.now ≡ Some c.in-Some.test = sym c.in_ok-test_of.ensures ∙ c.in-Some.is in
    rw some (c.in_ok-exactness-in-Some.exactness, c.in_ok-exactness-in-Some.ensures.changes, c.worse.ensures.is)
