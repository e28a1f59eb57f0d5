-- Goals of `leave_linear`: what the test of a linear difference leaves.
use Rattle.std.proofs.Common.{◌≡◌, None, Some, refl, sym, ◌∙◌}
use Rattle.lra_transfer.specs.Crates.{lra_analysis_spec.Linear.comparison_test, lra_analysis_spec.Operations.lossy_operations, lra_base.OperatorViews.comparison_view}
use Rattle.lra_transfer.proofs.Crates.lra_analysis_spec.Takes.{stay_takes}
use Rattle.lra_linearize.proofs.GuardThresholdSteps.{test_wide}
use Rattle.lra_transfer.proofs.comparisons.leave_linear.Goals as goal

pub test-requires : goal.test-requires
test-requires g c =
    let is : Some c.in-Some.test ≡ comparison_test (comparison_view c.args.op) c.args.d.now = rw c.in-Some.is at c.in_ok-test_of.ensures in
    test_wide c.args.op c.args.d.now c.in-Some.test is ∙ c.requires.width

pub returns-in-None-clause-leaves : goal.returns-in-None-clause-leaves
returns-in-None-clause-leaves g c =
    let none : comparison_test (comparison_view c.args.op) c.args.d.now ≡ None = sym c.in_ok-test_of.ensures ∙ c.in-None.is in
    rw none ((stay_takes (lossy_operations g.D.Domain.abstraction) c.args.value.now c.args.before c.args.value.now c.args.before).0 (refl, refl))

pub returns-in_ok-exactness-in-Some-clause-leaves : goal.returns-in_ok-exactness-in-Some-clause-leaves
returns-in_ok-exactness-in-Some-clause-leaves g c =
    let some : comparison_test (comparison_view c.args.op) c.args.d.now ≡ Some c.in-Some.test =
    sym c.in_ok-test_of.ensures ∙ c.in-Some.is in
    let tested = c.in_ok-exactness-in-Some.ensures in
    rw some (c.in_ok-exactness-in-Some.exactness, (tested.meets, tested.dims, tested.capped), c.worse.ensures.is)
