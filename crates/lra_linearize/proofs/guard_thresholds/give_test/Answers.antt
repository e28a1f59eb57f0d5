-- Goals of `give_test`: the rows of a test `e >= 0`.
use Rattle.std.proofs.Common.{◌∙◌, ap, suc, sym}
use Rattle.lra_linearize.proofs.GuardThresholdSteps.{test_wide}
use Rattle.lra_linearize.proofs.guard_thresholds.give_test.Goals as goal

pub push-requires : goal.push-requires
push-requires c =
    let is = rw c.in-Some.is at c.in_ok-test.ensures in
    rw c.in_ok-to_row_plus.ensures (ap suc (test_wide c.args.op c.args.d.now c.in-Some.test is ∙ c.requires.width))

pub push-requires-2 : goal.push-requires-2
push-requires-2 c =
    let is = rw c.in-Some.is at c.in_ok-test.ensures in
    rw c.in_ok-to_row_plus-2.ensures (ap suc (test_wide c.args.op c.args.d.now c.in-Some.test is ∙ c.requires.width ∙ sym c.in_ok-push.ensures.dims))
