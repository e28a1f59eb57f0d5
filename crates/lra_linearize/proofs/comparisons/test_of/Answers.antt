-- Goals of `test_of`: the test of a comparison whose left side minus its right one is `d`; none of `!=`, nor if
-- a number passes 64 bits.
use Rattle.lra_linearize.proofs.FormSteps.{fitting_is}
use Rattle.lra_linearize.proofs.comparisons.test_of.Goals as goal

pub returns-in_ok-form-in-Below : goal.returns-in_ok-form-in-Below
returns-in_ok-form-in-Below c = rw (c.in-Below.is, ← fitting_is _ _ c.in_ok-form-in-Below.ensures) c.at_least_zero_of.ensures

pub returns-in_ok-form-in-AtMost : goal.returns-in_ok-form-in-AtMost
returns-in_ok-form-in-AtMost c = rw (c.in-AtMost.is, ← c.in_ok-form-in-AtMost.ensures) c.at_least_zero_of-in-AtMost.ensures
