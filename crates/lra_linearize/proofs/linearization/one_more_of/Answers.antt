-- Goals of `one_more_of`: the form plus one, if all its numbers have 64 bits.
use Rattle.std.proofs.Common.{rules, ◌≡◌, negsuc, length}
use Rattle.lra_analysis_spec.specs.Linear.{constant_form}
use Rattle.lra_linearize.proofs.LinearizationSteps.{one_more_is}
use Rattle.lra_linearize.proofs.linearization.one_more_of.Goals as goal

pub returns : goal.returns
returns c =
    let is : c.in_ok-less_one.less_one ≡ constant_form (length c.args.f.now.coefficients) (negsuc 0) = search rules in
    one_more_is c.args.f.now c.in_ok-less_one.less_one c.in_ok-form.form is c.in_ok-form.ensures
