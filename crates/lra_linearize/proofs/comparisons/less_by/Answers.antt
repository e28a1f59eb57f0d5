-- Goals of `less_by`: the form minus a number, if all its numbers have 64 bits.
use Rattle.std.proofs.Common.{rules, ◌≡◌, pos, length}
use Rattle.lra_analysis_spec.specs.Linear.{constant_form}
use Rattle.lra_linearize.proofs.CondSteps.{less_by_is}
use Rattle.lra_linearize.proofs.comparisons.less_by.Goals as goal

pub returns : goal.returns
returns c =
    let is : c.in_ok-constant.constant ≡ constant_form (length c.args.d.now.coefficients) (pos c.args.number) = search rules in
    less_by_is c.args.number c.args.d.now c.in_ok-constant.constant c.in_ok-form.form is c.in_ok-form.ensures
