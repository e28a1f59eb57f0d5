-- Goals of `value_with`: the product of the form with a row with which it stays in the range.
use Rattle.std.proofs.{Common.rules, Common.FitsSigned, lemmas.Int.to_z-of_z}
use Rattle.std.specs.Int.{w128}
use Rattle.lra_duality.specs.Maxima.{directed}
use Rattle.lra_duality.proofs.MaximumLemmas.{value_of_ok, value_in_range}
use Rattle.lra_duality.proofs.maximum.value_with.Goals as goal

pub returns-in-Some-clause-value : goal.returns-in-Some-clause-value
returns-in-Some-clause-value c =
    let fits : FitsSigned w128 c.in-Some.value = search rules in
    simp to_z-of_z (value_of_ok (directed c.args.form.now c.args.is_opposite) c.args.row.now c.in-Some.value c.in-Some.ensures)

pub returns-in-Some-clause-in_range : goal.returns-in-Some-clause-in_range
returns-in-Some-clause-in_range c =
    let fits : FitsSigned w128 c.in-Some.value = search rules in
    simp to_z-of_z (value_in_range (directed c.args.form.now c.args.is_opposite) c.args.row.now c.in-Some.value c.in-Some.ensures)
