-- Goals of `matrix_tells`: the least and the greatest value of the form, as the matrix states them.
use Rattle.std.proofs.Common.{rules, ◌≡◌, ◌∙◌, sym}
use Rattle.lra_octagon.specs.FormValues.{one_below, two_below}
use Rattle.lra_octagon.proofs.form_bounds.matrix_tells.Goals as goal

pub term_ends-requires-clause-row : goal.term_ends-requires-clause-row
term_ends-requires-clause-row c =
    let row : c.coefficients.result.now ≡ c.args.e.now.coefficients = search rules in
    let is = rw row at (sym c.in-One.is ∙ c.shape_of_form.ensures.shape) in
    rw c.requires.width at (one_below c.args.e.now.coefficients c.in-One.magnitude c.in-One.i is)

pub sum_ends-requires-clause-row : goal.sum_ends-requires-clause-row
sum_ends-requires-clause-row c =
    let row : c.coefficients.result.now ≡ c.args.e.now.coefficients = search rules in
    let is = rw row at (sym c.in-Two.is ∙ c.shape_of_form.ensures.shape) in
    rw c.requires.width at (two_below c.args.e.now.coefficients c.in-Two.magnitude c.in-Two.i c.in-Two.j is).0

pub sum_ends-requires-clause-column : goal.sum_ends-requires-clause-column
sum_ends-requires-clause-column c =
    let row : c.coefficients.result.now ≡ c.args.e.now.coefficients = search rules in
    let is = rw row at (sym c.in-Two.is ∙ c.shape_of_form.ensures.shape) in
    rw c.requires.width at (two_below c.args.e.now.coefficients c.in-Two.magnitude c.in-Two.i c.in-Two.j is).1
