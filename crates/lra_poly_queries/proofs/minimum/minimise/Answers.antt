-- Goals of `minimise`: with its sign turned, the greatest value of the form's opposite.
use Rattle.std.proofs.{Common.rules, Common.FitsSigned, Common.ap, Common.neg_ℤ, Common.◌∙◌, lemmas.Int.to_z-of_z}
use Rattle.std.specs.Int.{w128}
use Rattle.lra_poly_queries.specs.Crates.lra_linear_forms.Form.{form_row}
use Rattle.lra_poly_queries.proofs.MinimumLemmas.{least_place, least_value, unbounded_below}
use Rattle.lra_poly_queries.proofs.minimum.minimise.Goals as goal

pub returns-in-Unbounded-clause-tells : goal.returns-in-Unbounded-clause-tells
returns-in-Unbounded-clause-tells c =
    unbounded_below c.args.p.now (form_row c.args.form.now) c.in-Unbounded.ensures.tells

pub returns-in-At-clause-first : goal.returns-in-At-clause-first
returns-in-At-clause-first c =
    let fits_num : FitsSigned w128 c.in-At.num = search rules in
    let fits_den : FitsSigned w128 c.in-At.den = search rules in
    let fits : FitsSigned w128 c.opposite.result = search rules in
    let value = c.opposite.ensures.value ∙ ap neg_ℤ (to_z-of_z w128 c.in-At.num fits_num) in
    rw (to_z-of_z w128 c.opposite.result fits, to_z-of_z w128 c.in-At.den fits_den)
    (least_place (form_row c.args.form.now) c.args.p.now.generators c.in-At.num c.in-At.den c.opposite.result
    c.in-At.place value c.in-At.ensures.first)

pub returns-in-At-clause-tells : goal.returns-in-At-clause-tells
returns-in-At-clause-tells c =
    let fits_num : FitsSigned w128 c.in-At.num = search rules in
    let fits_den : FitsSigned w128 c.in-At.den = search rules in
    let fits : FitsSigned w128 c.opposite.result = search rules in
    let value = c.opposite.ensures.value ∙ ap neg_ℤ (to_z-of_z w128 c.in-At.num fits_num) in
    rw (to_z-of_z w128 c.opposite.result fits, to_z-of_z w128 c.in-At.den fits_den)
    (least_value c.args.p.now (form_row c.args.form.now) c.in-At.num c.in-At.den c.opposite.result value
    c.in-At.ensures.tells)

pub returns-in-At-clause-range : goal.returns-in-At-clause-range
returns-in-At-clause-range c =
    let fits_den : FitsSigned w128 c.in-At.den = search rules in
    let fits : FitsSigned w128 c.opposite.result = search rules in
    rw (to_z-of_z w128 c.opposite.result fits, to_z-of_z w128 c.in-At.den fits_den)
    (c.opposite.ensures.in_range, c.in-At.ensures.range.1)
