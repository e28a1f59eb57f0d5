-- Goals of `extent_of`: the values of the coordinate.
use Rattle.std.proofs.Common.{◌∙◌, ap, ℕ}
use Rattle.lra_poly_queries.specs.Crates.lra_linear_forms.Form.{form_row}
use Rattle.lra_poly_queries.specs.Boxed.{coordinate_form}
use Rattle.lra_poly_queries.proofs.BoxLemmas.{greatest_fits, least_fits}
use Rattle.lra_poly_queries.proofs.boxes.extent_of.Goals as goal

pub least_end-least-requires-clause-fits : goal.least_end-least-requires-clause-fits
least_end-least-requires-clause-fits c =
    least_fits c.args.p.now c.args.dim (form_row c.in_ok-form.form)
    (c.in_ok-form.ensures.form ∙ ap (λ (n : ℕ). coordinate_form n c.args.dim) c.dims.ensures)
    c.generators-formed.ensures.formed.generators_in

pub greatest_end-greatest-requires-clause-fits : goal.greatest_end-greatest-requires-clause-fits
greatest_end-greatest-requires-clause-fits c =
    greatest_fits c.args.p.now c.args.dim (form_row c.in_ok-form.form)
    (c.in_ok-form.ensures.form ∙ ap (λ (n : ℕ). coordinate_form n c.args.dim) c.dims.ensures)
    c.generators-formed.ensures.formed.generators_in
