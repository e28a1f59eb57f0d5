-- Goals of `is_met`: whether the test is known to lower no entry.
use Rattle.std.proofs.Common.{rules, ◌≡◌}
use Rattle.lra_octagon.specs.{Forms.shape, Tables.minus_form}
use Rattle.lra_octagon.proofs.TightLemmas.{met_eq, met_ge}
use Rattle.lra_octagon.proofs.tightness.is_met.Goals as goal

pub returns-in-Ge : goal.returns-in-Ge
returns-in-Ge c = λ yes_ge.
    let e = c.args.t.now.expr in
    let row : c.coefficients.result.now ≡ e.coefficients = search rules in
    let is : c.shape_of_form-shape.result ≡ shape e = rw row at c.shape_of_form-shape.ensures.shape in
    let fits = rw (row, c.requires.width) at c.shape_of_form-shape.ensures.fits in
    met_ge c.args.n c.args.t.now.kind e c.shape_of_form-shape.result c.args.matrix.now.cells c.in-Ge.is is fits c.requires.fit.is c.requires.tight
    (c.lowers_nothing-at_least.ensures yes_ge e (search rules))

pub returns-then-at_least : goal.returns-then-at_least
returns-then-at_least c = λ yes_both.
    let e = c.args.t.now.expr in
    let row : c.coefficients.result.now ≡ e.coefficients = search rules in
    let is : c.shape_of_form-shape.result ≡ shape e = rw row at c.shape_of_form-shape.ensures.shape in
    let fits = rw (row, c.requires.width) at c.shape_of_form-shape.ensures.fits in
    met_eq c.args.n c.args.t.now.kind e c.shape_of_form-shape.result c.opposite_shape.result c.args.matrix.now.cells c.in-Eq.is is c.opposite_shape.ensures.shape
    fits c.opposite_shape.ensures.fits c.requires.fit.is c.requires.tight
    (c.lowers_nothing-at_least.ensures (search rules) e (search rules)) (c.lowers_nothing.ensures yes_both (minus_form e) (search rules))
