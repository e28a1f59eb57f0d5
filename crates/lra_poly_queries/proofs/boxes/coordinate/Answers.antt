-- Goals of `coordinate`: the form whose value is the coordinate.
use Rattle.std.proofs.Common.{rules}
use Rattle.lra_poly_queries.proofs.BoxLemmas.{coordinate_made}
use Rattle.lra_poly_queries.proofs.boxes.coordinate.Goals as goal

pub returns-clause-form : goal.returns-clause-form
returns-clause-form c =
    coordinate_made c.args.n c.args.dim c.in_ok-factors.factors.items c.as_slice.result.now c.in_ok-form.form
    (search rules) (search rules) c.in_ok-form.ensures
