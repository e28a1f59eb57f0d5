-- Goals of `close_within`: the matrix with the variables in these intervals, closed.
use Rattle.lra_octagon.specs.Content.{matrix_view}
use Rattle.lra_octagon.proofs.OtherLemmas.{bounded_to}
use Rattle.lra_octagon.proofs.unary.close_within.Goals as goal

pub returns-clause-bounded : goal.returns-clause-bounded
returns-clause-bounded c = bounded_to c.args.n c.args.intervals.now c.args.matrix.cells c.bound_all-doubled.new.matrix.cells
    (matrix_view c.close-closed.result.0) c.bound_all-doubled.result c.close-closed.result.1 c.worse.result c.bound_all-doubled.ensures.bounds
    c.close-closed.ensures.closed c.worse.ensures.exact c.worse.ensures.flagged
