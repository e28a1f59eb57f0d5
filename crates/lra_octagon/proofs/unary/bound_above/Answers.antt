-- Goals of `bound_above`: a signed variable is at most a number.
use Rattle.std.proofs.Common.{rules}
use Rattle.lra_octagon.proofs.EnterLemmas.{bound_entered}
use Rattle.lra_octagon.proofs.unary.bound_above.Goals as goal

pub returns-clause-bounds : goal.returns-clause-bounds
returns-clause-bounds c =
    rw c.in-Some.is (bound_entered c.args.n c.args.i c.in-Some.number c.in-Some-add.twice c.args.matrix.now.cells c.enter.new.self.cells
    c.requires.row c.requires.is (search rules) (search rules) (search rules))
