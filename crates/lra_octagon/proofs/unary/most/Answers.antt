-- Goals of `most`: the greatest value of the signed variable that the matrix allows, rounded down.
use Rattle.std.proofs.Common.{rules}
use Rattle.lra_octagon.specs.Tables.{IsHalf}
use Rattle.lra_octagon.proofs.PartLemmas.{half_of_bound}
use Rattle.lra_octagon.proofs.unary.most.Goals as goal

pub returns-in-Some-clause-half : goal.returns-in-Some-clause-half
returns-in-Some-clause-half c =
    let half : IsHalf c.div_euclid.result =
    half_of_bound c.args.n c.args.matrix.now.cells c.opposite.result c.args.i c.bound.result c.in-Some.twice c.div_euclid.result c.requires.is (search rules) c.in-Some.is (search rules) in
    search rules
