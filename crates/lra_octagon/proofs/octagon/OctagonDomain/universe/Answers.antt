-- Goals of `OctagonDomain::universe`.
use Rattle.std.proofs.Common.{Some}
use Rattle.lra_octagon.proofs.TightLemmas.{whole_tight}
use Rattle.lra_octagon.proofs.octagon.OctagonDomain.universe.Goals as goal

pub invariant_of-result : goal.invariant_of-result
invariant_of-result c = (
  c.requires.few,
  c.in_ok-matrix.ensures.dims,
  c.in_ok-matrix.ensures.fit,
  λ is. whole_tight c.args.n (Some c.in_ok-matrix.matrix.cells) c.in_ok-matrix.ensures.whole,
)
