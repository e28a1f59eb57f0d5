-- Goals of `OctagonExactParts::parts_are_exact`: what its rows report is all of an octagon.
use Rattle.lra_octagon.specs.Content.{matrix_view}
use Rattle.lra_octagon.proofs.MeanLemmas.{parts_mean}
use Rattle.lra_octagon.proofs.octagon.OctagonExactParts.parts_are_exact.Goals as goal

pub returns : goal.returns
returns c = rw (← c.self.view_is) (λ s long h. (parts_mean c.self.inside.dims (matrix_view c.self.inside.matrix) s c.self.invariant.2 long).1 h)
