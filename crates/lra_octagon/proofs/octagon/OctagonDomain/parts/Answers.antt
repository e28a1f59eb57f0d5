-- Goals of `OctagonDomain::parts`.
use Rattle.lra_octagon.specs.{Content.matrix_view, Laws.sized_stores}
use Rattle.lra_octagon.proofs.MeanLemmas.{stores_hold, parts_dims}
use Rattle.lra_octagon.proofs.octagon.OctagonDomain.parts.Goals as goal

pub returns-clause-dims : goal.returns-clause-dims
returns-clause-dims c = rw (c.in_ok-parts.ensures, ← c.self.view_is) (parts_dims c.self.inside.dims (matrix_view c.self.inside.matrix))

pub returns-clause-hold : goal.returns-clause-hold
returns-clause-hold c = rw (c.in_ok-parts.ensures, ← c.self.view_is)
    (λ s h. stores_hold c.self.inside.dims (matrix_view c.self.inside.matrix) s (sized_stores c.self.inside.dims (matrix_view c.self.inside.matrix) s h) h)
