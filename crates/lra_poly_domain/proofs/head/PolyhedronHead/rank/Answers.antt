-- Goals of `PolyhedronHead::rank`: what a head holds is formed.
use Rattle.std.proofs.Common.{subst}
use Rattle.lra_poly_domain.specs.Content.{WellFormedHead}
use Rattle.lra_poly_domain.proofs.RepresentableLemmas.{head_is_formed}
use Rattle.lra_poly_domain.proofs.head.PolyhedronHead.rank.Goals as goal

pub returns-clause-formed : goal.returns-clause-formed
returns-clause-formed c =
    subst WellFormedHead c.self.view_is (head_is_formed c.self.inside.value c.self.inside.thresholds c.rows-rows.result.now
    c.rows-formed.ensures.formed c.self.invariant.0 c.rows-rows.ensures.rows c.rows-rows.ensures.widths c.rows-rows.ensures.in_range)
