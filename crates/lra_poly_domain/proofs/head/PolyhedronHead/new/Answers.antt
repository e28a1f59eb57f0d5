-- Goals of `PolyhedronHead::new`: the head with this value and these widening thresholds.
use Rattle.lra_poly_domain.proofs.RepresentableLemmas.{head_is_formed}
use Rattle.lra_poly_domain.proofs.head.PolyhedronHead.new.Goals as goal

pub returns-clause-formed : goal.returns-clause-formed
returns-clause-formed c =
    head_is_formed c.args.value c.args.given c.rows-rows.result.now c.rows-formed.ensures.formed c.requires
    c.rows-rows.ensures.rows c.rows-rows.ensures.widths c.rows-rows.ensures.in_range
