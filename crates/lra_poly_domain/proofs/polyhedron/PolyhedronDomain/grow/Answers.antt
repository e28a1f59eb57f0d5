-- Goals of `PolyhedronDomain::grow`: grows by the join with next, or by the widening with that join; is given up
-- if the inclusion is wide.
use Rattle.lra_domain.specs.{Abstraction.Grew, declared.Exactness.Exactness}
use Rattle.lra_poly_domain.specs.Abstraction.{polyhedron_abstraction}
use Rattle.lra_poly_domain.proofs.GrowthLemmas.{flagged_alone}
use Rattle.lra_poly_domain.proofs.polyhedron.PolyhedronDomain.grow.Goals as goal

pub returns-in_ok-all-in-Wide-clause-grew : goal.returns-in_ok-all-in-Wide-clause-grew
returns-in_ok-all-in-Wide-clause-grew c = λ a e.
    rw (← c.next.view_is)
    (flagged_alone a (λ (x : Exactness). Grew polyhedron_abstraction c.args.head.now c.next.inside.poly c.args.mode x c.in_ok-all-in-Wide.all) e (c.in_ok-all-in-Wide.ensures.grew c.args.mode))
