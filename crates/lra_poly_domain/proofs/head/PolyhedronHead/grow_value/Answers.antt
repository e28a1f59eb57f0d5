-- Goals of `PolyhedronHead::grow_value`: what it becomes by next, which isn't in its value.
use Rattle.lra_poly_domain.specs.Crates.lra_systems.LinearSystems.{constraints}
use Rattle.lra_poly_domain.specs.Growth.{head}
use Rattle.lra_poly_domain.proofs.GrowthLemmas.{grew, grew_lower}
use Rattle.lra_poly_domain.proofs.head.PolyhedronHead.grow_value.Goals as goal

pub returns-clause-grew : goal.returns-clause-grew
returns-clause-grew c =
    rw (c.in_ok-new.ensures.content, ← c.self.view_is)
    (grew (head c.self.inside.value (constraints c.self.inside.thresholds)) c.args.next.now c.args.mode (head c.in_ok-growth.growth.value (constraints c.in_ok-growth.growth.thresholds))
    c.in_ok-growth.growth.exactness (rw c.in_ok-new.ensures.content at c.in_ok-new.ensures.formed)
    (rw (← c.self.view_is) at c.requires.dims) (rw (← c.self.view_is) at c.requires.outside) c.in_ok-growth.ensures.grown)

pub returns-clause-lower : goal.returns-clause-lower
returns-clause-lower c =
    rw (c.in_ok-new.ensures.content, ← c.self.view_is)
    (grew_lower (head c.self.inside.value (constraints c.self.inside.thresholds)) c.args.next.now c.args.mode (head c.in_ok-growth.growth.value (constraints c.in_ok-growth.growth.thresholds))
    c.in_ok-growth.growth.exactness c.rows-others.ensures.canonical (rw (← c.self.view_is) at c.requires.dims) (rw (← c.self.view_is) at c.requires.outside) c.in_ok-growth.ensures.grown)
