-- Goals of `elapse`: the time-elapse of two that have a point each.
use Rattle.lra_poly_images.specs.Crates.lra_linear_spec.OperationStrain.{TimeElapseStrains}
use Rattle.lra_poly_images.specs.Crates.{lra_linear_spec.Descriptions.Con, lra_linear_spec.SetOperations.TimeElapse, lra_systems.LinearSystems.generators}
use Rattle.lra_poly_images.proofs.Crates.lra_duality.PolyhedronLemmas.{with_point}
use Rattle.lra_poly.proofs.PolyLemmas.{exactly}
use Rattle.lra_poly_images.proofs.ElapsedSets.{elapse_extended}
use Rattle.lra_poly_images.proofs.maps.elapse.Goals as goal

pub returns-in-Some-clause-becomes : goal.returns-in-Some-clause-becomes
returns-in-Some-clause-becomes c =
    let p = c.args.p.now in
    let q = c.args.other.now in
    let is = rw c.in-Some.is at c.in_ok-made.ensures.made in
    exactly p.dims (TimeElapse p.dims (Con p.rows) (Con q.rows)) (TimeElapseStrains p q) c.in-Some.made
    (elapse_extended p q c.in-Some.made (generators c.in_ok-along.along) (generators c.generators.result.now) (with_point p c.rows-canonical.ensures.canonical c.requires.first)
    (with_point q c.generators.ensures.canonical c.requires.second) c.requires.dims c.in_ok-along.ensures.generators c.generators.ensures.generators is)
