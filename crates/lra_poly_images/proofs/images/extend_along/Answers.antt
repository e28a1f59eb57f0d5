-- Goals of `extend_along`: the polyhedron with anything as coordinate x, by the lists at hand.
use Rattle.std.proofs.lemmas.Result.{IfOk-weaker}
use Rattle.lra_poly_images.specs.Crates.lra_systems.LinearSystems.{generators}
use Rattle.lra_poly_images.proofs.ForgetLemmas.{forget_extended}
use Rattle.lra_poly_images.proofs.images.extend_along.Goals as goal

pub returns : goal.returns
returns c =
    IfOk-weaker c.extend.result _ _ (λ made. forget_extended c.args.p.now made (generators c.in_ok-along.along) c.dims.result c.args.x c.rows-canonical.ensures.canonical c.requires
    c.dims.ensures c.in_ok-along.ensures.generators) c.extend.ensures.made
