-- Goals of `Poly::is_empty`: whether it has no point.
use Rattle.std.proofs.Common.{refl}
use Rattle.lra_poly.specs.Crates.{lra_linear_spec.Polyhedra.Polyhedron, lra_systems.LinearSystems.constraints, lra_systems.LinearSystems.generators}
use Rattle.lra_poly.proofs.PolyLemmas.{emptiness}
use Rattle.lra_poly.proofs.poly.Poly.is_empty.Goals as goal

pub returns : goal.returns
returns c =
    let list = c.self.inside.by_generators in
    let p : Polyhedron = record { dims = c.self.inside.rows.dims; rows = constraints c.self.inside.rows; generators = generators list } in
    rw (← c.self.view_is) (emptiness p list c.kinds.result.now c.is_empty.result c.self.invariant.0 refl c.kinds.ensures.kinds c.kinds.ensures.len c.is_empty.ensures)
