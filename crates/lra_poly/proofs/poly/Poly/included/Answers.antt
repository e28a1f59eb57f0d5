-- Goals of `Poly::included`: whether each point is in the other.
use Rattle.lra_poly.specs.Crates.{lra_linear_spec.Polyhedra.Polyhedron, lra_systems.LinearSystems.constraints, lra_systems.LinearSystems.generators}
use Rattle.lra_duality.proofs.InclusionLemmas.{inclusion_tells}
use Rattle.lra_poly.proofs.poly.Poly.included.Goals as goal

pub returns-clause-tells : goal.returns-clause-tells
returns-clause-tells c =
    let p : Polyhedron = record { dims = c.self.inside.rows.dims; rows = constraints c.self.inside.rows; generators = generators c.self.inside.by_generators } in
    let q : Polyhedron = record { dims = c.other.inside.rows.dims; rows = constraints c.other.inside.rows; generators = generators c.other.inside.by_generators } in
    rw (← c.self.view_is, ← c.other.view_is) (inclusion_tells p q c.inclusion_of.result c.self.invariant.0 c.inclusion_of.ensures)
