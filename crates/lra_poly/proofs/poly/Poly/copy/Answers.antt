-- Goals of `Poly::copy`: the same polyhedron again.
use Rattle.lra_poly.proofs.RepresentableLemmas.{copied}
use Rattle.lra_poly.proofs.poly.Poly.copy.Goals as goal

pub invariant_of-result : goal.invariant_of-result
invariant_of-result c =
    copied c.self.inside.rows c.in_ok-copy.field-0 c.self.inside.by_generators c.in_ok-copy-2.field-0 c.self.inside.saturation c.in_ok-copy-3.field-0 c.in_ok-copy.ensures c.in_ok-copy-2.ensures
    c.in_ok-copy-3.ensures c.self.invariant
