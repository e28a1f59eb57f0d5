-- Goals of `into_parts`: the lists keep the limit, as those of each polyhedron do.
use Rattle.std.proofs.Common.{subst}
use Rattle.lra_poly.specs.Crates.{lra_linear_spec.Polyhedra.Polyhedron, lra_linear_spec.Representable.KeepsLimit}
use Rattle.lra_poly.proofs.poly.Poly.into_parts.Goals as goal

pub returns-clause-limit : goal.returns-clause-limit
returns-clause-limit c = subst (λ (p : Polyhedron). KeepsLimit p) c.self.view_is c.self.invariant.4
