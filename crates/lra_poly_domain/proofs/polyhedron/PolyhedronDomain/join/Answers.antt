-- Goals of `PolyhedronDomain::join`: the hull.
use Rattle.std.proofs.Common.{◌≡◌, ap, sym, ◌∙◌}
use Rattle.lra_linear_spec.specs.Polyhedra.{Polyhedron}
use Rattle.lra_poly_domain.proofs.ChangeLemmas.{joins}
use Rattle.lra_poly_domain.proofs.polyhedron.PolyhedronDomain.join.Goals as goal

pub returns-clause-joins : goal.returns-clause-joins
returns-clause-joins c =
    let same : c.other.inside.poly.dims ≡ c.self.inside.poly.dims =
    ap (λ (p : Polyhedron). p.dims) c.other.view_is ∙ sym c.requires ∙ sym (ap (λ (p : Polyhedron). p.dims) c.self.view_is) in
    rw (← c.self.view_is, ← c.other.view_is, c.exactness_of.ensures)
    (joins c.self.inside.poly c.other.inside.poly c.hull.new.self c.in_ok-outcome.outcome c.rows-rows.ensures.canonical c.rows-others.ensures.canonical
    c.rows-formed.ensures.formed same c.in_ok-outcome.ensures.becomes)
