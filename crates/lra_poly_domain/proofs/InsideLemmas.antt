-- What an inclusion answers.
use Rattle.std.proofs.Common.{◌≡◌, subst}
use Rattle.lra_domain.specs.declared.Included.{Included}
use Rattle.lra_linear_spec.specs.{Descriptions.Con, Points.IsWithin, Polyhedra.Polyhedron}
use Rattle.lra_poly_domain.specs.Content.{PolyhedronAnswers, PolyhedronLeq}

pub outside : (p q : Polyhedron) → ¬ (IsWithin p.dims (Con p.rows) (Con q.rows)) → ¬ (PolyhedronLeq p q)
outside p q h c = h c.within

pub said : (p q : Polyhedron) (i j : Included) → i ≡ j → PolyhedronAnswers p q i → PolyhedronAnswers p q j
said p q i j e a = subst (PolyhedronAnswers p q) e a
