-- A coordinate that is given up.
use Rattle.std.specs.Prelude.{◌≡◌, ◌⊎◌, ℕ}
use Rattle.lra_poly_images.specs.Crates.lra_linear_spec.OperationStrain.{ForgetStrains}
use Rattle.lra_poly_images.specs.Crates.lra_linear_spec.Polyhedra.{IsPolyhedron, IsPolyhedronOf, Polyhedron}
use Rattle.lra_poly_images.specs.Crates.{lra_linear_spec.Descriptions.Con, lra_linear_spec.Points.IsWithin}
use Rattle.lra_poly_images.specs.Crates.{lra_linear_spec.SetOperations.Forget, lra_linear_spec.Strain.Loss}

-- q has the points of p with anything as coordinate k, and no others unless forgetting that coordinate exceeds a limit
pub record IsForgetResult (k : ℕ) (p q : Polyhedron) : Type 0 where
  pub dims : q.dims ≡ p.dims
  pub canonical : IsPolyhedron q
  pub within : IsWithin p.dims (Forget p.dims k (Con p.rows)) (Con q.rows)
  pub exact : IsPolyhedronOf p.dims (Forget p.dims k (Con p.rows)) q ⊎ ((loss : Loss) × ForgetStrains k p loss)
