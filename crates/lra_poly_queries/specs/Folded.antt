-- Dimensions folded into others: the hull of the points along the ones and along the others.
use Rattle.std.specs.Prelude.{◌⊎◌, ℕ, List, length}
use Rattle.lra_poly_queries.specs.Crates.lra_linear_spec.Polyhedra.{IsPolyhedronOf, Polyhedron}
use Rattle.lra_poly_queries.specs.Crates.lra_linear_spec.SetOperations.{Hull, Union}
use Rattle.lra_poly_queries.specs.Crates.{lra_linear_spec.Descriptions.Con, lra_linear_spec.OperationStrain.HullStrains}
use Rattle.lra_poly_queries.specs.Crates.{lra_linear_spec.Points.PointSet, lra_linear_spec.Strain.Loss}
use Rattle.lra_poly_queries.specs.Moved.{MapDimsStrains, Moved}

abbrev pub Folded : Polyhedron → List ℕ → List ℕ → PointSet
Folded p kept folded =
    Hull (length kept) (Union (Moved p.dims kept (Con p.rows)) (Moved p.dims folded (Con p.rows)))

-- the hull of the exact ones exceeds a limit
pub record MovedHullStrains (p : Polyhedron) (kept folded : List ℕ) (loss : Loss) : Type 0 where
  pub one : Polyhedron
  pub is_one : IsPolyhedronOf (length kept) (Moved p.dims kept (Con p.rows)) one
  pub two : Polyhedron
  pub is_two : IsPolyhedronOf (length kept) (Moved p.dims folded (Con p.rows)) two
  pub strains : HullStrains one two loss

abbrev pub FoldStrains : List ℕ → List ℕ → Polyhedron → Loss → Type 0
FoldStrains kept folded p loss =
    MapDimsStrains kept p loss ⊎ MapDimsStrains folded p loss ⊎ MovedHullStrains p kept folded loss
