-- An operation that takes in constraints which give its exact result.
use Rattle.std.proofs.Common.{◌≡◌, ℕ, List, subst}
use Rattle.lra_poly_queries.specs.Crates.lra_linear_spec.OperationStrain.{ConstraintsStrain, FromRowsStrains}
use Rattle.lra_poly_queries.specs.Crates.lra_linear_spec.Points.{PointSet, SameSet}
use Rattle.lra_poly_queries.specs.Crates.{lra_linear_spec.Descriptions.Con, lra_linear_spec.Descriptions.LinearRow, lra_linear_spec.Polyhedra.Polyhedron, lra_linear_spec.declared.ConKind.ConKind}
use Rattle.lra_systems.specs.LinearSystems.{LinearSystem, constraints}
use Rattle.lra_poly.specs.{Outcomes.Becomes, Outcomes.IsOfRows, declared.outcome.Outcome.Outcome}
use Rattle.lra_poly.proofs.PolyLemmas.{becomes_same, constraints_strain}

-- the list, which stands for these constraints, gives the set
pub record TakesRows (n : ℕ) (S : PointSet) (given : List LinearRow) (list : LinearSystem ConKind) : Type 0 where
  pub dimensions : list.dims ≡ n
  pub are : constraints list ≡ given
  pub same : SameSet n S (Con given)

pub rows_becomes : (n : ℕ) (S : PointSet) (given : List LinearRow) (list : LinearSystem ConKind) (p : Polyhedron) (o : Outcome) →
    TakesRows n S given list → IsOfRows list.dims (constraints list) p o → Becomes n S (ConstraintsStrain n S given) p o
rows_becomes n S given list p o t b =
    becomes_same n S (Con given) (ConstraintsStrain n S given) (FromRowsStrains n given) p o t.same
    (λ loss s. constraints_strain n S (Con given) given loss t.same s)
    (subst (λ (l : List LinearRow). IsOfRows n l p o) t.are
    (subst (λ (d : ℕ). IsOfRows d (constraints list) p o) t.dimensions b))
