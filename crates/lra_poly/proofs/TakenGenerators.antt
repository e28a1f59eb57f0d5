-- An operation that takes in generators which give its exact result.
use Rattle.std.proofs.Common.{◌≡◌, ℕ, List, subst, inl, inr}
use Rattle.lra_poly.specs.Crates.lra_linear_spec.OperationStrain.{FromGeneratorsStrains, GeneratorsStrain, with_positivity}
use Rattle.lra_poly.specs.Crates.lra_linear_spec.Points.{IsWithin, PointSet, SameSet}
use Rattle.lra_poly.specs.Crates.{lra_linear_spec.Descriptions.Gen, lra_linear_spec.Descriptions.LinearRow, lra_linear_spec.Polyhedra.Polyhedron, lra_linear_spec.Strain.Loss}
use Rattle.lra_poly.specs.Crates.{lra_linear_spec.declared.GenKind.GenKind, lra_systems.LinearSystems.LinearSystem, lra_systems.LinearSystems.generators}
use Rattle.lra_poly.specs.{Outcomes.Becomes, Outcomes.IsOfGenerators, declared.outcome.Outcome.Outcome}
use Rattle.lra_poly.proofs.PolyLemmas.{becomes_same, result_strain}

-- the list, which stands for these generators, gives the set
pub record Takes (n : ℕ) (S : PointSet) (given : List LinearRow) (list : LinearSystem GenKind) : Type 0 where
  pub dimensions : list.dims ≡ n
  pub are : generators list ≡ given
  pub same : SameSet n S (Gen given)

taken_strain : (n : ℕ) (S : PointSet) (given : List LinearRow) (loss : Loss) → SameSet n S (Gen given) →
    FromGeneratorsStrains n given loss → GeneratorsStrain n S given loss
taken_strain n S given loss same (inl a) = inl a
taken_strain n S given loss same (inr b) = inr (result_strain n S (Gen given)
    (λ p. with_positivity n p.rows) loss same b)

pub taken_becomes : (n : ℕ) (S : PointSet) (given : List LinearRow) (list : LinearSystem GenKind) (strains : Loss → Type 0)
    (p : Polyhedron) (o : Outcome) → Takes n S given list →
    ((loss : Loss) → GeneratorsStrain n S given loss → strains loss) →
    IsOfGenerators list.dims (generators list) p o → Becomes n S strains p o
taken_becomes n S given list strains p o t says b =
    becomes_same n S (Gen given) strains (FromGeneratorsStrains n given) p o t.same
    (λ loss s. says loss (taken_strain n S given loss t.same s))
    (subst (λ (l : List LinearRow). IsOfGenerators n l p o) t.are
    (subst (λ (d : ℕ). IsOfGenerators d (generators list) p o) t.dimensions b))

pub taken_inside : (n : ℕ) (S : PointSet) (given : List LinearRow) (list : LinearSystem GenKind) (P : PointSet) →
    Takes n S given list → IsWithin n S P → IsWithin n (Gen (generators list)) P
taken_inside n S given list P t h x i g = h x i (t.same.1 x i (subst (λ (l : List LinearRow). Gen l x) t.are g))
