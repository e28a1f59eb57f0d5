-- Calls on the polyhedra of two sets, reported of the sets. (That sets which are the same have the same polyhedron is
-- `same_polyhedron`.)
use Rattle.std.proofs.Common.{◌≡◌, ℕ, subst}
use Rattle.guzhtarel.specs.Crates.{lra_linear_spec.Descriptions.Con, lra_linear_spec.Points.PointSet, lra_linear_spec.Points.IsWithin, lra_linear_spec.Polyhedra.Polyhedron}
use Rattle.guzhtarel.specs.Crates.{lra_linear_spec.Polyhedra.IsPolyhedronOf, lra_linear_spec.SetOperations.Meet, lra_linear_spec.SetOperations.Union, lra_linear_spec.SetOperations.Hull}
use Rattle.lra_poly.specs.{Outcomes.IfExact, declared.outcome.Outcome.Outcome, declared.outcome.Outcome.TheVariants.Exact, declared.outcome.Outcome.TheVariants.Flagged}
pub use Rattle.lra_poly.proofs.PolyLemmas.{same_polyhedron}
use Rattle.guzhtarel.proofs.SameSets.{within_trans, meet_within, union_within, in_hull, meet_same, union_same, hull_same}

-- what an outcome says that is exact
pub where_exact : (P : Type 0) (o : Outcome) → o ≡ Exact → IfExact P o → P
where_exact P Exact e h = h
where_exact P (Flagged loss) e h = cc

-- the hull: the least closed polyhedron with all points of both sets; flagged or not, it has them
pub hulled : (n : ℕ) (P Q : PointSet) (p q r : Polyhedron) → IsPolyhedronOf n P p → IsPolyhedronOf n Q q
    → IsPolyhedronOf p.dims (Hull p.dims (Union (Con p.rows) (Con q.rows))) r → IsPolyhedronOf n (Hull n (Union P Q)) r
hulled n P Q p q r of_p of_q of_both =
    same_polyhedron n (Hull n (Union P Q)) (Hull n (Union (Con p.rows) (Con q.rows))) r
    (hull_same n (Union P Q) (Union (Con p.rows) (Con q.rows)) (union_same n P Q (Con p.rows) (Con q.rows) of_p.points of_q.points))
    (subst (λ (m : ℕ). IsPolyhedronOf m (Hull m (Union (Con p.rows) (Con q.rows))) r) of_p.dimensions of_both)

pub hull_holds : (n : ℕ) (P Q : PointSet) (p q r : Polyhedron) → p.dims ≡ n → IsWithin n P (Con p.rows) → IsWithin n Q (Con q.rows)
    → IsWithin p.dims (Hull p.dims (Union (Con p.rows) (Con q.rows))) (Con r.rows) → IsWithin n (Union P Q) (Con r.rows)
hull_holds n P Q p q r e of_p of_q of_both =
    let hull = subst (λ (m : ℕ). IsWithin m (Hull m (Union (Con p.rows) (Con q.rows))) (Con r.rows)) e of_both in
    within_trans n (Union P Q) (Union (Con p.rows) (Con q.rows)) (Con r.rows) (union_within n P Q (Con p.rows) (Con q.rows) of_p of_q)
    (within_trans n (Union (Con p.rows) (Con q.rows)) (Hull n (Union (Con p.rows) (Con q.rows))) (Con r.rows) (in_hull n (Union (Con p.rows) (Con q.rows))) hull)

-- the meet: the polyhedron of the points of both sets; flagged or not, it has them
pub met : (n : ℕ) (P Q : PointSet) (p q r : Polyhedron) → IsPolyhedronOf n P p → IsPolyhedronOf n Q q
    → IsPolyhedronOf p.dims (Meet (Con p.rows) (Con q.rows)) r → IsPolyhedronOf n (Meet P Q) r
met n P Q p q r of_p of_q of_both =
    same_polyhedron n (Meet P Q) (Meet (Con p.rows) (Con q.rows)) r (meet_same n P Q (Con p.rows) (Con q.rows) of_p.points of_q.points)
    (subst (λ (m : ℕ). IsPolyhedronOf m (Meet (Con p.rows) (Con q.rows)) r) of_p.dimensions of_both)

pub meet_holds : (n : ℕ) (P Q : PointSet) (p q r : Polyhedron) → p.dims ≡ n → IsWithin n P (Con p.rows) → IsWithin n Q (Con q.rows)
    → IsWithin p.dims (Meet (Con p.rows) (Con q.rows)) (Con r.rows) → IsWithin n (Meet P Q) (Con r.rows)
meet_holds n P Q p q r e of_p of_q of_both =
    within_trans n (Meet P Q) (Meet (Con p.rows) (Con q.rows)) (Con r.rows) (meet_within n P Q (Con p.rows) (Con q.rows) of_p of_q)
    (subst (λ (m : ℕ). IsWithin m (Meet (Con p.rows) (Con q.rows)) (Con r.rows)) e of_both)
