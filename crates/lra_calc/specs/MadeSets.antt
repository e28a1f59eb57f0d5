-- The sets that lines make: without a flag by the canonical lists of exactly the points that the line reports. A
-- flagged one may have further points, and there what was given exceeds a limit.
use Rattle.std.specs.Prelude.{◌≡◌, ℕ, ℤ, Bool, true, false, List, []}
use Rattle.lra_calc.specs.Crates.lra_linear_spec.Descriptions.{LinearRow, Con as points_of, Gen as generated_by}
use Rattle.lra_calc.specs.Crates.lra_linear_spec.OperationStrain.{FromRowsStrains, FromGeneratorsStrains, MeetStrains}
use Rattle.lra_calc.specs.Crates.lra_linear_spec.OperationStrain.{HullStrains, TimeElapseStrains, ImageStrains}
use Rattle.lra_calc.specs.Crates.lra_linear_spec.OperationStrain.{PreimageStrains, ForgetStrains, StandardStrains}
use Rattle.lra_calc.specs.Crates.lra_linear_spec.OperationStrain.{LimitedStrains}
use Rattle.lra_calc.specs.Crates.lra_linear_spec.Points.{PointSet, IsWithin}
use Rattle.lra_calc.specs.Crates.lra_linear_spec.Polyhedra.{Polyhedron, IsPolyhedronOf}
use Rattle.lra_calc.specs.Crates.{lra_linear_spec.Representable.IsRepresentable, lra_linear_spec.Strain.Loss}
use Rattle.lra_calc.specs.Crates.lra_linear_spec.SetOperations as sets
use Rattle.lra_calc.specs.Crates.lra_linear_spec.Widening as widening
use Rattle.lra_script.specs.declared.recipes.Combination.TheVariants.{Meet, Hull, Elapse}
use Rattle.lra_script.specs.declared.recipes.Mapping.TheVariants.{Image, Preimage}
use Rattle.lra_script.specs.{declared.recipes.Combination.Combination, declared.recipes.Mapping.Mapping}

-- the canonical lists of a set that has all points of P, within the limit of a description and with numbers of the
-- range; what was given exceeds a limit
pub record IsFlaggedOf (n : ℕ) (P : PointSet) (Strains : Loss → Type 0) (p : Polyhedron) : Type 0 where
  pub dimensions : p.dims ≡ n
  pub formed : IsRepresentable p
  pub within : IsWithin n P (points_of p.rows)
  pub loss : Loss
  pub strains : Strains loss

-- made of what has these points, flagged or not: without a flag the canonical lists of exactly these points
abbrev pub IsMadeOf : ℕ → PointSet → (Loss → Type 0) → Bool → Polyhedron → Type 0
IsMadeOf n P Strains false p = IsPolyhedronOf n P p
IsMadeOf n P Strains true p = IsFlaggedOf n P Strains p

-- con, gen
abbrev pub IsMadeOfRows : ℕ → List LinearRow → Bool → Polyhedron → Type 0
IsMadeOfRows n rows = IsMadeOf n (points_of rows) (FromRowsStrains n rows)

abbrev pub IsMadeOfGenerators : ℕ → List LinearRow → Bool → Polyhedron → Type 0
IsMadeOfGenerators n generators = IsMadeOf n (generated_by generators) (FromGeneratorsStrains n generators)

-- meet, hull, elapse: the points of both; the least closed polyhedron with all points of both; all that is reached
-- from the first along the second
abbrev pub combined_sets : Combination → ℕ → Polyhedron → Polyhedron → PointSet
combined_sets Meet n p q = sets.Meet (points_of p.rows) (points_of q.rows)
combined_sets Hull n p q = sets.Hull n (sets.Union (points_of p.rows) (points_of q.rows))
combined_sets Elapse n p q = sets.TimeElapse n (points_of p.rows) (points_of q.rows)

abbrev pub CombiningStrains : Combination → Polyhedron → Polyhedron → Loss → Type 0
CombiningStrains Meet p q = MeetStrains p q
CombiningStrains Hull p q = HullStrains p q
CombiningStrains Elapse p q = TimeElapseStrains p q

abbrev pub IsCombined : Combination → ℕ → Polyhedron → Polyhedron → Bool → Polyhedron → Type 0
IsCombined how n p q = IsMadeOf n (combined_sets how n p q) (CombiningStrains how p q)

-- widen: of P inside Q the points at which each row of Q holds that is tight on P; Q if P is empty
abbrev pub IsWidened : ℕ → Polyhedron → Polyhedron → Bool → Polyhedron → Type 0
IsWidened n p q = IsMadeOf n (widening.StandardWidening p q) (StandardStrains p q)

-- limited: of these the points at which each widening threshold holds that is valid on both
abbrev pub IsLimited : ℕ → List LinearRow → Polyhedron → Polyhedron → Bool → Polyhedron → Type 0
IsLimited n given p q = IsMadeOf n (widening.LimitedWidening p q given) (LimitedStrains p q given)

-- all points, with a flag
abbrev pub IsAllFlagged : ℕ → Bool → Polyhedron → Type 0
IsAllFlagged n false p = ⊥
IsAllFlagged n true p = IsPolyhedronOf n (points_of []) p

-- image, preimage: the points with the form's value as coordinate k; the points that it brings into the set
abbrev pub mapped_set : Mapping → ℕ → ℕ → List ℤ → Polyhedron → PointSet
mapped_set Image n k form p = sets.Image n k form (points_of p.rows)
mapped_set Preimage n k form p = sets.Preimage k form (points_of p.rows)

abbrev pub MappingStrains : Mapping → ℕ → List ℤ → Polyhedron → Loss → Type 0
MappingStrains Image k form p = ImageStrains k form p
MappingStrains Preimage k form p = PreimageStrains k form p

abbrev pub IsMapped : Mapping → ℕ → ℕ → List ℤ → Polyhedron → Bool → Polyhedron → Type 0
IsMapped how n k form p = IsMadeOf n (mapped_set how n k form p) (MappingStrains how k form p)

-- forget: the points that some value of coordinate k brings into the set
abbrev pub IsForgotten : ℕ → ℕ → Polyhedron → Bool → Polyhedron → Type 0
IsForgotten n k p = IsMadeOf n (sets.Forget n k (points_of p.rows)) (ForgetStrains k p)
