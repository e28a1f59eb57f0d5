-- The first multipliers that show a claim, and why there are none.
use Rattle.std.specs.{List.All, Prelude.◌≡◌, Prelude.◌⊎◌, Prelude.ℤ, Prelude.List, Prelude.Some, Prelude.slice_get}
use Rattle.lra_farkas.specs.Crates.lra_linear_spec.Descriptions.{LinearRow, generator, Con}
use Rattle.lra_farkas.specs.Crates.lra_linear_spec.Polyhedra.{Polyhedron, IsPolyhedronOf}
use Rattle.lra_farkas.specs.Crates.{lra_linear_spec.OperationStrain.FromRowsStrains, lra_linear_spec.Points.IsEmptySet}
use Rattle.lra_farkas.specs.Crates.{lra_linear_spec.Range.InRange, lra_linear_spec.Strain.Loss}
use Rattle.lra_multipliers.specs.Multipliers.{Multipliers, IsCheckWide}
use Rattle.lra_farkas.specs.MultiplierRows.{multiplier_dims, multiplier_rows, point_of}
use Rattle.lra_farkas.specs.declared.first.MultipliersFailure.{MultipliersFailure}
use Rattle.lra_farkas.specs.declared.first.MultipliersFailure.TheVariants.{NotImplied, Strained, Memory}

-- the first generator of the polyhedron of all multipliers
pub record AreFirst (premises : List LinearRow) (claim : List ℤ) (m : Multipliers) : Type 0 where
  pub polyhedron : Polyhedron
  pub is : IsPolyhedronOf (multiplier_dims premises) (Con (multiplier_rows premises claim)) polyhedron
  pub first : slice_get polyhedron.generators 0 ≡ Some (generator (point_of m))

-- all of them are numbers of the range
pub record MultipliersInRange (m : Multipliers) : Type 0 where
  pub divisor : InRange m.divisor
  pub constant : InRange m.constant
  pub factors : All InRange m.factors

-- the conversion of the rows exceeds a limit, or a number of the check of the first multipliers passes
abbrev pub MultipliersStrain : List LinearRow → List ℤ → Type 0
MultipliersStrain premises claim =
    ((loss : Loss) × FromRowsStrains (multiplier_dims premises) (multiplier_rows premises claim) loss)
    ⊎ ((m : Multipliers) × AreFirst premises claim m × IsCheckWide premises claim m)

abbrev pub IsMultipliersFailure : List LinearRow → List ℤ → MultipliersFailure → Type 0
IsMultipliersFailure premises claim NotImplied =
    IsEmptySet (multiplier_dims premises) (Con (multiplier_rows premises claim))
IsMultipliersFailure premises claim Strained = MultipliersStrain premises claim
IsMultipliersFailure premises claim Memory = Unit {0}
