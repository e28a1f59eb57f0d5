-- The rows of the polyhedron of all multipliers as they are made of a list's rows and kinds, and what converting
-- them reports.
use Rattle.std.specs.Prelude.{ℕ, suc, List, [], ◌∷◌, cond}
use Rattle.lra_farkas.specs.Crates.lra_linear_spec.Descriptions.{Con, LinearRow}
use Rattle.lra_farkas.specs.Crates.lra_linear_spec.OperationStrain.{FromRowsStrains}
use Rattle.lra_farkas.specs.Crates.{lra_linear_spec.Kinds.is_equality, lra_linear_spec.Points.IsEmptySet}
use Rattle.lra_farkas.specs.Crates.{lra_linear_spec.Strain.Loss, lra_linear_spec.declared.ConKind.ConKind}
use Rattle.lra_farkas.specs.declared.first.MultipliersFailure.{MultipliersFailure}
use Rattle.lra_farkas.specs.declared.first.MultipliersFailure.TheVariants.{NotImplied, Strained, Memory}

-- the columns of the inequalities among these kinds
abbrev pub columns_by_kinds : ℕ → List ConKind → List ℕ
columns_by_kinds column [] = []
columns_by_kinds column (k ∷ ks) =
    cond (is_equality k) (columns_by_kinds (suc column) ks) (column ∷ columns_by_kinds (suc column) ks)

-- why rows have no first point
abbrev pub HasNoFirst : ℕ → List LinearRow → MultipliersFailure → Type 0
HasNoFirst n rows NotImplied = IsEmptySet n (Con rows)
HasNoFirst n rows Strained = (loss : Loss) × FromRowsStrains n rows loss
HasNoFirst n rows Memory = Unit {0}

-- why rows that are converted in another order have no point; a strain is one of that order
abbrev pub HasNoPoint : ℕ → List LinearRow → MultipliersFailure → Type 0
HasNoPoint n rows NotImplied = IsEmptySet n (Con rows)
HasNoPoint n rows Strained = Unit {0}
HasNoPoint n rows Memory = Unit {0}
