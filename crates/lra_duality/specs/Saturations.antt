-- Which constraints of a polyhedron are tight at which of its generators.
use Rattle.std.specs.Prelude.{◌≡◌, ◌<◌, ℕ, Bool, false, List, [], length, map, slice_index_or}
use Rattle.lra_duality.specs.Crates.lra_bits.TruthValues.{value_at, IsSubset}
use Rattle.lra_duality.specs.Crates.lra_linear_spec.Kinds.{is_equality}
use Rattle.lra_duality.specs.Crates.lra_linear_spec.declared.ConKind.{ConKind}
use Rattle.lra_duality.specs.Crates.{lra_bits.Matrix.Matrix, lra_linear_spec.declared.ConKind.TheVariants.Ge}
pub use Rattle.lra_descriptions.specs.Tightness.{saturated, saturation_of}

-- a column of the matrix
abbrev pub column : Matrix → ℕ → List Bool
column m j = map (λ bits. value_at bits j) m.rows

-- the constraint at the place is an inequality that is tight wherever the values say
pub record IsCoveredAt (kinds : List ConKind) (rows : List (List Bool)) (values : List Bool) (place : ℕ) : Type 0 where
  pub inequality : is_equality (slice_index_or kinds place Ge) ≡ false
  pub tight : IsSubset values (slice_index_or rows place [])

-- some constraint is
pub record IsCovered (kinds : List ConKind) (rows : List (List Bool)) (values : List Bool) : Type 0 where
  pub place : ℕ
  pub inside : place < length kinds
  pub by : IsCoveredAt kinds rows values place
