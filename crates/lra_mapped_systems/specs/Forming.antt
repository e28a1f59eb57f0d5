-- Rows formed of the rows of a list by a form: which are formed, and what is reported if a number passes in one.
use Rattle.std.specs.List.{Contains}
use Rattle.std.specs.Prelude.{◌≡◌, ◌⊎◌, ℕ, ℤ, List, [], ◌++◌, ◌∷◌, get_or, length, take, Option, IfNone, IfSome, Err}
use Rattle.lra_mapped_systems.specs.Crates.lra_linear_spec.CheckedArithmetic.{checked_substitution}
use Rattle.lra_mapped_systems.specs.Crates.lra_linear_spec.OperationStrain.{FormingPasses, substituted_rows}
use Rattle.lra_mapped_systems.specs.Crates.{lra_linear_spec.Descriptions.LinearRow, lra_linear_spec.Kinds.is_equality}
use Rattle.lra_mapped_systems.specs.Crates.{lra_linear_spec.Strain.Loss, lra_linear_spec.Vectors.substituted}
use Rattle.lra_mapped_systems.specs.Crates.{lra_linear_spec.declared.Cause.TheVariants.Excess}
use Rattle.lra_mapped_systems.specs.Crates.{lra_linear_spec.declared.ConKind.ConKind}
use Rattle.lra_mapped_systems.specs.Crates.lra_linear_spec.declared.Excess as E
use Rattle.lra_systems.specs.LinearSystems.{LinearSystem, constraints, rows_by_kind}

-- the loss of the row at the place of a list, with those before it taken, if this number passes
pub record IsLossAt (given : List LinearRow) (rows : List (List ℤ)) (place : ℕ) (e : E.Excess) (loss : Loss) : Type 0
  where
    pub later : List LinearRow
    pub is : given ≡ loss.chosen ++ loss.further ∷ later
    pub is_row : loss.further.row ≡ get_or rows place []
    pub is_cause : loss.cause ≡ Excess e

-- the row with the form put in for column k
abbrev pub substituted_given : ℕ → List ℤ → LinearRow → LinearRow
substituted_given k form g = record { row = substituted k form g.row; equal = g.equal }

-- each of the rows is formed, or a number passes in it
abbrev pub AllFormed : ℕ → List ℤ → List LinearRow → List LinearRow → Type 0
AllFormed k form rows formed = (g : LinearRow) → Contains rows g →
    Contains formed (substituted_given k form g) ⊎ ((e : E.Excess) × (checked_substitution k form g.row ≡ Err e))

-- the constraints that were formed of the rows before the place, with the form put in for column k, and what is
-- reported about the first that was left out
pub record AreFormed (k : ℕ) (form : List ℤ) (n : ℕ) (rows : List (List ℤ)) (kinds : List ConKind) (i : ℕ)
    (all : LinearSystem ConKind) (lost : Option Loss) : Type 0 where
  pub dims : all.dims ≡ n
  pub many : length all.rows ≡ length all.kinds
  pub whole : IfNone lost
      (constraints all ≡ substituted_rows k form (rows_by_kind is_equality (take i rows) (take i kinds)))
  pub among : (g : LinearRow) → Contains (constraints all) g →
      Contains (substituted_rows k form (rows_by_kind is_equality rows kinds)) g
  pub is_lost : IfSome lost
      (FormingPasses (λ g. checked_substitution k form g.row) (rows_by_kind is_equality rows kinds))
  pub formed : AllFormed k form (rows_by_kind is_equality (take i rows) (take i kinds)) (constraints all)
