-- Rows and generators, as they are shown.
use Rattle.std.specs.Prelude.{ℕ, ℤ, List}
use Rattle.lra_row_text.specs.Crates.lra_linear_spec.declared.GenKind.{GenKind}
use Rattle.lra_row_text.specs.Rows.{ReportRow}

-- a point divides its numbers by `divisor`; a ray and a line have the divisor 0
pub record ReportGenerator : Type 0 where
  pub kind : GenKind
  pub divisor : ℕ
  pub numbers : List ℤ

-- a conjunction of rows; over polyhedra also its generators, else none
pub record Part : Type 0 where
  pub rows : List ReportRow
  pub generators : List ReportGenerator
